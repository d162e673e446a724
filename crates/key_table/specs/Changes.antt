-- Changes of one key's slot.
use Rattle.std.specs.Prelude.{◌≡◌, ℕ, List, [], Some, slice_get, slice_set}
use Rattle.row_chain.specs.Version.{HasRoom}
use Rattle.row_chain.specs.Slots.{Slot, chain_at, with_slot}

-- the slot of a key went so, and all others stay
pub record IsChangedAt (R : Slot → Slot → Type 0) (key : ℕ) (old new : List Slot) : Type 0 where
  pub at : ℕ
  pub before : Slot
  pub after : Slot
  pub stood : slice_get old at ≡ Some before
  pub same_key : before.key ≡ key
  pub chain : chain_at old key ≡ Some before.chain
  pub change : R before after
  pub others : new ≡ slice_set old at after

-- a key joins the others, with room for its first version
pub record IsAdded (width key : ℕ) (old new : List Slot) : Type 0 where
  pub slot : Slot
  pub new_key : slot.key ≡ key
  pub versions : slot.chain.versions ≡ []
  pub row_width : slot.chain.width ≡ width
  pub room : HasRoom slot.chain
  pub others : new ≡ with_slot slot old
