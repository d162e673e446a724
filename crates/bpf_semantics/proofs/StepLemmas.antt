-- Where a step leads.
use Rattle.std.proofs.Common.{◌≡◌, ◌⊎◌, ℕ, ◌+◌, ℤ, pos, negsuc, Bool, true, false, cond, List, Option, Some, None, refl, sym, ap, subst, ◌∙◌, inl, inr}
use Rattle.std.specs.Prelude.{is_some, nat_le}
use Rattle.std.specs.FinMap.{get}
use Rattle.bpf_words.specs.Condition.{holds}
use Rattle.bpf_code.specs.declared.instruction.Register.{Register}
use Rattle.bpf_code.specs.declared.instruction.Register.TheVariants.{R3, R4, R5}
use Rattle.bpf_code.specs.declared.instruction.Instruction.{Instruction}
use Rattle.bpf_code.specs.declared.instruction.Instruction.TheVariants.{LoadWide, Load, StoreImmediate, StoreRegister, Arithmetic, Negate, MoveSignExtended, End, Jump, LongJump, Branch, Call, Exit}
use Rattle.bpf_code.specs.Sizes.{width_bits}
use Rattle.schema.specs.Schema.{Tables}
use Rattle.schema.specs.Rows.{Key, row_at, first_in}
use Rattle.schema.specs.Helper.{helper_of}
use Rattle.schema.specs.declared.helper.Helper.{Helper}
use Rattle.schema.specs.declared.helper.Helper.TheVariants.{RowGet, RowPut, RowDelete, RangeCount, RangeNext, Cancel}
use Rattle.bpf_semantics.specs.declared.value.Value.{Value}
use Rattle.bpf_semantics.specs.State.{State, register, with_register, past}
use Rattle.bpf_semantics.specs.Memory.{and_then, stack_with}
use Rattle.bpf_semantics.specs.Helpers.{Table, state_after_call, row_get, row_put, range_count, range_next, with_stack, with_point_look, with_range_look, with_row_read, with_next_read, look_at, last_seen, row_or_zeros, key_or_zeros, row_of}
use Rattle.bpf_semantics.specs.Step.{Moment, Going, Ended, Stuck, or_stuck, after_jump, is_read_only, with_result, with_store, execute}
use Rattle.bpf_semantics.specs.Path.{fall_through, slots_of_jump, jump_of}
use Rattle.bpf_semantics.specs.Fit.{Leads}

-- ---- options and moments

abbrev pub just : {X : Type 0} → X → Option X
just x = Some x

pub some_is : {X : Type 0} (x y : X) → just x ≡ just y → x ≡ y
some_is x y e = cc

pub bound : {X Y : Type 0} (o : Option X) (f : X → Option Y) (y : Y) → and_then o f ≡ just y → (x : X) × (o ≡ just x) × (f x ≡ just y)
unfolding and_then
bound None f y e = absurd cc
bound (Some x) f y e = (x, refl, e)

pub going_on : {X : Type 0} (o : Option X) (next : X → Moment) (s : State) → or_stuck o next ≡ Going s → (x : X) × (o ≡ just x) × (next x ≡ Going s)
unfolding or_stuck
going_on None next s e = absurd cc
going_on (Some x) next s e = (x, refl, e)

pub going_is : (s t : State) → Going s ≡ Going t → s ≡ t
going_is s t e = cc

-- ---- a helper leaves the slot and the count of steps

pub record SamePlace (s t : State) : Type 0 where
  pub slot : t.slot ≡ s.slot
  pub steps : t.steps ≡ s.steps

here : (s t : State) → s ≡ t → SamePlace s t
here s t e = record { slot = ap (λ (u : State). u.slot) (sym e); steps = ap (λ (u : State). u.steps) (sym e) }

either : (b : Bool) (s t u : State) → SamePlace s t → SamePlace s u → SamePlace s (cond b t u)
either true s t u p q = p
either false s t u p q = q

point_place : (table key : ℕ) (s t : State) → SamePlace s t → SamePlace s (with_point_look table key t)
point_place table key s t p = either (is_some (get t.writes (table, key))) s t _ p (record { slot = p.slot; steps = p.steps })

range_place : (table lo hi last : ℕ) (s t : State) → SamePlace s t → SamePlace s (with_range_look table lo hi last t)
range_place table lo hi last s t p = either (nat_le lo hi) s _ t (record { slot = p.slot; steps = p.steps }) p

same : (s t u v : State) → SamePlace s t → t.slot ≡ u.slot → t.steps ≡ u.steps → u ≡ v → SamePlace s v
same s t u v p e f g = subst (SamePlace s) g (record { slot = sym e ∙ p.slot; steps = sym f ∙ p.steps })

itself : (s : State) → SamePlace s s
itself s = record { slot = refl; steps = refl }

row_read_place : (s : State) (t : Table) (key buffer : ℕ) (found : Option (List ℕ)) → SamePlace s (with_row_read s t key buffer found)
row_read_place s t key buffer found =
    let p = point_place t.table key s (with_stack (stack_with s.stack buffer (row_or_zeros t.width found)) s) (record { slot = refl; steps = refl }) in
    record { slot = p.slot; steps = p.steps }

get_place : (s : State) (t : Table) (key : ℕ) (to : Value) (u : State) → row_get s t key to ≡ just u → SamePlace s u
unfolding row_get
get_place s t key to u e =
    let b = bound _ _ u e in
    same s _ _ u (row_read_place s t key b.0 (row_at s.rows t.table key)) refl refl (some_is _ u b.2)

put_place : (s : State) (t : Table) (key : ℕ) (from : Value) (u : State) → row_put s t key from ≡ just u → SamePlace s u
unfolding row_put
put_place s t key from u e =
    let b = bound _ _ u e in
    let d = bound _ _ u b.2 in
    same s s _ u (itself s) refl refl (some_is _ u d.2)

next_read_place : (s : State) (t : Table) (lo hi key_buffer row_buffer : ℕ) (found : Option (Key × List ℕ)) → SamePlace s (with_next_read s t lo hi key_buffer row_buffer found)
next_read_place s t lo hi key_buffer row_buffer found =
    let p = range_place t.table lo hi (last_seen hi found) s
    (with_stack (stack_with (stack_with s.stack key_buffer (key_or_zeros found)) row_buffer (row_or_zeros t.width (row_of found))) s) (record { slot = refl; steps = refl }) in
    record { slot = p.slot; steps = p.steps }

next_place : (s : State) (t : Table) (lo hi : ℕ) (key_to row_to : Value) (u : State) → range_next s t lo hi key_to row_to ≡ just u → SamePlace s u
unfolding range_next
next_place s t lo hi key_to row_to u e =
    let b = bound _ _ u e in
    let d = bound _ _ u b.2 in
    same s _ _ u (next_read_place s t lo hi b.0 d.0 (first_in (look_at t.table lo hi) s.rows)) refl refl (some_is _ u d.2)

count_place : (s : State) (t : Table) (lo hi : ℕ) (u : State) → just (range_count s t lo hi) ≡ just u → SamePlace s u
count_place s t lo hi u e =
    let p = range_place t.table lo hi hi s s (itself s) in
    same s _ _ u p refl refl (some_is _ u e)

pub called_place : (tables : Tables) (h : Helper) (s u : State) → state_after_call tables h s ≡ just u → SamePlace s u
unfolding state_after_call
called_place tables RowGet s u e =
    let a = bound _ _ u e in
    let b = bound _ _ u a.2 in
    get_place s a.0 b.0 (register s R3) u b.2
called_place tables RowPut s u e =
    let a = bound _ _ u e in
    let b = bound _ _ u a.2 in
    put_place s a.0 b.0 (register s R3) u b.2
called_place tables RowDelete s u e =
    let a = bound _ _ u e in
    let b = bound _ _ u a.2 in
    same s s _ u (itself s) refl refl (some_is _ u b.2)
called_place tables RangeCount s u e =
    let a = bound _ _ u e in
    let b = bound _ _ u a.2 in
    let c = bound _ _ u b.2 in
    count_place s a.0 b.0 c.0 u c.2
called_place tables RangeNext s u e =
    let a = bound _ _ u e in
    let b = bound _ _ u a.2 in
    let c = bound _ _ u b.2 in
    next_place s a.0 b.0 c.0 (register s R4) (register s R5) u c.2
called_place tables Cancel s u e =
    let a = bound _ _ u e in
    same s s _ u (itself s) refl refl (some_is _ u a.2)

-- ---- where a step leads

pub record Steps (i : Instruction) (s t : State) : Type 0 where
  pub leads : Leads (fall_through i) s.slot t.slot ⊎ Leads (jump_of i) s.slot t.slot
  pub counts : t.steps ≡ s.steps + 1

-- the next instruction, n slots on
falls : (n : ℕ) (i : Instruction) (s u t : State) → fall_through i ≡ just n → SamePlace s u → Going (past n u) ≡ Going t → Steps i s t
falls n i s u t through p e =
    let is = going_is (past n u) t e in
    let slot : t.slot ≡ s.slot + n = sym (ap (λ (v : State). v.slot) is) ∙ ap (λ (k : ℕ). k + n) p.slot in
    let steps : t.steps ≡ s.steps + 1 = sym (ap (λ (v : State). v.steps) is) ∙ ap (λ (k : ℕ). k + 1) p.steps in
    record { leads = inl (subst (λ o. Leads o s.slot t.slot) (sym through) slot); counts = steps }

jumps : (d : ℤ) (i : Instruction) (s t : State) → jump_of i ≡ slots_of_jump (just d) → after_jump d s ≡ Going t → Steps i s t
jumps (pos n) i s t is e =
    let at = going_is (past (1 + n) s) t e in
    record { leads = inr (subst (λ o. Leads o s.slot t.slot) (sym is) (sym (ap (λ (v : State). v.slot) at))); counts = sym (ap (λ (v : State). v.steps) at) }
jumps (negsuc n) i s t is e = absurd cc

branches : (b : Bool) (d : ℤ) (i : Instruction) (s t : State) → fall_through i ≡ just 1 → jump_of i ≡ slots_of_jump (just d) → cond b (after_jump d s) (Going (past 1 s)) ≡ Going t → Steps i s t
branches true d i s t through is e = jumps d i s t is e
branches false d i s t through is e = falls 1 i s s t through (itself s) e

stores : (i : Instruction) (o : Option (List (Option ℕ))) (s t : State) → fall_through i ≡ just 1 → with_store o s ≡ Going t → Steps i s t
stores i o s t through e = let a = going_on o _ t e in falls 1 i s (record s { stack = a.0 }) t through (record { slot = refl; steps = refl }) a.2

-- a result goes on where its register may be written, and never ends
pub set_is : (n : ℕ) (dst : Register) (v : Value) (s t : State) → with_result n dst v s ≡ Going t → Going (past n (with_register s dst v)) ≡ Going t
set_is n dst v s t e =
    elim (is_read_only dst) as (λ b. cond b Stuck (Going (past n (with_register s dst v))) ≡ Going t → Going (past n (with_register s dst v)) ≡ Going t) [
      | true ↦ λ h. absurd cc
      | false ↦ λ h. h
    ] e

pub set_goes : (n : ℕ) (dst : Register) (v : Value) (s : State) (r : ℕ) (t : State) → with_result n dst v s ≡ Ended r t → ⊥
set_goes n dst v s r t e =
    elim (is_read_only dst) as (λ b. cond b Stuck (Going (past n (with_register s dst v))) ≡ Ended r t → ⊥) [ true ↦ λ h. cc | false ↦ λ h. cc ] e

sets : (n : ℕ) (i : Instruction) (dst : Register) (v : Value) (s t : State) → fall_through i ≡ just n → with_result n dst v s ≡ Going t → Steps i s t
sets n i dst v s t through e = falls n i s (with_register s dst v) t through (record { slot = refl; steps = refl }) (set_is n dst v s t e)

pub execute_leads : (tables : Tables) (i : Instruction) (s t : State) → execute tables i s ≡ Going t → Steps i s t
unfolding execute
execute_leads tables (LoadWide dst value) s t e = sets 2 (LoadWide dst value) dst _ s t refl e
execute_leads tables (Load kind dst src offset) s t e = let a = going_on _ _ t e in sets 1 (Load kind dst src offset) dst _ s t refl a.2
execute_leads tables (StoreImmediate size dst offset immediate) s t e = stores (StoreImmediate size dst offset immediate) _ s t refl e
execute_leads tables (StoreRegister size dst src offset) s t e = let a = going_on _ _ t e in stores (StoreRegister size dst src offset) _ s t refl a.2
execute_leads tables (Arithmetic width op dst src) s t e = let a = going_on _ _ t e in sets 1 (Arithmetic width op dst src) dst _ s t refl a.2
execute_leads tables (Negate width dst) s t e = let a = going_on _ _ t e in sets 1 (Negate width dst) dst _ s t refl a.2
execute_leads tables (MoveSignExtended kind dst src) s t e = let a = going_on _ _ t e in sets 1 (MoveSignExtended kind dst src) dst _ s t refl a.2
execute_leads tables (End order width dst) s t e = let a = going_on _ _ t e in sets 1 (End order width dst) dst _ s t refl a.2
execute_leads tables (Jump distance) s t e = jumps distance (Jump distance) s t refl e
execute_leads tables (LongJump distance) s t e = jumps distance (LongJump distance) s t refl e
execute_leads tables (Branch width condition dst src distance) s t e =
    let a = going_on _ _ t e in
    let b = going_on _ _ t a.2 in
    branches (holds (width_bits width) condition a.0 b.0) distance (Branch width condition dst src distance) s t refl refl b.2
execute_leads tables (Call helper) s t e =
    let a = going_on _ _ t e in
    let h = bound (helper_of helper) _ a.0 a.1 in
    falls 1 (Call helper) s a.0 t refl (called_place tables h.0 s a.0 h.2) a.2
execute_leads tables Exit s t e = let a = going_on _ _ t e in absurd cc
