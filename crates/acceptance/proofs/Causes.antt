-- What it says of an instruction that none of the causes holds.
use Rattle.std.proofs.Common.{◌≡◌, ℕ, Bool, true, false, cond, ◌||◌, List, [], ◌∷◌, Some, None, refl, option_map, find}
use Rattle.bpf_code.specs.declared.instruction.Instruction.{Instruction}
use Rattle.bpf_code.specs.declared.instruction.Register.TheVariants.{R1}
use Rattle.schema.specs.Schema.{Tables}
use Rattle.abs_state.specs.declared.state.AbsState.{AbsState}
use Rattle.abs_state.specs.State.{kind_of}
use Rattle.abs_state.specs.Kind.{table_width}
use Rattle.abs_step.specs.declared.cause.Cause.{Cause}
use Rattle.abs_step.specs.Cause.{holds_nothing, writes_frame_pointer, uses_pointer, is_outside, stores_to_arguments, is_unknown_helper, has_argument, is_unknown_table, is_no_number, is_no_buffer, reads_uninitialised, replies_pointer, causes, cause_of}

abbrev AreFalse : List (Cause × Bool) → Type 0
AreFalse [] = Unit {0}
AreFalse (c ∷ rest) = (c.1 ≡ false) × AreFalse rest

first_false : (c : Cause) (b : Bool) (rest : List (Cause × Bool)) → option_map (λ (d : Cause × Bool). d.0) (cond b (Some (c, b)) (find (λ (d : Cause × Bool). d.1) rest)) ≡ None
    → (b ≡ false) × (option_map (λ (d : Cause × Bool). d.0) (find (λ (d : Cause × Bool). d.1) rest) ≡ None)
first_false c true rest e = absurd cc
first_false c false rest e = (refl, e)

all_false : (all : List (Cause × Bool)) → option_map (λ (c : Cause × Bool). c.0) (find (λ (c : Cause × Bool). c.1) all) ≡ None → AreFalse all
all_false [] e = tt
all_false (c ∷ rest) e = let h = first_false c.0 c.1 rest e in (h.0, all_false rest h.1)

-- each test that is a cause's is false
pub record NoCause (tables : Tables) (args_len : ℕ) (i : Instruction) (known : AbsState) : Type 0 where
  pub reads : holds_nothing i known ≡ false
  pub writes : writes_frame_pointer i ≡ false
  pub pointers : uses_pointer i known ≡ false
  pub inside : is_outside args_len i known ≡ false
  pub initialised : reads_uninitialised tables i known ≡ false
  pub helper : is_unknown_helper i ≡ false
  pub table : has_argument (is_unknown_table tables) i known ≡ false
  pub numbers : has_argument is_no_number i known ≡ false
  pub buffers : has_argument (is_no_buffer (table_width tables (kind_of known R1))) i known ≡ false
  pub reply : replies_pointer i known ≡ false
  pub stores : stores_to_arguments i known ≡ false

pub no_cause : (tables : Tables) (args_len : ℕ) (i : Instruction) (known : AbsState) → cause_of tables args_len i known ≡ None → NoCause tables args_len i known
unfolding cause_of
no_cause tables args_len i known e =
    let all = all_false (causes tables args_len i known) e in
    record {
      reads = all.0;
      writes = all.1.0;
      pointers = all.1.1.0;
      inside = all.1.1.1.0;
      initialised = all.1.1.1.1.0;
      helper = all.1.1.1.1.1.0;
      table = all.1.1.1.1.1.1.0;
      numbers = all.1.1.1.1.1.1.1.0;
      buffers = all.1.1.1.1.1.1.1.1.0;
      reply = all.1.1.1.1.1.1.1.1.1.0;
      stores = all.1.1.1.1.1.1.1.1.1.1.0;
    }

-- where one of two tests would be one too many
pub neither : (a b : Bool) → (a || b) ≡ false → (a ≡ false) × (b ≡ false)
neither true b e = absurd cc
neither false b e = (refl, e)
