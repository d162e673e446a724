-- A branch: what is known along the edge that is followed.
use Rattle.std.proofs.Common.{◌≡◌, ℕ, ℤ, pos, negsuc, ◌+◌, ◌%◌, ◌^◌, Bool, true, false, cond, length, Option, Some, None, IsSomeAnd, refl, sym, ap, subst, ◌∙◌, inl, inr, arith}
use Rattle.std.proofs.Math.Nat.{mod-mod}
use Rattle.std.proofs.lemmas.Int.{ints}
use Rattle.std.proofs.lemmas.List.{length-set}
use Rattle.std.specs.Int.{w64, cast_unsigned}
use Rattle.bpf_words.specs.Condition.{holds, comparison}
use Rattle.bpf_words.specs.declared.condition.Condition.{Condition}
use Rattle.bpf_code.specs.declared.instruction.Register.{Register}
use Rattle.bpf_code.specs.declared.instruction.Width.{Width}
use Rattle.bpf_code.specs.declared.instruction.Width.TheVariants.{Bits32, Bits64}
use Rattle.bpf_code.specs.declared.instruction.Source.{Source}
use Rattle.bpf_code.specs.declared.instruction.Source.TheVariants as source
use Rattle.bpf_code.specs.declared.instruction.Instruction.{Instruction}
use Rattle.bpf_code.specs.declared.instruction.Instruction.TheVariants.{Branch}
use Rattle.bpf_code.specs.Register.{number_of}
use Rattle.bpf_code.specs.Sizes.{width_bits}
use Rattle.schema.specs.Schema.{Tables}
use Rattle.bpf_semantics.specs.declared.value.Value.{Value}
use Rattle.bpf_semantics.specs.declared.value.Value.TheVariants as value
use Rattle.bpf_semantics.specs.State.{State, register, past}
use Rattle.bpf_semantics.specs.Step.{Going, operand, after_jump, execute}
use Rattle.bpf_semantics.proofs.StepLemmas.{just}
use Rattle.interval.specs.Range.{Bounds, IsWithin, single}
use Rattle.range_refine.specs.Refinement.{refinement}
use Rattle.range_refine.proofs.Kept.{all_kept}
use Rattle.abs_state.specs.declared.kind.Kind.TheVariants.{Number}
use Rattle.abs_state.specs.declared.state.AbsState.{AbsState}
use Rattle.abs_state.specs.State.{kind_of, with_kind}
use Rattle.abs_state.specs.Kind.{is_nothing, is_pointer, operand_kind}
use Rattle.abs_step.specs.Cause.{holds_nothing, uses_pointer}
use Rattle.abs_step.specs.Result.{compared_kind, is_same_register, with_source, with_sides, refined_state, edge_state, next_state, jump_state}
use Rattle.acceptance.specs.Description.{Describes, IsOf, IsStepAlongEdge, IsOfProgram, StepsAlong}
use Rattle.acceptance.proofs.Causes.{no_cause, neither}
use Rattle.acceptance.proofs.Put.{past_described, refined_described}
use Rattle.acceptance.proofs.Along.{is_along, with_number}
use Rattle.acceptance.proofs.Operands.{within_single, operand_described}
use Rattle.acceptance.proofs.Arithmetic.{source_something}

-- ---- what is compared

-- the number is the source's, where it is a register
abbrev IsSource : Source → State → ℕ → Type 0
IsSource (source.Immediate z) s at = Unit {0}
IsSource (source.Register r) s at = register s r ≡ value.Number at

record Compared (width : Width) (condition : Condition) (known : AbsState) (s : State) (src : Source) (a b : ℕ) : Type 0 where
  range : Bounds
  at : ℕ
  kind : compared_kind width known src ≡ Number range
  within : IsWithin range at
  same : holds (width_bits width) condition a b ≡ holds (width_bits width) condition a at
  source : IsSource src s at

low_bits_hold : (n : ℕ) (condition : Condition) (a b : ℕ) → holds n condition a b ≡ holds n condition a (b % 2 ^ n)
unfolding holds
low_bits_hold n condition a b = ap (λ (m : ℕ). comparison n condition (a % 2 ^ n) m) (sym (mod-mod b (2 ^ n)))

number_is : (m n : ℕ) → value.Number m ≡ value.Number n → m ≡ n
number_is m n e = cc

compared_is : (width : Width) (condition : Condition) (known : AbsState) (s : State) (src : Source) (a b : ℕ) (r : Bounds)
    → operand_kind known src ≡ Number r → operand s src ≡ value.Number b → IsWithin r b → Compared width condition known s src a b
compared_is Bits32 condition known s (source.Immediate z) a b r e f h =
    let n = cast_unsigned w64 z in
    record {
      range = single (n % 2 ^ 32);
      at = n % 2 ^ 32;
      kind = refl;
      within = within_single (n % 2 ^ 32);
      same = ap (λ (m : ℕ). holds 32 condition a m) (sym (number_is n b f)) ∙ low_bits_hold 32 condition a n;
      source = tt;
    }
compared_is Bits64 condition known s (source.Immediate z) a b r e f h = record { range = r; at = b; kind = e; within = h; same = refl; source = tt }
compared_is Bits32 condition known s (source.Register q) a b r e f h = record { range = r; at = b; kind = e; within = h; same = refl; source = f }
compared_is Bits64 condition known s (source.Register q) a b r e f h = record { range = r; at = b; kind = e; within = h; same = refl; source = f }

-- ---- what is known along an edge

-- something is sent, and it is true of the state
record IsSent (args_len : ℕ) (sent : Option AbsState) (s : State) : Type 0 where
  known : AbsState
  is : sent ≡ just known
  described : Describes args_len known s

number_of_value : (r : Bounds) (v : Value) (n : ℕ) → v ≡ value.Number n → IsWithin r n → IsOf (Number r) v
number_of_value r v n e h = subst (IsOf (Number r)) (sym e) h

source_described : (args_len : ℕ) (known : AbsState) (s : State) (src : Source) (r : Bounds) (n : ℕ) → length known.kinds ≡ 11 → Describes args_len known s → IsSource src s n → IsWithin r n
    → Describes args_len (with_source src r known) s
source_described args_len known s (source.Immediate z) r n long d e h = d
source_described args_len known s (source.Register q) r n long d e h = refined_described args_len known s q (Number r) long d (number_of_value r (register s q) n e h)

sides_sent : (args_len : ℕ) (known : AbsState) (s : State) (dst : Register) (src : Source) (sides : Option (Bounds × Bounds)) (a b : ℕ)
    → length known.kinds ≡ 11 → Describes args_len known s → register s dst ≡ value.Number a → IsSource src s b → IsSomeAnd sides (λ r. IsWithin r.0 a × IsWithin r.1 b)
    → IsSent args_len (with_sides dst src known sides) s
sides_sent args_len known s dst src None a b long d e f h = absurd h
sides_sent args_len known s dst src (Some r) a b long d e f h =
    let first = refined_described args_len known s dst (Number r.0) long d (number_of_value r.0 (register s dst) a e h.0) in
    let count = length-set known.kinds (number_of dst) (Number r.0) ∙ long in
    record {
      known = with_source src r.1 (with_kind known dst (Number r.0));
      is = refl;
      described = source_described args_len (with_kind known dst (Number r.0)) s src r.1 b count first f h.1;
    }

either_sent : (same : Bool) (args_len : ℕ) (known : AbsState) (s : State) (other : Option AbsState) → Describes args_len known s → IsSent args_len other s
    → IsSent args_len (cond same (just known) other) s
either_sent true args_len known s other d h = record { known = known; is = refl; described = d }
either_sent false args_len known s other d h = h

edge_sent : (args_len : ℕ) (width : Width) (condition : Condition) (taken : Bool) (known : AbsState) (s : State) (dst : Register) (src : Source) (a b : ℕ) (r : Bounds)
    → length known.kinds ≡ 11 → Describes args_len known s → kind_of known dst ≡ Number r → register s dst ≡ value.Number a → IsWithin r a
    → Compared width condition known s src a b → holds (width_bits width) condition a b ≡ taken
    → IsSent args_len (edge_state width condition taken dst src known) s
edge_sent args_len width condition taken known s dst src a b r long d kind is within c e =
    let kept = all_kept (width_bits width) condition taken r c.range a c.at within c.within (sym c.same ∙ e) in
    let refined = sides_sent args_len known s dst src (refinement (width_bits width) condition taken r c.range) a c.at long d is c.source kept in
    let at : refined_state width condition taken dst src known (kind_of known dst) (compared_kind width known src) ≡ with_sides dst src known (refinement (width_bits width) condition taken r c.range) =
    rw (kind, c.kind) refl in
    either_sent (is_same_register dst src) args_len known s _ d (subst (λ o. IsSent args_len o s) (sym at) refined)

-- ---- the instruction

branches : (tables : Tables) (args_len : ℕ) (width : Width) (condition : Condition) (dst : Register) (src : Source) (n : ℕ) (known : AbsState) (s : State) (taken : Bool)
    → Describes args_len known s → IsSent args_len (edge_state width condition taken dst src known) s
    → IsStepAlongEdge tables args_len (Branch width condition dst src (pos n)) known s (cond taken (after_jump (pos n) s) (Going (past 1 s)))
unfolding next_state jump_state
branches tables args_len width condition dst src n known s true d t =
    inr (is_along args_len (1 + n) (just (1 + n)) (edge_state width condition true dst src known) t.known s (past (1 + n) s) refl t.is refl (past_described args_len (1 + n) t.known s t.described))
branches tables args_len width condition dst src n known s false d t =
    inl (is_along args_len 1 (just 1) (edge_state width condition false dst src known) t.known s (past 1 s) refl t.is refl (past_described args_len 1 t.known s t.described))

forward : (tables : Tables) (args_len : ℕ) (width : Width) (condition : Condition) (dst : Register) (src : Source) (n : ℕ) → StepsAlong tables args_len (Branch width condition dst src (pos n))
unfolding execute holds_nothing uses_pointer
forward tables args_len width condition dst src n known s ts a st d e =
    let i : Instruction = Branch width condition dst src (pos n) in
    let none = no_cause tables args_len i known e in
    let something = neither (is_nothing (kind_of known dst)) _ none.reads in
    let plain = neither (is_pointer (kind_of known dst)) (is_pointer (operand_kind known src)) none.pointers in
    with_number (IsStepAlongEdge tables args_len i known s) (kind_of known dst) (register s dst) _ something.0 plain.0 (d.registers dst) (λ r x kind is within.
    with_number (IsStepAlongEdge tables args_len i known s) (operand_kind known src) (operand s src) _ (source_something known src something.1) plain.1 (operand_described args_len known s src d) (λ q y other at inside.
    let c = compared_is width condition known s src x y q other at inside in
    branches tables args_len width condition dst src n known s (holds (width_bits width) condition x y) d
    (edge_sent args_len width condition (holds (width_bits width) condition x y) known s dst src x y r a.registers d kind is within c refl)))

pub branch_along : (tables : Tables) (args_len : ℕ) (width : Width) (condition : Condition) (dst : Register) (src : Source) (distance : ℤ)
    → IsOfProgram (Branch width condition dst src distance) → StepsAlong tables args_len (Branch width condition dst src distance)
branch_along tables args_len width condition dst src (pos n) sound = forward tables args_len width condition dst src n
branch_along tables args_len width condition dst src (negsuc n) sound = absurd (search (arith, ints, sound.1))
