-- A store without a cause to be refused writes bytes of the stack, and as much is known afterwards.
use Rattle.std.proofs.Common.{◌≡◌, ℕ, ◌+◌, ◌≤◌, ℤ, pos, negsuc, Bool, true, false, cond, List, length, Option, refl, sym, ap, subst, ◌∙◌, arith}
use Rattle.std.specs.Prelude.{◌≤ℤ◌, ◌+ℤ◌}
use Rattle.std.specs.Int.{w64, cast_unsigned, int_gap}
use Rattle.std.specs.Option.{is_none}
use Rattle.std.specs.Ordering.{int_eq}
use Rattle.std.proofs.lemmas.Bool.Decides.{Decides-int_eq}
use Rattle.std.proofs.lemmas.Int.{ints}
use Rattle.byteorder.specs.Endian.{little_bytes}
use Rattle.bpf_code.specs.declared.instruction.Register.{Register}
use Rattle.bpf_code.specs.declared.instruction.Size.{Size}
use Rattle.bpf_code.specs.declared.instruction.Instruction.{Instruction}
use Rattle.bpf_code.specs.declared.instruction.Instruction.TheVariants.{StoreImmediate, StoreRegister}
use Rattle.bpf_code.specs.Sizes.{size_bytes}
use Rattle.schema.specs.Schema.{Tables}
use Rattle.bpf_semantics.specs.declared.value.Value.{Value}
use Rattle.bpf_semantics.specs.declared.value.Value.TheVariants as value
use Rattle.bpf_semantics.specs.State.{State, register, past, number}
use Rattle.bpf_semantics.specs.Memory.{stack_index, stack_with, stack_with_store, memory_with_store}
use Rattle.bpf_semantics.specs.Helpers.{with_stack}
use Rattle.bpf_semantics.specs.Path.{fall_through}
use Rattle.bpf_semantics.specs.Step.{Going, execute, with_store}
use Rattle.bpf_semantics.proofs.StepLemmas.{just}
use Rattle.bpf_semantics.proofs.FitLemmas.{low_bytes_are}
use Rattle.abs_state.specs.declared.kind.Kind.{Kind}
use Rattle.abs_state.specs.declared.kind.Kind.TheVariants.{Nothing, Number, Stack, Args}
use Rattle.abs_state.specs.declared.state.AbsState.{AbsState}
use Rattle.abs_state.specs.State.{kind_of}
use Rattle.abs_state.specs.Kind.{is_nothing, is_pointer}
use Rattle.abs_state.specs.Access.{span_from, span_length, stack_span}
use Rattle.abs_step.specs.Cause.{holds_nothing, is_outside, uses_pointer, store_is_outside, is_args}
use Rattle.abs_step.specs.Result.{next_state, with_span, with_known_store}
use Rattle.acceptance.specs.Description.{Describes, IsOf, IsStepAlongEdge, StepsAlong}
use Rattle.acceptance.proofs.Bytes.{AreKnown, stack_access}
use Rattle.acceptance.proofs.Causes.{no_cause, neither}
use Rattle.acceptance.proofs.Put.{past_described}
use Rattle.acceptance.proofs.Falling.{taken, goes, falls_along}
use Rattle.acceptance.proofs.Loads.{reached}
use Rattle.acceptance.proofs.After.{IsAfter, placed, kept, after_described}

pub no_gap : (lo hi : ℤ) → lo ≡ hi → int_gap lo hi ≡ 0
no_gap (pos a) (pos b) e = omega (arith, ints)
no_gap (pos a) (negsuc b) e = refl
no_gap (negsuc a) (pos b) e = absurd cc
no_gap (negsuc a) (negsuc b) e = omega (arith, ints)

-- the stack after it, and what is known of that
pub record Stored (known next : AbsState) (s : State) (v : Value) (offset : ℤ) (bytes : List ℕ) : Type 0 where
  pub stack : List (Option ℕ)
  pub is : memory_with_store s.stack v offset bytes ≡ just stack
  pub after : IsAfter known next stack

-- a stack of 512 bytes, of which it is true what is known
pub record IsDescribed (known : AbsState) (stack : List (Option ℕ)) : Type 0 where
  pub long : length known.initialised ≡ 512
  pub whole : length stack ≡ 512
  pub bytes : AreKnown known.initialised stack

store_after : (known : AbsState) (stack : List (Option ℕ)) (lo hi : ℤ) (size k at : ℕ) (bytes : List ℕ) (b : Bool) → IsDescribed known stack → length bytes ≡ size → int_eq lo hi ≡ b
    → k ≤ at → at + size ≤ k + span_length lo hi size → at + size ≤ 512 → IsAfter known (cond b (with_span (span_from (span_length lo hi size) (just k)) known) known) (stack_with stack at bytes)
store_after known stack lo hi size k at bytes false d counted one first last fits = kept known stack at size bytes counted fits d.long d.whole d.bytes
store_after known stack lo hi size k at bytes true d counted one first last fits =
    let none = no_gap lo hi ((Decides-int_eq lo hi).0 one) in
    let here : k ≡ at = omega arith in
    let same : size ≡ span_length lo hi size = omega arith in
    subst (λ (i : ℕ). IsAfter known (with_span (span_from (span_length lo hi size) (just k)) known) (stack_with stack i bytes)) here
    (placed known stack k (span_length lo hi size) bytes (counted ∙ same) (omega arith) d.long d.whole d.bytes)

stack_stored : (known : AbsState) (s : State) (lo hi p offset : ℤ) (size : ℕ) (bytes : List ℕ) → IsDescribed known s.stack → length bytes ≡ size → lo ≤ℤ p → p ≤ℤ hi → is_none (stack_span lo hi offset size) ≡ false
    → Stored known (with_known_store known (Stack lo hi) offset size) s (value.Stack p) offset bytes
unfolding stack_with_store
stack_stored known s lo hi p offset size bytes d counted low high inside =
    let k = reached (stack_index (lo +ℤ offset) (span_length lo hi size)) (span_length lo hi size) inside in
    let a = stack_access lo hi p offset size k.0 low high k.1 in
    let index : stack_index (p +ℤ offset) (length bytes) ≡ just a.at = ap (stack_index (p +ℤ offset)) counted ∙ a.index in
    let after = store_after known s.stack lo hi size k.0 a.at bytes (int_eq lo hi) d counted refl a.among.first a.among.last a.fits in
    record {
      stack = stack_with s.stack a.at bytes;
      is = taken (stack_index (p +ℤ offset) (length bytes)) (λ (n : ℕ). just (stack_with s.stack n bytes)) a.at index;
      after = subst (λ (o : Option ℕ). IsAfter known (cond (int_eq lo hi) (with_span (span_from (span_length lo hi size) o) known) known) (stack_with s.stack a.at bytes)) (sym k.1) after;
    }

stored : (known : AbsState) (s : State) (k : Kind) (v : Value) (offset : ℤ) (size : ℕ) (bytes : List ℕ) → IsDescribed known s.stack → length bytes ≡ size → IsOf k v → is_nothing k ≡ false → store_is_outside k offset size ≡ false → is_args k ≡ false
    → Stored known (with_known_store known k offset size) s v offset bytes
stored known s Nothing v offset size bytes d counted is some inside writes = absurd cc
stored known s (Number r) v offset size bytes d counted is some inside writes = absurd cc
stored known s (Args lo hi) v offset size bytes d counted is some inside writes = absurd cc
stored known s (Stack lo hi) (value.Stack p) offset size bytes d counted is some inside writes = stack_stored known s lo hi p offset size bytes d counted is.0 is.1 inside
stored known s (Stack lo hi) value.Nothing offset size bytes d counted is some inside writes = absurd is
stored known s (Stack lo hi) (value.Number n) offset size bytes d counted is some inside writes = absurd is
stored known s (Stack lo hi) (value.Args p) offset size bytes d counted is some inside writes = absurd is

-- ---- the steps

store_goes : (tables : Tables) (args_len : ℕ) (i : Instruction) (known next : AbsState) (s : State) (v : Value) (offset : ℤ) (bytes : List ℕ) → fall_through i ≡ just 1 → next_state tables i known ≡ just next → Describes args_len known s → Stored known next s v offset bytes
    → IsStepAlongEdge tables args_len i known s (with_store (memory_with_store s.stack v offset bytes) s)
store_goes tables args_len i known next s v offset bytes through sent d stored =
    let next_is = after_described args_len known next s stored.stack stored.after d in
    let on = falls_along tables args_len 1 i known next s (with_stack stored.stack s) through sent refl (past_described args_len 1 next (with_stack stored.stack s) next_is) in
    subst (IsStepAlongEdge tables args_len i known s) (sym (goes (memory_with_store s.stack v offset bytes) (λ (stack : List (Option ℕ)). Going (past 1 (with_stack stack s))) stored.stack stored.is)) on

pub store_immediate_along : (tables : Tables) (args_len : ℕ) (size : Size) (dst : Register) (offset immediate : ℤ) → StepsAlong tables args_len (StoreImmediate size dst offset immediate)
unfolding execute next_state holds_nothing is_outside
store_immediate_along tables args_len size dst offset immediate known s schema abs state d none =
    let causes = no_cause tables args_len (StoreImmediate size dst offset immediate) known none in
    let some = (neither (is_nothing (kind_of known dst)) false causes.reads).0 in
    let counted = (low_bytes_are (size_bytes size) 0 (cast_unsigned w64 immediate)).counted in
    let after = stored known s (kind_of known dst) (register s dst) offset (size_bytes size) (little_bytes (size_bytes size) (cast_unsigned w64 immediate)) (record { long = abs.stack; whole = state.stack; bytes = d.stack }) counted (d.registers dst) some causes.inside causes.stores in
    store_goes tables args_len (StoreImmediate size dst offset immediate) known (with_known_store known (kind_of known dst) offset (size_bytes size)) s (register s dst) offset (little_bytes (size_bytes size) (cast_unsigned w64 immediate)) refl refl d after

-- what is no pointer, and something, is a number
pub number_of_kind : (k : Kind) (v : Value) → IsOf k v → is_nothing k ≡ false → is_pointer k ≡ false → (n : ℕ) × (number v ≡ just n)
number_of_kind Nothing v is some plain = absurd cc
number_of_kind (Stack lo hi) v is some plain = absurd cc
number_of_kind (Args lo hi) v is some plain = absurd cc
number_of_kind (Number r) (value.Number n) is some plain = (n, refl)
number_of_kind (Number r) value.Nothing is some plain = absurd is
number_of_kind (Number r) (value.Stack p) is some plain = absurd is
number_of_kind (Number r) (value.Args p) is some plain = absurd is

pub store_register_along : (tables : Tables) (args_len : ℕ) (size : Size) (dst src : Register) (offset : ℤ) → StepsAlong tables args_len (StoreRegister size dst src offset)
unfolding execute next_state holds_nothing is_outside uses_pointer
store_register_along tables args_len size dst src offset known s schema abs state d none =
    let causes = no_cause tables args_len (StoreRegister size dst src offset) known none in
    let read = neither (is_nothing (kind_of known dst)) _ causes.reads in
    let src_read = (neither (is_nothing (kind_of known src)) false read.1).0 in
    let n = number_of_kind (kind_of known src) (register s src) (d.registers src) src_read causes.pointers in
    let counted = (low_bytes_are (size_bytes size) 0 n.0).counted in
    let after = stored known s (kind_of known dst) (register s dst) offset (size_bytes size) (little_bytes (size_bytes size) n.0) (record { long = abs.stack; whole = state.stack; bytes = d.stack }) counted (d.registers dst) read.0 causes.inside causes.stores in
    let on = store_goes tables args_len (StoreRegister size dst src offset) known (with_known_store known (kind_of known dst) offset (size_bytes size)) s (register s dst) offset (little_bytes (size_bytes size) n.0) refl refl d after in
    let next = λ (m : ℕ). with_store (memory_with_store s.stack (register s dst) offset (little_bytes (size_bytes size) m)) s in
    subst (IsStepAlongEdge tables args_len (StoreRegister size dst src offset) known s) (sym (goes (number (register s src)) next n.0 n.1)) on
