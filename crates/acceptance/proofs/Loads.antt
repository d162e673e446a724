-- A load without a cause to be refused reads known bytes, and a number of its range.
use Rattle.std.proofs.Common.{◌≡◌, ℕ, ◌^◌, ◌<◌, ℤ, pos, false, not, List, length, take, drop, Option, Some, None, refl, sym, ap, subst, ◌∙◌, arith}
use Rattle.std.specs.Prelude.{◌≤ℤ◌, ◌+ℤ◌}
use Rattle.std.specs.Option.{is_none}
use Rattle.std.proofs.lemmas.Bool.{not-false}
use Rattle.byteorder.specs.Endian.{little_number}
use Rattle.bpf_code.specs.declared.instruction.Register.{Register}
use Rattle.bpf_code.specs.declared.instruction.LoadKind.{LoadKind}
use Rattle.bpf_code.specs.declared.instruction.LoadKind.TheVariants.{U8, U16, U32, U64, I8, I16, I32}
use Rattle.bpf_code.specs.declared.instruction.Instruction.TheVariants.{Load}
use Rattle.bpf_code.specs.Sizes.{load_bytes}
use Rattle.schema.specs.Schema.{Tables}
use Rattle.bpf_semantics.specs.declared.value.Value.{Value}
use Rattle.bpf_semantics.specs.declared.value.Value.TheVariants as value
use Rattle.bpf_semantics.specs.State.{State, register}
use Rattle.bpf_semantics.specs.Memory.{load_value, index_in, stack_index, known_bytes, stack_bytes, args_bytes, memory_bytes}
use Rattle.bpf_semantics.specs.Step.{execute, with_result}
use Rattle.bpf_semantics.proofs.StepLemmas.{just}
use Rattle.bpf_semantics.proofs.FitLemmas.{AreBytes, little_fits, load_fits, memory_fits}
use Rattle.interval.specs.Range.{IsWithin}
use Rattle.abs_state.specs.declared.kind.Kind.{Kind}
use Rattle.abs_state.specs.declared.kind.Kind.TheVariants.{Nothing, Number, Stack, Args}
use Rattle.abs_state.specs.declared.state.AbsState.{AbsState}
use Rattle.abs_state.specs.State.{kind_of}
use Rattle.abs_state.specs.Kind.{is_nothing}
use Rattle.abs_state.specs.Access.{span_from, span_length, stack_span, args_span, are_initialised}
use Rattle.abs_step.specs.Cause.{holds_nothing, is_outside, reads_uninitialised, load_is_outside, some_uninitialised, bytes_loaded}
use Rattle.abs_step.specs.Result.{loaded_range, next_state}
use Rattle.acceptance.specs.Description.{IsOf, IsStepAlongEdge, StepsAlong}
use Rattle.acceptance.proofs.Bytes.{AreKnown, access_known, args_access, stack_access, index_is}
use Rattle.acceptance.proofs.Causes.{no_cause, neither}
use Rattle.acceptance.proofs.Falling.{taken, goes}
use Rattle.acceptance.proofs.Along.{put_along}

-- ---- the bytes

pub reached : (o : Option ℕ) (count : ℕ) → is_none (span_from count o) ≡ false → (k : ℕ) × (o ≡ just k)
reached None count e = absurd cc
reached (Some k) count e = (k, refl)

stack_loaded : (known : AbsState) (s : State) (lo hi p offset : ℤ) (size : ℕ) → length known.initialised ≡ 512 → AreKnown known.initialised s.stack → lo ≤ℤ p → p ≤ℤ hi
    → is_none (stack_span lo hi offset size) ≡ false → some_uninitialised known (stack_span lo hi offset size) ≡ false → (bytes : List ℕ) × (stack_bytes s.stack (p +ℤ offset) size ≡ just bytes)
unfolding stack_bytes
stack_loaded known s lo hi p offset size long are low high inside initialised =
    let k = reached (stack_index (lo +ℤ offset) (span_length lo hi size)) (span_length lo hi size) inside in
    let a = stack_access lo hi p offset size k.0 low high k.1 in
    let some : not (are_initialised known (record { index = k.0; count = span_length lo hi size })) ≡ false = ap (λ (o : Option ℕ). some_uninitialised known (span_from (span_length lo hi size) o)) (sym k.1) ∙ initialised in
    let fits = (index_is (lo +ℤ offset +ℤ pos 512) (span_length lo hi size) 512 k.0 k.1).1 in
    let found = access_known known.initialised s.stack k.0 (span_length lo hi size) size a.at are (not-false _ some) (omega arith) a.among in
    (found.0, taken (stack_index (p +ℤ offset) size) (λ (n : ℕ). known_bytes s.stack n size) a.at a.index ∙ found.1)

args_loaded : (args_len : ℕ) (s : State) (lo hi p offset : ℤ) (size : ℕ) → length s.args ≡ args_len → lo ≤ℤ p → p ≤ℤ hi → is_none (args_span args_len lo hi offset size) ≡ false
    → (bytes : List ℕ) × (args_bytes s.args (p +ℤ offset) size ≡ just bytes)
unfolding args_bytes
args_loaded args_len s lo hi p offset size long low high inside =
    let k = reached (index_in (lo +ℤ offset) (span_length lo hi size) args_len) (span_length lo hi size) inside in
    let a = args_access lo hi p offset size args_len k.0 low high k.1 in
    let index : index_in (p +ℤ offset) size (length s.args) ≡ just a.at = ap (index_in (p +ℤ offset) size) long ∙ a.index in
    (take size (drop a.at s.args), taken (index_in (p +ℤ offset) size (length s.args)) (λ (n : ℕ). just (take size (drop n s.args))) a.at index)

loaded : (args_len : ℕ) (known : AbsState) (s : State) (k : Kind) (v : Value) (offset : ℤ) (size : ℕ) → length known.initialised ≡ 512 → AreKnown known.initialised s.stack → length s.args ≡ args_len → IsOf k v
    → is_nothing k ≡ false → load_is_outside args_len k offset size ≡ false → some_uninitialised known (bytes_loaded k offset size) ≡ false → (bytes : List ℕ) × (memory_bytes s.stack s.args v offset size ≡ just bytes)
loaded args_len known s Nothing v offset size long are args is some inside initialised = absurd cc
loaded args_len known s (Number r) v offset size long are args is some inside initialised = absurd cc
loaded args_len known s (Stack lo hi) (value.Stack p) offset size long are args is some inside initialised = stack_loaded known s lo hi p offset size long are is.0 is.1 inside initialised
loaded args_len known s (Stack lo hi) value.Nothing offset size long are args is some inside initialised = absurd is
loaded args_len known s (Stack lo hi) (value.Number n) offset size long are args is some inside initialised = absurd is
loaded args_len known s (Stack lo hi) (value.Args p) offset size long are args is some inside initialised = absurd is
loaded args_len known s (Args lo hi) (value.Args p) offset size long are args is some inside initialised = args_loaded args_len s lo hi p offset size args is.0 is.1 inside
loaded args_len known s (Args lo hi) value.Nothing offset size long are args is some inside initialised = absurd is
loaded args_len known s (Args lo hi) (value.Number n) offset size long are args is some inside initialised = absurd is
loaded args_len known s (Args lo hi) (value.Stack p) offset size long are args is some inside initialised = absurd is

-- ---- the number

number_below : (n : ℕ) (bytes : List ℕ) → AreBytes n bytes → little_number (length bytes) bytes < 256 ^ n
number_below n bytes are = subst (λ (k : ℕ). little_number (length bytes) bytes < 256 ^ k) are.counted (little_fits (length bytes) 0 bytes are.each)

load_within : (kind : LoadKind) (bytes : List ℕ) → AreBytes (load_bytes kind) bytes → IsWithin (loaded_range kind) (load_value kind (little_number (length bytes) bytes))
load_within U8 bytes are = let below = number_below 1 bytes are in record { from = omega arith; to = omega arith }
load_within U16 bytes are = let below = number_below 2 bytes are in record { from = omega arith; to = omega arith }
load_within U32 bytes are = let below = number_below 4 bytes are in record { from = omega arith; to = omega arith }
load_within U64 bytes are = let below = number_below 8 bytes are in record { from = omega arith; to = omega arith }
load_within I8 bytes are = let below = load_fits I8 bytes are.counted are.each in record { from = omega arith; to = omega arith }
load_within I16 bytes are = let below = load_fits I16 bytes are.counted are.each in record { from = omega arith; to = omega arith }
load_within I32 bytes are = let below = load_fits I32 bytes are.counted are.each in record { from = omega arith; to = omega arith }

-- ---- the step

pub load_along : (tables : Tables) (args_len : ℕ) (kind : LoadKind) (dst src : Register) (offset : ℤ) → StepsAlong tables args_len (Load kind dst src offset)
unfolding execute next_state holds_nothing is_outside reads_uninitialised
load_along tables args_len kind dst src offset known s schema abs state d none =
    let causes = no_cause tables args_len (Load kind dst src offset) known none in
    let some = (neither (is_nothing (kind_of known src)) false causes.reads).0 in
    let bytes = loaded args_len known s (kind_of known src) (register s src) offset (load_bytes kind) abs.stack d.stack d.args (d.registers src) some causes.inside causes.initialised in
    let are = memory_fits s.stack s.args (register s src) offset (load_bytes kind) bytes.0 state.stack state.each_stack_byte state.args bytes.1 in
    let next = λ (bs : List ℕ). with_result 1 dst (value.Number (load_value kind (little_number (length bs) bs))) s in
    let on = put_along tables args_len 1 (Load kind dst src offset) known s dst (Number (loaded_range kind)) (value.Number (load_value kind (little_number (length bytes.0) bytes.0))) refl refl causes.writes abs state d (load_within kind bytes.0 are) in
    subst (IsStepAlongEdge tables args_len (Load kind dst src offset) known s) (sym (goes (memory_bytes s.stack s.args (register s src) offset (load_bytes kind)) next bytes.0 bytes.1)) on
