-- Which bytes a load, a store or a helper may touch.
use Rattle.std.specs.Prelude.{ℕ, ◌+◌, ℤ, ◌+ℤ◌, Bool, if◌then◌else◌, take, drop, Option, Some, None}
use Rattle.std.specs.Int.{int_gap}
use Rattle.std.specs.List.{list_all}
use Rattle.std.specs.Ordering.{int_eq}
use Rattle.bpf_semantics.specs.Memory.{index_in, stack_index}
use Rattle.abs_state.specs.declared.kind.Kind.{Kind}
use Rattle.abs_state.specs.declared.kind.Kind.TheVariants.{Stack}
use Rattle.abs_state.specs.declared.state.AbsState.{AbsState}
use Rattle.abs_state.specs.declared.access.ByteSpan.{ByteSpan}

abbrev pub span_from : ℕ → Option ℕ → Option ByteSpan
span_from count None = None
span_from count (Some index) = Some (record { index = index; count = count })

-- how many bytes accesses of this size through a pointer from lo to hi touch
abbrev pub span_length : ℤ → ℤ → ℕ → ℕ
span_length lo hi size = int_gap lo hi + size

-- those of the stack, where all are inside
abbrev pub stack_span : ℤ → ℤ → ℤ → ℕ → Option ByteSpan
stack_span lo hi offset size = span_from (span_length lo hi size) (stack_index (lo +ℤ offset) (span_length lo hi size))

-- those of arguments of this length, where all are inside
abbrev pub args_span : ℕ → ℤ → ℤ → ℤ → ℕ → Option ByteSpan
args_span args_len lo hi offset size = span_from (span_length lo hi size) (index_in (lo +ℤ offset) (span_length lo hi size) args_len)

-- a helper's buffer of so many bytes: at one place of the stack, and whole inside
abbrev pub buffer_span : Kind → ℕ → Option ByteSpan
buffer_span (Stack lo hi) count = if int_eq lo hi then span_from count (stack_index lo count) else None
buffer_span _ count = None

abbrev pub are_initialised : AbsState → ByteSpan → Bool
are_initialised s bytes = list_all (λ byte. byte) (take bytes.count (drop bytes.index s.initialised))
