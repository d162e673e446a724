-- What holds of each state of a run on rows of the schema and arguments of bytes: what registers, stack and writes may
-- hold, and what a look may be.
use Rattle.std.specs.Prelude.{◌≡◌, ◌⊎◌, ℕ, ◌+◌, ◌<◌, ◌≤◌, ◌^◌, ℤ, pos, negsuc, ◌≤ℤ◌, All, List, [], ◌∷◌, ◌++◌, length, take, drop, map, Option, Some, None, IsSome, IfSome}
use Rattle.std.specs.FinMap.{get}
use Rattle.bpf_code.specs.declared.instruction.Register.TheVariants.{R10}
use Rattle.schema.specs.Schema.{Tables}
use Rattle.schema.specs.declared.look.Look.{Look}
use Rattle.schema.specs.Rows.{AreRows, AreWrites}
use Rattle.bpf_semantics.specs.declared.value.Value.{Value}
use Rattle.bpf_semantics.specs.declared.value.Value.TheVariants.{Nothing, Number, Stack, Args}
use Rattle.bpf_semantics.specs.State.{State, register}
use Rattle.bpf_semantics.specs.Memory.{stack_index}
use Rattle.bpf_semantics.specs.Run.{Run}

-- a place is at most 65,536 away
abbrev pub IsPlace : ℤ → Type 0
IsPlace place = (negsuc 65535 ≤ℤ place) × (place ≤ℤ pos 65536)

-- what a register may hold
abbrev pub IsValue : Value → Type 0
IsValue Nothing = Unit {0}
IsValue (Number n) = n < 2 ^ 64
IsValue (Stack place) = IsPlace place
IsValue (Args place) = IsPlace place

-- a byte of the stack, where it is known
abbrev pub IsStackByte : Option ℕ → Type 0
IsStackByte None = Unit {0}
IsStackByte (Some b) = b < 256

-- a look at keys of one of the schema's tables
pub record IsLook (tables : Tables) (look : Look) : Type 0 where
  pub known : IsSome (get tables look.table)
  pub ordered : look.lo ≤ look.hi
  pub fits : look.hi < 2 ^ 64

-- a state that a run on the schema's rows may come to
pub record IsState (tables : Tables) (s : State) : Type 0 where
  pub registers : length s.registers ≡ 11
  pub frame_pointer : register s R10 ≡ Stack (pos 0)
  pub values : All IsValue s.registers
  pub stack : length s.stack ≡ 512
  pub each_stack_byte : All IsStackByte s.stack
  pub args : All (λ b. b < 256) s.args
  pub rows : AreRows tables s.rows
  pub writes : AreWrites tables s.writes
  pub looks : All (IsLook tables) s.looks
  pub code : IfSome s.cancel_code (λ code. code < 2 ^ 64)

-- what came of such a run
pub record IsRunOf (tables : Tables) (r : Run) : Type 0 where
  pub reply : r.reply < 2 ^ 64
  pub effect : AreRows tables r.effect
  pub writes : AreWrites tables r.writes
  pub looks : All (IsLook tables) r.looks
  pub code : IfSome r.cancel_code (λ code. code < 2 ^ 64)

-- ---- what a step adds

-- so many slots on from there; nowhere where there is no such way
abbrev pub Leads : Option ℕ → ℕ → ℕ → Type 0
Leads None from to = ⊥
Leads (Some slots) from to = to ≡ from + slots

-- the same looks, or one more
abbrev pub AddsAtMostOne : List Look → List Look → Type 0
AddsAtMostOne before after = (after ≡ before) ⊎ ((look : Look) × (after ≡ before ++ look ∷ []))

-- what a put leaves: the bytes of the table's width that stood on the stack, as the row at its key and as the write of
-- that key
pub record PutLeaves (s t : State) (table key width : ℕ) (place : ℤ) (bytes : List ℕ) : Type 0 where
  pub from : ℕ
  pub at : stack_index place width ≡ Some from
  pub read : take width (drop from s.stack) ≡ map (λ b. Some b) bytes
  pub wide : length bytes ≡ width
  pub row : get t.rows (table, key) ≡ Some bytes
  pub write : get t.writes (table, key) ≡ Some (Some bytes)
