-- The state of a run: registers, stack, arguments, rows, and what the run has done so far. It is meant for rows that are
-- the schema's, and for bytes and numbers that fit their types. On others a run is still defined: a row that isn't as
-- wide as its table writes as many bytes as it has.
use Rattle.std.specs.Prelude.{ℕ, ◌+◌, pos, List, [], ◌∷◌, ◌++◌, replicate, slice_index_or, slice_set, Option, Some, None}
use Rattle.std.specs.FinMap.{empty}
use Rattle.bpf_code.specs.declared.instruction.Register.{Register}
use Rattle.bpf_code.specs.Register.{number_of}
use Rattle.schema.specs.declared.look.Look.{Look}
use Rattle.schema.specs.Rows.{Rows, Writes}
use Rattle.bpf_semantics.specs.declared.value.Value.{Value}
use Rattle.bpf_semantics.specs.declared.value.Value.TheVariants.{Nothing, Number, Stack, Args}

pub record State : Type 0 where
  pub slot : ℕ  -- of the instruction that is next
  pub registers : List Value  -- r0 to r10
  pub stack : List (Option ℕ)  -- 512 bytes, the last of them before r10, each known or not
  pub args : List ℕ  -- the argument block
  pub rows : Rows  -- as the run sees them: with its own writes, after a cancel too
  pub cancel_code : Option ℕ  -- the last cancel code
  pub looks : List Look  -- what it looked at, in order, repeats kept
  pub writes : Writes  -- what it wrote, the last write of each key
  pub steps : ℕ  -- how many instructions it has run

-- at entry r1 points at the arguments and r10 at the stack's end; all else is nothing. That is this product's rule:
-- RFC 9669 leaves it to the program's type
abbrev pub entry_state : List ℕ → Rows → State
entry_state args rows = record {
  slot = 0;
  registers = Nothing ∷ Args (pos 0) ∷ (replicate 8 Nothing ++ Stack (pos 0) ∷ []);
  stack = replicate 512 None;
  args = args;
  rows = rows;
  cancel_code = None;
  looks = [];
  writes = empty;
  steps = 0;
}

abbrev pub register : State → Register → Value
register s r = slice_index_or s.registers (number_of r) Nothing

abbrev pub with_register : State → Register → Value → State
with_register s r v = record s { registers = slice_set s.registers (number_of r) v }

-- one instruction further, and so many slots on
abbrev pub past : ℕ → State → State
past slots s = record s { slot = s.slot + slots; steps = s.steps + 1 }

-- the number, where the value is one
abbrev pub number : Value → Option ℕ
number (Number n) = Some n
number _ = None
