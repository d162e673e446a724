-- What is known at entry.
use Rattle.std.proofs.Common.{◌≡◌, ℕ, List, length, slice_index_or, replicate, false, refl, sym, ◌∙◌, inl, inr, arith}
use Rattle.std.proofs.lemmas.Bool.{cases_lt, false≢true}
use Rattle.std.proofs.lemmas.List.{get_or-replicate, get_or_past, length-replicate}
use Rattle.bpf_code.specs.declared.instruction.Register.{Register}
use Rattle.bpf_code.specs.declared.instruction.Register.TheVariants.{R0, R1, R2, R3, R4, R5, R6, R7, R8, R9, R10}
use Rattle.schema.specs.Rows.{Rows}
use Rattle.bpf_semantics.specs.State.{entry_state, register}
use Rattle.abs_state.specs.State.{abs_entry, kind_of}
use Rattle.acceptance.specs.Description.{Describes, IsAbsState, IsKind, IsOf}

entry_kind : (r : Register) → IsKind (kind_of abs_entry r)
entry_kind R0 = tt
entry_kind R1 = tt
entry_kind R2 = tt
entry_kind R3 = tt
entry_kind R4 = tt
entry_kind R5 = tt
entry_kind R6 = tt
entry_kind R7 = tt
entry_kind R8 = tt
entry_kind R9 = tt
entry_kind R10 = tt

pub entry_known : IsAbsState abs_entry
entry_known = record {
  registers = refl;
  kinds = entry_kind;
  stack = length-replicate 512 false;
}

entry_of : (args : List ℕ) (rows : Rows) (r : Register) → IsOf (kind_of abs_entry r) (register (entry_state args rows) r)
entry_of args rows R0 = tt
entry_of args rows R1 = (omega arith, omega arith)
entry_of args rows R2 = tt
entry_of args rows R3 = tt
entry_of args rows R4 = tt
entry_of args rows R5 = tt
entry_of args rows R6 = tt
entry_of args rows R7 = tt
entry_of args rows R8 = tt
entry_of args rows R9 = tt
entry_of args rows R10 = (omega arith, omega arith)

none_true : (k : ℕ) → slice_index_or (replicate 512 false) k false ≡ false
none_true k = elim (cases_lt k 512) [
  | inl h ↦ get_or-replicate 512 k false false h
  | inr h ↦ get_or_past (replicate 512 false) k false (omega (arith, length-replicate 512 false))
]

pub entry_described : (args : List ℕ) (rows : Rows) → Describes (length args) abs_entry (entry_state args rows)
entry_described args rows = record {
  registers = entry_of args rows;
  stack = λ k h. absurd (false≢true (sym (none_true k) ∙ h));
  args = refl;
}
