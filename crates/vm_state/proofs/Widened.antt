-- Operations whose immediate was widened.
use Rattle.std.proofs.Common.{◌≡◌, ℕ, ◌^◌, ◌<◌, subst, sym}
use Rattle.std.specs.Int.{w64, cast_signed, cast_unsigned}
use Rattle.std.proofs.lemmas.Int.{of_z-to_z}
use Rattle.bpf_words.specs.declared.operation.BinaryOperation.{BinaryOperation}
use Rattle.bpf_words.specs.declared.operation.Operation.TheVariants.{Binary}
use Rattle.bpf_words.specs.Operation.{alu}
use Rattle.bpf_code.specs.declared.instruction.Register.{Register}
use Rattle.bpf_code.specs.declared.instruction.Width.{Width}
use Rattle.bpf_code.specs.declared.instruction.Source.TheVariants as source
use Rattle.bpf_code.specs.declared.instruction.Instruction.TheVariants.{Arithmetic}
use Rattle.bpf_code.specs.Sizes.{width_bits}
use Rattle.schema.specs.Schema.{Tables}
use Rattle.bpf_semantics.specs.State.{State}
use Rattle.bpf_semantics.specs.Step.{execute}
use Rattle.vm_state.specs.Words.{Words, Holds, HoldsNext, word}
use Rattle.vm_state.specs.Access.{words_past, with_word}
use Rattle.vm_state.proofs.Holding.{arithmetic_holds}

pub alu_immediate_holds : (tables : Tables) (s : State) (m : Words) (width : Width) (op : BinaryOperation) (dst : Register) (immediate : ℕ) → word m dst < 2 ^ 64 → immediate < 2 ^ 64 → Holds s m
    → HoldsNext (execute tables (Arithmetic width op dst (source.Immediate (cast_signed w64 immediate))) s) (words_past 1 (with_word m dst (alu (width_bits width) (Binary op) (word m dst) immediate)))
alu_immediate_holds tables s m width op dst immediate fx fy h =
    let back : cast_unsigned w64 (cast_signed w64 immediate) ≡ immediate = of_z-to_z w64 immediate fy in
    subst (λ (b : ℕ). HoldsNext (execute tables (Arithmetic width op dst (source.Immediate (cast_signed w64 immediate))) s) (words_past 1 (with_word m dst (alu (width_bits width) (Binary op) (word m dst) b)))) back
    (arithmetic_holds tables s m width op dst (source.Immediate (cast_signed w64 immediate)) fx (subst (λ (b : ℕ). b < 2 ^ 64) (sym back) fy) h)
