-- Bytes that decode to a program are its spelling.
use Rattle.std.proofs.Common.{◌≡◌, ℕ, ℤ, zero, suc, pos, ◌+◌, ◌*◌, ◌/◌, ◌%◌, ◌^◌, ◌==◌, ◌≤◌, ◌<◌, Bool, true, false, not, cond, ◌&&◌, ◌||◌, List, [], ◌∷◌, ◌++◌, length, take, drop, Option, Some, None, Ok, Err, All, refl, sym, ap, subst, ◌∙◌, arith, append_assoc}
use Rattle.std.proofs.lemmas.Bool.{and_parts}
use Rattle.std.specs.Prelude.{find, slice_index}
use Rattle.std.specs.Int.{w32, cast_signed, cast_unsigned}
use Rattle.std.specs.List.{AllByRecursion, flat_map}
use Rattle.std.specs.Option.{option_map}
use Rattle.std.specs.Ordering.{int_eq}
use Rattle.std.proofs.lemmas.Bool.Decides.{nat_tests, Decides-int_eq}
use Rattle.std.proofs.lemmas.Int.{to_z-of_z}
use Rattle.std.proofs.lemmas.List.{length-drop, take-append-drop}
use Rattle.std.proofs.lemmas.List.Elements.{All-drop, All-head, All-tail}
use Rattle.bpf_words.specs.declared.operation.BinaryOperation.{BinaryOperation}
use Rattle.bpf_words.specs.declared.operation.BinaryOperation.TheVariants as operation
use Rattle.bpf_words.specs.declared.operation.ByteOrder.TheVariants as order
use Rattle.bpf_words.specs.declared.operation.EndWidth.{EndWidth}
use Rattle.bpf_words.specs.declared.operation.EndWidth.TheVariants as low
use Rattle.bpf_words.specs.declared.condition.Condition.{Condition}
use Rattle.bpf_code.specs.declared.instruction.Instruction.{Instruction}
use Rattle.bpf_code.specs.declared.instruction.Instruction.TheVariants as instruction
use Rattle.bpf_code.specs.declared.instruction.Register.{Register}
use Rattle.bpf_code.specs.declared.instruction.Register.TheVariants as register
use Rattle.bpf_code.specs.declared.instruction.SignExtendingMove.{SignExtendingMove}
use Rattle.bpf_code.specs.declared.instruction.SignExtendingMove.TheVariants as move
use Rattle.bpf_code.specs.declared.instruction.Width.{Width}
use Rattle.bpf_code.specs.declared.instruction.Width.TheVariants.{Bits32, Bits64}
use Rattle.bpf_code.specs.declared.instruction.Source.TheVariants as source
use Rattle.bpf_code.specs.Program.{Program, is_wide}
use Rattle.bpf_code.specs.Register.{number_of, register_of}
use Rattle.bpf_code.specs.Sizes.{extension_width}
use Rattle.bpf_bytes.specs.declared.fields.Fields.{Fields}
use Rattle.bpf_bytes.specs.declared.opcode.ArithmeticCode.{ArithmeticCode}
use Rattle.bpf_bytes.specs.declared.opcode.ArithmeticCode.TheVariants as code
use Rattle.bpf_bytes.specs.declared.opcode.Opcode.{Opcode}
use Rattle.bpf_bytes.specs.declared.opcode.Opcode.TheVariants as opcode
use Rattle.bpf_bytes.specs.declared.opcode.SourceKind.TheVariants.{Immediate, Register as InRegister}
use Rattle.bpf_bytes.specs.declared.opcode.Uses.{Uses}
use Rattle.bpf_bytes.specs.Opcode.{arithmetic_class, arithmetic_codes, arithmetic_number, arithmetic_of, binary_of, branch_of, byte_of, condition_number, condition_of, conditions, jump_class, memory_of, memory_opcodes, opcode_of, source_bit, source_of}
use Rattle.bpf_bytes.specs.Fields.{bytes_of, slots_of}
use Rattle.bpf_bytes.specs.Spelling.{code_of, end_immediate, extension_offset, fields_of, instruction_bytes, operation_offset, second_half, slot, spelling}
use Rattle.bpf_bytes.specs.Uses.{fields_used, offset_chooses, uses_of}
use Rattle.bpf_bytes.specs.Reading.{end_width_of, extension_of, half_reading_of, instruction_of, is_move, on_register, operation_of, reading_of, unused_are_zero}
use Rattle.bpf_bytes.specs.declared.fault.DecodeCause.TheVariants as fault_cause
use Rattle.bpf_bytes.specs.Decoding.{completed_load, program_of, reading_of_slots, with_front}
use Rattle.bpf_bytes.specs.Steps.{IsFirstHalf, IsHalf, half_bytes}
use Rattle.bpf_bytes.proofs.DecodeLemmas.{first_bytes, slots_of-cons}
use Rattle.bpf_bytes.proofs.SpellingLemmas.{instruction_bytes-short}
use Rattle.site_laws.proofs.DecodingLemmas.{FieldsFit, below_half, by_first_half, fields_are, half_below, high_half, of_slot, program_is, read_parts, reads, whole_slots, with_front_ok}

-- ---- what tests say

found_is : {X : Type 0} (test : X → Bool) (xs : List X) (x : X) → find test xs ≡ Some x → test x ≡ true
found_is test [] x e = absurd cc
found_is test (y ∷ xs) x e = elim (test y) as (λ b. test y ≡ b → cond b (Some y) (find test xs) ≡ Some x → test x ≡ true) [
  | true ↦ λ t h. subst (λ z. test z ≡ true) (let same : y ≡ x = cc in same) t
  | false ↦ λ t h. found_is test xs x h
] refl e

int_is : (a b : ℤ) → int_eq a b ≡ true → a ≡ b
int_is a b e = (Decides-int_eq a b).0 e

module _ (o : Opcode) (P : Type 0) where
  either : (t : Bool) (x y : Option Opcode) → (t ≡ true → x ≡ Some o → P) → (y ≡ Some o → P) → cond t x y ≡ Some o → P
  either true x y first second e = first refl e
  either false x y first second e = second e

-- each byte of some, and 0 beyond them
pub index_byte : (xs : List ℕ) (i : ℕ) → All (λ b. b < 256) xs → slice_index xs i < 256
index_byte [] i are = omega arith
index_byte (x ∷ xs) zero are = All-head (λ b. b < 256) x xs are
index_byte (x ∷ xs) (suc i) are = index_byte xs i (All-tail (λ b. b < 256) x xs are)

-- ---- an opcode is that of its byte

source_again : (b : ℕ) → source_bit (source_of b) ≡ b / 8 % 2
source_again b = by_test (b / 8 % 2 == 0) refl
  where
    by_test : (t : Bool) → (b / 8 % 2 == 0) ≡ t → source_bit (cond t Immediate InRegister) ≡ b / 8 % 2
    by_test true e = grind (arith, nat_tests)
    by_test false e = let other : b / 8 % 2 ≡ 1 = grind (arith, nat_tests) in sym other

-- an opcode that is made of what a table has under its upper bits
again_by_number : {C : Type 0} (number : C → ℕ) (codes : List C) (make : C → Opcode) (b : ℕ) → ((c : C) → number c ≡ b / 16 → byte_of (make c) ≡ b)
    → (o : Opcode) → option_map make (find (λ c. number c == b / 16) codes) ≡ Some o → byte_of o ≡ b
again_by_number {C = C} number codes make b spelled o = by_code (find (λ c. number c == b / 16) codes) refl
  where
    by_code : (c : Option C) → find (λ c. number c == b / 16) codes ≡ c → option_map make c ≡ Some o → byte_of o ≡ b
    by_code None is h = absurd cc
    by_code (Some c) is h =
        let found : number c ≡ b / 16 = let t = found_is (λ c. number c == b / 16) codes c is in grind (arith, nat_tests) in
        subst (λ (x : Opcode). byte_of x ≡ b) (let same : make c ≡ o = cc in same) (spelled c found)

binary_again : (width : Width) (b : ℕ) (o : Opcode) → b % 8 ≡ arithmetic_class width → binary_of width b ≡ Some o → byte_of o ≡ b
unfolding binary_of
binary_again width b o class =
    again_by_number arithmetic_number arithmetic_codes (λ c. opcode.Arithmetic width c (source_of b)) b (λ c number. let bit = source_again b in omega arith) o

branch_again : (width : Width) (b : ℕ) (o : Opcode) → b % 8 ≡ jump_class width → branch_of width b ≡ Some o → byte_of o ≡ b
unfolding branch_of
branch_again width b o class =
    again_by_number condition_number conditions (λ c. opcode.Branch width c (source_of b)) b (λ c number. let bit = source_again b in omega arith) o

memory_again : (b : ℕ) (o : Opcode) → memory_of b ≡ Some o → byte_of o ≡ b
unfolding memory_of
memory_again b o e = let t = found_is (λ o. byte_of o == b) memory_opcodes o e in grind (arith, nat_tests)

opcode_again : (b : ℕ) (o : Opcode) → opcode_of b ≡ Some o → byte_of o ≡ b
unfolding opcode_of
opcode_again b o e =
    one 0x84 (opcode.Negate Bits32) refl _ (λ e. one 0x87 (opcode.Negate Bits64) refl _ (λ e. one 0xd4 (opcode.End order.Little) refl _ (λ e.
    one 0xdc (opcode.End order.Big) refl _ (λ e. one 0xd7 (opcode.End order.Swap) refl _ (λ e. one 0x05 (opcode.Jump Bits64) refl _ (λ e.
    one 0x06 (opcode.Jump Bits32) refl _ (λ e. one 0x85 opcode.Call refl _ (λ e. one 0x95 opcode.Exit refl _ (λ e.
    either o (byte_of o ≡ b) (b % 8 == 4) (binary_of Bits32 b) _ (λ t h. binary_again Bits32 b o (class 4 t) h) (λ e.
    either o (byte_of o ≡ b) (b % 8 == 5) (branch_of Bits64 b) _ (λ t h. branch_again Bits64 b o (class 5 t) h) (λ e.
    either o (byte_of o ≡ b) (b % 8 == 6) (branch_of Bits32 b) _ (λ t h. branch_again Bits32 b o (class 6 t) h) (λ e.
    either o (byte_of o ≡ b) (b % 8 == 7) (binary_of Bits64 b) (memory_of b) (λ t h. binary_again Bits64 b o (class 7 t) h) (memory_again b o) e) e) e) e) e) e) e) e) e) e) e) e) e
  where
    class : (n : ℕ) → (b % 8 == n) ≡ true → b % 8 ≡ n
    class n t = grind (arith, nat_tests)

    one : (n : ℕ) (made : Opcode) → byte_of made ≡ n → (y : Option Opcode) → (y ≡ Some o → byte_of o ≡ b) → cond (b == n) (Some made) y ≡ Some o → byte_of o ≡ b
    one n made is y second = either o (byte_of o ≡ b) (b == n) (Some made) y
        (λ t h. let same : made ≡ o = cc in let number : b ≡ n = grind (arith, nat_tests) in ap byte_of (sym same) ∙ is ∙ sym number) second

register_again : (n : ℕ) (r : Register) → register_of n ≡ Some r → number_of r ≡ n
register_again zero r e = ap number_of (let same : r ≡ register.R0 = cc in same)
register_again (suc zero) r e = ap number_of (let same : r ≡ register.R1 = cc in same)
register_again (suc (suc zero)) r e = ap number_of (let same : r ≡ register.R2 = cc in same)
register_again (suc (suc (suc zero))) r e = ap number_of (let same : r ≡ register.R3 = cc in same)
register_again (suc (suc (suc (suc zero)))) r e = ap number_of (let same : r ≡ register.R4 = cc in same)
register_again (suc (suc (suc (suc (suc zero))))) r e = ap number_of (let same : r ≡ register.R5 = cc in same)
register_again (suc (suc (suc (suc (suc (suc zero)))))) r e = ap number_of (let same : r ≡ register.R6 = cc in same)
register_again (suc (suc (suc (suc (suc (suc (suc zero))))))) r e = ap number_of (let same : r ≡ register.R7 = cc in same)
register_again (suc (suc (suc (suc (suc (suc (suc (suc zero)))))))) r e = ap number_of (let same : r ≡ register.R8 = cc in same)
register_again (suc (suc (suc (suc (suc (suc (suc (suc (suc zero))))))))) r e = ap number_of (let same : r ≡ register.R9 = cc in same)
register_again (suc (suc (suc (suc (suc (suc (suc (suc (suc (suc zero)))))))))) r e = ap number_of (let same : r ≡ register.R10 = cc in same)
register_again (suc (suc (suc (suc (suc (suc (suc (suc (suc (suc (suc n))))))))))) r e = absurd cc

-- ---- the fields of an instruction that was read

slot_is : (o : Opcode) (f : Fields) (d s : ℕ) (off imm : ℤ) → byte_of o ≡ f.opcode → d ≡ f.dst → s ≡ f.src → off ≡ f.offset → imm ≡ f.immediate → slot o d s off imm ≡ f
slot_is o f d s off imm eo ed es eoff ei = λ i. record { opcode = eo i; dst = ed i; src = es i; offset = eoff i; immediate = ei i }

-- what isn't used is zero
record AreZero (used : Uses) (f : Fields) : Type 0 where
  dst : used.dst ≡ false → 0 ≡ f.dst
  src : used.src ≡ false → 0 ≡ f.src
  offset : used.offset ≡ false → pos 0 ≡ f.offset
  immediate : used.immediate ≡ false → pos 0 ≡ f.immediate

zero_nat : (u : Bool) (n : ℕ) → (u || n == 0) ≡ true → u ≡ false → 0 ≡ n
zero_nat true n e unused = absurd cc
zero_nat false n e unused = grind (arith, nat_tests)

zero_int : (u : Bool) (z : ℤ) → (u || int_eq z (pos 0)) ≡ true → u ≡ false → pos 0 ≡ z
zero_int true z e unused = absurd cc
zero_int false z e unused = sym (int_is z (pos 0) e)

are_zero : (used : Uses) (f : Fields) → unused_are_zero used f ≡ true → AreZero used f
unfolding unused_are_zero
are_zero used f e =
    let a = used.dst || f.dst == 0 in
    let b = used.src || f.src == 0 in
    let c = used.offset || int_eq f.offset (pos 0) in
    let three = and_parts ((a && b) && c) (used.immediate || int_eq f.immediate (pos 0)) e in
    let two = and_parts (a && b) c three.0 in
    let one = and_parts a b two.0 in
    record {
      dst = zero_nat used.dst f.dst one.0;
      src = zero_nat used.src f.src one.1;
      offset = zero_int used.offset f.offset two.1;
      immediate = zero_int used.immediate f.immediate three.1;
    }

-- an operation has the code and the offset of its slot
abbrev IsOperation : ArithmeticCode → ℤ → BinaryOperation → Type 0
IsOperation c off op = (code_of op ≡ c) × (operation_offset op ≡ off)

some_operation : (c : ArithmeticCode) (off : ℤ) (made op : BinaryOperation) → IsOperation c off made → Some made ≡ Some op → IsOperation c off op
some_operation c off made op is e = subst (IsOperation c off) (let same : made ≡ op = cc in same) is

divided : (c : ArithmeticCode) (plain signed : BinaryOperation) (off : ℤ) (op : BinaryOperation) → IsOperation c (pos 0) plain → IsOperation c (pos 1) signed
    → cond (int_eq off (pos 0)) (Some plain) (cond (int_eq off (pos 1)) (Some signed) None) ≡ Some op → IsOperation c off op
divided c plain signed off op is_plain is_signed = by_tests (int_eq off (pos 0)) refl (int_eq off (pos 1)) refl
  where
    by_tests : (a : Bool) → int_eq off (pos 0) ≡ a → (b : Bool) → int_eq off (pos 1) ≡ b → cond a (Some plain) (cond b (Some signed) None) ≡ Some op → IsOperation c off op
    by_tests true ea b eb e = some_operation c off plain op (subst (λ (z : ℤ). IsOperation c z plain) (sym (int_is off (pos 0) ea)) is_plain) e
    by_tests false ea true eb e = some_operation c off signed op (subst (λ (z : ℤ). IsOperation c z signed) (sym (int_is off (pos 1) eb)) is_signed) e
    by_tests false ea false eb e = absurd cc

operation_is : (c : ArithmeticCode) (off : ℤ) (op : BinaryOperation) → (offset_chooses c Immediate ≡ false → pos 0 ≡ off) → operation_of c off ≡ Some op → IsOperation c off op
unfolding operation_of
operation_is code.Add off op none e = some_operation code.Add off operation.Add op (refl, none refl) e
operation_is code.Sub off op none e = some_operation code.Sub off operation.Sub op (refl, none refl) e
operation_is code.Mul off op none e = some_operation code.Mul off operation.Mul op (refl, none refl) e
operation_is code.Or off op none e = some_operation code.Or off operation.Or op (refl, none refl) e
operation_is code.And off op none e = some_operation code.And off operation.And op (refl, none refl) e
operation_is code.Lsh off op none e = some_operation code.Lsh off operation.Lsh op (refl, none refl) e
operation_is code.Rsh off op none e = some_operation code.Rsh off operation.Rsh op (refl, none refl) e
operation_is code.Xor off op none e = some_operation code.Xor off operation.Xor op (refl, none refl) e
operation_is code.Mov off op none e = some_operation code.Mov off operation.Mov op (refl, none refl) e
operation_is code.Arsh off op none e = some_operation code.Arsh off operation.Arsh op (refl, none refl) e
operation_is code.Div off op none e = divided code.Div operation.Div operation.Sdiv off op (refl, refl) (refl, refl) e
operation_is code.Mod off op none e = divided code.Mod operation.Mod operation.Smod off op (refl, refl) (refl, refl) e

some_extension : (width : Width) (off : ℤ) (made kind : SignExtendingMove) → extension_width made ≡ width → extension_offset made ≡ off → Some made ≡ Some kind → (extension_width kind ≡ width) × (extension_offset kind ≡ off)
some_extension width off made kind w o e = subst (λ (x : SignExtendingMove). (extension_width x ≡ width) × (extension_offset x ≡ off)) (let same : made ≡ kind = cc in same) (w, o)

extension_is : (width : Width) (off : ℤ) (kind : SignExtendingMove) → extension_of width off ≡ Some kind → (extension_width kind ≡ width) × (extension_offset kind ≡ off)
unfolding extension_of
extension_is Bits32 off kind = by_tests (int_eq off (pos 8)) refl (int_eq off (pos 16)) refl
  where
    by_tests : (a : Bool) → int_eq off (pos 8) ≡ a → (b : Bool) → int_eq off (pos 16) ≡ b → cond a (Some move.From8To32) (cond b (Some move.From16To32) None) ≡ Some kind → (extension_width kind ≡ Bits32) × (extension_offset kind ≡ off)
    by_tests true ea b eb e = some_extension Bits32 off move.From8To32 kind refl (sym (int_is off (pos 8) ea)) e
    by_tests false ea true eb e = some_extension Bits32 off move.From16To32 kind refl (sym (int_is off (pos 16) eb)) e
    by_tests false ea false eb e = absurd cc
extension_is Bits64 off kind = by_tests (int_eq off (pos 8)) refl (int_eq off (pos 16)) refl (int_eq off (pos 32)) refl
  where
    by_tests : (a : Bool) → int_eq off (pos 8) ≡ a → (b : Bool) → int_eq off (pos 16) ≡ b → (c : Bool) → int_eq off (pos 32) ≡ c
        → cond a (Some move.From8To64) (cond b (Some move.From16To64) (cond c (Some move.From32To64) None)) ≡ Some kind → (extension_width kind ≡ Bits64) × (extension_offset kind ≡ off)
    by_tests true ea b eb c ec e = some_extension Bits64 off move.From8To64 kind refl (sym (int_is off (pos 8) ea)) e
    by_tests false ea true eb c ec e = some_extension Bits64 off move.From16To64 kind refl (sym (int_is off (pos 16) eb)) e
    by_tests false ea false eb true ec e = some_extension Bits64 off move.From32To64 kind refl (sym (int_is off (pos 32) ec)) e
    by_tests false ea false eb false ec e = absurd cc

end_is : (imm : ℤ) (width : EndWidth) → end_width_of imm ≡ Some width → end_immediate width ≡ imm
unfolding end_width_of
end_is imm width = by_tests (int_eq imm (pos 16)) refl (int_eq imm (pos 32)) refl (int_eq imm (pos 64)) refl
  where
    made_is : (made : EndWidth) → end_immediate made ≡ imm → Some made ≡ Some width → end_immediate width ≡ imm
    made_is made is e = ap end_immediate (let same : width ≡ made = cc in same) ∙ is

    by_tests : (a : Bool) → int_eq imm (pos 16) ≡ a → (b : Bool) → int_eq imm (pos 32) ≡ b → (c : Bool) → int_eq imm (pos 64) ≡ c
        → cond a (Some low.Low16) (cond b (Some low.Low32) (cond c (Some low.Low64) None)) ≡ Some width → end_immediate width ≡ imm
    by_tests true ea b eb c ec e = made_is low.Low16 (sym (int_is imm (pos 16) ea)) e
    by_tests false ea true eb c ec e = made_is low.Low32 (sym (int_is imm (pos 32) eb)) e
    by_tests false ea false eb true ec e = made_is low.Low64 (sym (int_is imm (pos 64) ec)) e
    by_tests false ea false eb false ec e = absurd cc

the_move : (c : ArithmeticCode) → is_move c ≡ true → c ≡ code.Mov
the_move code.Mov e = refl
the_move code.Add e = absurd cc
the_move code.Sub e = absurd cc
the_move code.Mul e = absurd cc
the_move code.Div e = absurd cc
the_move code.Or e = absurd cc
the_move code.And e = absurd cc
the_move code.Lsh e = absurd cc
the_move code.Rsh e = absurd cc
the_move code.Mod e = absurd cc
the_move code.Xor e = absurd cc
the_move code.Arsh e = absurd cc

-- where a register is no source of a sign extension the offset is 0, but for divisions
no_offset : (c : ArithmeticCode) (off : ℤ) → (is_move c && not (int_eq off (pos 0))) ≡ false → (offset_chooses c InRegister ≡ false → pos 0 ≡ off) → offset_chooses c Immediate ≡ false → pos 0 ≡ off
no_offset code.Mov off unmoved none plain = by_test (int_eq off (pos 0)) refl unmoved
  where
    by_test : (b : Bool) → int_eq off (pos 0) ≡ b → not b ≡ false → pos 0 ≡ off
    by_test true t e = sym (int_is off (pos 0) t)
    by_test false t e = absurd cc
no_offset code.Add off unmoved none plain = none refl
no_offset code.Sub off unmoved none plain = none refl
no_offset code.Mul off unmoved none plain = none refl
no_offset code.Div off unmoved none plain = absurd cc
no_offset code.Or off unmoved none plain = none refl
no_offset code.And off unmoved none plain = none refl
no_offset code.Lsh off unmoved none plain = none refl
no_offset code.Rsh off unmoved none plain = none refl
no_offset code.Mod off unmoved none plain = absurd cc
no_offset code.Xor off unmoved none plain = none refl
no_offset code.Arsh off unmoved none plain = none refl

module _ (f : Fields) (i : Instruction) where
  of_some : (made : Instruction) → fields_of made ≡ f → Some made ≡ Some i → fields_of i ≡ f
  of_some made is e = ap fields_of (let same : i ≡ made = cc in same) ∙ is

  of_map : {X : Type 0} (o : Option X) (make : X → Instruction) → ((x : X) → o ≡ Some x → fields_of (make x) ≡ f) → option_map make o ≡ Some i → fields_of i ≡ f
  of_map None make is e = absurd cc
  of_map (Some x) make is e = of_some (make x) (is x refl) e

  of_src : (made : Instruction) → (0 ≡ f.src → fields_of made ≡ f) → cond (f.src == 0) (Some made) None ≡ Some i → fields_of i ≡ f
  of_src made is = by_test (f.src == 0) refl
    where
      by_test : (b : Bool) → (f.src == 0) ≡ b → cond b (Some made) None ≡ Some i → fields_of i ≡ f
      by_test true t e = of_some made (is (let number : 0 ≡ f.src = grind (arith, nat_tests) in number)) e
      by_test false t e = absurd cc

  spelled_as : (o : Opcode) (dst src : Register) → FieldsFit f → byte_of o ≡ f.opcode → number_of dst ≡ f.dst → number_of src ≡ f.src → AreZero (uses_of o) f → instruction_of o dst src f ≡ Some i → fields_of i ≡ f
  unfolding instruction_of fields_of on_register
  spelled_as opcode.LoadWide dst src fit eo ed es none e =
      let small = below_half f fit in
      let whole : cast_unsigned w32 f.immediate % 2 ^ 32 ≡ cast_unsigned w32 f.immediate = omega arith in
      of_src (instruction.LoadWide dst (cast_unsigned w32 f.immediate))
      (λ src_0. slot_is opcode.LoadWide f (number_of dst) 0 (pos 0) (cast_signed w32 (cast_unsigned w32 f.immediate % 2 ^ 32)) eo ed src_0 (none.offset refl) (ap (cast_signed w32) whole ∙ to_z-of_z w32 f.immediate fit.immediate)) e
  spelled_as (opcode.Load kind) dst src fit eo ed es none e = of_some (instruction.Load kind dst src f.offset) (slot_is (opcode.Load kind) f (number_of dst) (number_of src) f.offset (pos 0) eo ed es refl (none.immediate refl)) e
  spelled_as (opcode.StoreImmediate size) dst src fit eo ed es none e = of_some (instruction.StoreImmediate size dst f.offset f.immediate) (slot_is (opcode.StoreImmediate size) f (number_of dst) 0 f.offset f.immediate eo ed (none.src refl) refl refl) e
  spelled_as (opcode.StoreRegister size) dst src fit eo ed es none e = of_some (instruction.StoreRegister size dst src f.offset) (slot_is (opcode.StoreRegister size) f (number_of dst) (number_of src) f.offset (pos 0) eo ed es refl (none.immediate refl)) e
  spelled_as (opcode.Arithmetic width c Immediate) dst src fit eo ed es none e =
      of_map (operation_of c f.offset) (λ op. instruction.Arithmetic width op dst (source.Immediate f.immediate))
      (λ op known.
      let is = operation_is c f.offset op none.offset known in
      slot_is (opcode.Arithmetic width (code_of op) Immediate) f (number_of dst) 0 (operation_offset op) f.immediate (ap (λ (x : ArithmeticCode). byte_of (opcode.Arithmetic width x Immediate)) is.0 ∙ eo) ed (none.src refl) is.1 refl) e
  spelled_as (opcode.Arithmetic width c InRegister) dst src fit eo ed es none e =
      by_test (is_move c && not (int_eq f.offset (pos 0))) refl e
    where
      moved : (kind : SignExtendingMove) → is_move c ≡ true → extension_of width f.offset ≡ Some kind → fields_of (instruction.MoveSignExtended kind dst src) ≡ f
      moved kind is known =
          let (w, off) = extension_is width f.offset kind known in
          slot_is (opcode.Arithmetic (extension_width kind) code.Mov InRegister) f (number_of dst) (number_of src) (extension_offset kind) (pos 0)
          (ap (λ (x : Width). byte_of (opcode.Arithmetic x code.Mov InRegister)) w ∙ ap (λ (x : ArithmeticCode). byte_of (opcode.Arithmetic width x InRegister)) (sym (the_move c is)) ∙ eo) ed es off (none.immediate refl)

      plain : (op : BinaryOperation) → (is_move c && not (int_eq f.offset (pos 0))) ≡ false → operation_of c f.offset ≡ Some op → fields_of (instruction.Arithmetic width op dst (source.Register src)) ≡ f
      plain op unmoved known =
          let is = operation_is c f.offset op (no_offset c f.offset unmoved none.offset) known in
          slot_is (opcode.Arithmetic width (code_of op) InRegister) f (number_of dst) (number_of src) (operation_offset op) (pos 0) (ap (λ (x : ArithmeticCode). byte_of (opcode.Arithmetic width x InRegister)) is.0 ∙ eo) ed es is.1 (none.immediate refl)

      by_test : (b : Bool) → (is_move c && not (int_eq f.offset (pos 0))) ≡ b → cond b (option_map (λ kind. instruction.MoveSignExtended kind dst src) (extension_of width f.offset)) (option_map (λ op. instruction.Arithmetic width op dst (source.Register src)) (operation_of c f.offset)) ≡ Some i → fields_of i ≡ f
      by_test true t = of_map (extension_of width f.offset) (λ kind. instruction.MoveSignExtended kind dst src) (λ kind known. moved kind (and_parts (is_move c) (not (int_eq f.offset (pos 0))) t).0 known)
      by_test false t = of_map (operation_of c f.offset) (λ op. instruction.Arithmetic width op dst (source.Register src)) (λ op known. plain op t known)
  spelled_as (opcode.Negate width) dst src fit eo ed es none e = of_some (instruction.Negate width dst) (slot_is (opcode.Negate width) f (number_of dst) 0 (pos 0) (pos 0) eo ed (none.src refl) (none.offset refl) (none.immediate refl)) e
  spelled_as (opcode.End way) dst src fit eo ed es none e =
      of_map (end_width_of f.immediate) (λ width. instruction.End way width dst)
      (λ width known. slot_is (opcode.End way) f (number_of dst) 0 (pos 0) (end_immediate width) eo ed (none.src refl) (none.offset refl) (end_is f.immediate width known)) e
  spelled_as (opcode.Jump Bits64) dst src fit eo ed es none e = of_some (instruction.Jump f.offset) (slot_is (opcode.Jump Bits64) f 0 0 f.offset (pos 0) eo (none.dst refl) (none.src refl) refl (none.immediate refl)) e
  spelled_as (opcode.Jump Bits32) dst src fit eo ed es none e = of_some (instruction.LongJump f.immediate) (slot_is (opcode.Jump Bits32) f 0 0 (pos 0) f.immediate eo (none.dst refl) (none.src refl) (none.offset refl) refl) e
  spelled_as (opcode.Branch width condition Immediate) dst src fit eo ed es none e =
      of_some (instruction.Branch width condition dst (source.Immediate f.immediate) f.offset) (slot_is (opcode.Branch width condition Immediate) f (number_of dst) 0 f.offset f.immediate eo ed (none.src refl) refl refl) e
  spelled_as (opcode.Branch width condition InRegister) dst src fit eo ed es none e =
      of_some (instruction.Branch width condition dst (source.Register src) f.offset) (slot_is (opcode.Branch width condition InRegister) f (number_of dst) (number_of src) f.offset (pos 0) eo ed es refl (none.immediate refl)) e
  spelled_as opcode.Call dst src fit eo ed es none e = of_src (instruction.Call f.immediate) (λ src_0. slot_is opcode.Call f 0 0 (pos 0) f.immediate eo (none.dst refl) src_0 (none.offset refl) refl) e
  spelled_as opcode.Exit dst src fit eo ed es none e = of_some instruction.Exit (slot_is opcode.Exit f 0 0 (pos 0) (pos 0) eo (none.dst refl) (none.src refl) (none.offset refl) (none.immediate refl)) e

read_is_spelled : (f : Fields) (i : Instruction) → FieldsFit f → reading_of f ≡ Ok i → fields_of i ≡ f
read_is_spelled f i fit e =
    let (o, dst, src, known, known_dst, known_src, unused, is) = read_parts f i e in
    spelled_as f i o dst src fit (opcode_again f.opcode o known) (register_again f.dst dst known_dst) (register_again f.src src known_src) (are_zero (uses_of o) f unused) is

-- ---- all slots

-- the second half of a wide load
half_is_spelled : (f : Fields) (high : ℕ) → FieldsFit f → half_reading_of f ≡ Ok high → second_half high ≡ f
unfolding half_reading_of
half_is_spelled f high fit = by_tests (unused_are_zero used f) refl (f.opcode == 0) refl
  where
    used : Uses
    used = fields_used false false false true

    same : (a b : ℕ) → high_half a ≡ high_half b → a ≡ b
    same a b e = cc

    by_tests : (a : Bool) → unused_are_zero used f ≡ a → (b : Bool) → (f.opcode == 0) ≡ b → cond (a && b) (high_half (cast_unsigned w32 f.immediate)) (Err fault_cause.UnusedField) ≡ Ok high → second_half high ≡ f
    by_tests false ea b eb e = absurd cc
    by_tests true ea false eb e = absurd cc
    by_tests true ea true eb e =
        let none = are_zero used f ea in
        let first : 0 ≡ f.opcode = grind (arith, nat_tests) in
        let dst = none.dst refl in
        let src = none.src refl in
        let offset = none.offset refl in
        let immediate = ap (cast_signed w32) (sym (same (cast_unsigned w32 f.immediate) high e)) ∙ to_z-of_z w32 f.immediate fit.immediate in
        λ i. record { opcode = first i; dst = dst i; src = src i; offset = offset i; immediate = immediate i }

completed_wide : (dst : Register) (low high : ℕ) → low < 2 ^ 32 → high < 2 ^ 32
    → instruction_bytes (completed_load (instruction.LoadWide dst low) high) ≡ bytes_of (fields_of (instruction.LoadWide dst low)) ++ bytes_of (second_half high)
unfolding instruction_bytes fields_of
completed_wide dst low high half below =
    let low_part : (low + 2 ^ 32 * high) % 2 ^ 32 ≡ low % 2 ^ 32 = omega arith in
    let high_part : (low + 2 ^ 32 * high) / 2 ^ 32 ≡ high = omega arith in
    λ i. bytes_of (slot opcode.LoadWide (number_of dst) 0 (pos 0) (cast_signed w32 (low_part i))) ++ bytes_of (second_half (high_part i))

completed_bytes : (first : Instruction) (high : ℕ) → IsFirstHalf first → high < 2 ^ 32 → instruction_bytes (completed_load first high) ≡ bytes_of (fields_of first) ++ bytes_of (second_half high)
completed_bytes first high half below =
    by_first_half (λ (i : Instruction). instruction_bytes (completed_load i high) ≡ bytes_of (fields_of i) ++ bytes_of (second_half high)) (λ dst low small. completed_wide dst low high small below) first half

slots_spelled : (fs : List Fields) (half : Option Instruction) (at : ℕ) (p : Program) → AllByRecursion FieldsFit fs → IsHalf half → reading_of_slots half at fs ≡ Ok p → spelling p ≡ half_bytes half ++ flat_map bytes_of fs
unfolding reading_of_slots
slots_spelled [] None at p fit waits e = ap spelling (sym (program_is [] p e))
slots_spelled [] (Some first) at p fit waits e = absurd cc
slots_spelled (f ∷ fs) None at p fit waits e =
    let (i, is, e1) = of_slot at (reading_of f) (λ i. cond (is_wide i) (reading_of_slots (Some i) (at + 1) fs) (with_front (Some i ∷ []) (reading_of_slots None (at + 1) fs))) p e in
    let spelled = read_is_spelled f i fit.0 is in
    let read = reads f i fit.0 is in
    elim (is_wide i) as (λ w. is_wide i ≡ w → cond w (reading_of_slots (Some i) (at + 1) fs) (with_front (Some i ∷ []) (reading_of_slots None (at + 1) fs)) ≡ Ok p → spelling p ≡ bytes_of f ++ flat_map bytes_of fs) [
      | true ↦ λ wide h. slots_spelled fs (Some i) (at + 1) p fit.1 (read.1 wide) h ∙ ap (λ (x : Fields). bytes_of x ++ flat_map bytes_of fs) spelled
      | false ↦ λ short h.
          let (q, was, same) = with_front_ok (Some i ∷ []) (reading_of_slots None (at + 1) fs) p h in
          let later = slots_spelled fs None (at + 1) q fit.1 tt was in
          ap spelling same ∙ ap (λ (xs : List ℕ). xs ++ spelling q) (instruction_bytes-short i short ∙ ap bytes_of spelled) ∙ ap (λ (xs : List ℕ). bytes_of f ++ xs) later
    ] refl e1
slots_spelled (f ∷ fs) (Some first) at p fit waits e =
    let (high, is, e1) = of_slot at (half_reading_of f) (λ high. with_front (Some (completed_load first high) ∷ None ∷ []) (reading_of_slots None (at + 1) fs)) p e in
    let (q, was, same) = with_front_ok (Some (completed_load first high) ∷ None ∷ []) (reading_of_slots None (at + 1) fs) p e1 in
    let later = slots_spelled fs None (at + 1) q fit.1 tt was in
    ap spelling same
    ∙ ap (λ (xs : List ℕ). xs ++ spelling q) (completed_bytes first high waits (half_below f high fit.0 is) ∙ ap (λ (x : Fields). bytes_of (fields_of first) ++ bytes_of x) (half_is_spelled f high fit.0 is))
    ∙ append_assoc (bytes_of (fields_of first)) (bytes_of f) (spelling q)
    ∙ ap (λ (xs : List ℕ). bytes_of (fields_of first) ++ (bytes_of f ++ xs)) later

bytes_again : (n : ℕ) (bytes : List ℕ) → length bytes ≡ 8 * n → All (λ b. b < 256) bytes → flat_map bytes_of (slots_of bytes) ≡ bytes
unfolding slots_of
bytes_again zero [] e are = refl
bytes_again zero (b ∷ bytes) e are = absurd (omega (arith, e))
bytes_again (suc n) bytes e are =
    let many : 8 ≤ length bytes = omega arith in
    let rest : length (drop 8 bytes) ≡ 8 * n = omega (arith, length-drop 8 bytes) in
    let later = bytes_again n (drop 8 bytes) rest (All-drop (λ b. b < 256) 8 bytes are) in
    ap (flat_map bytes_of) (slots_of-cons bytes many)
    ∙ ap (λ (xs : List ℕ). xs ++ flat_map bytes_of (slots_of (drop 8 bytes))) (first_bytes bytes many (λ i. index_byte bytes i are))
    ∙ ap (λ (xs : List ℕ). take 8 bytes ++ xs) later ∙ take-append-drop 8 bytes

-- bytes that decode to a program are its spelling
pub decoded_is_spelled : (bytes : List ℕ) (p : Program) → All (λ b. b < 256) bytes → program_of bytes ≡ Ok p → spelling p ≡ bytes
decoded_is_spelled bytes p are e =
    let (n, long, read) = whole_slots bytes p e in
    slots_spelled (slots_of bytes) None 0 p (fields_are n bytes long).0 tt read ∙ bytes_again n bytes long are
