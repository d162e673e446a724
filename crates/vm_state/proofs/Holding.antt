-- The states that words stand for, after a register or the slot is written.
use Rattle.std.proofs.Common.{◌≡◌, ℕ, zero, suc, ◌+◌, ◌^◌, ◌<◌, ℤ, pos, negsuc, List, [], ◌∷◌, ◌++◌, length, take, drop, replicate, true, false, Bool, if◌then◌else◌, Option, Some, None, refl, sym, ◌∙◌, ap, subst, arith, lit≤, length-take}
use Rattle.std.proofs.Math.ListN.{set}
use Rattle.std.proofs.lemmas.List.{length-set, take-append-drop}
use Rattle.std.specs.List.{AllZip}
use Rattle.bpf_words.specs.declared.operation.BinaryOperation.{BinaryOperation}
use Rattle.bpf_words.specs.declared.operation.ByteOrder.{ByteOrder}
use Rattle.bpf_words.specs.declared.operation.EndWidth.{EndWidth}
use Rattle.bpf_words.specs.declared.operation.Operation.TheVariants.{Binary, Neg, Movsx}
use Rattle.bpf_words.specs.declared.condition.Condition.{Condition}
use Rattle.bpf_words.specs.Operation.{alu}
use Rattle.bpf_words.specs.Condition.{holds}
use Rattle.bpf_words.specs.End.{end_value}
use Rattle.bpf_code.specs.declared.instruction.Register.{Register}
use Rattle.bpf_code.specs.declared.instruction.Register.TheVariants.{R0}
use Rattle.bpf_code.specs.declared.instruction.Width.{Width}
use Rattle.bpf_code.specs.declared.instruction.SignExtendingMove.{SignExtendingMove}
use Rattle.bpf_code.specs.declared.instruction.Source.{Source}
use Rattle.bpf_code.specs.declared.instruction.Source.TheVariants as source
use Rattle.bpf_code.specs.declared.instruction.Instruction.TheVariants.{LoadWide, Arithmetic, Negate, MoveSignExtended, End, Jump, LongJump, Branch, Exit}
use Rattle.bpf_code.specs.Register.{number_of}
use Rattle.bpf_code.specs.Sizes.{width_bits, extension_width}
use Rattle.schema.specs.Schema.{Tables}
use Rattle.schema.specs.Rows.{Rows}
use Rattle.bpf_semantics.specs.declared.value.Value.{Value}
use Rattle.bpf_semantics.specs.declared.value.Value.TheVariants.{Nothing, Number, Stack, Args}
use Rattle.bpf_semantics.specs.State.{State, entry_state, register, with_register, past, number}
use Rattle.bpf_semantics.specs.Helpers.{with_answer}
use Rattle.bpf_semantics.specs.Step.{Going, Ended, Stuck, execute, or_stuck, with_result, after_jump, is_read_only, operation_result, operand, low_bits}
use Rattle.vm_state.specs.Words.{Words, IsWordOf, IsByteOf, Holds, HoldsNext, word}
use Rattle.vm_state.specs.Access.{operand_word, words_past, with_word}
use Rattle.vm_state.proofs.Zip.{zip_at, zip_set, zip_drop, zip_append}
use Rattle.vm_state.proofs.Places.{operation_word}

pub word_holds : (s : State) (m : Words) (r : Register) → Holds s m → IsWordOf (register s r) (word m r)
word_holds s m r h = zip_at IsWordOf s.registers m.registers (number_of r) Nothing 0 tt h.registers

operand_holds : (s : State) (m : Words) (src : Source) → Holds s m → IsWordOf (operand s src) (operand_word m src)
operand_holds s m (source.Immediate immediate) h = refl
operand_holds s m (source.Register r) h = word_holds s m r h

pub number_word : (v : Value) (w n : ℕ) → IsWordOf v w → number v ≡ Some n → w ≡ n
number_word Nothing w n is e = absurd cc
number_word (Number k) w n is e = let s : k ≡ n = cc in is ∙ s
number_word (Stack _) w n is e = absurd cc
number_word (Args _) w n is e = absurd cc

pub same_words : (s t : State) (m : Words) → t.slot ≡ s.slot → t.registers ≡ s.registers → t.stack ≡ s.stack → t.args ≡ s.args → Holds s m → Holds t m
same_words s t m slot registers stack args h = record {
  slot = h.slot ∙ sym slot;
  registers = subst (λ l. AllZip IsWordOf l m.registers) (sym registers) h.registers;
  eleven = h.eleven;
  stack = subst (λ l. AllZip IsByteOf l m.stack) (sym stack) h.stack;
  bytes = h.bytes;
  args = h.args ∙ sym args;
}

-- ---- slot and register

pub past_holds : (s : State) (m : Words) (slots : ℕ) → Holds s m → Holds (past slots s) (words_past slots m)
past_holds s m slots h = record {
  slot = ap (λ n. n + slots) h.slot;
  registers = h.registers;
  eleven = h.eleven;
  stack = h.stack;
  bytes = h.bytes;
  args = h.args;
}

register_holds : (s : State) (m : Words) (r : Register) (v : Value) (w : ℕ) → Holds s m → IsWordOf v w → Holds (with_register s r v) (with_word m r w)
register_holds s m r v w h is = record {
  slot = h.slot;
  registers = zip_set IsWordOf s.registers m.registers (number_of r) v w is h.registers;
  eleven = length-set m.registers (number_of r) w ∙ h.eleven;
  stack = h.stack;
  bytes = h.bytes;
  args = h.args;
}

pub result_holds : (s : State) (m : Words) (slots : ℕ) (r : Register) (v : Value) (w : ℕ) → Holds s m → IsWordOf v w → HoldsNext (with_result slots r v s) (words_past slots (with_word m r w))
result_holds s m slots r v w h is =
    elim (is_read_only r) as (λ t. HoldsNext (if t then Stuck else Going (past slots (with_register s r v))) (words_past slots (with_word m r w))) [
      | true ↦ tt
      | false ↦ past_holds _ _ slots (register_holds s m r v w h is)
    ]

-- a result that may be none
option_holds : (s : State) (m : Words) (r : Register) (o : Option Value) (w : ℕ) → Holds s m → ((v : Value) → o ≡ Some v → IsWordOf v w) → HoldsNext (or_stuck o (λ v. with_result 1 r v s)) (words_past 1 (with_word m r w))
unfolding or_stuck
option_holds s m r None w h is = tt
option_holds s m r (Some v) w h is = result_holds s m 1 r v w h (is v refl)

-- a number made of a number
number_holds : (s : State) (m : Words) (r : Register) (v : Value) (w : ℕ) (f : ℕ → ℕ) → Holds s m → IsWordOf v w → HoldsNext (or_stuck (number v) (λ a. with_result 1 r (Number (f a)) s)) (words_past 1 (with_word m r (f w)))
unfolding or_stuck
number_holds s m r Nothing w f h is = tt
number_holds s m r (Number n) w f h is = result_holds s m 1 r (Number (f n)) (f w) h (ap f is)
number_holds s m r (Stack _) w f h is = tt
number_holds s m r (Args _) w f h is = tt

-- ---- instructions

pub load_wide_holds : (tables : Tables) (s : State) (m : Words) (dst : Register) (value : ℕ) → Holds s m → HoldsNext (execute tables (LoadWide dst value) s) (words_past 2 (with_word m dst value))
unfolding execute
load_wide_holds tables s m dst value h = result_holds s m 2 dst (Number value) value h refl

pub arithmetic_holds : (tables : Tables) (s : State) (m : Words) (width : Width) (op : BinaryOperation) (dst : Register) (src : Source) → word m dst < 2 ^ 64 → operand_word m src < 2 ^ 64 → Holds s m → HoldsNext (execute tables (Arithmetic width op dst src) s) (words_past 1 (with_word m dst (alu (width_bits width) (Binary op) (word m dst) (operand_word m src))))
unfolding execute
arithmetic_holds tables s m width op dst src fx fy h =
    option_holds s m dst (operation_result width op (register s dst) (operand s src)) _ h
    (λ v e. operation_word width op (register s dst) (operand s src) v (word m dst) (operand_word m src) fx fy (word_holds s m dst h) (operand_holds s m src h) e)

pub negate_holds : (tables : Tables) (s : State) (m : Words) (width : Width) (dst : Register) → Holds s m → HoldsNext (execute tables (Negate width dst) s) (words_past 1 (with_word m dst (alu (width_bits width) Neg (word m dst) 0)))
unfolding execute
negate_holds tables s m width dst h = number_holds s m dst (register s dst) (word m dst) (λ a. alu (width_bits width) Neg a 0) h (word_holds s m dst h)

pub move_holds : (tables : Tables) (s : State) (m : Words) (kind : SignExtendingMove) (dst src : Register) → Holds s m → HoldsNext (execute tables (MoveSignExtended kind dst src) s) (words_past 1 (with_word m dst (alu (width_bits (extension_width kind)) (Movsx (low_bits kind)) 0 (word m src))))
unfolding execute
move_holds tables s m kind dst src h = number_holds s m dst (register s src) (word m src) (λ b. alu (width_bits (extension_width kind)) (Movsx (low_bits kind)) 0 b) h (word_holds s m src h)

pub end_holds : (tables : Tables) (s : State) (m : Words) (order : ByteOrder) (width : EndWidth) (dst : Register) → Holds s m → HoldsNext (execute tables (End order width dst) s) (words_past 1 (with_word m dst (end_value order width (word m dst))))
unfolding execute
end_holds tables s m order width dst h = number_holds s m dst (register s dst) (word m dst) (λ a. end_value order width a) h (word_holds s m dst h)

-- one that jumps or not, by two numbers
branch_by : (s : State) (m n : Words) (a b : Value) (x y : ℕ) (distance : ℤ) (test : ℕ → ℕ → Bool) → IsWordOf a x → IsWordOf b y → HoldsNext (if test x y then after_jump distance s else Going (past 1 s)) n → HoldsNext (or_stuck (number a) (λ a. or_stuck (number b) (λ b. if test a b then after_jump distance s else Going (past 1 s)))) n
unfolding or_stuck
branch_by s m n (Number a) (Number b) x y distance test ia ib next = rw (ia, ib) at next
branch_by s m n (Number a) Nothing x y distance test ia ib next = tt
branch_by s m n (Number a) (Stack _) x y distance test ia ib next = tt
branch_by s m n (Number a) (Args _) x y distance test ia ib next = tt
branch_by s m n Nothing b x y distance test ia ib next = tt
branch_by s m n (Stack _) b x y distance test ia ib next = tt
branch_by s m n (Args _) b x y distance test ia ib next = tt

pub taken_holds : (tables : Tables) (s : State) (m n : Words) (width : Width) (condition : Condition) (dst : Register) (src : Source) (distance : ℤ) → Holds s m → holds (width_bits width) condition (word m dst) (operand_word m src) ≡ true → HoldsNext (after_jump distance s) n → HoldsNext (execute tables (Branch width condition dst src distance) s) n
unfolding execute
taken_holds tables s m n width condition dst src distance h e next =
    branch_by s m n (register s dst) (operand s src) (word m dst) (operand_word m src) distance (holds (width_bits width) condition) (word_holds s m dst h) (operand_holds s m src h) (rw e next)

pub not_taken_holds : (tables : Tables) (s : State) (m : Words) (width : Width) (condition : Condition) (dst : Register) (src : Source) (distance : ℤ) → Holds s m → holds (width_bits width) condition (word m dst) (operand_word m src) ≡ false → HoldsNext (execute tables (Branch width condition dst src distance) s) (words_past 1 m)
unfolding execute
not_taken_holds tables s m width condition dst src distance h e =
    branch_by s m (words_past 1 m) (register s dst) (operand s src) (word m dst) (operand_word m src) distance (holds (width_bits width) condition) (word_holds s m dst h) (operand_holds s m src h) (rw e (past_holds s m 1 h))

pub jump_holds : (s : State) (m : Words) (distance : ℤ) (slots : ℕ) → ((d : ℕ) → distance ≡ pos d → slots ≡ 1 + d) → Holds s m → HoldsNext (after_jump distance s) (words_past slots m)
jump_holds s m (pos d) slots is h = rw (is d refl) (past_holds s m (1 + d) h)
jump_holds s m (negsuc d) slots is h = tt

pub jump_is : (tables : Tables) (s : State) (m : Words) (distance : ℤ) → HoldsNext (after_jump distance s) m → HoldsNext (execute tables (Jump distance) s) m
unfolding execute
jump_is tables s m distance next = next

pub long_jump_is : (tables : Tables) (s : State) (m : Words) (distance : ℤ) → HoldsNext (after_jump distance s) m → HoldsNext (execute tables (LongJump distance) s) m
unfolding execute
long_jump_is tables s m distance next = next

exit_is : (v : Value) (s t : State) (w reply : ℕ) → IsWordOf v w → or_stuck (number v) (λ reply. Ended reply (past 0 s)) ≡ Ended reply t → w ≡ reply
unfolding or_stuck
exit_is Nothing s t w reply is e = absurd cc
exit_is (Number n) s t w reply is e = let same : n ≡ reply = cc in is ∙ same
exit_is (Stack _) s t w reply is e = absurd cc
exit_is (Args _) s t w reply is e = absurd cc

pub exit_replies : (tables : Tables) (s t : State) (m : Words) (reply : ℕ) → Holds s m → execute tables Exit s ≡ Ended reply t → word m R0 ≡ reply
unfolding execute
exit_replies tables s t m reply h e = exit_is (register s R0) s t (word m R0) reply (word_holds s m R0 h) e

-- ---- a call's answer

nothing_words : (ys : List ℕ) → AllZip IsWordOf (replicate (length ys) Nothing) ys
nothing_words [] = tt
nothing_words (y ∷ ys) = (tt, nothing_words ys)

answer_registers : (xs : List Value) (ys : List ℕ) (answer : ℕ) → AllZip IsWordOf xs ys → length ys ≡ 11 → AllZip IsWordOf (Number answer ∷ (replicate 5 Nothing ++ drop 6 xs)) (set ys 0 answer)
answer_registers xs [] answer h e = absurd (omega arith)
answer_registers xs (y ∷ ys) answer h e =
    let five : length (take 5 ys) ≡ 5 = omega (arith, length-take {A = ℕ}) in
    let first : AllZip IsWordOf (replicate 5 Nothing) (take 5 ys) = subst (λ (n : ℕ). AllZip IsWordOf (replicate n Nothing) (take 5 ys)) five (nothing_words (take 5 ys)) in
    let rest : AllZip IsWordOf (drop 6 xs) (drop 5 ys) = zip_drop IsWordOf 6 xs (y ∷ ys) h in
    (refl, subst (λ (zs : List ℕ). AllZip IsWordOf (replicate 5 Nothing ++ drop 6 xs) zs) (take-append-drop 5 ys) (zip_append IsWordOf (replicate 5 Nothing) (take 5 ys) (drop 6 xs) (drop 5 ys) first rest))

answer_stands : (s : State) (m : Words) (answer : ℕ) → Holds s m → Holds (with_answer answer s) (with_word m R0 answer)
answer_stands s m answer h = record {
  slot = h.slot;
  registers = answer_registers s.registers m.registers answer h.registers h.eleven;
  eleven = length-set m.registers 0 answer ∙ h.eleven;
  stack = h.stack;
  bytes = h.bytes;
  args = h.args;
}

pub answer_holds : (s : State) (m : Words) (answer : ℕ) → Holds s m → Holds (past 1 (with_answer answer s)) (words_past 1 (with_word m R0 answer))
answer_holds s m answer h = past_holds _ _ 1 (answer_stands s m answer h)

-- ---- the entry

unknown_bytes : (ys : List ℕ) (n : ℕ) → length ys ≡ n → AllZip IsByteOf (replicate n None) ys
unknown_bytes [] zero e = tt
unknown_bytes [] (suc n) e = absurd (omega arith)
unknown_bytes (y ∷ ys) zero e = absurd (omega arith)
unknown_bytes (y ∷ ys) (suc n) e = (tt, unknown_bytes ys n (omega arith))

pub entry_holds : (args : List ℕ) (rows : Rows) (m : Words) → m.slot ≡ 0 → m.registers ≡ 0 ∷ (2 ^ 41) ∷ (replicate 8 0 ++ (2 ^ 40) ∷ []) → length m.stack ≡ 512 → m.args ≡ args → Holds (entry_state args rows) m
entry_holds args rows m slot registers stack is_args = record {
  slot = slot;
  registers = rw registers (tt, (record { near = lit≤ tt; word = refl }, (tt, (tt, (tt, (tt, (tt, (tt, (tt, (tt, (record { near = lit≤ tt; word = refl }, tt)))))))))));
  eleven = rw registers refl;
  stack = unknown_bytes m.stack 512 stack;
  bytes = stack;
  args = is_args;
}
