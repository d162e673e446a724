-- Words that are places, moved by an operation.
use Rattle.std.proofs.Common.{◌≡◌, ℕ, ◌+◌, ◌-◌, ◌%◌, ◌^◌, ◌<◌, ◌≤◌, ℤ, pos, negsuc, ◌+ℤ◌, ◌-ℤ◌, neg_ℤ, unsigned_abs, nat_le, true, false, Option, Some, None, refl, lit<, lit≤, inl, inr, ap, subst, suc, arith, if◌then◌else◌}
use Rattle.std.proofs.lemmas.Int.{ints, to_z_pos}
use Rattle.std.proofs.lemmas.Bool.{cases_lt}
use Rattle.std.proofs.lemmas.Bool.Decides.{nat_tests}
use Rattle.std.proofs.Math.Nat.{mod-eq_of_lt}
use Rattle.std.specs.Option.{option_map}
use Rattle.std.specs.Int.{w64, cast_signed}
use Rattle.bpf_words.specs.declared.operation.BinaryOperation.{BinaryOperation}
use Rattle.bpf_words.specs.declared.operation.BinaryOperation.TheVariants.{Add, Sub, Mov}
use Rattle.bpf_words.specs.declared.operation.Operation.TheVariants.{Binary}
use Rattle.bpf_words.specs.Operation.{alu, binary_value}
use Rattle.bpf_words.specs.Word.{word}
use Rattle.bpf_code.specs.Sizes.{width_bits}
use Rattle.bpf_code.specs.declared.instruction.Width.{Width}
use Rattle.bpf_code.specs.declared.instruction.Width.TheVariants.{Bits32, Bits64}
use Rattle.bpf_semantics.specs.declared.value.Value.{Value}
use Rattle.bpf_semantics.specs.declared.value.Value.TheVariants.{Nothing, Number, Stack, Args}
use Rattle.bpf_semantics.specs.Step.{near_place, moved_place, operation_result}
use Rattle.vm_state.specs.Words.{IsWordOfPlace, IsWordOf}

near_is : (z q : ℤ) → near_place z ≡ Some q → (q ≡ z) × (unsigned_abs z ≤ 65536)
near_is z q e = elim (nat_le (unsigned_abs z) 65536) as (λ t. nat_le (unsigned_abs z) 65536 ≡ t → (if t then Some z else None) ≡ Some q → (q ≡ z) × (unsigned_abs z ≤ 65536)) [
  | true ↦ λ t e. (cc, grind (arith, nat_tests))
  | false ↦ λ t e. absurd cc
] refl e

low_signed : (b : ℕ) → b < 2 ^ 63 → cast_signed w64 b ≡ pos b
low_signed b h = to_z_pos w64 b h

high_signed : (b : ℕ) → 2 ^ 63 ≤ b → cast_signed w64 b ≡ negsuc (2 ^ 64 - suc b)
high_signed b h = grind (arith, nat_tests)

-- a sum of words is the place that is moved
added : (base w b : ℕ) (p : ℤ) → 131072 ≤ base → base < 2 ^ 42 → IsWordOfPlace base p w → b < 2 ^ 64 → unsigned_abs (p +ℤ cast_signed w64 b) ≤ 65536 → pos ((w + b) % 2 ^ 64) ≡ pos base +ℤ (p +ℤ cast_signed w64 b)
added base w b p low high is fits close = elim (cases_lt b (2 ^ 63)) [
  | inl h ↦ let e = low_signed b h in omega (arith, ints, is.near, is.word, e)
  | inr h ↦ let e = high_signed b h in omega (arith, ints, is.near, is.word, e)
]

subtracted : (base w b : ℕ) (p : ℤ) → 131072 ≤ base → base < 2 ^ 42 → IsWordOfPlace base p w → b < 2 ^ 64 → unsigned_abs (p +ℤ neg_ℤ (cast_signed w64 b)) ≤ 65536 → pos (word 64 (pos w -ℤ pos b)) ≡ pos base +ℤ (p +ℤ neg_ℤ (cast_signed w64 b))
subtracted base w b p low high is fits close = elim (cases_lt b (2 ^ 63)) [
  | inl h ↦
      let e = low_signed b h in
      let le : b ≤ w = omega (arith, ints, is.near, is.word, e) in
      let d : pos w -ℤ pos b ≡ pos (w - b) = omega (arith, ints) in
      rw d (omega (arith, ints, is.near, is.word, e))
  | inr h ↦
      let e = high_signed b h in
      let more : w < b = omega (arith, ints, is.near, is.word) in
      let d : pos w -ℤ pos b ≡ negsuc (b - w - 1) = omega (arith, ints) in
      let c : (b - w - 1) % 2 ^ 64 ≡ b - w - 1 = mod-eq_of_lt {n = b - w - 1} (omega arith) in
      rw d (omega (arith, ints, is.near, is.word, e, c))
]

moved_on : (base w b : ℕ) (p q : ℤ) → 131072 ≤ base → base < 2 ^ 42 → IsWordOfPlace base p w → b < 2 ^ 64 → near_place (p +ℤ cast_signed w64 b) ≡ Some q → IsWordOfPlace base q ((w + b) % 2 ^ 64)
moved_on base w b p q low high is fits e =
    let (same, close) = near_is (p +ℤ cast_signed w64 b) q e in
    rw same (record { near = close; word = added base w b p low high is fits close })

moved_back : (base w b : ℕ) (p q : ℤ) → 131072 ≤ base → base < 2 ^ 42 → IsWordOfPlace base p w → b < 2 ^ 64 → near_place (p +ℤ neg_ℤ (cast_signed w64 b)) ≡ Some q → IsWordOfPlace base q (word 64 (pos w -ℤ pos b))
moved_back base w b p q low high is fits e =
    let (same, close) = near_is (p +ℤ neg_ℤ (cast_signed w64 b)) q e in
    rw same (record { near = close; word = subtracted base w b p low high is fits close })

pub mapped : {X Y : Type 0} (f : X → Y) (o : Option X) (y : Y) → option_map f o ≡ Some y → (x : X) × (o ≡ Some x) × (y ≡ f x)
mapped f None y e = absurd cc
mapped f (Some x) y e = (x, refl, cc)

stack_moved : (w b : ℕ) (p d : ℤ) (v : Value) (r : ℕ) → ((q : ℤ) → near_place (p +ℤ d) ≡ Some q → IsWordOfPlace (2 ^ 40) q r) → moved_place (Stack p) d ≡ Some v → IsWordOf v r
stack_moved w b p d v r h e = let (q, is, same) = mapped (λ q. Stack q) (near_place (p +ℤ d)) v e in rw same (h q is)

args_moved : (w b : ℕ) (p d : ℤ) (v : Value) (r : ℕ) → ((q : ℤ) → near_place (p +ℤ d) ≡ Some q → IsWordOfPlace (2 ^ 41) q r) → moved_place (Args p) d ≡ Some v → IsWordOf v r
args_moved w b p d v r h e = let (q, is, same) = mapped (λ q. Args q) (near_place (p +ℤ d)) v e in rw same (h q is)

value_is : (x v : Value) (w : ℕ) → Some x ≡ Some v → IsWordOf x w → IsWordOf v w
value_is x v w e h = let s : x ≡ v = cc in subst (λ (y : Value). IsWordOf y w) s h

cut : (w : ℕ) → w < 2 ^ 64 → w % 2 ^ 64 ≡ w
cut w h = mod-eq_of_lt h

-- what an operation gives on words is what it gives on the values that they stand for
operation_word64 : (op : BinaryOperation) (a b v : Value) (x y : ℕ) → x < 2 ^ 64 → y < 2 ^ 64 → IsWordOf a x → IsWordOf b y → operation_result Bits64 op a b ≡ Some v → IsWordOf v (alu 64 (Binary op) x y)
unfolding operation_result alu binary_value
operation_word64 Mov a (Stack p) v x y fx fy ia ib e = rw (cut y fy) (value_is (Stack p) v y e ib)
operation_word64 Mov a (Args p) v x y fx fy ia ib e = rw (cut y fy) (value_is (Args p) v y e ib)
operation_word64 Mov a (Number b) v x y fx fy ia ib e = value_is _ v _ e (ap (λ n. n % 2 ^ 64) ib)
operation_word64 Mov a Nothing v x y fx fy ia ib e = absurd cc
operation_word64 Add (Stack p) (Number b) v x y fx fy ia ib e = rw (cut x fx, cut y fy) (stack_moved x y p _ v _ (λ q h. moved_on (2 ^ 40) x y p q (lit≤ tt) (lit< tt) ia fy (rw (← ib) at h)) e)
operation_word64 Add (Args p) (Number b) v x y fx fy ia ib e = rw (cut x fx, cut y fy) (args_moved x y p _ v _ (λ q h. moved_on (2 ^ 41) x y p q (lit≤ tt) (lit< tt) ia fy (rw (← ib) at h)) e)
operation_word64 Sub (Stack p) (Number b) v x y fx fy ia ib e = rw (cut x fx, cut y fy) (stack_moved x y p _ v _ (λ q h. moved_back (2 ^ 40) x y p q (lit≤ tt) (lit< tt) ia fy (rw (← ib) at h)) e)
operation_word64 Sub (Args p) (Number b) v x y fx fy ia ib e = rw (cut x fx, cut y fy) (args_moved x y p _ v _ (λ q h. moved_back (2 ^ 41) x y p q (lit≤ tt) (lit< tt) ia fy (rw (← ib) at h)) e)
operation_word64 op (Number a) (Number b) v x y fx fy ia ib e = rw (ia, ib) (value_is _ v _ e refl)
operation_word64 op Nothing (Number b) v x y fx fy ia ib e = absurd cc
operation_word64 op (Stack p) (Number b) v x y fx fy ia ib e = absurd cc
operation_word64 op (Args p) (Number b) v x y fx fy ia ib e = absurd cc
operation_word64 op Nothing Nothing v x y fx fy ia ib e = absurd cc
operation_word64 op (Number a) Nothing v x y fx fy ia ib e = absurd cc
operation_word64 op (Stack p) Nothing v x y fx fy ia ib e = absurd cc
operation_word64 op (Args p) Nothing v x y fx fy ia ib e = absurd cc
operation_word64 op Nothing (Stack q) v x y fx fy ia ib e = absurd cc
operation_word64 op (Number a) (Stack q) v x y fx fy ia ib e = absurd cc
operation_word64 op (Stack p) (Stack q) v x y fx fy ia ib e = absurd cc
operation_word64 op (Args p) (Stack q) v x y fx fy ia ib e = absurd cc
operation_word64 op Nothing (Args q) v x y fx fy ia ib e = absurd cc
operation_word64 op (Number a) (Args q) v x y fx fy ia ib e = absurd cc
operation_word64 op (Stack p) (Args q) v x y fx fy ia ib e = absurd cc
operation_word64 op (Args p) (Args q) v x y fx fy ia ib e = absurd cc

-- at 32 bits only numbers have a result
operation_word32 : (op : BinaryOperation) (a b v : Value) (x y : ℕ) → IsWordOf a x → IsWordOf b y → operation_result Bits32 op a b ≡ Some v → IsWordOf v (alu 32 (Binary op) x y)
unfolding operation_result alu binary_value
operation_word32 Mov a (Number b) v x y ia ib e = value_is _ v _ e (ap (λ n. n % 2 ^ 32) ib)
operation_word32 Mov a Nothing v x y ia ib e = absurd cc
operation_word32 Mov a (Stack p) v x y ia ib e = absurd cc
operation_word32 Mov a (Args p) v x y ia ib e = absurd cc
operation_word32 op (Number a) (Number b) v x y ia ib e = rw (ia, ib) (value_is _ v _ e refl)
operation_word32 op Nothing (Number b) v x y ia ib e = absurd cc
operation_word32 op (Stack p) (Number b) v x y ia ib e = absurd cc
operation_word32 op (Args p) (Number b) v x y ia ib e = absurd cc
operation_word32 op Nothing Nothing v x y ia ib e = absurd cc
operation_word32 op (Number a) Nothing v x y ia ib e = absurd cc
operation_word32 op (Stack p) Nothing v x y ia ib e = absurd cc
operation_word32 op (Args p) Nothing v x y ia ib e = absurd cc
operation_word32 op Nothing (Stack q) v x y ia ib e = absurd cc
operation_word32 op (Number a) (Stack q) v x y ia ib e = absurd cc
operation_word32 op (Stack p) (Stack q) v x y ia ib e = absurd cc
operation_word32 op (Args p) (Stack q) v x y ia ib e = absurd cc
operation_word32 op Nothing (Args q) v x y ia ib e = absurd cc
operation_word32 op (Number a) (Args q) v x y ia ib e = absurd cc
operation_word32 op (Stack p) (Args q) v x y ia ib e = absurd cc
operation_word32 op (Args p) (Args q) v x y ia ib e = absurd cc

pub operation_word : (width : Width) (op : BinaryOperation) (a b v : Value) (x y : ℕ) → x < 2 ^ 64 → y < 2 ^ 64 → IsWordOf a x → IsWordOf b y → operation_result width op a b ≡ Some v → IsWordOf v (alu (width_bits width) (Binary op) x y)
operation_word Bits64 op a b v x y fx fy ia ib e = operation_word64 op a b v x y fx fy ia ib e
operation_word Bits32 op a b v x y fx fy ia ib e = operation_word32 op a b v x y ia ib e
