-- The laws, by cases on the operations and the conditions.
use Rattle.std.proofs.Common.{◌≡◌, ℕ, ◌+◌, ◌-◌, ◌*◌, ◌/◌, ◌%◌, ◌^◌, ◌<◌, ℤ, pos, negsuc, true, false, not, IfSome, Some, None, refl, arith, if◌then◌else◌, ◌==◌, ◌-ℤ◌, nat_lt}
use Rattle.std.specs.Prelude.{◌↔◌}
use Rattle.std.proofs.Math.Nat.{mod-eq_of_lt, div-le_self, mod-le}
use Rattle.std.proofs.lemmas.Nat.{pow_pos, mod_below, or_lt, xor_lt, and_le_l, shr_le}
use Rattle.std.proofs.lemmas.Int.{ints}
use Rattle.std.proofs.lemmas.Bool.Decides.{nat_tests}
use Rattle.bpf_words.specs.Word.{signed_value, word}
use Rattle.bpf_words.specs.Operation.{alu, binary_value}
use Rattle.bpf_words.specs.Condition.{comparison, holds, opposite}
use Rattle.bpf_words.specs.End.{end_value, end_bits, byte_reversal}
use Rattle.bpf_words.specs.declared.condition.Condition.{Condition}
use Rattle.bpf_words.specs.declared.condition.Condition.TheVariants.{Eq, Gt, Ge, Set, Ne, Sgt, Sge, Lt, Le, Slt, Sle}
use Rattle.bpf_words.specs.declared.operation.BinaryOperation.{BinaryOperation}
use Rattle.bpf_words.specs.declared.operation.BinaryOperation.TheVariants.{Add, Sub, Mul, Div, Sdiv, Or, And, Lsh, Rsh, Mod, Smod, Xor, Mov, Arsh}
use Rattle.bpf_words.specs.declared.operation.ByteOrder.{ByteOrder}
use Rattle.bpf_words.specs.declared.operation.ByteOrder.TheVariants.{Little, Big, Swap}
use Rattle.bpf_words.specs.declared.operation.EndWidth.{EndWidth}
use Rattle.bpf_words.specs.declared.operation.EndWidth.TheVariants.{Low16, Low32, Low64}
use Rattle.bpf_words.specs.declared.operation.Operation.{Operation}
use Rattle.bpf_words.specs.declared.operation.Operation.TheVariants.{Binary, Neg, Movsx}

-- a word is its own low bits
pub cut_word : (n a : ℕ) → a < 2 ^ n → a % 2 ^ n ≡ a
cut_word n a h = mod-eq_of_lt h

pub cut_zero : (n : ℕ) → 0 % 2 ^ n ≡ 0
cut_zero n = cut_word n 0 (pow_pos n)

cut_below : (n a : ℕ) → a % 2 ^ n < 2 ^ n
cut_below n a = mod_below a (2 ^ n) (pow_pos n)

word_below : (n : ℕ) (z : ℤ) → word n z < 2 ^ n
word_below n (pos a) = cut_below n a
word_below n (negsuc a) = omega (arith, pow_pos n)

-- what is left at a word: the choice at a zero divisor
zero_or : (m b x y : ℕ) → x < m → y < m → (if b == 0 then x else y) < m
zero_or m b x y p q = grind (arith, nat_tests)

binary_below : (n : ℕ) (op : BinaryOperation) (a b : ℕ) → a < 2 ^ n → b < 2 ^ n → binary_value n op a b < 2 ^ n
unfolding binary_value
binary_below n Add a b p q = cut_below n (a + b)
binary_below n Sub a b p q = word_below n _
binary_below n Mul a b p q = cut_below n (a * b)
binary_below n Div a b p q = zero_or (2 ^ n) b 0 (a / b) (pow_pos n) (omega (arith, div-le_self a b))
binary_below n Sdiv a b p q = zero_or (2 ^ n) b 0 _ (pow_pos n) (word_below n _)
binary_below n Or a b p q = or_lt n a b p q
binary_below n And a b p q = omega (arith, and_le_l a b)
binary_below n Lsh a b p q = cut_below n _
binary_below n Rsh a b p q = omega (arith, shr_le a (b % n))
binary_below n Mod a b p q = zero_or (2 ^ n) b a (a % b) p (omega (arith, mod-le a b))
binary_below n Smod a b p q = zero_or (2 ^ n) b a _ p (word_below n _)
binary_below n Xor a b p q = xor_lt n a b p q
binary_below n Mov a b p q = q
binary_below n Arsh a b p q = word_below n _

pub alu_below : (n : ℕ) (op : Operation) (a b : ℕ) → alu n op a b < 2 ^ n
unfolding alu
alu_below n (Binary op) a b = binary_below n op (a % 2 ^ n) (b % 2 ^ n) (cut_below n a) (cut_below n b)
alu_below n Neg a b = word_below n _
alu_below n (Movsx _) a b = word_below n _

reversed_below : (width : EndWidth) (a : ℕ) → byte_reversal width a < 2 ^ end_bits width
reversed_below Low16 a = omega arith
reversed_below Low32 a = omega arith
reversed_below Low64 a = omega arith

pub ended_below : (order : ByteOrder) (width : EndWidth) (a : ℕ) → end_value order width a < 2 ^ end_bits width
unfolding end_value
ended_below Little width a = cut_below (end_bits width) a
ended_below Big width a = reversed_below width a
ended_below Swap width a = reversed_below width a

pub reversed_twice : (width : EndWidth) (a : ℕ) → end_value Swap width (end_value Swap width a) ≡ end_value Little width a
unfolding end_value
reversed_twice Low16 a = omega arith
reversed_twice Low32 a = omega arith
reversed_twice Low64 a = omega arith

below_zero : (a m : ℕ) → a < m → pos a -ℤ pos m ≡ negsuc (m - a - 1)
below_zero a m h = omega (arith, ints)

back : (a m : ℕ) → a < m → m - 1 - (m - a - 1) % m ≡ a
back a m h = let p : m - a - 1 < m = omega arith in omega (arith, mod-eq_of_lt p)

pub signed_back : (n a : ℕ) → a < 2 ^ n → word n (signed_value n a) ≡ a
signed_back n a h =
    elim (nat_lt a (2 ^ (n - 1))) as (λ t. word n (if t then pos a else pos a -ℤ pos (2 ^ n)) ≡ a)
    [ true ↦ cut_word n a h | false ↦ rw (below_zero a (2 ^ n) h) (back a (2 ^ n) h) ]

pub opposite_excludes : (condition : Condition) → IfSome (opposite condition) (λ other. (n a b : ℕ) → holds n other a b ≡ not (holds n condition a b))
unfolding holds comparison
opposite_excludes Eq = λ n a b. refl
opposite_excludes Gt = λ n a b. grind (arith, nat_tests)
opposite_excludes Ge = λ n a b. grind (arith, nat_tests)
opposite_excludes Set = tt
opposite_excludes Ne = λ n a b. grind (arith, nat_tests)
opposite_excludes Sgt = λ n a b. grind (arith, ints)
opposite_excludes Sge = λ n a b. grind (arith, ints)
opposite_excludes Lt = λ n a b. grind (arith, nat_tests)
opposite_excludes Le = λ n a b. grind (arith, nat_tests)
opposite_excludes Slt = λ n a b. grind (arith, ints)
opposite_excludes Sle = λ n a b. grind (arith, ints)

pub opposite_back : (condition : Condition) → IfSome (opposite condition) (λ other. opposite other ≡ Some condition)
opposite_back Eq = refl
opposite_back Gt = refl
opposite_back Ge = refl
opposite_back Set = tt
opposite_back Ne = refl
opposite_back Sgt = refl
opposite_back Sge = refl
opposite_back Lt = refl
opposite_back Le = refl
opposite_back Slt = refl
opposite_back Sle = refl

pub opposite_none : (condition : Condition) → (opposite condition ≡ None) ↔ (condition ≡ Set)
opposite_none Eq = (λ e. absurd cc, λ e. absurd cc)
opposite_none Gt = (λ e. absurd cc, λ e. absurd cc)
opposite_none Ge = (λ e. absurd cc, λ e. absurd cc)
opposite_none Set = (λ e. refl, λ e. refl)
opposite_none Ne = (λ e. absurd cc, λ e. absurd cc)
opposite_none Sgt = (λ e. absurd cc, λ e. absurd cc)
opposite_none Sge = (λ e. absurd cc, λ e. absurd cc)
opposite_none Lt = (λ e. absurd cc, λ e. absurd cc)
opposite_none Le = (λ e. absurd cc, λ e. absurd cc)
opposite_none Slt = (λ e. absurd cc, λ e. absurd cc)
opposite_none Sle = (λ e. absurd cc, λ e. absurd cc)
