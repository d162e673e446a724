-- The table's rows hold each result.
use Rattle.std.proofs.Common.{◌≡◌, ℕ, ◌+◌, ◌-◌, ◌*◌, ◌/◌, ◌%◌, ◌^◌, ◌<◌, ◌≤◌, max, bit_or, bit_and, bit_xor, arith, refl, ap, ◌∙◌, lit<, true, nat_lt, pos, ◌-ℤ◌, ◌==◌, ◌&&◌, if◌then◌else◌}
use Rattle.std.proofs.Math.Nat.{mod-eq_of_lt, mod-le, div-le_self, div-mul-le_self, le_refl, pow-le-pow_right}
use Rattle.std.proofs.Math.Pow.{shr_mono}
use Rattle.std.proofs.lemmas.Nat.{or_lt, xor_lt, and_le_l, and_le_r, le_or_l, le_or_r, mod_below, mul-le, le-div, shr_le}
use Rattle.std.proofs.lemmas.Int.{ints}
use Rattle.std.proofs.lemmas.Bool.{and_from}
use Rattle.std.proofs.lemmas.Bool.Decides.{nat_tests}
use Rattle.std.specs.Int.{int_div_euclid}
use Rattle.bpf_words.specs.Word.{word, signed_value}
use Rattle.bpf_words.specs.Operation.{alu, binary_value, source_bits, sign_extension}
use Rattle.bpf_words.specs.End.{end_value}
use Rattle.bpf_words.specs.declared.operation.BinaryOperation.{BinaryOperation}
use Rattle.bpf_words.specs.declared.operation.BinaryOperation.TheVariants.{Add, Sub, Mul, Div, Sdiv, Or, And, Lsh, Rsh, Mod, Smod, Xor, Mov, Arsh}
use Rattle.bpf_words.specs.declared.operation.ByteOrder.{ByteOrder}
use Rattle.bpf_words.specs.declared.operation.EndWidth.{EndWidth}
use Rattle.bpf_words.specs.declared.operation.SignExtension.{SignExtension}
use Rattle.bpf_words.specs.declared.operation.Operation.{Operation}
use Rattle.bpf_words.specs.declared.operation.Operation.TheVariants.{Binary, Neg, Movsx}
use Rattle.bpf_words.proofs.Words.{alu_below, ended_below}
use Rattle.interval.specs.Range.{Bounds, IsRange, IsWithin, from_to, single, is_single}
use Rattle.interval.specs.Table.{any_word, from_to_or_any, right_shift, table, are_single, cut, word_range, alu_range, end_range, up}
use Rattle.interval.proofs.Up.{up_bits, below_up}
use Rattle.interval.proofs.Words.{IsCut, within_if, within_any, any_sound, cut_is_cut, cut_sound, alu_of_cut}

or_any_sound : (n lo hi v : ℕ) → lo ≤ v → v ≤ hi → IsWithin (from_to_or_any n lo hi) (v % 2 ^ n)
or_any_sound n lo hi v p q = within_if (nat_lt hi (2 ^ n)) (from_to lo hi) (any_word n) (v % 2 ^ n)
    (λ t. let h : v < 2 ^ n = grind (arith, nat_tests) in rw (mod-eq_of_lt h) (record { from = p; to = q }))
    (λ t. any_sound n v)

word_of_pos : (n x : ℕ) → x < 2 ^ n → word n (pos x) ≡ x
word_of_pos n x h = mod-eq_of_lt h

word_of_difference : (n x y : ℕ) → x < 2 ^ n → y ≤ x → word n (pos x -ℤ pos y) ≡ x - y
word_of_difference n x y h le = let e : pos x -ℤ pos y ≡ pos (x - y) = omega (arith, ints) in rw e (word_of_pos n (x - y) (omega arith))

sub_sound : (n : ℕ) (a b : Bounds) (x y : ℕ) → IsCut n a → IsWithin a x → IsWithin b y → word n (pos x -ℤ pos y) < 2 ^ n → IsWithin (table n (Binary Sub) a b) (word n (pos x -ℤ pos y))
unfolding table
sub_sound n a b x y ca wa wb h = record { from = grind (arith, nat_tests, word_of_difference); to = grind (arith, nat_tests, word_of_difference) }

div_mono : (a b c d : ℕ) → a ≤ b → d ≤ c → 0 < d → a / c ≤ b / d
div_mono a b c d p q above = le-div (a / c) b d above (omega (arith, div-mul-le_self a c, mul-le (a / c) d (a / c) c (le_refl (a / c)) q))

div_sound : (n : ℕ) (a b : Bounds) (x y : ℕ) → IsWithin a x → IsWithin b y → IsWithin (table n (Binary Div) a b) (if y == 0 then 0 else x / y)
unfolding table
div_sound n a b x y wa wb = record { from = grind (arith, nat_tests, div_mono); to = grind (arith, nat_tests, div_mono, div-le_self) }

mod_sound : (n : ℕ) (a b : Bounds) (x y : ℕ) → IsWithin a x → IsWithin b y → IsWithin (table n (Binary Mod) a b) (if y == 0 then x else x % y)
unfolding table
mod_sound n a b x y wa wb = record { from = grind (arith, nat_tests, mod-eq_of_lt); to = grind (arith, nat_tests, mod-le, mod_below) }

and_sound : (n : ℕ) (a b : Bounds) (x y : ℕ) → IsWithin a x → IsWithin b y → IsWithin (table n (Binary And) a b) (bit_and x y)
unfolding table
and_sound n a b x y wa wb = record { from = omega arith; to = omega (arith, and_le_l x y, and_le_r x y) }

or_below : (x y m : ℕ) → m < 2 ^ 64 → x ≤ m → y ≤ m → bit_or x y ≤ up m
or_below x y m h p q = let u = up_bits m h in below_up m _ u (or_lt u.bits x y (omega (arith, u.above)) (omega (arith, u.above)))

xor_below : (x y m : ℕ) → m < 2 ^ 64 → x ≤ m → y ≤ m → bit_xor x y ≤ up m
xor_below x y m h p q = let u = up_bits m h in below_up m _ u (xor_lt u.bits x y (omega (arith, u.above)) (omega (arith, u.above)))

or_sound : (n : ℕ) (a b : Bounds) (x y : ℕ) → IsCut n a → IsCut n b → IsWithin a x → IsWithin b y → IsWithin (table n (Binary Or) a b) (bit_or x y)
unfolding table
or_sound n a b x y ca cb wa wb = record {
  from = omega (arith, le_or_l x y, le_or_r x y);
  to = omega (arith, or_below x y (max a.hi b.hi) (omega arith) (omega arith) (omega arith));
}

xor_sound : (n : ℕ) (a b : Bounds) (x y : ℕ) → IsCut n a → IsCut n b → IsWithin a x → IsWithin b y → IsWithin (table n (Binary Xor) a b) (bit_xor x y)
unfolding table
xor_sound n a b x y ca cb wa wb = record {
  from = omega arith;
  to = omega (arith, xor_below x y (max a.hi b.hi) (omega arith) (omega arith) (omega arith));
}

left_sound : (n : ℕ) (a b : Bounds) (x y : ℕ) → IsWithin a x → IsWithin b y → IsWithin (table n (Binary Lsh) a b) ((x * 2 ^ (y % n)) % 2 ^ n)
unfolding table
left_sound n a b x y wa wb = within_if (is_single b) _ _ _
    (λ t. let e : b.lo ≡ y = grind (arith, nat_tests) in rw e (or_any_sound n _ _ _ (mul-le _ _ _ _ wa.from (omega arith)) (mul-le _ _ _ _ wa.to (omega arith))))
    (λ t. any_sound n _)

right_sound : (n : ℕ) (a b : Bounds) (x y : ℕ) → IsWithin a x → IsWithin b y → IsWithin (right_shift n a b) (x / 2 ^ (y % n))
right_sound n a b x y wa wb = within_if (is_single b) _ _ _
    (λ t. let e : b.lo ≡ y = grind (arith, nat_tests) in rw e (record { from = shr_mono (y % n) wa.from; to = shr_mono (y % n) wa.to }))
    (λ t. record { from = omega arith; to = omega (arith, shr_le x (y % n)) })

signed_low : (n x : ℕ) → x < 2 ^ (n - 1) → signed_value n x ≡ pos x
signed_low n x h = grind (arith, nat_tests)

signed_shift : (n x k : ℕ) → x < 2 ^ (n - 1) → x < 2 ^ n → word n (int_div_euclid (signed_value n x) (pos (2 ^ k))) ≡ x / 2 ^ k
signed_shift n x k h w = rw (signed_low n x h) (word_of_pos n (x / 2 ^ k) (omega (arith, shr_le x k)))

signed_right_sound : (n : ℕ) (a b : Bounds) (x y : ℕ) → IsCut n a → IsWithin a x → IsWithin b y → word n (int_div_euclid (signed_value n x) (pos (2 ^ (y % n)))) < 2 ^ n → IsWithin (table n (Binary Arsh) a b) (word n (int_div_euclid (signed_value n x) (pos (2 ^ (y % n)))))
unfolding table
signed_right_sound n a b x y ca wa wb w = let r = right_sound n a b x y wa wb in
    record { from = grind (arith, nat_tests, r, signed_shift); to = grind (arith, nat_tests, r, signed_shift) }

-- a number whose sign bit is clear is its own extension
extended : (n k y : ℕ) → y < 2 ^ (k - 1) → y < 2 ^ k → y < 2 ^ n → word n (signed_value k (y % 2 ^ k)) ≡ y
extended n k y h low w = rw (mod-eq_of_lt low, signed_low k y h) (word_of_pos n y w)

half : (k : ℕ) → 2 ^ (k - 1) ≤ 2 ^ k
half k = pow-le-pow_right (lit< tt) (omega arith)

extension_sound : (n : ℕ) (source : SignExtension) (a b : Bounds) (y : ℕ) → IsCut n b → IsWithin b y → sign_extension n source y < 2 ^ n → IsWithin (table n (Movsx source) a b) (sign_extension n source y)
unfolding table
extension_sound n source a b y cb wb w = let k = source_bits source in let h = half k in
    record { from = grind (arith, nat_tests, extended); to = grind (arith, nat_tests, extended) }

binary_cut : (n : ℕ) (op : BinaryOperation) (a b : ℕ) → a < 2 ^ n → b < 2 ^ n → alu n (Binary op) a b ≡ binary_value n op a b
unfolding alu
binary_cut n op a b p q = rw (mod-eq_of_lt p, mod-eq_of_lt q) refl

binary_sound : (n : ℕ) (op : BinaryOperation) (a b : Bounds) (x y : ℕ) → ((o : BinaryOperation) → binary_value n o x y < 2 ^ n) → IsCut n a → IsCut n b → IsWithin a x → IsWithin b y → IsWithin (table n (Binary op) a b) (binary_value n op x y)
unfolding table binary_value
binary_sound n Add a b x y words ca cb wa wb = or_any_sound n _ _ (x + y) (omega arith) (omega arith)
binary_sound n Sub a b x y words ca cb wa wb = sub_sound n a b x y ca wa wb (words Sub)
binary_sound n Mul a b x y words ca cb wa wb = or_any_sound n _ _ _ (mul-le _ _ _ _ wa.from wb.from) (mul-le _ _ _ _ wa.to wb.to)
binary_sound n Div a b x y words ca cb wa wb = div_sound n a b x y wa wb
binary_sound n Mod a b x y words ca cb wa wb = mod_sound n a b x y wa wb
binary_sound n And a b x y words ca cb wa wb = and_sound n a b x y wa wb
binary_sound n Or a b x y words ca cb wa wb = or_sound n a b x y ca cb wa wb
binary_sound n Xor a b x y words ca cb wa wb = xor_sound n a b x y ca cb wa wb
binary_sound n Lsh a b x y words ca cb wa wb = left_sound n a b x y wa wb
binary_sound n Rsh a b x y words ca cb wa wb = right_sound n a b x y wa wb
binary_sound n Arsh a b x y words ca cb wa wb = signed_right_sound n a b x y ca wa wb (words Arsh)
binary_sound n Mov a b x y words ca cb wa wb = wb
binary_sound n Sdiv a b x y words ca cb wa wb = within_any n _ (words Sdiv)
binary_sound n Smod a b x y words ca cb wa wb = within_any n _ (words Smod)

neg_sound : (n : ℕ) (a b : Bounds) (x y : ℕ) → alu n Neg x y < 2 ^ n → IsWithin (table n Neg a b) (alu n Neg x y)
unfolding table
neg_sound n a b x y h = within_any n _ h

movsx_sound : (n : ℕ) (source : SignExtension) (a b : Bounds) (x y : ℕ) → IsCut n b → IsWithin b y → alu n (Movsx source) x y < 2 ^ n → IsWithin (table n (Movsx source) a b) (alu n (Movsx source) x y)
unfolding alu
movsx_sound n source a b x y cb wb h = extension_sound n source a b y cb wb h

table_sound : (n : ℕ) (op : Operation) (a b : Bounds) (x y : ℕ) → IsCut n a → IsCut n b → IsWithin a x → IsWithin b y → IsWithin (table n op a b) (alu n op x y)
table_sound n (Binary op) a b x y ca cb wa wb =
    let p : x < 2 ^ n = omega arith in
    let q : y < 2 ^ n = omega arith in
    rw (binary_cut n op x y p q) (binary_sound n op a b x y (λ o. rw (binary_cut n o x y p q) at (alu_below n (Binary o) x y)) ca cb wa wb)
table_sound n Neg a b x y ca cb wa wb = neg_sound n a b x y (alu_below n Neg x y)
table_sound n (Movsx source) a b x y ca cb wa wb = movsx_sound n source a b x y cb wb (alu_below n (Movsx source) x y)

same_values : (n : ℕ) (op : Operation) (a b : Bounds) (x y : ℕ) → (is_single a && is_single b) ≡ true → IsWithin a x → IsWithin b y → alu n op a.lo b.lo ≡ alu n op x y
same_values n op a b x y t wa wb = let e : a.lo ≡ x = grind (arith, nat_tests) in let f : b.lo ≡ y = grind (arith, nat_tests) in rw (e, f) refl

-- where each operand is one value, these are what is operated on
one_value : (n : ℕ) (op : Operation) (a b : Bounds) (x y : ℕ) → are_single op a b ≡ true → IsWithin a x → IsWithin b y → alu n op a.lo b.lo ≡ alu n op x y
unfolding alu binary_value
one_value n (Binary Mov) a b x y t wa wb = let f : b.lo ≡ y = grind (arith, nat_tests) in rw f refl
one_value n (Binary Add) a b x y t wa wb = same_values n (Binary Add) a b x y t wa wb
one_value n (Binary Sub) a b x y t wa wb = same_values n (Binary Sub) a b x y t wa wb
one_value n (Binary Mul) a b x y t wa wb = same_values n (Binary Mul) a b x y t wa wb
one_value n (Binary Div) a b x y t wa wb = same_values n (Binary Div) a b x y t wa wb
one_value n (Binary Sdiv) a b x y t wa wb = same_values n (Binary Sdiv) a b x y t wa wb
one_value n (Binary Or) a b x y t wa wb = same_values n (Binary Or) a b x y t wa wb
one_value n (Binary And) a b x y t wa wb = same_values n (Binary And) a b x y t wa wb
one_value n (Binary Lsh) a b x y t wa wb = same_values n (Binary Lsh) a b x y t wa wb
one_value n (Binary Rsh) a b x y t wa wb = same_values n (Binary Rsh) a b x y t wa wb
one_value n (Binary Mod) a b x y t wa wb = same_values n (Binary Mod) a b x y t wa wb
one_value n (Binary Smod) a b x y t wa wb = same_values n (Binary Smod) a b x y t wa wb
one_value n (Binary Xor) a b x y t wa wb = same_values n (Binary Xor) a b x y t wa wb
one_value n (Binary Arsh) a b x y t wa wb = same_values n (Binary Arsh) a b x y t wa wb
one_value n Neg a b x y t wa wb = let e : a.lo ≡ x = grind (arith, nat_tests) in rw e refl
one_value n (Movsx source) a b x y t wa wb = let f : b.lo ≡ y = grind (arith, nat_tests) in rw f refl

of_single : (v : ℕ) → IsWithin (single v) v
of_single v = record { from = omega arith; to = omega arith }

word_range_sound : (n : ℕ) (op : Operation) (a b : Bounds) (x y : ℕ) → IsCut n a → IsCut n b → IsWithin a x → IsWithin b y → IsWithin (word_range n op a b) (alu n op x y)
word_range_sound n op a b x y ca cb wa wb = within_if (are_single op a b) _ _ _
    (λ t. rw (one_value n op a b x y t wa wb) (of_single _))
    (λ t. table_sound n op a b x y ca cb wa wb)

pub alu_sound : (n : ℕ) (op : Operation) (a b : Bounds) (x y : ℕ) → IsRange a → IsRange b → IsWithin a x → IsWithin b y → IsWithin (alu_range n op a b) (alu n op x y)
unfolding alu_range
alu_sound n op a b x y ra rb wa wb =
    rw (alu_of_cut n op x y) at (word_range_sound n op (cut n a) (cut n b) (x % 2 ^ n) (y % 2 ^ n) (cut_is_cut n a ra) (cut_is_cut n b rb) (cut_sound n a x wa) (cut_sound n b y wb))

pub end_sound : (order : ByteOrder) (width : EndWidth) (a : Bounds) (x : ℕ) → IsWithin a x → IsWithin (end_range order width a) (end_value order width x)
unfolding end_range
end_sound order width a x w = within_if (is_single a) _ _ _
    (λ t. let e : a.lo ≡ x = grind (arith, nat_tests) in rw e (of_single _))
    (λ t. within_any _ _ (ended_below order width x))

-- so the range has a number
pub alu_ordered : (n : ℕ) (op : Operation) (a b : Bounds) → IsRange a → IsRange b → (alu_range n op a b).lo ≤ (alu_range n op a b).hi
alu_ordered n op a b ra rb =
    let w = alu_sound n op a b a.lo b.lo ra rb (record { from = omega arith; to = ra.ordered }) (record { from = omega arith; to = rb.ordered }) in
    omega arith

cut_single : (n v : ℕ) → cut n (single v) ≡ single (v % 2 ^ n)
unfolding cut
cut_single n v = grind (arith, nat_tests, mod-eq_of_lt)

is_one : (x : ℕ) → is_single (single x) ≡ true
is_one x = grind (arith, nat_tests)

both_one : (op : BinaryOperation) (x y : ℕ) → are_single (Binary op) (single x) (single y) ≡ true
both_one Add x y = and_from _ _ (is_one x) (is_one y)
both_one Sub x y = and_from _ _ (is_one x) (is_one y)
both_one Mul x y = and_from _ _ (is_one x) (is_one y)
both_one Div x y = and_from _ _ (is_one x) (is_one y)
both_one Sdiv x y = and_from _ _ (is_one x) (is_one y)
both_one Or x y = and_from _ _ (is_one x) (is_one y)
both_one And x y = and_from _ _ (is_one x) (is_one y)
both_one Lsh x y = and_from _ _ (is_one x) (is_one y)
both_one Rsh x y = and_from _ _ (is_one x) (is_one y)
both_one Mod x y = and_from _ _ (is_one x) (is_one y)
both_one Smod x y = and_from _ _ (is_one x) (is_one y)
both_one Xor x y = and_from _ _ (is_one x) (is_one y)
both_one Mov x y = is_one y
both_one Arsh x y = and_from _ _ (is_one x) (is_one y)

of_one : (n : ℕ) (op : Operation) (a b : Bounds) → are_single op a b ≡ true → word_range n op a b ≡ single (alu n op a.lo b.lo)
of_one n op a b h = rw h refl

pub binary_one : (n : ℕ) (op : BinaryOperation) (x y : ℕ) → alu_range n (Binary op) (single x) (single y) ≡ single (alu n (Binary op) x y)
unfolding alu_range
binary_one n op x y = rw (cut_single n x, cut_single n y) (of_one n (Binary op) (single (x % 2 ^ n)) (single (y % 2 ^ n)) (both_one op _ _) ∙ ap single (alu_of_cut n (Binary op) x y))

-- what has the source alone
alu_mov : (n x y z : ℕ) → alu n (Binary Mov) x y ≡ alu n (Binary Mov) z y
unfolding alu binary_value
alu_mov n x y z = refl

alu_neg : (n x y z : ℕ) → alu n Neg x y ≡ alu n Neg x z
unfolding alu
alu_neg n x y z = refl

alu_movsx : (n : ℕ) (source : SignExtension) (x y z : ℕ) → alu n (Movsx source) x y ≡ alu n (Movsx source) z y
unfolding alu
alu_movsx n source x y z = refl

pub mov_one : (n : ℕ) (a : Bounds) (x y : ℕ) → alu_range n (Binary Mov) a (single y) ≡ single (alu n (Binary Mov) x y)
unfolding alu_range
mov_one n a x y = rw (cut_single n y) (of_one n (Binary Mov) (cut n a) (single (y % 2 ^ n)) (is_one _) ∙ ap single (alu_mov n _ _ (x % 2 ^ n) ∙ alu_of_cut n (Binary Mov) x y))

pub neg_one : (n : ℕ) (b : Bounds) (x y : ℕ) → alu_range n Neg (single x) b ≡ single (alu n Neg x y)
unfolding alu_range
neg_one n b x y = rw (cut_single n x) (of_one n Neg (single (x % 2 ^ n)) (cut n b) (is_one _) ∙ ap single (alu_neg n _ _ (y % 2 ^ n) ∙ alu_of_cut n Neg x y))

pub movsx_one : (n : ℕ) (source : SignExtension) (a : Bounds) (x y : ℕ) → alu_range n (Movsx source) a (single y) ≡ single (alu n (Movsx source) x y)
unfolding alu_range
movsx_one n source a x y = rw (cut_single n y) (of_one n (Movsx source) (cut n a) (single (y % 2 ^ n)) (is_one _) ∙ ap single (alu_movsx n source _ _ (x % 2 ^ n) ∙ alu_of_cut n (Movsx source) x y))

pub end_one : (order : ByteOrder) (width : EndWidth) (x : ℕ) → end_range order width (single x) ≡ single (end_value order width x)
unfolding end_range
end_one order width x = rw (is_one x) refl
