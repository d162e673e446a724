-- Where a pointer is that was moved: between the places of which it is known.
use Rattle.std.proofs.Common.{◌≡◌, ℕ, suc, ℤ, pos, negsuc, ◌-◌, ◌+ℤ◌, ◌-ℤ◌, neg_ℤ, ◌≤ℤ◌, ◌^◌, ◌<◌, ◌≤◌, Bool, true, false, cond, ◌&&◌, Option, None, is_none, refl, subst, inl, inr, arith}
use Rattle.std.proofs.Math.Facts.{to_z-neg}
use Rattle.std.proofs.lemmas.Bool.{cases_lt, cond-true}
use Rattle.std.proofs.lemmas.Bool.Decides.{nat_tests}
use Rattle.std.proofs.lemmas.Int.{ints, to_z_pos}
use Rattle.std.specs.Int.{w64, cast_signed}
use Rattle.bpf_words.specs.declared.operation.BinaryOperation.{BinaryOperation}
use Rattle.bpf_words.specs.declared.operation.BinaryOperation.TheVariants.{Add, Sub}
use Rattle.bpf_semantics.specs.Step.{near_place}
use Rattle.bpf_semantics.proofs.StepLemmas.{just}
use Rattle.interval.specs.Range.{Bounds, IsRange, IsWithin}
use Rattle.abs_state.specs.Kind.{has_both_signs, is_near, near_places, moved_by, moved_places}

-- ---- numbers read as signed

upper_signed : (n : ℕ) → 2 ^ 63 ≤ n → n < 2 ^ 64 → cast_signed w64 n ≡ negsuc (2 ^ 64 - suc n)
upper_signed n low high =
    let e : 2 ^ 64 - suc (2 ^ 64 - suc n) ≡ n = omega arith in
    subst (λ (m : ℕ). cast_signed w64 m ≡ negsuc (2 ^ 64 - suc n)) e (to_z-neg w64 (2 ^ 64 - suc n) (omega arith))

signed_ordered : (m n : ℕ) → m ≤ n → n < 2 ^ 63 → cast_signed w64 m ≤ℤ cast_signed w64 n
signed_ordered m n h low =
    let below : m < 2 ^ 63 = omega arith in
    rw (to_z_pos w64 m below, to_z_pos w64 n low) (search (arith, ints, h))

upper_ordered : (m n : ℕ) → m ≤ n → 2 ^ 63 ≤ m → n < 2 ^ 64 → cast_signed w64 m ≤ℤ cast_signed w64 n
upper_ordered m n h low high =
    let below : m < 2 ^ 64 = omega arith in
    let above : 2 ^ 63 ≤ n = omega arith in
    let turned : 2 ^ 64 - suc n ≤ 2 ^ 64 - suc m = omega arith in
    rw (upper_signed m low below, upper_signed n above high) (search (arith, ints, turned))

-- ordered as signed numbers too, where they have one sign
pub ordered_as_signed : (r : Bounds) (m n : ℕ) → has_both_signs r ≡ false → IsRange r → r.lo ≤ m → m ≤ n → n ≤ r.hi → cast_signed w64 m ≤ℤ cast_signed w64 n
ordered_as_signed r m n one range low h high =
    let word = range.word in
    elim (cases_lt r.hi (2 ^ 63)) [
      | inl below ↦ signed_ordered m n h (omega arith)
      | inr above ↦ let from : 2 ^ 63 ≤ r.lo = grind (arith, nat_tests) in upper_ordered m n h (omega arith) (omega arith)
    ]

-- ---- near places

near_within : (z : ℤ) → is_near z ≡ true → (negsuc 65535 ≤ℤ z) × (z ≤ℤ pos 65536)
near_within (pos n) e = let near : n ≤ 65536 = grind (arith, nat_tests) in (search (arith, ints), search (arith, ints))
near_within (negsuc n) e =
    let near : suc n ≤ 65536 = grind (arith, nat_tests) in
    let far : n ≤ 65535 = omega arith in
    (search (arith, ints), search (arith, ints))

within_near : (z : ℤ) → negsuc 65535 ≤ℤ z → z ≤ℤ pos 65536 → is_near z ≡ true
within_near (pos n) p q = let near : n ≤ 65536 = search (arith, ints, q) in grind (arith, nat_tests)
within_near (negsuc n) p q = let near : suc n ≤ 65536 = omega (arith, ints, p) in grind (arith, nat_tests)

-- a place, where there is one, is between those of which it is known, where there are any
pub record IsBetween (places : Option (ℤ × ℤ)) (place : Option ℤ) : Type 0 where
  pub from : ℤ
  pub to : ℤ
  pub at : ℤ
  pub known : places ≡ just (from, to)
  pub is : place ≡ just at
  pub low : from ≤ℤ at
  pub high : at ≤ℤ to

some_test : (b : Bool) (places : ℤ × ℤ) → is_none (cond b (just places) None) ≡ false → b ≡ true
some_test true places e = refl
some_test false places e = absurd cc

both_true : (a b : Bool) → (a && b) ≡ true → (a ≡ true) × (b ≡ true)
both_true true b e = (refl, e)
both_true false b e = absurd cc

near_between : (lo hi z : ℤ) → lo ≤ℤ z → z ≤ℤ hi → is_none (near_places lo hi) ≡ false → IsBetween (near_places lo hi) (near_place z)
near_between lo hi z p q e =
    let both = some_test (is_near lo && is_near hi) (lo, hi) e in
    let each = both_true (is_near lo) (is_near hi) both in
    let first = near_within lo each.0 in
    let last = near_within hi each.1 in
    let least : negsuc 65535 ≤ℤ z = omega (arith, ints, first.0, p) in
    let most : z ≤ℤ pos 65536 = omega (arith, ints, last.1, q) in
    record {
      from = lo;
      to = hi;
      at = z;
      known = cond-true (is_near lo && is_near hi) (just (lo, hi)) None both;
      is = cond-true (is_near z) (just z) None (within_near z least most);
      low = p;
      high = q;
    }

-- ---- ADD and SUB of a pointer

-- where a place is after an operation with a number that is read as signed
abbrev pub place_by : BinaryOperation → ℤ → ℤ → Option ℤ
place_by Add place distance = near_place (place +ℤ distance)
place_by Sub place distance = near_place (place +ℤ neg_ℤ distance)
place_by _ place distance = None

by_between : (op : BinaryOperation) (lo hi place least greatest distance : ℤ) → lo ≤ℤ place → place ≤ℤ hi → least ≤ℤ distance → distance ≤ℤ greatest
    → is_none (moved_by op lo hi least greatest) ≡ false → IsBetween (moved_by op lo hi least greatest) (place_by op place distance)
by_between Add lo hi place least greatest distance p q f g e =
    near_between (lo +ℤ least) (hi +ℤ greatest) (place +ℤ distance) (omega (arith, ints)) (omega (arith, ints)) e
by_between Sub lo hi place least greatest distance p q f g e =
    near_between (lo -ℤ greatest) (hi -ℤ least) (place +ℤ neg_ℤ distance) (omega (arith, ints)) (omega (arith, ints)) e
by_between op lo hi place least greatest distance p q f g e = absurd cc

signs_between : (signs : Bool) (op : BinaryOperation) (lo hi place least greatest distance : ℤ) → lo ≤ℤ place → place ≤ℤ hi
    → (signs ≡ false → (least ≤ℤ distance) × (distance ≤ℤ greatest)) → is_none (cond signs None (moved_by op lo hi least greatest)) ≡ false
    → IsBetween (cond signs None (moved_by op lo hi least greatest)) (place_by op place distance)
signs_between true op lo hi place least greatest distance p q f e = absurd cc
signs_between false op lo hi place least greatest distance p q f e = let h = f refl in by_between op lo hi place least greatest distance p q h.0 h.1 e

pub moved_between : (op : BinaryOperation) (lo hi place : ℤ) (r : Bounds) (n : ℕ) → lo ≤ℤ place → place ≤ℤ hi → IsRange r → IsWithin r n
    → is_none (moved_places op lo hi r) ≡ false → IsBetween (moved_places op lo hi r) (place_by op place (cast_signed w64 n))
moved_between op lo hi place r n p q range h e =
    signs_between (has_both_signs r) op lo hi place (cast_signed w64 r.lo) (cast_signed w64 r.hi) (cast_signed w64 n) p q
    (λ one. (ordered_as_signed r r.lo n one range (omega arith) h.from h.to, ordered_as_signed r n r.hi one range h.from h.to (omega arith))) e
