-- The ranges along an edge are inside all that have each pair along it.
use Rattle.std.proofs.Common.{◌≡◌, ◌≢◌, ℕ, ◌+◌, ◌-◌, ◌<◌, ◌≤◌, max, min, arith, refl, sym, ◌∙◌, Bool, true, false, not, nat_lt, nat_le, ◌==◌, ◌&&◌, if◌then◌else◌, Option, Some, None, IfSome, inl, inr}
use Rattle.std.proofs.Math.Nat.{mod-eq_of_lt}
use Rattle.std.proofs.lemmas.Int.{ints}
use Rattle.std.proofs.lemmas.Bool.{cases_eq, not-true}
use Rattle.std.proofs.lemmas.Bool.Decides.{nat_tests}
use Rattle.bpf_words.specs.Condition.{holds, comparison}
use Rattle.bpf_words.specs.declared.condition.Condition.{Condition}
use Rattle.bpf_words.specs.declared.condition.Condition.TheVariants.{Eq, Gt, Ge, Set, Ne, Sgt, Sge, Lt, Le, Slt, Sle}
use Rattle.bpf_words.proofs.Words.{opposite_excludes}
use Rattle.interval.specs.Range.{Bounds, IsRange, IsWithin, IsInside}
use Rattle.range_refine.specs.Refinement.{unless, exchange, both_single, without, where_equal, where_unequal, where_greater, where_at_least, where_holds, where_fails, along, limit, are_below, refinement}
use Rattle.range_refine.proofs.Kept.{ArePlain, Says, signed_plain}

-- each pair of numbers that are so is one of c and d
abbrev Holds : (ℕ → ℕ → Type 0) → Bounds → Bounds → Bounds → Bounds → Type 0
Holds P a b c d = (x y : ℕ) → IsWithin a x → IsWithin b y → P x y → IsWithin c x × IsWithin d y

-- two ranges between the ends of two others
record AreBetween (r : Bounds × Bounds) (c d : Bounds) : Type 0 where
  pub left_lo : c.lo ≤ r.0.lo
  pub left_hi : r.0.hi ≤ c.hi
  pub right_lo : d.lo ≤ r.1.lo
  pub right_hi : r.1.hi ≤ d.hi

between_unless : (t : Bool) (r : Bounds × Bounds) (c d : Bounds) → (t ≡ false → AreBetween r c d) → IfSome (unless t r) (λ r. AreBetween r c d)
between_unless true r c d p = tt
between_unless false r c d p = p refl

between_exchange : (ranges : Option (Bounds × Bounds)) (c d : Bounds) → IfSome ranges (λ r. AreBetween r d c) → IfSome (exchange ranges) (λ r. AreBetween r c d)
between_exchange None c d p = tt
between_exchange (Some r) c d p = record { left_lo = p.right_lo; left_hi = p.right_hi; right_lo = p.left_lo; right_hi = p.left_hi }

of_lo : (a : Bounds) → a.lo ≤ a.hi → IsWithin a a.lo
of_lo a o = record { from = omega arith; to = o }

of_hi : (a : Bounds) → a.lo ≤ a.hi → IsWithin a a.hi
of_hi a o = record { from = o; to = omega arith }

equal_least : (a b c d : Bounds) → a.lo ≤ a.hi → b.lo ≤ b.hi → Holds (λ x y. x ≡ y) a b c d → IfSome (where_equal a b) (λ r. AreBetween r c d)
unfolding where_equal
equal_least a b c d oa ob h = between_unless (nat_lt (min a.hi b.hi) (max a.lo b.lo)) _ c d (λ t.
    let le : max a.lo b.lo ≤ min a.hi b.hi = grind (arith, nat_tests) in
    let lo = h (max a.lo b.lo) (max a.lo b.lo) (record { from = omega arith; to = omega arith }) (record { from = omega arith; to = omega arith }) refl in
    let hi = h (min a.hi b.hi) (min a.hi b.hi) (record { from = omega arith; to = omega arith }) (record { from = omega arith; to = omega arith }) refl in
    record { left_lo = lo.0.from; left_hi = hi.0.to; right_lo = lo.1.from; right_hi = hi.1.to })

greater_least : (a b c d : Bounds) → a.lo ≤ a.hi → b.lo ≤ b.hi → Holds (λ x y. y < x) a b c d → IfSome (where_greater a b) (λ r. AreBetween r c d)
unfolding where_greater
greater_least a b c d oa ob h = between_unless (nat_le a.hi b.lo) _ c d (λ t.
    let lt : b.lo < a.hi = grind (arith, nat_tests) in
    let lo = h (max a.lo (b.lo + 1)) b.lo (record { from = omega arith; to = omega arith }) (of_lo b ob) (omega arith) in
    let mid = h a.hi b.lo (of_hi a oa) (of_lo b ob) lt in
    let hi = h a.hi (min b.hi (a.hi - 1)) (of_hi a oa) (record { from = omega arith; to = omega arith }) (omega arith) in
    record { left_lo = lo.0.from; left_hi = mid.0.to; right_lo = mid.1.from; right_hi = hi.1.to })

at_least_least : (a b c d : Bounds) → a.lo ≤ a.hi → b.lo ≤ b.hi → Holds (λ x y. y ≤ x) a b c d → IfSome (where_at_least a b) (λ r. AreBetween r c d)
unfolding where_at_least
at_least_least a b c d oa ob h = between_unless (nat_lt a.hi b.lo) _ c d (λ t.
    let le : b.lo ≤ a.hi = grind (arith, nat_tests) in
    let lo = h (max a.lo b.lo) b.lo (record { from = omega arith; to = omega arith }) (of_lo b ob) (omega arith) in
    let mid = h a.hi b.lo (of_hi a oa) (of_lo b ob) le in
    let hi = h a.hi (min b.hi a.hi) (of_hi a oa) (record { from = omega arith; to = omega arith }) (omega arith) in
    record { left_lo = lo.0.from; left_hi = mid.0.to; right_lo = mid.1.from; right_hi = hi.1.to })

-- a range that isn't this number alone has another one
another : (b : Bounds) (x : ℕ) → b.lo ≤ b.hi → (b.lo ≡ b.hi → x ≡ b.lo → ⊥) → (y : ℕ) × IsWithin b y × (x ≡ y → ⊥) × (y ≡ x → ⊥)
another b x o h = elim (cases_eq x b.lo) [
  | inl e ↦ (b.hi, of_hi b o, λ f. h (omega arith) e, λ f. h (omega arith) e)
  | inr n ↦ (b.lo, of_lo b o, n, λ f. n (omega arith))
]

-- the ends of what is left without the other's one value aren't that value
without_apart : (a b : Bounds) → a.lo ≤ a.hi → (both_single a b && a.lo == b.lo) ≡ false → b.lo ≡ b.hi → ((without a b).lo ≡ b.lo → ⊥) × ((without a b).hi ≡ b.lo → ⊥)
without_apart a b o t e = (λ f. grind (arith, nat_tests), λ f. grind (arith, nat_tests))

without_within : (a b : Bounds) → a.lo ≤ a.hi → (both_single a b && a.lo == b.lo) ≡ false → IsWithin a (without a b).lo × IsWithin a (without a b).hi
without_within a b o t = (record { from = grind (arith, nat_tests); to = grind (arith, nat_tests) }, record { from = grind (arith, nat_tests); to = grind (arith, nat_tests) })

unequal_least : (a b c d : Bounds) → a.lo ≤ a.hi → b.lo ≤ b.hi → Holds (λ x y. x ≡ y → ⊥) a b c d → IfSome (where_unequal a b) (λ r. AreBetween r c d)
unfolding where_unequal
unequal_least a b c d oa ob h = between_unless (both_single a b && a.lo == b.lo) _ c d (λ t.
    let u : (both_single b a && b.lo == a.lo) ≡ false = grind (arith, nat_tests) in
    let wa = without_within a b oa t in
    let wb = without_within b a ob u in
    let la = another b (without a b).lo ob (λ s. (without_apart a b oa t s).0) in
    let ha = another b (without a b).hi ob (λ s. (without_apart a b oa t s).1) in
    let lb = another a (without b a).lo oa (λ s. (without_apart b a ob u s).0) in
    let hb = another a (without b a).hi oa (λ s. (without_apart b a ob u s).1) in
    record {
      left_lo = (h (without a b).lo la.0 wa.0 la.1 la.2).0.from;
      left_hi = (h (without a b).hi ha.0 wa.1 ha.1 ha.2).0.to;
      right_lo = (h lb.0 (without b a).lo lb.1 wb.0 lb.3).1.from;
      right_hi = (h hb.0 (without b a).hi hb.1 wb.1 hb.3).1.to;
    })

said_least : (condition : Condition) (a b c d : Bounds) → (condition ≡ Set → ⊥) → a.lo ≤ a.hi → b.lo ≤ b.hi → Holds (Says condition) a b c d → IfSome (where_holds condition a b) (λ r. AreBetween r c d)
unfolding where_holds
said_least Eq a b c d s oa ob h = equal_least a b c d oa ob h
said_least Gt a b c d s oa ob h = greater_least a b c d oa ob h
said_least Ge a b c d s oa ob h = at_least_least a b c d oa ob h
said_least Set a b c d s oa ob h = absurd (s refl)
said_least Ne a b c d s oa ob h = unequal_least a b c d oa ob h
said_least Sgt a b c d s oa ob h = greater_least a b c d oa ob h
said_least Sge a b c d s oa ob h = at_least_least a b c d oa ob h
said_least Lt a b c d s oa ob h = between_exchange _ c d (greater_least b a d c ob oa (λ x y wx wy p. let q = h y x wy wx p in (q.1, q.0)))
said_least Le a b c d s oa ob h = between_exchange _ c d (at_least_least b a d c ob oa (λ x y wx wy p. let q = h y x wy wx p in (q.1, q.0)))
said_least Slt a b c d s oa ob h = between_exchange _ c d (greater_least b a d c ob oa (λ x y wx wy p. let q = h y x wy wx p in (q.1, q.0)))
said_least Sle a b c d s oa ob h = between_exchange _ c d (at_least_least b a d c ob oa (λ x y wx wy p. let q = h y x wy wx p in (q.1, q.0)))

said_holds : (n : ℕ) (condition : Condition) (x y : ℕ) → ArePlain n condition x y → Says condition x y → holds n condition x y ≡ true
unfolding holds comparison
said_holds n Eq x y p h = rw (mod-eq_of_lt p.left, mod-eq_of_lt p.right) (grind (arith, nat_tests))
said_holds n Gt x y p h = rw (mod-eq_of_lt p.left, mod-eq_of_lt p.right) (grind (arith, nat_tests))
said_holds n Ge x y p h = rw (mod-eq_of_lt p.left, mod-eq_of_lt p.right) (grind (arith, nat_tests))
said_holds n Set x y p h = rw (mod-eq_of_lt p.left, mod-eq_of_lt p.right) (grind (arith, nat_tests))
said_holds n Ne x y p h = rw (mod-eq_of_lt p.left, mod-eq_of_lt p.right) (grind (arith, nat_tests))
said_holds n Sgt x y p h = let l = signed_plain n Sgt x refl p.left in let r = signed_plain n Sgt y refl p.right in grind (arith, ints)
said_holds n Sge x y p h = let l = signed_plain n Sge x refl p.left in let r = signed_plain n Sge y refl p.right in grind (arith, ints)
said_holds n Lt x y p h = rw (mod-eq_of_lt p.left, mod-eq_of_lt p.right) (grind (arith, nat_tests))
said_holds n Le x y p h = rw (mod-eq_of_lt p.left, mod-eq_of_lt p.right) (grind (arith, nat_tests))
said_holds n Slt x y p h = let l = signed_plain n Slt x refl p.left in let r = signed_plain n Slt y refl p.right in grind (arith, ints)
said_holds n Sle x y p h = let l = signed_plain n Sle x refl p.left in let r = signed_plain n Sle y refl p.right in grind (arith, ints)

-- where its opposite says, a condition fails
said_fails : (n : ℕ) (condition other : Condition) (x y : ℕ) → limit n other ≡ limit n condition → holds n other x y ≡ not (holds n condition x y)
    → ArePlain n condition x y → Says other x y → holds n condition x y ≡ false
said_fails n condition other x y e o p h = not-true _ (sym o ∙ said_holds n other x y (record { left = rw e p.left; right = rw e p.right }) h)

-- each pair along an edge, of ranges that the condition compares as they are, is one of c and d
record Covers (n : ℕ) (condition : Condition) (taken : Bool) (a b c d : Bounds) : Type 0 where
  pub left : a.hi < limit n condition
  pub right : b.hi < limit n condition
  pub pairs : (x y : ℕ) → IsWithin a x → IsWithin b y → holds n condition x y ≡ taken → IsWithin c x × IsWithin d y

covers_plain : {n : ℕ} {condition : Condition} {taken : Bool} {a b c d : Bounds} → Covers n condition taken a b c d → (x y : ℕ) → IsWithin a x → IsWithin b y → ArePlain n condition x y
covers_plain v x y wa wb = let l = v.left in let r = v.right in record { left = omega arith; right = omega arith }

covers_fails : (n : ℕ) (condition other : Condition) (a b c d : Bounds) → limit n other ≡ limit n condition → ((x y : ℕ) → holds n other x y ≡ not (holds n condition x y)) → Covers n condition false a b c d → Holds (Says other) a b c d
covers_fails n condition other a b c d e o v = λ x y wa wb p. v.pairs x y wa wb (said_fails n condition other x y e (o x y) (covers_plain v x y wa wb) p)

fails_least : (n : ℕ) (condition : Condition) (a b c d : Bounds) → (condition ≡ Set → ⊥) → a.lo ≤ a.hi → b.lo ≤ b.hi → Covers n condition false a b c d → IfSome (where_fails condition a b) (λ r. AreBetween r c d)
unfolding where_fails
fails_least n Eq a b c d s oa ob v = said_least Ne a b c d (λ e. absurd cc) oa ob (covers_fails n Eq Ne a b c d refl (opposite_excludes Eq n) v)
fails_least n Gt a b c d s oa ob v = said_least Le a b c d (λ e. absurd cc) oa ob (covers_fails n Gt Le a b c d refl (opposite_excludes Gt n) v)
fails_least n Ge a b c d s oa ob v = said_least Lt a b c d (λ e. absurd cc) oa ob (covers_fails n Ge Lt a b c d refl (opposite_excludes Ge n) v)
fails_least n Set a b c d s oa ob v = absurd (s refl)
fails_least n Ne a b c d s oa ob v = said_least Eq a b c d (λ e. absurd cc) oa ob (covers_fails n Ne Eq a b c d refl (opposite_excludes Ne n) v)
fails_least n Sgt a b c d s oa ob v = said_least Sle a b c d (λ e. absurd cc) oa ob (covers_fails n Sgt Sle a b c d refl (opposite_excludes Sgt n) v)
fails_least n Sge a b c d s oa ob v = said_least Slt a b c d (λ e. absurd cc) oa ob (covers_fails n Sge Slt a b c d refl (opposite_excludes Sge n) v)
fails_least n Lt a b c d s oa ob v = said_least Ge a b c d (λ e. absurd cc) oa ob (covers_fails n Lt Ge a b c d refl (opposite_excludes Lt n) v)
fails_least n Le a b c d s oa ob v = said_least Gt a b c d (λ e. absurd cc) oa ob (covers_fails n Le Gt a b c d refl (opposite_excludes Le n) v)
fails_least n Slt a b c d s oa ob v = said_least Sge a b c d (λ e. absurd cc) oa ob (covers_fails n Slt Sge a b c d refl (opposite_excludes Slt n) v)
fails_least n Sle a b c d s oa ob v = said_least Sgt a b c d (λ e. absurd cc) oa ob (covers_fails n Sle Sgt a b c d refl (opposite_excludes Sle n) v)

along_least : (n : ℕ) (condition : Condition) (taken : Bool) (a b c d : Bounds) → (condition ≡ Set → ⊥) → a.lo ≤ a.hi → b.lo ≤ b.hi → Covers n condition taken a b c d → IfSome (along condition taken a b) (λ r. AreBetween r c d)
along_least n condition true a b c d s oa ob v = said_least condition a b c d s oa ob (λ x y wa wb p. v.pairs x y wa wb (said_holds n condition x y (covers_plain v x y wa wb) p))
along_least n condition false a b c d s oa ob v = fails_least n condition a b c d s oa ob v

between_if : (t : Bool) (r s : Option (Bounds × Bounds)) (c d : Bounds) → t ≡ true → IfSome r (λ r. AreBetween r c d) → IfSome (if t then r else s) (λ r. AreBetween r c d)
between_if true r s c d e p = p
between_if false r s c d e p = absurd cc

inside_between : (ranges : Option (Bounds × Bounds)) (c d : Bounds) → IfSome ranges (λ r. AreBetween r c d) → IfSome ranges (λ r. IsInside r.0 c × IsInside r.1 d)
inside_between None c d p = tt
inside_between (Some r) c d p = (λ x w. record { from = omega (arith, p.left_lo); to = omega (arith, p.left_hi) }, λ x w. record { from = omega (arith, p.right_lo); to = omega (arith, p.right_hi) })

pub all_least : (n : ℕ) (condition : Condition) (taken : Bool) (a b c d : Bounds) → IsRange a → IsRange b → condition ≢ Set → a.hi < limit n condition → b.hi < limit n condition
    → ((x y : ℕ) → IsWithin a x → IsWithin b y → holds n condition x y ≡ taken → IsWithin c x × IsWithin d y)
    → IfSome (refinement n condition taken a b) (λ r. IsInside r.0 c × IsInside r.1 d)
unfolding refinement
all_least n condition taken a b c d ra rb s la lb h = inside_between _ c d (between_if (are_below (limit n condition) a b) _ _ c d (grind (arith, nat_tests)) (along_least n condition taken a b c d s ra.ordered rb.ordered (record { left = la; right = lb; pairs = h })))
