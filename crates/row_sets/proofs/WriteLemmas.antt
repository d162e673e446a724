-- Which writes a look covers, and whether looks cover any.
use Rattle.std.proofs.Common.{◌≡◌, ℕ, List, [], ◌∷◌, refl, sym, ap, ◌∙◌, cond, Bool, true, false, ◌&&◌, ◌||◌, not, filter, map, Option, Some, None, is_some, nat_le, nat_lt, nat_eq, arith}
use Rattle.std.specs.Prelude.{slice_get, length, option_map, MatchOption}
use Rattle.std.specs.Borrow.{Bor}
use Rattle.std.specs.List.{list_any}
use Rattle.std.specs.Ordering.{nat_cmp, is_lt, is_le, ordering_then}
use Rattle.std.specs.declared.cmp.Ordering.{Ordering}
use Rattle.std.specs.declared.cmp.Ordering.TheVariants.{Less, Equal, Greater}
use Rattle.std.proofs.lemmas.Bool.Decides.{nat_tests}
use Rattle.schema.specs.declared.look.Look.{Look}
use Rattle.schema.specs.Rows.{Key, key_cmp, covers, any_covers}

-- ---- what a look covers is a range of keys

le_test : (a b : ℕ) → is_le (nat_cmp a b) ≡ nat_le a b
le_test a b = elim (nat_lt a b) as (λ x. nat_lt a b ≡ x → is_le (cond x Less (cond (nat_eq a b) Equal Greater)) ≡ nat_le a b) [
  | true ↦ λ lt. grind (arith, nat_tests)
  | false ↦ λ ge. elim (nat_eq a b) as (λ y. nat_eq a b ≡ y → is_le (cond y Equal Greater) ≡ nat_le a b) [ true ↦ λ same. grind (arith, nat_tests) | false ↦ λ apart. grind (arith, nat_tests) ] refl
] refl

past_test : (a b : ℕ) → not (is_lt (nat_cmp a b)) ≡ nat_le b a
past_test a b = elim (nat_lt a b) as (λ x. nat_lt a b ≡ x → not (is_lt (cond x Less (cond (nat_eq a b) Equal Greater))) ≡ nat_le b a) [
  | true ↦ λ lt. grind (arith, nat_tests)
  | false ↦ λ ge. elim (nat_eq a b) as (λ y. nat_eq a b ≡ y → not (is_lt (cond y Equal Greater)) ≡ nat_le b a) [ true ↦ λ same. grind (arith, nat_tests) | false ↦ λ apart. grind (arith, nat_tests) ] refl
] refl

-- where the tables compare so
abbrev Between : Ordering → Look → Key → Type 0
Between tables look k = (not (is_lt (ordering_then tables (nat_cmp k.1 look.lo))) && is_le (ordering_then tables (nat_cmp k.1 look.hi))) ≡ covers look k

-- the keys that don't come before the look's first, and do not come behind its last
pub covers_between : (look : Look) (k : Key) → (not (is_lt (key_cmp k (look.table, look.lo))) && is_le (key_cmp k (look.table, look.hi))) ≡ covers look k
covers_between look k = elim (nat_lt k.0 look.table) as (λ x. nat_lt k.0 look.table ≡ x → Between (cond x Less (cond (nat_eq k.0 look.table) Equal Greater)) look k) [
  | true ↦ λ lt. let apart : nat_eq look.table k.0 ≡ false = grind (arith, nat_tests) in sym (ap (λ b. b && nat_le look.lo k.1 && nat_le k.1 look.hi) apart)
  | false ↦ λ _. elim (nat_eq k.0 look.table) as (λ y. nat_eq k.0 look.table ≡ y → Between (cond y Equal Greater) look k) [
    | true ↦ λ same. let one : nat_eq look.table k.0 ≡ true = grind (arith, nat_tests) in
        (λ i. past_test k.1 look.lo i && le_test k.1 look.hi i) ∙ sym (ap (λ b. b && nat_le look.lo k.1 && nat_le k.1 look.hi) one)
    | false ↦ λ apart. let other : nat_eq look.table k.0 ≡ false = grind (arith, nat_tests) in sym (ap (λ b. b && nat_le look.lo k.1 && nat_le k.1 look.hi) other)
  ] refl
] refl

-- ---- whether one of the keys is covered

-- one of them passes exactly where there is a first among those that pass
pub any_filtered : {A B : Type 0} (key : A → B) (p : B → Bool) (es : List A) → is_some (slice_get (filter (λ e. p (key e)) es) 0) ≡ list_any p (map key es)
any_filtered key p [] = refl
any_filtered key p (e ∷ es) = elim (p (key e)) as (λ b. is_some (slice_get (cond b (e ∷ filter (λ x. p (key x)) es) (filter (λ x. p (key x)) es)) 0) ≡ (b || list_any p (map key es))) [
  | true ↦ refl
  | false ↦ any_filtered key p es
]

-- an iterator gives something exactly where something is left
nothing : {X : Type 0} (xs : List X) → length xs ≡ 0 → false ≡ is_some (slice_get xs 0)
nothing [] e = refl
nothing (x ∷ xs) e = absurd (omega (arith, e))

pub some_taken : {X : Type 0} (P : Type 0) (r : Option (Bor X)) (xs ys : List X) → MatchOption r ((length xs ≡ 0) × P) (λ x. xs ≡ x.now ∷ ys) → is_some r ≡ is_some (slice_get xs 0)
some_taken P None xs ys h = nothing xs h.0
some_taken P (Some x) xs ys h = ap (λ es. is_some (slice_get es 0)) (sym h)

pub is_some_map : {X Y : Type 0} (f : X → Y) (o : Option X) → is_some o ≡ is_some (option_map f o)
is_some_map f None = refl
is_some_map f (Some x) = refl

-- ---- whether one of the looks covers one of the keys, asked look by look

no_look : (ks : List Key) → list_any (any_covers []) ks ≡ false
no_look [] = refl
no_look (k ∷ ks) = no_look ks

swapped : (a b c d : Bool) → ((a || b) || (c || d)) ≡ ((a || c) || (b || d))
swapped true b c d = refl
swapped false true true d = refl
swapped false true false d = refl
swapped false false c d = refl

one_more : (look : Look) (looks : List Look) (ks : List Key) → list_any (any_covers (look ∷ looks)) ks ≡ (list_any (covers look) ks || list_any (any_covers looks) ks)
one_more look looks [] = refl
one_more look looks (k ∷ ks) = ap (λ b. (covers look k || any_covers looks k) || b) (one_more look looks ks) ∙ swapped (covers look k) (any_covers looks k) _ _

pub any_by_look : (looks : List Look) (ks : List Key) → list_any (λ look. list_any (covers look) ks) looks ≡ list_any (any_covers looks) ks
any_by_look [] ks = sym (no_look ks)
any_by_look (look ∷ looks) ks = ap (λ b. list_any (covers look) ks || b) (any_by_look looks ks) ∙ sym (one_more look looks ks)
