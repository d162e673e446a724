-- What a look finds among rows.
use Rattle.std.proofs.Common.{◌≡◌, ℕ, ◌≤◌, List, [], ◌∷◌, length, refl, sym, ap, subst, ◌∙◌, arith, Bool, true, false, cond}
use Rattle.std.specs.Prelude.{T, IsTrue, IsSome, Option, Some, None, ◌&&◌, slice_get}
use Rattle.std.specs.declared.cmp.Ordering.{Ordering}
use Rattle.std.specs.declared.cmp.Ordering.TheVariants.{Less, Equal, Greater}
use Rattle.std.specs.Ordering.{is_lt, is_gt, ordering_reverse}
use Rattle.std.specs.Cmp.{tied_itself}
use Rattle.std.specs.FinMap.{get, entries, entries_sorted, get-entries, get-retain_keys, len-entries, find, is_sorted}
use Rattle.std.specs.FinMap.Entries.{below_all}
use Rattle.std.proofs.lemmas.Bool.Decides.{nat_tests}
use Rattle.schema.specs.declared.look.Look.{Look}
use Rattle.schema.specs.Rows.{Key, key_cmp, key_cmp_total, key_cmp-IsAntisymmetric, Rows, covers, rows_in, count_in, first_in, AgreeOn, IsFirst, IsVacant}
use Rattle.schema.proofs.RowsLemmas.{is_key, one_key, here, same_rows}

-- ---- the rows that a look covers

pub get-rows_in : (look : Look) (rows : Rows) (q : Key) → get (rows_in look rows) q ≡ cond (covers look q) (get rows q) None
get-rows_in look rows q = get-retain_keys rows (covers look) q (λ x e. ap (covers look) (sym (key_cmp-IsAntisymmetric q x e)))

under : (b : Bool) (x y : Option (List ℕ)) → (b ≡ true → x ≡ y) → cond b x None ≡ cond b y None
under true x y h = h refl
under false x y h = refl

pub rows_in_agree : (look : Look) (m n : Rows) → AgreeOn (covers look) m n → rows_in look m ≡ rows_in look n
rows_in_agree look m n agree = same_rows _ _ (λ q. get-rows_in look m q ∙ under (covers look q) (get m q) (get n q) (agree q) ∙ sym (get-rows_in look n q))

found : (look : Look) (rows : Rows) (q : Key) → find key_cmp q (entries (rows_in look rows)) ≡ cond (covers look q) (get rows q) None
found look rows q = sym (get-entries (rows_in look rows) q) ∙ get-rows_in look rows q

found_covered : (look : Look) (rows : Rows) (q : Key) → IsTrue (covers look q) → find key_cmp q (entries (rows_in look rows)) ≡ get rows q
found_covered look rows q t = found look rows q ∙ ap (λ b. cond b (get rows q) None) t

-- ---- entries in order

pub split_and : (a b : Bool) → T (a && b) → T a × T b
split_and true b p = (tt, p)
split_and false b p = absurd p

less : (o : Ordering) → T (is_lt o) → o ≡ Less
less Less p = refl
less Equal p = absurd p
less Greater p = absurd p

pub above_all : {X : Type 0} (x : Key) (es : List (Key × X)) → T (below_all key_cmp x es) → (q : Key) → IsSome (find key_cmp q es) → key_cmp x q ≡ Less
above_all x [] h q s = absurd (cc)
above_all x (e ∷ es) h q s =
    let parts : T (is_lt (key_cmp x e.0)) × T (below_all key_cmp x es) = split_and _ _ h in
    elim (is_key q e.0) as (λ b. is_key q e.0 ≡ b → IsSome (cond b (Some e.1) (find key_cmp q es)) → key_cmp x q ≡ Less) [
      | true ↦ λ t _. ap (key_cmp x) (one_key q e.0 t) ∙ less _ parts.0
      | false ↦ λ t some. above_all x es parts.1 q some
    ] refl s

-- the first entry is found, and no key that is found lies below it
head_found : (e : Key × List ℕ) (es : List (Key × List ℕ)) → find key_cmp e.0 (e ∷ es) ≡ Some e.1
head_found e es = here e.0 (Some e.1) (find key_cmp e.0 es)

head_least : (e : Key × List ℕ) (es : List (Key × List ℕ)) → T (is_sorted key_cmp (e ∷ es)) → (q : Key) → IsSome (find key_cmp q (e ∷ es)) → is_gt (key_cmp e.0 q) ≡ false
head_least e es h q s =
    let parts : T (below_all key_cmp e.0 es) × T (is_sorted key_cmp es) = split_and _ _ h in
    elim (is_key q e.0) as (λ b. is_key q e.0 ≡ b → IsSome (cond b (Some e.1) (find key_cmp q es)) → is_gt (key_cmp e.0 q) ≡ false) [
      | true ↦ λ t _. ap (λ x. is_gt (key_cmp e.0 x)) (one_key q e.0 t) ∙ ap is_gt (tied_itself key_cmp_total e.0)
      | false ↦ λ t some. ap is_gt (above_all e.0 es parts.0 q some)
    ] refl s

record IsHead (es : List (Key × List ℕ)) (k : Key) (bytes : List ℕ) : Type 0 where
  stands : find key_cmp k es ≡ Some bytes
  least : (q : Key) → IsSome (find key_cmp q es) → is_gt (key_cmp k q) ≡ false

is_head : (es : List (Key × List ℕ)) → T (is_sorted key_cmp es) → (k : Key) (bytes : List ℕ) → slice_get es 0 ≡ Some (k, bytes) → IsHead es k bytes
is_head [] h k bytes is = absurd (cc)
is_head (e ∷ es) h k bytes is =
    let same : e ≡ (k, bytes) = cc in
    subst (λ (p : Key × List ℕ). IsHead (e ∷ es) p.0 p.1) same (record { stands = head_found e es; least = head_least e es h })

both_ways : (o r : Ordering) → o ≡ ordering_reverse r → is_gt o ≡ false → is_gt r ≡ false → o ≡ Equal
both_ways Less Less e a b = cc
both_ways Less Equal e a b = cc
both_ways Less Greater e a b = cc
both_ways Equal r e a b = refl
both_ways Greater r e a b = cc

head_is : (es : List (Key × List ℕ)) → T (is_sorted key_cmp es) → (k : Key) (bytes : List ℕ) → IsHead es k bytes → slice_get es 0 ≡ Some (k, bytes)
head_is [] h k bytes is = absurd (let stands = is.stands in cc)
head_is (e ∷ es) h k bytes is =
    let up = is.least e.0 (subst IsSome (sym (head_found e es)) refl) in
    let down = head_least e es h k (subst IsSome (sym is.stands) refl) in
    let keys : k ≡ e.0 = key_cmp-IsAntisymmetric k e.0 (both_ways (key_cmp k e.0) (key_cmp e.0 k) (key_cmp_total.antisymm k e.0) up down) in
    let values : Some e.1 ≡ Some bytes = sym (head_found e es) ∙ ap (λ q. find key_cmp q (e ∷ es)) (sym keys) ∙ is.stands in
    let same : e.1 ≡ bytes = cc in
    λ i. Some (sym keys i, same i)

empty_of_none : (es : List (Key × List ℕ)) → slice_get es 0 ≡ None → es ≡ []
empty_of_none [] is = refl
empty_of_none (e ∷ es) is = absurd (cc)

empty_of_zero : (es : List (Key × List ℕ)) → length es ≡ 0 → es ≡ []
empty_of_zero [] is = refl
empty_of_zero (e ∷ es) is = absurd (omega arith)

empty_of_nothing : (es : List (Key × List ℕ)) → ((q : Key) → find key_cmp q es ≡ None) → es ≡ []
empty_of_nothing [] h = refl
empty_of_nothing (e ∷ es) h = absurd (let some = head_found e es in let none = h e.0 in cc)

-- ---- none

vacant : (look : Look) (rows : Rows) → entries (rows_in look rows) ≡ [] → IsVacant look rows
vacant look rows none q t = sym (found_covered look rows q t) ∙ ap (find key_cmp q) none

nowhere : (b : Bool) (x : Option (List ℕ)) → (b ≡ true → x ≡ None) → cond b x None ≡ None
nowhere true x h = h refl
nowhere false x h = refl

empty_where_vacant : (look : Look) (rows : Rows) → IsVacant look rows → entries (rows_in look rows) ≡ []
empty_where_vacant look rows none = empty_of_nothing _ (λ q. found look rows q ∙ nowhere (covers look q) (get rows q) (none q))

pub vacant_where_no_first : (look : Look) (rows : Rows) → first_in look rows ≡ None → IsVacant look rows
vacant_where_no_first look rows e = vacant look rows (empty_of_none _ e)

pub no_first_where_vacant : (look : Look) (rows : Rows) → IsVacant look rows → first_in look rows ≡ None
no_first_where_vacant look rows none = ap (λ (es : List (Key × List ℕ)). slice_get es 0) (empty_where_vacant look rows none)

pub vacant_where_zero : (look : Look) (rows : Rows) → count_in look rows ≡ 0 → IsVacant look rows
vacant_where_zero look rows e = vacant look rows (empty_of_zero _ (sym (len-entries (rows_in look rows)) ∙ e))

pub zero_where_vacant : (look : Look) (rows : Rows) → IsVacant look rows → count_in look rows ≡ 0
zero_where_vacant look rows none = len-entries (rows_in look rows) ∙ ap length (empty_where_vacant look rows none)

-- ---- the first

-- two covered keys are in the order of their keys alone
pub in_order : (look : Look) (k q : Key) → IsTrue (covers look k) → IsTrue (covers look q) → is_gt (key_cmp k q) ≡ false → k.1 ≤ q.1
in_order look k q s t e = grind (arith, nat_tests)

ordered : (look : Look) (k q : Key) → IsTrue (covers look k) → IsTrue (covers look q) → k.1 ≤ q.1 → is_gt (key_cmp k q) ≡ false
ordered look k q s t e = grind (arith, nat_tests)

inside : (b : Bool) (x : Option (List ℕ)) (bytes : List ℕ) → cond b x None ≡ Some bytes → (b ≡ true) × (x ≡ Some bytes)
inside true x bytes e = (refl, e)
inside false x bytes e = absurd (cc)

some_inside : (b : Bool) (x : Option (List ℕ)) → IsSome (cond b x None) → (b ≡ true) × IsSome x
some_inside true x s = (refl, s)
some_inside false x s = absurd (cc)

pub is_first : (look : Look) (rows : Rows) (k : Key) (bytes : List ℕ) → first_in look rows ≡ Some (k, bytes) → IsFirst look rows k bytes
is_first look rows k bytes e =
    let head = is_head _ (entries_sorted (rows_in look rows)) k bytes e in
    let at = inside (covers look k) (get rows k) bytes (sym (found look rows k) ∙ head.stands) in
    record {
      covered = at.0;
      stands = at.1;
      least = λ q t some. in_order look k q at.0 t (head.least q (subst IsSome (sym (found_covered look rows q t)) some));
    }

pub first_is : (look : Look) (rows : Rows) (k : Key) (bytes : List ℕ) → IsFirst look rows k bytes → first_in look rows ≡ Some (k, bytes)
first_is look rows k bytes is = head_is _ (entries_sorted (rows_in look rows)) k bytes (record {
  stands = found_covered look rows k is.covered ∙ is.stands;
  least = λ q some. let at = some_inside (covers look q) (get rows q) (subst IsSome (found look rows q) some) in ordered look k q is.covered at.0 (is.least q at.0 at.1);
})
