-- Reads after writes, and what is left along them.
use Rattle.std.proofs.Common.{◌≡◌, ℕ, ◌+◌, ◌^◌, ◌<◌, List, [], ◌∷◌, length, Bool, true, false, cond, ◌&&◌, Option, Some, None, refl, sym, ap, subst, ◌∙◌, filter, is_some, nat_eq, nat_le, arith}
use Rattle.std.specs.Prelude.{Result, Ok, Err, IfOk, find, count_by, option_map}
use Rattle.std.specs.FinMap.{get, entries}
use Rattle.std.proofs.lemmas.Bool.Decides.{nat_tests}
use Rattle.std.proofs.lemmas.List.Sums.{length-filter}
use Rattle.schema.specs.declared.look.Look.{Look}
use Rattle.schema.specs.Rows.{Key, Rows, Writes, covers, count_in, first_in, puts, rows_under}
use Rattle.row_sets.proofs.OrderLemmas.{passing_both}

pub if_ok : {T E : Type 0} {P Q : T → Type 0} (r : Result T E) → ((x : T) → P x → Q x) → IfOk r P → IfOk r Q
if_ok (Ok x) h p = h x p
if_ok (Err e) h p = tt

pub is_some_map : {X Y : Type 0} (f : X → Y) (o : Option X) → is_some (option_map f o) ≡ is_some o
is_some_map f None = refl
is_some_map f (Some x) = refl

-- ---- two tests, one after the other

pub counted_both : {X : Type 0} (p q : X → Bool) (xs : List X) → length (filter q (filter p xs)) ≡ count_by (λ x. p x && q x) xs
counted_both p q xs = ap length (passing_both p q xs) ∙ length-filter (λ x. p x && q x) xs

pub find_both : {X : Type 0} (p q : X → Bool) (xs : List X) → find q (filter p xs) ≡ find (λ x. p x && q x) xs
find_both p q [] = refl
find_both p q (x ∷ xs) = elim (p x) as (λ b. find q (cond b (x ∷ filter p xs) (filter p xs)) ≡ cond (b && q x) (Some x) (find (λ y. p y && q y) xs)) [
  | true ↦ ap (λ o. cond (q x) (Some x) o) (find_both p q xs)
  | false ↦ find_both p q xs
]

-- what is found passes
pub found_passes : {X : Type 0} (p : X → Bool) (xs : List X) (x : X) → find p xs ≡ Some x → p x ≡ true
found_passes p [] x e = absurd (cc)
found_passes p (y ∷ ys) x e = elim (p y) as (λ b. p y ≡ b → cond b (Some y) (find p ys) ≡ Some x → p x ≡ true) [
  | true ↦ λ passes same. (let one : y ≡ x = cc in ap p (sym one) ∙ passes)
  | false ↦ λ _ rest. found_passes p ys x rest
] refl e

-- ---- the loop over the writes that a look covers

abbrev Entry : Type 0
Entry = Key × Option (List ℕ)

-- whether a row stands where a write is
abbrev pub stands : Rows → Entry → Bool
stands rows write = is_some (get rows write.0)

abbrev pub covered : Look → Writes → List Entry
covered look writes = filter (λ write. covers look write.0) (entries writes)

-- these many of the writes so far are where a row stands
pub record IsCounted (answers_from : Rows → Type 0) (look : Look) (writes : Writes) (count : ℕ) (rest : List Entry) : Type 0 where
  pub small : count + length rest < 2 ^ 64
  pub counts : (rows : Rows) → answers_from rows → count + length (filter (stands rows) rest) ≡ length (filter (stands rows) (covered look writes))

module _ {answers_from : Rows → Type 0} {look : Look} {writes : Writes} where
  pub counted_none : (rest : List Entry) → rest ≡ covered look writes → length rest < 2 ^ 64 → IsCounted answers_from look writes 0 rest
  counted_none rest e fits = record { small = omega arith; counts = λ rows a. (let same = ap (λ es. length (filter (stands rows) es)) e in omega arith) }

  pub counted_one : {count : ℕ} {all rest : List Entry} (e : Entry) → IsCounted answers_from look writes count all → all ≡ e ∷ rest → ((rows : Rows) → answers_from rows → stands rows e ≡ true) → IsCounted answers_from look writes (count + 1) rest
  counted_one {count} {all} {rest} e so_far is here =
      let now : IsCounted answers_from look writes count (e ∷ rest) = subst (IsCounted answers_from look writes count) is so_far in record {
        small = (let small = now.small in omega arith);
        counts = λ rows a. (let before = now.counts rows a in
            let taken : count + length (cond true (e ∷ filter (stands rows) rest) (filter (stands rows) rest)) ≡ length (filter (stands rows) (covered look writes)) = ap (λ b. count + length (cond b (e ∷ filter (stands rows) rest) (filter (stands rows) rest))) (sym (here rows a)) ∙ before in
            omega arith);
      }

  pub counted_zero : {count : ℕ} {all rest : List Entry} (e : Entry) → IsCounted answers_from look writes count all → all ≡ e ∷ rest → ((rows : Rows) → answers_from rows → stands rows e ≡ false) → IsCounted answers_from look writes count rest
  counted_zero {count} {all} {rest} e so_far is none =
      let now : IsCounted answers_from look writes count (e ∷ rest) = subst (IsCounted answers_from look writes count) is so_far in record {
        small = (let small = now.small in omega arith);
        counts = λ rows a. ap (λ b. count + length (cond b (e ∷ filter (stands rows) rest) (filter (stands rows) rest))) (sym (none rows a)) ∙ now.counts rows a;
      }

  pub counted_all : {count : ℕ} {rest : List Entry} → IsCounted answers_from look writes count rest → rest ≡ []
      → ((look : Look) (writes : Writes) (rows : Rows) → count_in look (rows_under writes rows) ≡ count_by (λ w. covers look w.0 && is_some (get rows w.0)) (entries writes))
      → (rows : Rows) → answers_from rows → count ≡ count_in look (rows_under writes rows)
  counted_all {count} {rest} so_far is law rows a =
      let now : IsCounted answers_from look writes count [] = subst (IsCounted answers_from look writes count) is so_far in
      let before = now.counts rows a in
      let all : count ≡ length (filter (stands rows) (covered look writes)) = omega arith in
      all ∙ counted_both (λ write. covers look write.0) (stands rows) (entries writes) ∙ sym (law look writes rows)

-- ---- the first put

pub covers_table : (look : Look) (k : Key) → covers look k ≡ true → k.0 ≡ look.table
covers_table look k covered = elim (nat_eq look.table k.0) as (λ b. nat_eq look.table k.0 ≡ b → (b && nat_le look.lo k.1 && nat_le k.1 look.hi) ≡ true → k.0 ≡ look.table) [
  | true ↦ λ same _. grind (arith, nat_tests)
  | false ↦ λ _ no. absurd (cc)
] refl covered

abbrev PutLaw : Type 0
PutLaw = (look : Look) (writes : Writes) → option_map {U = Entry} (λ row. (row.0, Some row.1)) (first_in look (puts writes)) ≡ find (λ w. covers look w.0 && is_some w.1) (entries writes)

abbrev both : Look → Entry → Bool
both look write = covers look write.0 && is_some write.1

both_left : (a b : Bool) → (a && b) ≡ true → a ≡ true
both_left true b e = refl
both_left false b e = absurd (cc)

a_put : (row : Option (Key × List ℕ)) (k : Key) (bytes : List ℕ) → option_map {U = Entry} (λ row. (row.0, Some row.1)) row ≡ Some (k, Some bytes) → row ≡ Some (k, bytes)
a_put None k bytes e = absurd (cc)
a_put (Some (q, b)) k bytes e = (
    let same : ◌≡◌ {A = Entry} (q, Some b) (k, Some bytes) = cc in
    let written : Some b ≡ Some bytes = ap (λ write. write.1) same in
    let of : b ≡ bytes = cc in
    (λ i. Some ((same i).0, of i)))

not_a_put : (row : Option (Key × List ℕ)) → option_map {U = Entry} (λ row. (row.0, Some row.1)) row ≡ None → row ≡ None
not_a_put None e = refl
not_a_put (Some r) e = absurd (cc)

pub put_found : (look : Look) (writes : Writes) (k : Key) (bytes : List ℕ) → PutLaw → find (λ write. is_some write.1) (covered look writes) ≡ Some (k, Some bytes) → first_in look (puts writes) ≡ Some ((look.table, k.1), bytes)
put_found look writes k bytes law e =
    let found : find (both look) (entries writes) ≡ Some (k, Some bytes) = sym (find_both (λ write. covers look write.0) (λ write. is_some write.1) (entries writes)) ∙ e in
    let at : covers look k ≡ true = both_left (covers look k) true (found_passes (both look) (entries writes) (k, Some bytes) found) in
    let table : k.0 ≡ look.table = covers_table look k at in
    a_put (first_in look (puts writes)) k bytes (law look writes ∙ found) ∙ (λ i. Some ((table i, k.1), bytes))

pub no_put_found : (look : Look) (writes : Writes) → PutLaw → find (λ write. is_some write.1) (covered look writes) ≡ None → first_in look (puts writes) ≡ None
no_put_found look writes law e = not_a_put (first_in look (puts writes)) (law look writes ∙ sym (find_both (λ write. covers look write.0) (λ write. is_some write.1) (entries writes)) ∙ e)
