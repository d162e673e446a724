-- What is answered while the first rows are put one by one.
use Rattle.std.proofs.Common.{◌≡◌, ◌∙◌, ℕ, Bool, true, false, cond, List, [], ◌∷◌, ◌++◌, is_some, refl, sym, ap, subst, eqb, arith, ◌<◌, length}
use Rattle.std.specs.Prelude.{◌&&◌, ◌≢◌, Option, Some, None, IsSome}
use Rattle.std.specs.FinMap.{get, entries, find, entries_sorted, get-entries}
use Rattle.schema.specs.Schema.{Tables}
use Rattle.schema.specs.Rows.{Key, Rows, AreRows, key_cmp}
use Rattle.schema.proofs.RowsLemmas.{is_key, same_key, one_key}
use Rattle.row_chain.specs.Version.{Version, row_up_to}
use Rattle.row_chain.proofs.VersionLemmas.{row-append, test_true}
use Rattle.key_table.specs.Table.{Table}
use Rattle.rows_mv.specs.Versions.{HaveTables, FitWidths}
use Rattle.rows_mv.proofs.LoopLemmas.{AreSorted, first_alone, both_same, not_both}

abbrev pub Row : Type 0
Row = Key × List ℕ

pub rows_sorted : (rows : Rows) (rest : List Row) → rest ≡ entries rows → AreSorted rest
rows_sorted rows rest is = subst AreSorted (sym is) (entries_sorted rows)

-- the row at a key, once it isn't among those that are left
abbrev pub unless_left : List Row → Option (List ℕ) → Key → Option (List ℕ)
unless_left rest row k = cond (is_some (find key_cmp k rest)) None row

none_or_left : (o : Option (List ℕ)) → None ≡ cond (is_some o) None o
none_or_left None = refl
none_or_left (Some row) = refl

pub none_put : (rows : Rows) (rest : List Row) (k : Key) → rest ≡ entries rows → None ≡ unless_left rest (get rows k) k
none_put rows rest k is =
    none_or_left (get rows k)
    ∙ ap (λ (o : Option (List ℕ)). cond (is_some o) None (get rows k)) (get-entries rows k)
    ∙ ap (λ (l : List Row). unless_left l (get rows k) k) (sym is)

pub all_put : (rest : List Row) (row : Option (List ℕ)) (k : Key) → rest ≡ [] → unless_left rest row k ≡ row
all_put rest row k is = ap (λ (l : List Row). unless_left l row k) is

-- what is left stands in the rows
abbrev pub AreLeftOf : Rows → List Row → Type 0
AreLeftOf rows rest = (k : Key) → IsSome (find key_cmp k rest) → find key_cmp k rest ≡ get rows k

pub first_left : (rows : Rows) (x : Row) (rest : List Row) → AreLeftOf rows (x ∷ rest) → get rows x.0 ≡ Some x.1
first_left rows x rest left =
    let there : find key_cmp x.0 (x ∷ rest) ≡ Some x.1 = ap (λ (b : Bool). cond b (Some x.1) (find key_cmp x.0 rest)) (same_key x.0) in
    sym (left x.0 (ap is_some there)) ∙ there

pub later_left : (rows : Rows) (x : Row) (rest : List Row) → AreSorted (x ∷ rest) → AreLeftOf rows (x ∷ rest) → AreLeftOf rows rest
later_left rows x rest sorted left k there =
    elim (is_key k x.0) as (λ b. is_key k x.0 ≡ b → find key_cmp k rest ≡ get rows k) [
      | true ↦ λ e.
          let same : k ≡ x.0 = one_key k x.0 e in
          let gone : find key_cmp k rest ≡ None = ap (λ (q : Key). find key_cmp q rest) same ∙ first_alone x rest sorted in
          let bad : false ≡ true = sym (ap is_some gone) ∙ there in
          absurd (cc)
      | false ↦ λ e.
          let as_later : find key_cmp k (x ∷ rest) ≡ find key_cmp k rest = ap (λ (b : Bool). cond b (Some x.1) (find key_cmp k rest)) e in
          sym as_later ∙ left k (ap is_some as_later ∙ there)
    ] refl

-- one row is put
pub put_one : (s : ℕ) (rows : Rows) (x : Row) (rest : List Row) (k : Key) (now new : List Version)
    → AreSorted (x ∷ rest) → AreLeftOf rows (x ∷ rest)
    → row_up_to s now ≡ unless_left (x ∷ rest) (get rows k) k
    → new ≡ cond (eqb x.0.0 k.0 && eqb x.0.1 k.1) (now ++ record { position = 0; row = Some x.1 } ∷ []) now
    → row_up_to s new ≡ unless_left rest (get rows k) k
put_one s rows x rest k now new sorted left before after =
    elim (is_key k x.0) as (λ b. is_key k x.0 ≡ b → row_up_to s new ≡ unless_left rest (get rows k) k) [
      | true ↦ λ e.
          let same : k ≡ x.0 = one_key k x.0 e in
          let gone : find key_cmp k rest ≡ None = ap (λ (q : Key). find key_cmp q rest) same ∙ first_alone x rest sorted in
          ap (row_up_to s) (after ∙ ap (λ (b : Bool). cond b (now ++ record { position = 0; row = Some x.1 } ∷ []) now) (both_same x.0 k (sym same)))
          ∙ row-append s None now (record { position = 0; row = Some x.1 })
          ∙ ap (λ (b : Bool). cond b (Some x.1) (row_up_to s now)) (test_true 0 s (omega arith))
          ∙ sym (ap (λ (q : Key). get rows q) same ∙ first_left rows x rest left)
          ∙ sym (ap (λ (o : Option (List ℕ)). cond (is_some o) None (get rows k)) gone)
      | false ↦ λ e.
          let apart : k ≢ x.0 = (λ same. let bad : false ≡ true = sym e ∙ ap (λ (q : Key). is_key q x.0) same ∙ same_key x.0 in cc) in
          ap (row_up_to s) (after ∙ ap (λ (b : Bool). cond b (now ++ record { position = 0; row = Some x.1 } ∷ []) now) (not_both x.0 k apart))
          ∙ before
          ∙ ap (λ (b : Bool). cond (is_some (cond b (Some x.1) (find key_cmp k rest))) None (get rows k)) e
    ] refl

pub still_left : (rows : Rows) (k : Key) {a b : List Row} → a ≡ b → unless_left a (get rows k) k ≡ unless_left b (get rows k) k
still_left rows k is = ap (λ (l : List Row). unless_left l (get rows k) k) is

-- ---- the tables that they are put in

value_of : {X : Type 0} (P : Type 0) (o : Option X) → IsSome o → ((x : X) → o ≡ Some x → P) → P
value_of P None there f = absurd (cc)
value_of P (Some x) there f = f x refl

pub rows_fit : (schema : Tables) (tables : List Table) (rows : Rows) → HaveTables schema tables → AreRows schema rows → FitWidths tables rows
rows_fit schema tables rows have are = record {
  table = λ k there. value_of (k.0 < length tables) (get rows k) there (λ bytes is. (have k.0 (length bytes) (are k.0 k.1 bytes is).width).0);
  width = λ k bytes is. sym (have k.0 (length bytes) (are k.0 k.1 bytes is).width).1;
}
