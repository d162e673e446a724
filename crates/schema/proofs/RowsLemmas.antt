-- What holds of the plain map of rows.
use Rattle.std.proofs.Common.{◌≡◌, ◌≢◌, ℕ, List, [], ◌∷◌, refl, sym, ap, subst, ◌∙◌, Bool, true, false, cond}
use Rattle.std.specs.Prelude.{Option, Some, None, unwrap_or}
use Rattle.std.specs.Ordering.{is_eq, eq_by_cmp}
use Rattle.std.specs.Cmp.{tied_itself}
use Rattle.std.specs.FinMap.{empty, get, entries, get-entries, get-empty, get-insert, get-remove, same_map, find}
use Rattle.std.proofs.lemmas.Map.Views.{tells_apart}
use Rattle.schema.specs.Schema.{Tables}
use Rattle.schema.specs.Rows.{Key, key_cmp, key_cmp_total, key_cmp-IsAntisymmetric, Rows, IsKey, IsRow, AreRows, Writes, with_write, after_write, after_write_list, after_writes, puts, IsWrite, AreWrites}

-- ---- keys

-- whether two keys are one
abbrev pub is_key : Key → Key → Bool
is_key = eq_by_cmp key_cmp

pub same_key : (k : Key) → is_key k k ≡ true
same_key k = ap is_eq (tied_itself key_cmp_total k)

pub one_key : (q k : Key) → is_key q k ≡ true → q ≡ k
one_key = tells_apart {R = key_cmp} key_cmp-IsAntisymmetric

pub other_key : (q k : Key) → q ≢ k → is_key q k ≡ false
other_key q k apart = elim (is_key q k) as (λ b. is_key q k ≡ b → b ≡ false) [ true ↦ λ e. absurd (apart (one_key q k e)) | false ↦ λ e. refl ] refl

-- ---- one write

pub get-after_write : (rows : Rows) (k q : Key) (write : Option (List ℕ)) → get (after_write k write rows) q ≡ cond (is_key q k) write (get rows q)
get-after_write rows k q (Some bytes) = get-insert key_cmp_total rows k bytes q
get-after_write rows k q None = get-remove key_cmp_total rows k q

-- the two branches of such an answer
pub here : {X : Type 0} (k : Key) (x y : X) → cond (is_key k k) x y ≡ x
here k x y = ap (λ b. cond b x y) (same_key k)

pub elsewhere : {X : Type 0} (q k : Key) (x y : X) → q ≢ k → cond (is_key q k) x y ≡ y
elsewhere q k x y apart = ap (λ b. cond b x y) (other_key q k apart)

pub same_rows : (m n : Rows) → ((q : Key) → get m q ≡ get n q) → m ≡ n
same_rows m n h = same_map key_cmp_total key_cmp-IsAntisymmetric m n h

-- ---- the rows after writes

past : (b : Bool) (x : Option (List ℕ)) (y : Option (Option (List ℕ))) (z : Option (List ℕ)) → cond b x (unwrap_or y z) ≡ unwrap_or (cond b (Some x) y) z
past true x y z = refl
past false x y z = refl

pub get-after_write_list : (writes : List (Key × Option (List ℕ))) (rows : Rows) (q : Key) → get (after_write_list writes rows) q ≡ unwrap_or (find key_cmp q writes) (get rows q)
get-after_write_list [] rows q = refl
get-after_write_list (write ∷ writes) rows q = get-after_write (after_write_list writes rows) write.0 q write.1
    ∙ ap (cond (is_key q write.0) write.1) (get-after_write_list writes rows q)
    ∙ past (is_key q write.0) write.1 (find key_cmp q writes) (get rows q)

pub get-after_writes : (writes : Writes) (rows : Rows) (q : Key) → get (after_writes writes rows) q ≡ unwrap_or (get writes q) (get rows q)
get-after_writes writes rows q = get-after_write_list (entries writes) rows q ∙ ap (λ w. unwrap_or w (get rows q)) (sym (get-entries writes q))

pub after_writes-with_write : (writes : Writes) (k : Key) (write : Option (List ℕ)) (rows : Rows) → after_writes (with_write writes k write) rows ≡ after_write k write (after_writes writes rows)
after_writes-with_write writes k write rows = same_rows _ _ (λ q.
    get-after_writes (with_write writes k write) rows q
    ∙ ap (λ w. unwrap_or w (get rows q)) (get-insert key_cmp_total writes k write q)
    ∙ sym (get-after_write (after_writes writes rows) k q write ∙ ap (cond (is_key q k) write) (get-after_writes writes rows q) ∙ past (is_key q k) write (get writes q) (get rows q)))

pub after_writes-empty : (rows : Rows) → after_writes empty rows ≡ rows
after_writes-empty rows = same_rows _ _ (λ q. get-after_writes empty rows q ∙ ap (λ w. unwrap_or w (get rows q)) (get-empty key_cmp q))

-- a removal puts nothing
pub get-puts : (writes : Writes) (q : Key) → get (puts writes) q ≡ unwrap_or (get writes q) None
get-puts writes q = get-after_writes writes empty q ∙ ap (unwrap_or (get writes q)) (get-empty key_cmp q)

pub put_at : (write : Option (Option (List ℕ))) (bytes : List ℕ) → unwrap_or write None ≡ Some bytes → write ≡ Some (Some bytes)
put_at None bytes e = absurd (cc)
put_at (Some write) bytes e = ap Some e

-- ---- rows that are the schema's

-- what holds of both branches holds of the choice
chosen : (b : Bool) (P : Option (List ℕ) → Type 0) (x y : Option (List ℕ)) → (b ≡ true → P x) → P y → P (cond b x y)
chosen true P x y p q = p refl
chosen false P x y p q = q

-- what stands at this key, if anything does, is a row
Fits : Tables → Key → Option (List ℕ) → Type 0
Fits tables k row = (bytes : List ℕ) → row ≡ Some bytes → IsRow tables k.0 k.1 bytes

nothing : (tables : Tables) (k : Key) → Fits tables k None
unfolding Fits
nothing tables k bytes e = absurd (cc)

this : (tables : Tables) (k : Key) (row : List ℕ) → IsRow tables k.0 k.1 row → Fits tables k (Some row)
unfolding Fits
this tables k row fits bytes e = subst (λ bs. IsRow tables k.0 k.1 bs) (cc) fits

moved : (tables : Tables) (q k : Key) (row : Option (List ℕ)) → q ≡ k → Fits tables k row → Fits tables q row
moved tables q k row e = subst (λ x. Fits tables x row) (sym e)

all_fit : (tables : Tables) (rows : Rows) → AreRows tables rows → (q : Key) → Fits tables q (get rows q)
unfolding Fits
all_fit tables rows are q bytes e = are q.0 q.1 bytes e

are_rows : (tables : Tables) (rows : Rows) → ((q : Key) → Fits tables q (get rows q)) → AreRows tables rows
unfolding Fits
are_rows tables rows h table key bytes e = h (table, key) bytes e

pub no_rows : (tables : Tables) → AreRows tables empty
no_rows tables = are_rows tables empty (λ q. subst (Fits tables q) (sym (get-empty key_cmp q)) (nothing tables q))

rows_with_write : (tables : Tables) (rows : Rows) (k : Key) (write : Option (List ℕ)) → AreRows tables rows → Fits tables k write → AreRows tables (after_write k write rows)
rows_with_write tables rows k write are fits = are_rows tables _ (λ q.
    subst (Fits tables q) (sym (get-after_write rows k q write))
    (chosen (is_key q k) (Fits tables q) write (get rows q) (λ t. moved tables q k write (one_key q k t) fits) (all_fit tables rows are q)))

pub rows_with_put : (tables : Tables) (rows : Rows) (table key : ℕ) (bytes : List ℕ) → IsRow tables table key bytes → AreRows tables rows → AreRows tables (after_write (table, key) (Some bytes) rows)
rows_with_put tables rows table key bytes fits are = rows_with_write tables rows (table, key) (Some bytes) are (this tables (table, key) bytes fits)

pub rows_with_removal : (tables : Tables) (rows : Rows) (k : Key) → AreRows tables rows → AreRows tables (after_write k None rows)
rows_with_removal tables rows k are = rows_with_write tables rows k None are (nothing tables k)

-- what a write, if there is one, or else the row leaves is a row
overlaid : (tables : Tables) (q : Key) (write : Option (Option (List ℕ))) (row : Option (List ℕ)) → ((w : Option (List ℕ)) → write ≡ Some w → IsWrite tables q w) → Fits tables q row → Fits tables q (unwrap_or write row)
unfolding Fits
overlaid tables q None row fits stands = stands
overlaid tables q (Some write) row fits stands = λ bytes e. subst (IsWrite tables q) e (fits write refl)

pub rows_with_writes : (tables : Tables) (writes : Writes) (rows : Rows) → AreWrites tables writes → AreRows tables rows → AreRows tables (after_writes writes rows)
rows_with_writes tables writes rows fit are = are_rows tables _ (λ q.
    subst (Fits tables q) (sym (get-after_writes writes rows q)) (overlaid tables q (get writes q) (get rows q) (fit q) (all_fit tables rows are q)))

-- ---- writes that are the schema's

pub no_writes : (tables : Tables) → AreWrites tables empty
no_writes tables k write e = absurd (let none = get-empty {X = Option (List ℕ)} key_cmp k in cc)

writes_with : (tables : Tables) (writes : Writes) (k : Key) (write : Option (List ℕ)) → IsWrite tables k write → AreWrites tables writes → AreWrites tables (with_write writes k write)
writes_with tables writes k write fits are q w e =
    let at : cond (is_key q k) (Some write) (get writes q) ≡ Some w = sym (get-insert key_cmp_total writes k write q) ∙ e in
    elim (is_key q k) as (λ b. is_key q k ≡ b → cond b (Some write) (get writes q) ≡ Some w → IsWrite tables q w) [
      | true ↦ λ t is.
          let key = one_key q k t in
          let same : write ≡ w = cc in
          subst (λ (x : Key). IsWrite tables x w) (sym key) (subst (IsWrite tables k) same fits)
      | false ↦ λ t is. are q w is
    ] refl at

pub writes_with_put : (tables : Tables) (writes : Writes) (table key : ℕ) (bytes : List ℕ) → IsRow tables table key bytes → AreWrites tables writes → AreWrites tables (with_write writes (table, key) (Some bytes))
writes_with_put tables writes table key bytes fits are = writes_with tables writes (table, key) (Some bytes) fits are

pub writes_with_removal : (tables : Tables) (writes : Writes) (k : Key) → IsKey tables k → AreWrites tables writes → AreWrites tables (with_write writes k None)
writes_with_removal tables writes k fits are = writes_with tables writes k None fits are
