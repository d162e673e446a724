-- How one write changes what a look counts.
use Rattle.std.proofs.Common.{◌≡◌, ℕ, ◌+◌, List, refl, sym, ap, ◌∙◌, Bool, true, false, cond}
use Rattle.std.specs.Prelude.{IsTrue, IsSome, Option, Some, None, is_some}
use Rattle.std.specs.FinMap.{get, insert, remove, len, get-insert, get-remove, len-insert}
use Rattle.schema.specs.declared.look.Look.{Look}
use Rattle.schema.specs.Rows.{Key, key_cmp_total, Rows, covers, rows_in, count_in, after_write}
use Rattle.schema.proofs.RowsLemmas.{is_key, one_key, same_rows, get-after_write, here}
use Rattle.schema.proofs.LookLemmas.{get-rows_in, rows_in_agree}

exchanged : (t c : Bool) (x y : Option (List ℕ)) → (t ≡ true → c ≡ true) → cond c (cond t x y) None ≡ cond t x (cond c y None)
exchanged true true x y h = refl
exchanged true false x y h = absurd (let e = h refl in cc)
exchanged false c x y h = refl

-- a covered write writes among the covered rows
rows_in_after_write : (look : Look) (rows : Rows) (k : Key) (write : Option (List ℕ)) → covers look k ≡ true → rows_in look (after_write k write rows) ≡ after_write k write (rows_in look rows)
rows_in_after_write look rows k write t = same_rows _ _ (λ q.
    get-rows_in look (after_write k write rows) q
    ∙ ap (λ row. cond (covers look q) row None) (get-after_write rows k q write)
    ∙ exchanged (is_key q k) (covers look q) write (get rows q) (λ e. ap (covers look) (one_key q k e) ∙ t)
    ∙ sym (get-after_write (rows_in look rows) k q write ∙ ap (cond (is_key q k) write) (get-rows_in look rows q)))

apart : (look : Look) (q k : Key) → covers look k ≡ false → covers look q ≡ true → is_key q k ≡ false
apart look q k out t = elim (is_key q k) as (λ b. is_key q k ≡ b → b ≡ false) [
  | true ↦ λ e. absurd (let same = ap (covers look) (one_key q k e) in cc)
  | false ↦ λ e. refl
] refl

-- and one that is not covered changes none of them
pub count_outside : (look : Look) (rows : Rows) (k : Key) (write : Option (List ℕ)) → covers look k ≡ false → count_in look (after_write k write rows) ≡ count_in look rows
count_outside look rows k write out = ap len (rows_in_agree look _ _ (λ q t.
    get-after_write rows k q write ∙ ap (λ b. cond b write (get rows q)) (apart look q k out t)))

stands_in : (look : Look) (rows : Rows) (k : Key) → covers look k ≡ true → get (rows_in look rows) k ≡ get rows k
stands_in look rows k t = get-rows_in look rows k ∙ ap (λ b. cond b (get rows k) None) t

pub count_new : (look : Look) (rows : Rows) (k : Key) (bytes : List ℕ) → IsTrue (covers look k) → get rows k ≡ None → count_in look (after_write k (Some bytes) rows) ≡ count_in look rows + 1
count_new look rows k bytes t none =
    let at : get (rows_in look rows) k ≡ None = stands_in look rows k t ∙ none in
    ap len (rows_in_after_write look rows k (Some bytes) t) ∙ len-insert key_cmp_total (rows_in look rows) k bytes
    ∙ ap (λ row. cond (is_some row) (len (rows_in look rows)) (len (rows_in look rows) + 1)) at

pub count_again : (look : Look) (rows : Rows) (k : Key) (bytes : List ℕ) → IsSome (get rows k) → count_in look (after_write k (Some bytes) rows) ≡ count_in look rows
count_again look rows k bytes some = elim (covers look k) as (λ b. covers look k ≡ b → count_in look (after_write k (Some bytes) rows) ≡ count_in look rows) [
  | true ↦ λ t.
      let at : is_some (get (rows_in look rows) k) ≡ true = ap is_some (stands_in look rows k t) ∙ some in
      ap len (rows_in_after_write look rows k (Some bytes) t) ∙ len-insert key_cmp_total (rows_in look rows) k bytes
      ∙ ap (λ b. cond b (len (rows_in look rows)) (len (rows_in look rows) + 1)) at
  | false ↦ λ out. count_outside look rows k (Some bytes) out
] refl

-- the row that is removed, put again
put_back : (rows : Rows) (k : Key) (bytes : List ℕ) → get rows k ≡ Some bytes → insert (remove rows k) k bytes ≡ rows
put_back rows k bytes is = same_rows _ _ (λ q.
    get-insert key_cmp_total (remove rows k) k bytes q ∙ ap (cond (is_key q k) (Some bytes)) (get-remove key_cmp_total rows k q)
    ∙ elim (is_key q k) as (λ b. is_key q k ≡ b → cond b (Some bytes) (cond b None (get rows q)) ≡ get rows q) [
      | true ↦ λ e. sym (ap (get rows) (one_key q k e) ∙ is)
      | false ↦ λ e. refl
    ] refl)

some_value : (row : Option (List ℕ)) → IsSome row → (bytes : List ℕ) × (row ≡ Some bytes)
some_value None s = absurd (cc)
some_value (Some bytes) s = (bytes, refl)

pub count_removed : (look : Look) (rows : Rows) (k : Key) → IsTrue (covers look k) → IsSome (get rows k) → count_in look (after_write k None rows) + 1 ≡ count_in look rows
count_removed look rows k t some =
    let old : (bytes : List ℕ) × (get rows k ≡ Some bytes) = some_value _ some in
    let gone : get (remove rows k) k ≡ None = get-remove key_cmp_total rows k k ∙ here k None (get rows k) in
    sym (count_new look (remove rows k) k old.0 t gone) ∙ ap (count_in look) (put_back rows k old.0 old.1)

pub count_absent : (look : Look) (rows : Rows) (k : Key) → get rows k ≡ None → count_in look (after_write k None rows) ≡ count_in look rows
count_absent look rows k none = ap (count_in look) (same_rows (remove rows k) rows (λ q.
    get-remove key_cmp_total rows k q
    ∙ elim (is_key q k) as (λ b. is_key q k ≡ b → cond b None (get rows q) ≡ get rows q) [
      | true ↦ λ e. sym (ap (get rows) (one_key q k e) ∙ none)
      | false ↦ λ e. refl
    ] refl))
