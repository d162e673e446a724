use Rattle.std.proofs.Common.{◌≡◌, ◌∙◌, ◌-◌, ◌<◌, ℕ, zero, suc, refl, sym, ap, rules, List, [], ◌∷◌, length, true, arith}
use Rattle.std.specs.Prelude.{T, Option, Some, None, option_map, slice_get}
use Rattle.std.specs.List.{list_all}
use Rattle.std.specs.Ordering.{is_lt}
use Rattle.std.specs.FinMap.{is_sorted}
use Rattle.schema.specs.Rows.{Key, key_cmp, key_cmp_total}
use Rattle.row_sets.specs.FlatRows.{Row}
use Rattle.row_sets.proofs.FirstRowsLemmas.{behind_last}
use Rattle.row_sets.proofs.first_rows.is_behind_last.Goals as goal

-- by the last row's key
by_last : (key last : Key) (rows : List Row) (o : Option Row) → T (is_sorted key_cmp rows) → slice_get rows (length rows - 1) ≡ o → Some last ≡ option_map (λ row. row.0) o
    → list_all (λ row. is_lt (key_cmp row.0 key)) rows ≡ is_lt (key_cmp last key)
by_last key last rows None sorted is same = absurd (cc)
by_last key last rows (Some row) sorted is same =
    behind_last key_cmp_total key rows row sorted is ∙ ap (λ (k : Key). is_lt (key_cmp k key)) (sym (one last row.0 same))
  where
    one : (a b : Key) → Some a ≡ Some b → a ≡ b
    one a b e = cc

pub returns-in-Some : goal.returns-in-Some
returns-in-Some g c =
    let decided : c.lt.result ≡ is_lt (key_cmp c.in-Some.last (c.args.table, c.args.key)) = search rules in
    decided ∙ sym (by_last (c.args.table, c.args.key) c.in-Some.last c.args.rows.now _ c.requires refl c.in-Some.ensures)

-- no row
by_none : (key : Key) (rows : List Row) → None ≡ option_map (λ row. row.0) (slice_get rows (length rows - 1)) → list_all (λ row. is_lt (key_cmp row.0 key)) rows ≡ true
by_none key [] is = refl
by_none key (row ∷ rows) is =
    let (last, there) = some_at (row ∷ rows) (length (row ∷ rows) - 1) (omega arith) in
    let bad : None ≡ Some last.0 = is ∙ ap (λ (o : Option Row). option_map (λ (r : Row). r.0) o) there in
    absurd (cc)
  where
    some_at : (rows : List Row) (i : ℕ) → i < length rows → (row : Row) × (slice_get rows i ≡ Some row)
    some_at [] i lt = absurd (omega arith)
    some_at (row ∷ rows) zero lt = (row, refl)
    some_at (row ∷ rows) (suc i) lt = some_at rows i (omega arith)

pub returns-in-None : goal.returns-in-None
returns-in-None g c = sym (by_none (c.args.table, c.args.key) c.args.rows.now c.in-None.ensures)
