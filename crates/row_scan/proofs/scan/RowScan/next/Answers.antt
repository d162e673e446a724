use Rattle.std.proofs.Common.{◌≡◌, ℕ, List, ◌∷◌, Option, Some, sym, ap, ◌∙◌}
use Rattle.schema.specs.declared.look.Look.{Look}
use Rattle.schema.specs.Rows.{Key, first_in}
use Rattle.txn_view.specs.Found.{row_found}
use Rattle.row_scan.specs.Left.{ScanState, rows_left}
use Rattle.row_scan.proofs.ScanLemmas.{first_and_rest, no_rows}
use Rattle.row_scan.proofs.scan.RowScan.next.Goals as goal

pub returns-in_default-first_row-clause-end : goal.returns-in_default-first_row-clause-end
returns-in_default-first_row-clause-end g c = λ rows answers.
    let look = c.in-Some.look in
    let left : c.args.self.now.left ≡ Some look = ap (λ (s : ScanState). s.left) (sym c.self.view_is) ∙ c.in-Some.is in
    ap (λ (l : Option Look). rows_left l rows) left
    ∙ no_rows look rows (sym (c.first_row.ensures rows answers) ∙ ap (row_found look.table) c.in_default-first_row.is)

pub returns-clause-row : goal.returns-clause-row
returns-clause-row g c = λ rows answers.
    let look = c.in-Some.look in
    let key = c.in-Some-first_row.key in
    let bytes = c.in-Some-first_row.row.now in
    let left : c.args.self.now.left ≡ Some look = ap (λ (s : ScanState). s.left) (sym c.self.view_is) ∙ c.in-Some.is in
    let table : look.table ≡ c.args.self.now.table = c.self.inside.of_table look c.in-Some.is ∙ ap (λ (s : ScanState). s.table) c.self.view_is in
    let first : first_in look rows ≡ Some ((look.table, key), bytes) = sym (c.first_row.ensures rows answers) ∙ ap (row_found look.table) c.in-Some-first_row.is in
    ap (λ (l : Option Look). rows_left l rows) left
    ∙ first_and_rest look rows (look.table, key) bytes first
    ∙ ap (λ (es : List (Key × List ℕ)). ((look.table, key), bytes) ∷ es) (sym (c.above-self-inside.ensures.rows rows))
    ∙ ap (λ (t : ℕ). ((t, key), bytes) ∷ rows_left c.above-self-inside.result rows) table
