use Rattle.std.proofs.Common.{◌≡◌, ◌≤◌, ◌+◌, ◌++◌, ◌∷◌, inl, List, Option, ℕ, length, sym, ap, ◌∙◌, arith}
use Rattle.schema.specs.declared.look.Look.{Look}
use Rattle.schema.specs.Rows.{Key}
use Rattle.row_scan.specs.Left.{ScanState, rows_left}
use Rattle.served_replicas.specs.Scanned.{rows_seen}
use Rattle.served_replicas.proofs.ScanLemmas.{copied, one_longer}
use Rattle.served_replicas.proofs.scan.ScannedRows.copy_page.Goals as goal

pub returns-in_default-clause-split : goal.returns-in_default-clause-split
returns-in_default-clause-split g c =
    let rows = rows_seen g.J.LogSetting.setting c.args.self.now.seen in
    ap (λ (s : ScanState). c.loop.self.rows.items ++ rows_left s.left rows) c.in_default.ensures.same ∙ c.loop.invariant.2

pub returns-in_default-clause-end : goal.returns-in_default-clause-end
returns-in_default-clause-end g c = λ _. inl (
    let rows = rows_seen g.J.LogSetting.setting c.args.self.now.seen in
    ap (λ (s : ScanState). rows_left s.left rows) c.in_default.ensures.same ∙ c.in_default.ensures.end rows c.at-rows.ensures.answers)

pub loop-preserved : goal.loop-preserved
loop-preserved g c =
    let rows = rows_seen g.J.LogSetting.setting c.args.self.now.seen in
    let row : Key × List ℕ = ((c.loop.scan.table, c.in-Some.key), c.in-Some.row.now) in
    let pushed = c.in-Ok.ensures.rows in (
      one_longer c.loop.self.rows.items c.copy_row.new.self.rows.items ((c.table.result, c.in-Some.key), c.in-Some.row.now) c.args.most pushed (omega (arith, c.if-len-most.false)),
      c.in-Ok.ensures.seen ∙ c.loop.invariant.1,
      copied c.loop.self.rows.items (rows_left c.next.new.self.left rows) _ (rows_left c.loop.scan.left rows) c.copy_row.new.self.rows.items ((c.table.result, c.in-Some.key), c.in-Some.row.now) row pushed
          (ap (λ (t : ℕ). ((t, c.in-Some.key), c.in-Some.row.now)) (c.table.ensures ∙ c.in-Some.ensures.table)) (c.in-Some.ensures.row rows c.at-rows.ensures.answers) c.loop.invariant.2,
    )
