use Rattle.std.proofs.Common.{arith, ◌≡◌, ◌∙◌}
use Rattle.site_service.proofs.ScanLemmas.{scan_begins, scan_ends, scan_goes, scan_is_full}
use Rattle.site_service.proofs.scans.append_scanned.Goals as goal

pub loop-count-init : goal.loop-count-init
loop-count-init g c = λ rows answers. scan_begins g.S.ByteSink.appends c.args.sink.now c.args.scan rows c.new-left.result c.new-left.ensures (g.met.S.ByteSink.nothing c.args.sink.now)

pub loop-count-preserved : goal.loop-count-preserved
loop-count-preserved g c = λ rows answers.
    scan_goes g.S.ByteSink.appends g.met.S.ByteSink.together c.args.sink.now c.loop-count.sink c.append_row_line.new.sink c.args.scan rows c.loop-count.left c.next.new.self c.loop-count.count c.in-Some.key c.in-Some.row.now
    (c.loop-count.invariant rows answers) (omega arith) (c.in-Some.ensures.row rows answers) c.in-Some.ensures.table c.append_row_line.ensures

pub returns-in_default-clause-rows : goal.returns-in_default-clause-rows
returns-in_default-clause-rows g c = λ rows answers.
    (scan_ends g.S.ByteSink.appends c.args.sink.now c.loop-count.sink c.args.scan rows c.loop-count.left c.loop-count.count (c.loop-count.invariant rows answers) (c.in_default.ensures.end rows answers)).0

pub returns-in_default-clause-count : goal.returns-in_default-clause-count
returns-in_default-clause-count g c = λ rows answers.
    (scan_ends g.S.ByteSink.appends c.args.sink.now c.loop-count.sink c.args.scan rows c.loop-count.left c.loop-count.count (c.loop-count.invariant rows answers) (c.in_default.ensures.end rows answers)).1

pub returns-clause-rows : goal.returns-clause-rows
returns-clause-rows g c = λ rows answers.
    (scan_is_full g.S.ByteSink.appends c.args.sink.now c.loop-count.sink c.args.scan rows c.loop-count.left c.loop-count.count (c.loop-count.invariant rows answers) (omega arith)).0

pub returns-clause-count : goal.returns-clause-count
returns-clause-count g c = λ rows answers.
    let full : c.args.scan.most ≡ c.loop-count.count = omega arith in
    full ∙ (scan_is_full g.S.ByteSink.appends c.args.sink.now c.loop-count.sink c.args.scan rows c.loop-count.left c.loop-count.count (c.loop-count.invariant rows answers) (omega arith)).1
