use Rattle.std.proofs.Common.{◌∙◌, ◌++◌, [], ◌∷◌, arith}
use Rattle.plain_replayer.proofs.LogLemmas.{none_so_far, next_so_far, whole_log, rows_of_history, procedures_of_history, report_of_history, repeating}
use Rattle.plain_replayer.proofs.replay.replay_log.Goals as goal

pub loop-item-init : goal.loop-item-init
loop-item-init g c = none_so_far c.args.setting.now c.args.log.now c.new-reports.result.items c.push.new.self.items c.begins_empty.ensures.rows c.new-reports.ensures.items
    (c.in_ok-push.ensures.items ∙ (λ i. c.new-rows.ensures.items i ++ c.new.ensures i ∷ []))

pub loop-item-preserved : goal.loop-item-preserved
loop-item-preserved g c = next_so_far c.args.setting.now c.args.log.now c.loop-item.item-index c.item-item.result c.item-item.result c.loop-item.reports.items c.add_item.new.reports.items c.loop-item.rows.items c.add_item.new.rows.items
    c.loop-item.invariant (omega arith) c.item-item.is c.in_ok-add_item.ensures.reports c.in_ok-add_item.ensures.rows

pub returns-clause-rows : goal.returns-clause-rows
returns-clause-rows g c = rows_of_history c.args.setting.now c.args.log.now c.loop-item.reports.items c.loop-item.rows.items
    (whole_log c.args.setting.now c.args.log.now c.loop-item.item-index c.loop-item.reports.items c.loop-item.rows.items (omega arith) c.loop-item.invariant)

pub returns-clause-procedures : goal.returns-clause-procedures
returns-clause-procedures g c = procedures_of_history c.args.setting.now c.args.log.now c.loop-item.reports.items c.loop-item.rows.items
    (whole_log c.args.setting.now c.args.log.now c.loop-item.item-index c.loop-item.reports.items c.loop-item.rows.items (omega arith) c.loop-item.invariant)

pub returns-clause-reports : goal.returns-clause-reports
returns-clause-reports g c = report_of_history c.args.setting.now c.args.log.now c.loop-item.reports.items c.loop-item.rows.items
    (whole_log c.args.setting.now c.args.log.now c.loop-item.item-index c.loop-item.reports.items c.loop-item.rows.items (omega arith) c.loop-item.invariant)
    (repeating c.args.setting.now c.begins_empty.ensures.requests c.verdicts_in_words_of_the_log.ensures.repeated)

pub returns-clause-count : goal.returns-clause-count
returns-clause-count g c =
    (whole_log c.args.setting.now c.args.log.now c.loop-item.item-index c.loop-item.reports.items c.loop-item.rows.items (omega arith) c.loop-item.invariant).count
