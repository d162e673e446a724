use Rattle.std.proofs.Common.{sym, ap, ◌∙◌, option_map, arith}
use Rattle.std.specs.Arc.{arc_value}
use Rattle.locked_replica.proofs.BeginLemmas.{Sees, of_log, refused, begun}
use Rattle.locked_replica.proofs.locked.LockedReplica.begin.Goals as goal

pub returns-in-Err : goal.returns-in-Err
returns-in-Err g c =
    let w = g.J.LogSetting.setting in
    let known = c.keeps_what_was_delivered.ensures in
    let sees : Sees w c.args.self.now.entries c.seen-seen.result c.args.procedure c.procedures-procedures.result.now =
    record { same = c.seen-seen.ensures; schema = known.schema; entries_of_log = known.entries; after = c.procedures-procedures.ensures.log; for_tables = c.procedures-procedures.ensures.for_tables } in (
      (let p = c.position.ensures.position in omega (arith, c.if-position-least.false)),
      c.seen-seen.ensures,
      of_log w c.args.self.now.entries c.seen-seen.result c.args.procedure c.procedures-procedures.result.now sees,
      refused w c.args.self.now.entries c.seen-seen.result c.args.procedure c.procedures-procedures.result.now sees c.args.args.now c.args.request c.in-Err.refusal c.in-Err.ensures.refused,
    )

pub unreachable-requires : goal.unreachable-requires
unreachable-requires g c =
    let none = ap (option_map (λ a. arc_value a)) (sym c.in_default-2.is) ∙ c.in_ok-accepted.ensures in
    let there = c.in_default.ensures.program in
    let bad = there ∙ sym none in
    cc

pub new-requires : goal.new-requires
new-requires g c =
    let w = g.J.LogSetting.setting in
    let known = c.keeps_what_was_delivered.ensures in
    let sees : Sees w c.args.self.now.entries c.seen-seen.result c.args.procedure c.procedures-procedures.result.now =
    record { same = c.seen-seen.ensures; schema = known.schema; entries_of_log = known.entries; after = c.procedures-procedures.ensures.log; for_tables = c.procedures-procedures.ensures.for_tables } in
    begun w c.args.self.now.entries c.seen-seen.result c.args.procedure c.procedures-procedures.result.now sees (arc_value c.in-Some.accepted) (ap (option_map (λ a. arc_value a)) (sym c.in-Some.is) ∙ c.in_ok-accepted.ensures)
