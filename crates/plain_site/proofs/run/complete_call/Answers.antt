use Rattle.std.proofs.Common.{◌≡◌, ◌∙◌, ◌+◌, Some, sym, ap, subst}
use Rattle.schema.specs.Rows.{Rows}
use Rattle.bpf_semantics.specs.Run.{run}
use Rattle.bpf_vm.specs.Run.{HasRun, own_effects}
use Rattle.plain_site.proofs.run.complete_call.Goals as goal

pub run-requires : goal.run-requires
run-requires g c = λ last. (
  c.args.args.now,
  c.in_ok-map.map,
  0,
  c.in_ok-map.ensures.suits,
  sym (ap (λ store. store.rows.now) c.over-view.ensures.store),
  subst (λ effects. HasRun c.args.procedure.now c.args.args.now c.in_ok-map.map 0 c.in_ok-map.machine effects)
      (sym (ap (λ own. own_effects own) (c.over-view.ensures.own ∙ c.new.ensures))) c.in_ok-map.ensures.first,
)

pub returns-clause-run : goal.returns-clause-run
returns-clause-run g c =
    let first =
    subst (λ effects. HasRun c.args.procedure.now c.args.args.now c.in_ok-map.map 0 c.in_ok-map.machine effects)
    (sym (ap (λ own. own_effects own) (c.over-view.ensures.own ∙ c.new.ensures))) c.in_ok-map.ensures.first in
    let (n, le, short, after) = c.run.ensures.run c.args.args.now c.in_ok-map.map 0 c.in_ok-map.ensures.suits (sym (ap (λ store. store.rows.now) c.over-view.ensures.store)) first in
    let h = rw c.in-Exit.is at after in (
      n + 1,
      record {
        r = h.r;
        is_run = subst (λ (rows : Rows). run c.args.procedure.now.program c.args.procedure.now.tables c.args.args.now rows ≡ Some h.r) c.in_ok-map.ensures.rows h.is_run;
        length = h.steps;
        replied = h.replied;
        looked = h.looks ∙ sym c.finish-reads.ensures.looks;
        wrote = h.writes ∙ sym c.finish-reads.ensures.writes;
        cancelled = h.cancelled ∙ sym c.finish-reads.ensures.cancelled;
      },
    )
