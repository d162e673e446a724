use Rattle.std.proofs.Common.{◌∙◌, ◌+◌, cond, sym, ap, subst, arith}
use Rattle.bpf_vm.specs.Run.{AfterTurn, AfterRun, own_effects}
use Rattle.log_model.specs.Log.{rows_after}
use Rattle.world_calls.proofs.CallLemmas.{on_run, run_taken, within_slots, comes_to, further_on}
use Rattle.bpf_verify.specs.Flow.{Procedure}
use Rattle.catalogue.specs.Catalogue.{accepted_of}
use Rattle.world_calls.proofs.open_call.OpenCall.run_on.Goals as goal

pub run_counted-end-requires : goal.run_counted-end-requires
run_counted-end-requires g c = λ last.
    let (w, log, can) = c.requires.can in
    let self = c.args.self.now in
    let run = on_run w log c.args.accepted.now (g.S.Store.answers_from c.args.store) self c.over-view.result.own can (c.over-view.ensures.own ∙ c.replace-own.ensures.value) c.requires.more in
    (self.args, rows_after w log self.snapshot, self.turns, run.0, subst (λ s. g.S.Store.answers_from s (rows_after w log self.snapshot)) (sym c.over-view.ensures.store) can.answers, run.1)

pub overflow_add-self : goal.overflow_add-self
overflow_add-self g c =
    let (w, log, can) = c.requires.can in
    let self = c.args.self.now in
    let run = on_run w log c.args.accepted.now (g.S.Store.answers_from c.args.store) self c.over-view.result.own can (c.over-view.ensures.own ∙ c.replace-own.ensures.value) c.requires.more in
    let lt = (c.run_counted-end.ensures.run self.args (rows_after w log self.snapshot) self.turns run.0 (subst (λ s. g.S.Store.answers_from s (rows_after w log self.snapshot)) (sym c.over-view.ensures.store) can.answers) run.1).0 in
    let bound = c.known.ensures.bound in
    omega (arith, lt, bound)

pub overflow_add-self-then-stays_open : goal.overflow_add-self-then-stays_open
overflow_add-self-then-stays_open g c =
    let (w, log, can) = c.requires.can in
    let self = c.args.self.now in
    let run = on_run w log c.args.accepted.now (g.S.Store.answers_from c.args.store) self c.over-view.result.own can (c.over-view.ensures.own ∙ c.replace-own.ensures.value) c.requires.more in
    let lt = (c.run_counted-end.ensures.run self.args (rows_after w log self.snapshot) self.turns run.0 (subst (λ s. g.S.Store.answers_from s (rows_after w log self.snapshot)) (sym c.over-view.ensures.store) can.answers) run.1).0 in
    let bound = c.known.ensures.bound in
    omega (arith, lt, bound)

pub returns-then-stays_open-clause-turns : goal.returns-then-stays_open-clause-turns
returns-then-stays_open-clause-turns g c w log can =
    let self = c.args.self.now in
    let run = on_run w log c.args.accepted.now (g.S.Store.answers_from c.args.store) self c.over-view.result.own can (c.over-view.ensures.own ∙ c.replace-own.ensures.value) c.requires.more in
    let after = c.run_counted-end.ensures.run self.args (rows_after w log self.snapshot) self.turns run.0 (subst (λ s. g.S.Store.answers_from s (rows_after w log self.snapshot)) (sym c.over-view.ensures.store) can.answers) run.1 in
    let lt = after.0 in (
      c.run_counted-end.result.before,
      within_slots c.args.accepted.now.program c.run_counted-end.result.before c.known.ensures.program (c.runs_are_short.ensures.instructions c.args.accepted.now.program) (omega (arith, lt)),
      run_taken w log c.args.accepted.now (g.S.Store.answers_from c.args.store) (g.S.Store.is_gone c.args.store) self c.run_counted-end.result.before c.run_counted-end.result.last c.run_counted-end.new.self (own_effects c.run_counted-end.new.view.own) (self.turns + c.run_counted-end.result.before + 1)
          c.accepted_programs_never_go_wrong.ensures.never_stuck c.accepted_programs_never_go_wrong.ensures.run can
          (subst (λ s. AfterRun c.args.accepted.now self.args (rows_after w log self.snapshot) (g.S.Store.is_gone s) self.turns c.run_counted-end.result.before c.run_counted-end.result.last c.run_counted-end.new.self (own_effects c.run_counted-end.new.view.own)) c.over-view.ensures.store after)
          (ap (λ b. cond b (self.turns + c.run_counted-end.result.before + 1) (self.turns + c.run_counted-end.result.before)) (sym c.stays_open.ensures ∙ c.if-stays_open.true)),
    )

pub returns-then-stays_open-clause-goes_on : goal.returns-then-stays_open-clause-goes_on
returns-then-stays_open-clause-goes_on g c w log can stays =
    let self = c.args.self.now in
    let run = on_run w log c.args.accepted.now (g.S.Store.answers_from c.args.store) self c.over-view.result.own can (c.over-view.ensures.own ∙ c.replace-own.ensures.value) c.requires.more in
    let after = c.run_counted-end.ensures.run self.args (rows_after w log self.snapshot) self.turns run.0 (subst (λ s. g.S.Store.answers_from s (rows_after w log self.snapshot)) (sym c.over-view.ensures.store) can.answers) run.1 in
    let p = accepted_of w.tables can.follows.is_call.procedure in
    let turn = subst (λ own. AfterTurn c.args.accepted.now self.args (rows_after w log self.snapshot) (g.S.Store.is_gone c.over-view.result.store) (self.turns + c.run_counted-end.result.before) c.run_counted-end.result.last c.run_counted-end.new.self (own_effects own)) (sym c.pause.ensures) after.2 in
    further_on w log c.args.accepted.now (g.S.Store.answers_from c.args.store) self (self.turns + c.run_counted-end.result.before + 1) c.run_counted-end.new.self c.pause.result can
    (comes_to p self.args (rows_after w log self.snapshot) (g.S.Store.is_gone c.over-view.result.store) (self.turns + c.run_counted-end.result.before) c.run_counted-end.result.last c.run_counted-end.new.self (own_effects c.pause.result)
    (subst (λ (q : Procedure). AfterTurn q self.args (rows_after w log self.snapshot) (g.S.Store.is_gone c.over-view.result.store) (self.turns + c.run_counted-end.result.before) c.run_counted-end.result.last c.run_counted-end.new.self (own_effects c.pause.result)) can.program turn)
    c.run_counted-end.ensures.last stays)

pub returns-else-stays_open-clause-turns : goal.returns-else-stays_open-clause-turns
returns-else-stays_open-clause-turns g c w log can =
    let self = c.args.self.now in
    let run = on_run w log c.args.accepted.now (g.S.Store.answers_from c.args.store) self c.over-view.result.own can (c.over-view.ensures.own ∙ c.replace-own.ensures.value) c.requires.more in
    let after = c.run_counted-end.ensures.run self.args (rows_after w log self.snapshot) self.turns run.0 (subst (λ s. g.S.Store.answers_from s (rows_after w log self.snapshot)) (sym c.over-view.ensures.store) can.answers) run.1 in
    let lt = after.0 in (
      c.run_counted-end.result.before,
      within_slots c.args.accepted.now.program c.run_counted-end.result.before c.known.ensures.program (c.runs_are_short.ensures.instructions c.args.accepted.now.program) (omega (arith, lt)),
      run_taken w log c.args.accepted.now (g.S.Store.answers_from c.args.store) (g.S.Store.is_gone c.args.store) self c.run_counted-end.result.before c.run_counted-end.result.last c.run_counted-end.new.self (own_effects c.run_counted-end.new.view.own) (self.turns + c.run_counted-end.result.before)
          c.accepted_programs_never_go_wrong.ensures.never_stuck c.accepted_programs_never_go_wrong.ensures.run can
          (subst (λ s. AfterRun c.args.accepted.now self.args (rows_after w log self.snapshot) (g.S.Store.is_gone s) self.turns c.run_counted-end.result.before c.run_counted-end.result.last c.run_counted-end.new.self (own_effects c.run_counted-end.new.view.own)) c.over-view.ensures.store after)
          (ap (λ b. cond b (self.turns + c.run_counted-end.result.before + 1) (self.turns + c.run_counted-end.result.before)) (sym c.stays_open.ensures ∙ c.if-stays_open.false)),
    )
