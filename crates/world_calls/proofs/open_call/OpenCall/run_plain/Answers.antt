use Rattle.std.proofs.Common.{◌+◌, refl, arith}
use Rattle.bpf_vm.specs.Run.{own_effects}
use Rattle.log_model.specs.Log.{rows_after}
use Rattle.world_calls.proofs.CallLemmas.{on_run, plain_taken, comes_further, further_on}
use Rattle.world_calls.proofs.open_call.OpenCall.run_plain.Goals as goal

pub run_plain-requires : goal.run_plain-requires
run_plain-requires g c =
    let (w, log, can) = c.requires.can in
    let self = c.args.self.now in
    let (suits, run) = on_run w log c.args.accepted.now (λ rows. Unit {0}) self self.own can refl c.requires.more in
    c.runs_go_on_or_end.ensures.plain c.args.accepted.now self.args (rows_after w log self.snapshot) self.turns self.machine (own_effects self.own) suits run

pub overflow_add-self : goal.overflow_add-self
overflow_add-self g c =
    let (w, log, can) = c.requires.can in
    let self = c.args.self.now in
    let rows = rows_after w log self.snapshot in
    let (suits, run) = on_run w log c.args.accepted.now (λ rows. Unit {0}) self self.own can refl c.requires.more in
    let (there, fresh) = c.run_plain.ensures.run self.args rows self.turns (own_effects self.own) suits run in
    let short = c.runs_go_on_or_end.ensures.short c.args.accepted.now self.args rows (self.turns + c.run_plain.result) there.here.state there.here.sound suits there.here.at in
    let bound = c.known.ensures.bound in
    omega (arith, short, bound)

pub returns-clause-turns : goal.returns-clause-turns
returns-clause-turns g c w log can =
    let self = c.args.self.now in
    let (suits, run) = on_run w log c.args.accepted.now (λ rows. Unit {0}) self self.own can refl c.requires.more in
    let (there, fresh) = c.run_plain.ensures.run self.args (rows_after w log self.snapshot) self.turns (own_effects self.own) suits run in (
      c.run_plain.result,
      λ gone.
          plain_taken w log c.args.accepted.now (λ rows. Unit {0}) gone self c.run_plain.result c.run_plain.new.self (own_effects self.own)
          c.accepted_programs_never_go_wrong.ensures.never_stuck c.accepted_programs_never_go_wrong.ensures.run can there (fresh gone),
      refl,
    )

pub returns-clause-goes_on : goal.returns-clause-goes_on
returns-clause-goes_on g c w log can =
    let self = c.args.self.now in
    let (suits, run) = on_run w log c.args.accepted.now (λ rows. Unit {0}) self self.own can refl c.requires.more in
    let (there, fresh) = c.run_plain.ensures.run self.args (rows_after w log self.snapshot) self.turns (own_effects self.own) suits run in
    further_on w log c.args.accepted.now (λ rows. Unit {0}) self (self.turns + c.run_plain.result) c.run_plain.new.self self.own can
    (comes_further w log c.args.accepted.now (λ rows. Unit {0}) self (self.turns + c.run_plain.result) c.run_plain.new.self (own_effects self.own) can there)
