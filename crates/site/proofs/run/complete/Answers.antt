use Rattle.std.proofs.Common.{◌≡◌, ◌-◌, true, false, inl, inr, ap, subst, ◌∙◌}
use Rattle.rows_mv.specs.Versions.{AnswersFrom}
use Rattle.bpf_vm.specs.declared.turn.Turn.{Turn}
use Rattle.log_model.specs.Entries.{items_of}
use Rattle.log_model.specs.Log.{Call}
use Rattle.log_model.specs.OpenCall.{OpenCall}
use Rattle.world_calls.specs.OpenCall.{IsCompletion, IsTurn, further, open_call_of, stays_open}
use Rattle.site.specs.Run.{named_call}
use Rattle.site.proofs.RunLemmas.{can_go_on, never_stale, call_stays}
use Rattle.site.proofs.run.complete.Goals as goal

pub run-requires : goal.run-requires
run-requires g c =
    let (w, entries, can) = c.requires.can in
    let o = c.in_ok-open_call.open_call in (
      w,
      items_of entries,
      can_go_on c.fit_entries_go_on.ensures.rows c.logs_whose_calls_fit.ensures.rows w entries c.args.replica.now c.args.accepted.now (named_call c.args.call) o
          (λ rows. c.at.result.gone ≡ false → AnswersFrom c.at.result.versions.now.tables c.at.result.position rows)
          can c.requires.reached (ap (λ (x : OpenCall). x.call) c.in_ok-open_call.ensures.begun) c.in_ok-open_call.ensures.follows c.at.ensures.answers,
    )

pub unreachable-requires : goal.unreachable-requires
unreachable-requires g c =
    let (w, entries, can) = c.requires.can in
    let o = c.in_ok-open_call.open_call in
    let go = can_go_on c.fit_entries_go_on.ensures.rows c.logs_whose_calls_fit.ensures.rows w entries c.args.replica.now c.args.accepted.now (named_call c.args.call) o
    (λ rows. c.at.result.gone ≡ false → AnswersFrom c.at.result.versions.now.tables c.at.result.position rows)
    can c.requires.reached (ap (λ (x : OpenCall). x.call) c.in_ok-open_call.ensures.begun) c.in_ok-open_call.ensures.follows c.at.ensures.answers in
    let (before, few, are) = c.run.ensures.turns w (items_of entries) go in
    elim c.in-More.is [
      | inl more ↦ c.run.ensures.ends more
      | inr stale ↦
          never_stale w (items_of entries) c.args.replica.now.window (c.args.replica.now.position - c.args.call.snapshot) c.at.result.gone (further before (open_call_of o)) (open_call_of c.run.new.self)
          c.at.ensures.gone c.requires.kept
          (subst (λ (t : Turn). IsTurn w (items_of entries) c.at.result.gone (further before (open_call_of o)) t (open_call_of c.run.new.self)) stale are.1)
    ]

pub returns-in-Exit : goal.returns-in-Exit
returns-in-Exit g c w entries can =
    let o = c.in_ok-open_call.open_call in
    let log = items_of entries in
    let go = can_go_on c.fit_entries_go_on.ensures.rows c.logs_whose_calls_fit.ensures.rows w entries c.args.replica.now c.args.accepted.now (named_call c.args.call) o
    (λ rows. c.at.result.gone ≡ false → AnswersFrom c.at.result.versions.now.tables c.at.result.position rows)
    can c.requires.reached (ap (λ (x : OpenCall). x.call) c.in_ok-open_call.ensures.begun) c.in_ok-open_call.ensures.follows c.at.ensures.answers in
    let (before, few, are) = c.run.ensures.turns w log go in
    let stays : stays_open c.run.result ≡ true = ap stays_open c.in-Exit.is in
    let follows = (c.run.ensures.goes_on w log go stays).follows in
    let same = call_stays w log c.at.result.gone before (open_call_of o) (open_call_of c.run.new.self) c.run.result c.in-Exit.field-0 c.in-Exit.is are ∙ ap (λ (x : OpenCall). x.call) c.in_ok-open_call.ensures.begun in
    subst (λ (x : Call). IsCompletion w log x c.complete.result) same (c.complete.ensures.completion w log follows)
