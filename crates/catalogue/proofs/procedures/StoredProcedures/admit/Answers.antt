use Rattle.std.proofs.Common.{◌∙◌, sym, ap}
use Rattle.std.specs.Option.{option_copied}
use Rattle.log_model.specs.Admission.{admission}
use Rattle.log_model.proofs.AdmissionLemmas.{admitted, unfit, zero_in}
use Rattle.catalogue.proofs.StoredLemmas.{none_under, stored_under}
use Rattle.catalogue.proofs.procedures.StoredProcedures.admit.Goals as goal

pub returns-in_default-clause-refused : goal.returns-in_default-clause-refused
returns-in_default-clause-refused g c =
    ap (admission c.args.args.now c.args.request) (none_under c.args.procedure c.args.self.now (ap option_copied (sym c.in_default.is) ∙ c.by_number.ensures))

pub returns-then-args-from-clause-refused : goal.returns-then-args-from-clause-refused
returns-then-args-from-clause-refused g c =
    let (p, there, len) = stored_under c.args.procedure c.args.self.now c.in-Some.accepted.now (ap option_copied (sym c.in-Some.is) ∙ c.by_number.ensures) in
    ap (admission c.args.args.now c.args.request) there
    ∙ unfit c.args.args.now c.args.request p (λ same. c.if-args-from.true (same ∙ sym len ∙ sym c.args_len.ensures.length ∙ sym c.from.ensures))

pub returns-then-has_zero-clause-refused : goal.returns-then-has_zero-clause-refused
returns-then-has_zero-clause-refused g c =
    let (p, there, len) = stored_under c.args.procedure c.args.self.now c.in-Some.accepted.now (ap option_copied (sym c.in-Some.is) ∙ c.by_number.ensures) in
    ap (admission c.args.args.now c.args.request) there
    ∙ zero_in c.args.args.now c.args.request p (c.if-args-from.false ∙ c.from.ensures ∙ c.args_len.ensures.length ∙ len) (sym c.has_zero.ensures ∙ c.if-has_zero.true)

pub returns-clause-admitted : goal.returns-clause-admitted
returns-clause-admitted g c =
    let (p, there, len) = stored_under c.args.procedure c.args.self.now c.in-Some.accepted.now (ap option_copied (sym c.in-Some.is) ∙ c.by_number.ensures) in (
      p,
      ap (admission c.args.args.now c.args.request) there
          ∙ admitted c.args.args.now c.args.request p (c.if-args-from.false ∙ c.from.ensures ∙ c.args_len.ensures.length ∙ len) (sym c.has_zero.ensures ∙ c.if-has_zero.false),
    )
