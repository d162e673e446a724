use Rattle.std.proofs.Common.{◌≡◌, ◌+◌, ◌-◌, ◌<◌, Some, take, slice_get, subst, sym, ap, ◌∙◌, refl, arith, suc}
use Rattle.std.proofs.lemmas.Bool.{ltb-true}
use Rattle.std.specs.List.{find}
use Rattle.dsm_world.proofs.Numbered.{numbered_at}
use Rattle.certify.specs.declared.certification.Certification.{Certification}
use Rattle.replica.specs.Replica.{certification_of}
use Rattle.report.specs.declared.printed.LoggedEntry.{LoggedEntry}
use Rattle.report.specs.declared.printed.Line.TheVariants as line
use Rattle.report.specs.Lines.{line_text}
use Rattle.log_entry.specs.Kind.{entry_of}
use Rattle.catalogue.specs.Catalogue.{beginning_of}
use Rattle.script_replay.specs.Printed.{logged_entry}
use Rattle.dsm_world.proofs.RowLemmas.{position_within}
use Rattle.script_replay.proofs.PrintedLemmas.{HasLogVerdict, stands_there}
use Rattle.script_replay.proofs.LogLemmas.{further, found, none_found, open_line, delivered_line}
use Rattle.script_replay.proofs.log.logged.Goals as goal

pub returns-in_default-further_than : goal.returns-in_default-further_than
returns-in_default-further_than g c = λ item there.
    let s = c.args.world.now in
    let before = c.args.before in
    let e = entry_of c.in-Some.entry.now in
    let at : slice_get s.entries before ≡ Some e = sym (numbered_at s.entries (before + 1) before refl) ∙ sym c.in-Some.ensures in
    let none = none_found before s.replicas (ap (λ xs. find (further before) xs) (sym c.replicas.ensures) ∙ sym c.in_default-further_than.ensures) in
    ap (λ (x : LoggedEntry). line_text (line.Open x)) c.logged_entry-entry.ensures
    ∙ open_line s before e item c.keeps_what_was_delivered.ensures.entries at there none

pub returns : goal.returns
returns g c = λ item there.
    let s = c.args.world.now in
    let before = c.args.before in
    let e = entry_of c.in-Some.entry.now in
    let at : slice_get s.entries before ≡ Some e = sym (numbered_at s.entries (before + 1) before refl) ∙ sym c.in-Some.ensures in
    let r = c.in-Some-further_than.kept.now in
    let f = found before s.replicas r (ap (λ xs. find (further before) xs) (sym c.replicas.ensures) ∙ sym c.in-Some-further_than.ensures) in
    let keeps = c.keeps_what_was_delivered.ensures.replicas (suc f.place) r f.stands in
    let within = position_within s r keeps in
    let delivered : before < r.position = ltb-true before r.position f.has in
    let base = beginning_of s.catalogue in
    let past = take r.position s.entries in
    let same : before + 1 - 1 ≡ before = omega arith in
    let stands = stands_there s r before e keeps within delivered at in
    let k = c.verdict_at-certification.result in
    let is : k ≡ certification_of r.window base past before e =
    subst (λ n. k ≡ certification_of r.window base past n e) same
    (c.verdict_at-certification.ensures.kept base past e keeps.delivered (subst (λ n. slice_get past n ≡ Some e) (sym same) stands)) in
    ap (λ (x : LoggedEntry). line_text (line.Certified x k.compared k.verdict)) c.logged_entry-entry.ensures
    ∙ ap (λ (x : Certification). line_text (line.Certified (logged_entry (before + 1) e) x.compared x.verdict)) is
    ∙ delivered_line s r before e item keeps within delivered at there f.some c.a_log_only_grows.ensures.verdicts
    (subst (λ (x : Certification). HasLogVerdict r (before + 1) x.verdict) is c.verdict_at-certification.ensures.log_verdict) c.entries_suffice.ensures.verdicts

pub verdict_at-certification-requires-clause-to : goal.verdict_at-certification-requires-clause-to
verdict_at-certification-requires-clause-to g c =
    let r = c.in-Some-further_than.kept.now in
    let f = found c.args.before c.args.world.now.replicas r (ap (λ xs. find (further c.args.before) xs) (sym c.replicas.ensures) ∙ sym c.in-Some-further_than.ensures) in
    let delivered = ltb-true c.args.before r.position f.has in
    omega arith
