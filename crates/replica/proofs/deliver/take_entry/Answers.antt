use Rattle.std.proofs.Common.{◌≡◌, true, [], ◌∷◌, ◌++◌, sym, ap, subst, ◌∙◌, rules}
use Rattle.log_model.specs.Log.{if_commits, is_commit}
use Rattle.rows_mv.specs.Versions.{IsInstalled}
use Rattle.replica.specs.Replica.{writes_in}
use Rattle.std.specs.Prelude.{OnOk, IfOk}
use Rattle.log_model.specs.Entries.{Entry, CertifiedEntries, with_entry}
use Rattle.log_entry.specs.Kind.{entry_of}
use Rattle.certify.specs.declared.certification.Certification.{Certification}
use Rattle.replica.specs.Delivery.{Holdings, KeepsCertified}
use Rattle.replica.proofs.AdditionLemmas.{where_done, taken_in, call_kept}
use Rattle.replica.proofs.deliver.take_entry.Goals as goal

pub returns-in-Call-clause-taken : goal.returns-in-Call-clause-taken
returns-in-Call-clause-taken g c =
    let old : Holdings = record { memory = c.args.certifier.now.memory; procedures = c.args.procedures.now; tables = c.args.versions.now.tables; certifications = c.args.certifications.now.items } in
    let new : Holdings = record { memory = c.take_call.new.certifier.memory; procedures = c.args.procedures.now; tables = c.take_call.new.versions.tables; certifications = c.take_call.new.certifications.items } in
    let kept = subst (λ (e : Entry). OnOk c.take_call.result ((past : CertifiedEntries) → KeepsCertified old.memory old.procedures past → KeepsCertified new.memory new.procedures (with_entry old.memory.window past e))) (ap entry_of (sym c.in-Call.is))
    (call_kept c.take_call.result old.memory new.memory c.args.procedures.now c.in-Call.call c.take_call.ensures.memory) in
    let installs = subst (λ (e : Entry). IfOk c.take_call.result (λ r. is_commit r.verdict ≡ true → IsInstalled c.args.position (writes_in e) old.tables new.tables)) (ap entry_of (sym c.in-Call.is)) c.take_call.ensures.installs in
    taken_in c.take_call.result c.args.position (entry_of c.args.entry.now) old new (search rules) kept (search rules) installs (search rules) (search rules)

pub returns-in-Addition-clause-taken : goal.returns-in-Addition-clause-taken
returns-in-Addition-clause-taken g c =
    let old : Holdings = record { memory = c.args.certifier.now.memory; procedures = c.args.procedures.now; tables = c.args.versions.now.tables; certifications = c.args.certifications.now.items } in
    let new : Holdings = record { memory = c.take_addition.new.certifier.memory; procedures = c.take_addition.new.procedures; tables = c.args.versions.now.tables; certifications = c.take_addition.new.certifications.items } in
    let kept =
    where_done c.take_addition.result _ _ _ _ c.take_addition.ensures.memory c.take_addition.ensures.certified c.take_addition.ensures.procedures
    (λ x memory certified procedures past keeps.
    subst (λ (e : Entry). KeepsCertified c.take_addition.new.certifier.memory c.take_addition.new.procedures (with_entry c.args.certifier.now.memory.window past e))
    (ap entry_of (sym c.in-Addition.is))
    (c.additions_are_taken_in.ensures.kept c.args.certifier.now.memory.window c.args.certifier.now.memory c.take_addition.new.certifier.memory c.args.procedures.now c.take_addition.new.procedures c.in-Addition.added memory
    (procedures ∙ ap (λ (y : Certification). if_commits y.verdict (c.args.procedures.now ++ c.in-Addition.added ∷ []) c.args.procedures.now) certified)
    past keeps)) in
    taken_in c.take_addition.result c.args.position (entry_of c.args.entry.now) old new (search rules) kept (search rules) (search rules) (search rules) (search rules)
