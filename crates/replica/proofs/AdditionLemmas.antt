-- What an addition that is taken in leaves.
use Rattle.std.proofs.Common.{◌≡◌, ℕ, true, false, cond, Option, Some, None, List, [], ◌∷◌, ◌++◌, refl, sym, ap, subst, ◌∙◌}
use Rattle.std.specs.Prelude.{is_some, Result, Ok, Err, OnOk, IfOk}
use Rattle.schema.specs.Schema.{Tables}
use Rattle.log_model.specs.declared.verdict.Identifier.TheVariants.{Name, Number}
use Rattle.log_model.specs.declared.verdict.Verdict.{Verdict}
use Rattle.log_model.specs.declared.verdict.Verdict.TheVariants.{Commit, Conflict, Stale, Repeated, Taken}
use Rattle.log_model.specs.Log.{StoredProcedure, Catalogue, DoneRequest, CertifiedItem, certified_addition, certified_call_after, by_name, by_number, if_commits, is_commit, verdict_on_addition}
use Rattle.log_model.specs.Entries.{Entry, ExecutedCall, CallEntry, AdditionEntry, CertifiedEntries, with_entry}
use Rattle.std.specs.FinMap.{empty, get-empty}
use Rattle.schema.specs.Rows.{key_cmp}
use Rattle.key_table.specs.Table.{Table, versions_at}
use Rattle.rows_mv.specs.Versions.{IsInstalled, slots_of, with_version}
use Rattle.catalogue.specs.Stored.{ListedProcedure, AreForTables, stored, stored_procedures}
use Rattle.certify.specs.Kept as certifier
use Rattle.certify.specs.declared.certification.Certification.{Certification}
use Rattle.replica.specs.Replica.{certification_next, writes_in}
use Rattle.replica.specs.Delivery.{KeepsCertified, HasSameVersions, Holdings, IsTakenIn}

one_more_stored : (procedures : List ListedProcedure) (l : ListedProcedure) → stored_procedures (procedures ++ l ∷ []) ≡ stored_procedures procedures ++ stored l ∷ []
one_more_stored [] l = refl
one_more_stored (q ∷ procedures) l = ap (λ ps. stored q ∷ ps) (one_more_stored procedures l)

stored_if : (v : Verdict) (before : List ListedProcedure) (l : ListedProcedure) → stored_procedures (if_commits v (before ++ l ∷ []) before) ≡ if_commits v (stored_procedures before ++ stored l ∷ []) (stored_procedures before)
stored_if Commit before l = one_more_stored before l
stored_if (Conflict n) before l = refl
stored_if Stale before l = refl
stored_if (Repeated n) before l = refl
stored_if (Taken n) before l = refl

pub addition_kept : (window : ℕ) (old new : certifier.Memory) (before after : List ListedProcedure) (l : ListedProcedure)
    → ((done : List DoneRequest) (past : List CertifiedItem) → certifier.IsMemoryOf old done past → certifier.IsMemoryOf new done (past ++ certified_addition (stored_procedures before) (stored l) ∷ []))
    → after ≡ if_commits (verdict_on_addition (stored_procedures before) (stored l)) (before ++ l ∷ []) before
    → (past : CertifiedEntries) → KeepsCertified old before past → KeepsCertified new after (with_entry window past (AdditionEntry (stored l)))
addition_kept window old new before after l memory is past keeps = record {
  memory = subst (λ (ps : Catalogue). certifier.IsMemoryOf new past.done (past.certified ++ certified_addition ps (stored l) ∷ [])) keeps.procedures (memory past.done past.certified keeps.memory);
  procedures = ap stored_procedures is ∙ stored_if (verdict_on_addition (stored_procedures before) (stored l)) before l
      ∙ ap (λ (ps : Catalogue). if_commits (verdict_on_addition ps (stored l)) (ps ++ stored l ∷ []) ps) keeps.procedures;
}

one_more_for : (tables : Tables) (before : List ListedProcedure) (l : ListedProcedure) → AreForTables tables before → l.accepted.tables ≡ tables → AreForTables tables (before ++ l ∷ [])
one_more_for tables [] l all one = (one, tt)
one_more_for tables (q ∷ before) l all one = (all.0, one_more_for tables before l all.1 one)

pub addition_for : (tables : Tables) (v : Verdict) (before : List ListedProcedure) (l : ListedProcedure) → AreForTables tables before → l.accepted.tables ≡ tables → AreForTables tables (if_commits v (before ++ l ∷ []) before)
addition_for tables Commit before l all one = one_more_for tables before l all one
addition_for tables (Conflict n) before l all one = all
addition_for tables Stale before l all one = all
addition_for tables (Repeated n) before l all one = all
addition_for tables (Taken n) before l all one = all

pub nothing_installed : (position : ℕ) (tables : List Table) → IsInstalled position empty tables tables
nothing_installed position tables k = ap (λ w. with_version position w (versions_at (slots_of tables k.0) k.1)) (sym (get-empty key_cmp k))

-- an addition that commits is of a name and a number that are new
pub commits_new : (procedures : Catalogue) (p : StoredProcedure) → verdict_on_addition procedures p ≡ Commit → (by_name procedures p.name ≡ None) × (by_number procedures p.number ≡ None)
commits_new procedures p e = by (by_name procedures p.name) (by_number procedures p.number) e
  where
    by : (named numbered : Option StoredProcedure) → cond (is_some named) (Taken Name) (cond (is_some numbered) (Taken Number) Commit) ≡ Commit → (named ≡ None) × (numbered ≡ None)
    by None None e = (refl, refl)
    by None (Some q) e = absurd cc
    by (Some q) numbered e = absurd cc

-- where it is done, by what that says of the result
pub where_done : {T E : Type 0} (r : Result T E) (P S : Type 0) (Q R : T → Type 0) → OnOk r P → IfOk r Q → IfOk r R → ((x : T) → P → Q x → R x → S) → OnOk r S
where_done (Ok x) P S Q R p q r f = f x p q r
where_done (Err e) P S Q R p q r f = tt

-- ---- an entry that is taken in

pub taken_in : {E : Type 0} (r : Result Certification E) (position : ℕ) (e : Entry) (old new : Holdings)
    → IfOk r (λ c. (past : CertifiedEntries) → KeepsCertified old.memory old.procedures past → c ≡ certification_next old.memory.window past e)
    → OnOk r ((past : CertifiedEntries) → KeepsCertified old.memory old.procedures past → KeepsCertified new.memory new.procedures (with_entry old.memory.window past e))
    → OnOk r (new.memory.count ≡ position)
    → IfOk r (λ c. is_commit c.verdict ≡ true → IsInstalled position (writes_in e) old.tables new.tables)
    → IfOk r (λ c. is_commit c.verdict ≡ false → HasSameVersions old.tables new.tables)
    → IfOk r (λ c. new.certifications ≡ old.certifications ++ c ∷ [])
    → IfOk r (IsTakenIn position e old new)
taken_in (Ok c) position e old new certified kept count installs refuses entered = record {
  certified = certified;
  kept = kept;
  count = count;
  installs = installs;
  refuses = refuses;
  entered = entered;
}
taken_in (Err failed) position e old new certified kept count installs refuses entered = tt

pub call_kept : {E : Type 0} (r : Result Certification E) (old new : certifier.Memory) (held : List ListedProcedure) (x : ExecutedCall)
    → OnOk r ((done : List DoneRequest) (past : List CertifiedItem) → certifier.IsMemoryOf old done past
    → certifier.IsMemoryOf new done (past ++ certified_call_after old.window done past x.call x.looks x.writes ∷ []))
    → OnOk r ((past : CertifiedEntries) → KeepsCertified old held past → KeepsCertified new held (with_entry old.window past (CallEntry x)))
call_kept (Ok c) old new held x memory = λ past keeps. record { memory = memory past.done past.certified keeps.memory; procedures = keeps.procedures }
call_kept (Err failed) old new held x memory = tt
