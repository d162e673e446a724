-- What one delivery leaves, step by step. No public clause speaks of it.
use Rattle.std.specs.Prelude.{◌≡◌, ℕ, ◌+◌, ◌-◌, ◌≤◌, true, false, List, [], ◌∷◌, ◌++◌}
use Rattle.schema.specs.Rows.{Key, Rows}
use Rattle.log_model.specs.Log.{is_commit}
use Rattle.log_model.specs.Entries.{Entry, CertifiedEntries, with_entry}
use Rattle.key_table.specs.Table.{Table, versions_at}
use Rattle.rows_mv.specs.Versions.{slots_of, AnswersFrom, IsInstalled}
use Rattle.certify.specs.Kept as certifier
use Rattle.certify.specs.declared.certification.Certification.{Certification}
use Rattle.catalogue.specs.Stored.{ListedProcedure, stored_procedures}
use Rattle.replica.specs.Replica.{Replica, certification_next, writes_in}

-- each key has the versions that it had
abbrev pub HasSameVersions : List Table → List Table → Type 0
HasSameVersions old new = (k : Key) → versions_at (slots_of new k.0) k.1 ≡ versions_at (slots_of old k.0) k.1

-- what a replica keeps for verdicts is of these
pub record KeepsCertified (m : certifier.Memory) (held : List ListedProcedure) (past : CertifiedEntries) : Type 0 where
  pub memory : certifier.IsMemoryOf m past.done past.certified
  pub procedures : stored_procedures held ≡ past.procedures

-- what an entry changes of what a replica keeps
pub record Holdings : Type 0 where
  pub memory : certifier.Memory
  pub procedures : List ListedProcedure
  pub tables : List Table
  pub certifications : List Certification

abbrev pub holdings : certifier.Memory → List ListedProcedure → List Table → List Certification → Holdings
holdings memory procedures tables certifications =
    record { memory = memory; procedures = procedures; tables = tables; certifications = certifications }

-- the entry at a position was taken in, with this certification; the writes of one that commits are installed
pub record IsTakenIn (position : ℕ) (e : Entry) (old new : Holdings) (c : Certification) : Type 0 where
  pub certified : (past : CertifiedEntries) → KeepsCertified old.memory old.procedures past
      → c ≡ certification_next old.memory.window past e
  pub kept : (past : CertifiedEntries) → KeepsCertified old.memory old.procedures past
      → KeepsCertified new.memory new.procedures (with_entry old.memory.window past e)
  pub count : new.memory.count ≡ position
  pub installs : is_commit c.verdict ≡ true → IsInstalled position (writes_in e) old.tables new.tables
  pub refuses : is_commit c.verdict ≡ false → HasSameVersions old.tables new.tables
  pub entered : new.certifications ≡ old.certifications ++ c ∷ []

-- there was no memory: all is as before, but for room that was made for versions
pub record IsLeft (old new : Holdings) : Type 0 where
  pub memory : new.memory ≡ old.memory
  pub procedures : new.procedures ≡ old.procedures
  pub versions : HasSameVersions old.tables new.tables
  pub certifications : new.certifications ≡ old.certifications

-- what one delivery leaves: the certifier and the procedures have taken the entry in, the writes of one that commits are installed, and then
-- what no position within the window sees may be dropped
pub record IsDelivered (old new : Replica) (e : Entry) (c : Certification) (installed : List Table) : Type 0 where
  pub window : new.window ≡ old.window
  pub position : new.position ≡ old.position + 1
  pub certified : (past : CertifiedEntries) → KeepsCertified old.memory old.procedures past
      → c ≡ certification_next old.memory.window past e
  pub certifications : new.certifications ≡ old.certifications ++ c ∷ []
  pub kept : (past : CertifiedEntries) → KeepsCertified old.memory old.procedures past
      → KeepsCertified new.memory new.procedures (with_entry old.memory.window past e)
  pub same_window : new.memory.window ≡ old.memory.window
  pub installs : is_commit c.verdict ≡ true → IsInstalled (old.position + 1) (writes_in e) old.versions.tables installed
  pub refuses : is_commit c.verdict ≡ false → HasSameVersions old.versions.tables installed
  pub pruned : (s : ℕ) (rows : Rows) → new.position - s ≤ new.window
      → AnswersFrom installed s rows → AnswersFrom new.versions.tables s rows
  pub horizon : new.versions.horizon ≤ new.position - new.window

-- what a delivery leaves for which there is no memory
pub record IsRefusedDelivery (old new : Replica) : Type 0 where
  pub window : new.window ≡ old.window
  pub position : new.position ≡ old.position
  pub certifications : new.certifications ≡ old.certifications
  pub memory : new.memory ≡ old.memory
  pub procedures : new.procedures ≡ old.procedures
  pub versions : HasSameVersions old.versions.tables new.versions.tables
  pub horizon : new.versions.horizon ≡ old.versions.horizon
