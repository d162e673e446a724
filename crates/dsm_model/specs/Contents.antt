-- A replica's copy of the database, by entries alone. Nothing of this has to be believed for the laws of the world.
use Rattle.std.specs.Prelude.{◌≡◌, List, [], ◌∷◌, ◌++◌, length, take}
use Rattle.schema.specs.Rows.{Rows, after_writes}
use Rattle.log_model.specs.Log.{Catalogue, Setting, Log, CertifiedItem, if_commits, history, rows_after, procedures_after}
use Rattle.log_model.specs.Entries.{Entry, CallEntry, AdditionEntry, CertifiedEntries, certified_entry, procedures_with}

-- what became of each entry that was delivered, and the rows and procedures
pub record ReplicaContents : Type 0 where
  pub certified : List CertifiedItem
  pub rows : Rows
  pub procedures : Catalogue

abbrev pub first_contents : Setting → ReplicaContents
first_contents w = record { certified = []; rows = w.beginning.rows; procedures = w.beginning.procedures }

-- it is what the log says of as many positions
pub record IsContentsOf (w : Setting) (log : Log) (copy : ReplicaContents) : Type 0 where
  pub certified : copy.certified ≡ take (length copy.certified) (history w log).certified
  pub rows : copy.rows ≡ rows_after w log (length copy.certified)
  pub procedures : copy.procedures ≡ procedures_after w log (length copy.certified)

abbrev pub delivered_so_far : Setting → ReplicaContents → CertifiedEntries
delivered_so_far w copy = record { done = w.beginning.requests; certified = copy.certified; procedures = copy.procedures }

abbrev pub certified_next : Setting → ReplicaContents → Entry → CertifiedItem
certified_next w copy e = certified_entry w.window (delivered_so_far w copy) e

abbrev pub rows_with : Rows → Entry → CertifiedItem → Rows
rows_with rows (CallEntry e) c = if_commits c.verdict (after_writes e.writes rows) rows
rows_with rows (AdditionEntry p) c = rows

-- one more delivery: the verdict, and where it commits the writes laid on, or the procedure added
abbrev pub with_delivered : Setting → ReplicaContents → Entry → ReplicaContents
with_delivered w copy e = record {
  certified = copy.certified ++ certified_next w copy e ∷ [];
  rows = rows_with copy.rows e (certified_next w copy e);
  procedures = procedures_with copy.procedures e (certified_next w copy e);
}
