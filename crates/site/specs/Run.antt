-- A call that a replica can run.
use Rattle.std.specs.Prelude.{◌≡◌, List, Some}
use Rattle.bpf_verify.specs.Flow.{Procedure}
use Rattle.log_model.specs.Log.{StoredProcedure, Setting, Call, procedure_of}
use Rattle.log_model.specs.Entries.{Entry, items_of}
use Rattle.catalogue.specs.Catalogue.{accepted_of}
use Rattle.replica.specs.Replica.{Replica, StandsFor}
use Rattle.site_model.specs.Fit.{AreFitEntries}
use Rattle.site.specs.declared.run.NamedCall.{NamedCall}

abbrev pub named_call : NamedCall → Call
named_call c =
    record { number = c.number; procedure = c.procedure; args = c.args.now; snapshot = c.snapshot; request = c.request }

-- the replica stands for these entries, which are a log's, and the procedure of the call's snapshot has this program
pub record CanRun (w : Setting) (entries : List Entry) (r : Replica) (accepted : Procedure) (call : Call) : Type 0 where
  pub stands : StandsFor w.beginning r entries
  pub window : w.window ≡ r.window
  pub of_log : AreFitEntries w entries
  pub procedure : StoredProcedure
  pub known : procedure_of w (items_of entries) call ≡ Some procedure
  pub program : accepted ≡ accepted_of w.tables procedure
