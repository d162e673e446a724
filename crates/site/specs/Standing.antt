-- What stands at the next position, in code, and what a replica has to know of it.
use Rattle.std.specs.Prelude.{◌≡◌}
use Rattle.schema.specs.Schema.{Tables}
use Rattle.schema.specs.Rows.{AreWrites}
use Rattle.log_model.specs.Log.{StoredProcedure, Call}
use Rattle.log_model.specs.Fit.{IsSafe}
use Rattle.log_model.specs.Entries.{AdditionEntry}
use Rattle.log_entry.specs.declared.entry.Entry.{Entry as LogEntry}
use Rattle.log_entry.specs.Kind.{entry_of}
use Rattle.log_entry.specs.declared.head.CallHead.{CallHead}
use Rattle.replica.specs.Replica.{IsForTables, IsNamed, writes_in}
use Rattle.site_model.specs.Standing as model
use Rattle.site.specs.declared.standing.Standing.{Standing}
use Rattle.site.specs.declared.standing.Standing.TheVariants.{StandsAs, Decided, Opens, Nothing}

-- a call as its head names it
abbrev pub head_call : CallHead → Call
head_call head = record {
  number = head.number;
  procedure = head.procedure;
  args = head.args.now;
  snapshot = head.snapshot;
  request = head.request;
}

abbrev pub IsStanding : {A : Type 0} → model.Standing → Standing A → Type 0
IsStanding (model.StandsAs e) (StandsAs entry) = e ≡ entry_of entry
IsStanding (model.IsDecided call) (Decided snapshot request) = (call.snapshot ≡ snapshot) × (call.request ≡ request)
IsStanding (model.OpensSession a) (Opens b) = a ≡ b
IsStanding (model.IsNothing c) (Nothing d) = c ≡ d
IsStanding _ _ = ⊥

-- a replica of these tables can take it in
pub record CanBeTaken {A : Type 0} (tables : Tables) (entry : LogEntry A) : Type 0 where
  pub writes : AreWrites tables (writes_in (entry_of entry))
  pub named : IsNamed (entry_of entry)
  pub for_tables : IsForTables tables entry
  pub safe : (p : StoredProcedure) → entry_of entry ≡ AdditionEntry p → IsSafe tables p

abbrev pub IsReady : {A : Type 0} → Tables → Standing A → Type 0
IsReady tables (StandsAs entry) = CanBeTaken tables entry
IsReady tables _ = Unit {0}
