-- A world of replicas as contracts see it, and the world of the definitions that it is.
use Rattle.std.specs.Prelude.{◌≡◌, ℕ, ◌-◌, ◌≤◌, List, map, take, Option, Some, None}
use Rattle.catalogue.specs.Catalogue.{beginning_of, SystemCatalogue, system_setting}
use Rattle.rows_mv.specs.Versions.{AnswersFrom}
use Rattle.replica.specs.Replica.{Replica, StandsFor, AreEntriesOf}
use Rattle.log_model.specs.Log.{Setting, rows_after, procedures_after}
use Rattle.catalogue.specs.Stored.{stored_procedures}
use Rattle.log_model.specs.Entries.{Entry, items_of}
use Rattle.dsm_model.specs.World as model
use Rattle.dsm_model.specs.World.{World}
use Rattle.log_model.specs.OpenCall.{OpenCall}
-- what the check of a program that is added comes to
pub use Rattle.program_checks.specs.Check.{check_of}
use Rattle.dsm_world.specs.declared.step.Step.{Step}
use Rattle.dsm_world.specs.declared.step.Step.TheVariants.{Begin, BeginNumbered, Turn, Order, Deliver, Rebuild, Add}

-- what all replicas have in common, what was ordered, what each replica keeps, and the calls, of which those that are over
-- are None
pub record SystemWorld : Type 0 where
  pub catalogue : SystemCatalogue
  pub window : ℕ
  pub entries : List Entry
  pub replicas : List Replica
  pub calls : List (Option OpenCall)

abbrev pub setting_of : SystemWorld → Setting
setting_of s = system_setting s.catalogue s.window

-- how far a replica has come, and whether it has stopped
abbrev pub progress_of : Replica → model.Replica
progress_of r = record { position = r.position; stopped = r.stopped }

abbrev pub world_of : SystemWorld → World
world_of s = record { log = items_of s.entries; replicas = map progress_of s.replicas; calls = s.calls }

-- a step, as it is asked for; a program that is added is checked for the tables
abbrev pub step_of : Setting → Step → model.Step
step_of w (Begin replica procedure args) = model.Begin replica procedure args.now None
step_of w (BeginNumbered replica procedure args session sequence) =
    model.Begin replica procedure args.now (Some (record { session = session; sequence = sequence }))
step_of w (Turn call) = model.Turn call
step_of w (Order call) = model.Order call
step_of w (Deliver replica) = model.Deliver replica
step_of w (Rebuild replica) = model.Rebuild replica
step_of w (Add name number args_len bytes) = model.Add name.now number args_len (check_of w.tables args_len bytes.now)

-- what a replica keeps is of the entries as far as it has come: its verdicts, rows and procedures are those of the log
pub record KeepsDelivered (s : SystemWorld) (r : Replica) : Type 0 where
  pub delivered : StandsFor (beginning_of s.catalogue) r (take r.position s.entries)
  pub window : r.window ≡ s.window
  pub entries : AreEntriesOf (setting_of s) s.entries
  pub rows : (position : ℕ) → position ≤ r.position → r.position - position ≤ s.window
      → AnswersFrom r.versions.tables position (rows_after (setting_of s) (items_of s.entries) position)
  pub procedures : stored_procedures r.procedures ≡ procedures_after (setting_of s) (items_of s.entries) r.position
