-- A call that is run to its end in one go, as turns of it.
use Rattle.std.specs.Prelude.{ℕ, zero, suc}
use Rattle.log_model.specs.Log.{Setting}
use Rattle.dsm_model.specs.declared.outcome.Outcome.{Outcome}
use Rattle.dsm_model.specs.declared.outcome.Outcome.TheVariants.{More}
use Rattle.dsm_model.specs.World.{World, Turn, IsStep}

-- so many turns of a call that answer that there is more, and then one that answers this
abbrev pub IsExecution : Setting → World → ℕ → ℕ → Outcome → World → Type 0
IsExecution w start call zero outcome after = IsStep w start (Turn call) outcome after
IsExecution w start call (suc before) outcome after =
    (between : World) × IsStep w start (Turn call) More between × IsExecution w between call before outcome after
