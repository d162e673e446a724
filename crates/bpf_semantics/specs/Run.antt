-- A run: the steps from the entry state through that of EXIT, and what is read off its end.
use Rattle.std.specs.Prelude.{ℕ, zero, suc, List, Option, Some, None, length}
use Rattle.std.specs.FinMap.{empty}
use Rattle.bpf_code.specs.Program.{Program}
use Rattle.schema.specs.Schema.{Tables}
use Rattle.schema.specs.declared.look.Look.{Look}
use Rattle.schema.specs.Rows.{Rows, Writes}
use Rattle.bpf_semantics.specs.State.{State, entry_state}
use Rattle.bpf_semantics.specs.Step.{Moment, Going, Ended, Stuck, step}

-- what has ended or is stuck stays so
abbrev pub next_moment : (State → Moment) → Moment → Moment
next_moment next (Going s) = next s
next_moment next (Ended reply s) = Ended reply s
next_moment next Stuck = Stuck

-- the moment after so many steps
unfoldable pub moment : Program → Tables → ℕ → State → Moment
moment p tables zero s = Going s
moment p tables (suc k) s = next_moment (step p tables) (moment p tables k s)

-- a run, and what came of it
pub record Run : Type 0 where
  pub steps : ℕ  -- how many instructions it ran, EXIT included
  pub reply : ℕ  -- r0 at EXIT
  pub looks : List Look  -- also where it cancelled
  pub writes : Writes  -- none where it cancelled
  pub cancel_code : Option ℕ
  pub effect : Rows  -- the rows afterwards; those before where it cancelled

abbrev pub unless_cancelled : {X : Type 0} → Option ℕ → X → X → X
unless_cancelled None done before = done
unless_cancelled (Some _) done before = before

abbrev pub run_of : Rows → ℕ → State → Run
run_of rows reply s = record {
  steps = s.steps;
  reply = reply;
  looks = s.looks;
  writes = unless_cancelled s.cancel_code s.writes empty;
  cancel_code = s.cancel_code;
  effect = unless_cancelled s.cancel_code s.rows rows;
}

-- the run that ended there; None where it is stuck
abbrev pub run_at : Rows → Moment → Option Run
run_at rows (Ended reply s) = Some (run_of rows reply s)
run_at rows _ = None

-- the run of a program on arguments and rows. Each step goes at least one slot further, so as many steps as there are
-- slots are enough (a law says so: a_run_ends_or_is_stuck)
unfoldable pub run : Program → Tables → List ℕ → Rows → Option Run
run p tables args rows = run_at rows (moment p tables (length p) (entry_state args rows))
