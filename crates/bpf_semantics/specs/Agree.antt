-- Rows that a run can't tell apart: two maps that have the same where it looks, or in the schema's tables, and writes to
-- other keys.
use Rattle.std.specs.Prelude.{◌≡◌, IsTrue, is_some, None, ℕ, Bool, List, [], ◌∷◌}
use Rattle.std.specs.FinMap.{get}
use Rattle.bpf_code.specs.Program.{Program}
use Rattle.schema.specs.Schema.{Tables}
use Rattle.schema.specs.declared.look.Look.{Look}
use Rattle.schema.specs.Rows.{Rows, Key, Writes, AgreeOn, any_covers, after_writes}
use Rattle.bpf_semantics.specs.State.{entry_state}
use Rattle.bpf_semantics.specs.Step.{Moment, Going, Ended, Stuck}
use Rattle.bpf_semantics.specs.Run.{moment, Run}

-- what was looked at up to a moment; of one that is stuck, the moments before it tell
abbrev pub looks_of : Moment → List Look
looks_of (Going s) = s.looks
looks_of (Ended reply s) = s.looks
looks_of Stuck = []

-- the maps have the same, present or absent, at each key inside a look of the run on the first
abbrev pub AgreeOnLooks : Program → Tables → List ℕ → Rows → Rows → Type 0
AgreeOnLooks p tables args m n = (k : ℕ) → AgreeOn (any_covers (looks_of (moment p tables k (entry_state args m)))) m n

-- whether a key is of one of the schema's tables
abbrev pub in_tables : Tables → Key → Bool
in_tables tables k = is_some (get tables k.0)

-- the run on other rows that is the same but for its effect: those rows after its writes
abbrev pub same_on : Rows → Run → Run
same_on rows r = record r { effect = after_writes r.writes rows }

-- no key inside a look is written
abbrev pub AreElsewhere : List Look → Writes → Type 0
AreElsewhere looks writes = (k : Key) → IsTrue (any_covers looks k) → get writes k ≡ None

-- the rows after some writes, and then after the next
abbrev pub after_each : List Writes → Rows → Rows
after_each [] rows = rows
after_each (writes ∷ later) rows = after_each later (after_writes writes rows)
