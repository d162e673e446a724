-- The entries of an order's log: calls fit the procedures of their snapshots, and may be of none, and carry their runs.
use Rattle.std.specs.Prelude.{List}
use Rattle.log_model.specs.Log.{Setting, IsLog}
use Rattle.log_model.specs.Fit.{AllFitLog, BeginsSafely}
use Rattle.log_model.specs.Entries.{Entry, items_of, CarryRuns}

pub record AreFitEntries (w : Setting) (entries : List Entry) : Type 0 where
  pub begins : BeginsSafely w
  pub log : IsLog (items_of entries)
  pub items : AllFitLog w (items_of entries)
  pub runs : CarryRuns w entries
