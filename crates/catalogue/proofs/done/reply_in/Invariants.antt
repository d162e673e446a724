use Rattle.std.proofs.Common.{◌≡◌, drop}
use Rattle.log_model.specs.Log.{reply_done}
use Rattle.catalogue.proofs.done.reply_in.Given as goal

abbrev pub invariant-loop-one : goal.invariant-loop-one
invariant-loop-one g l = reply_done (drop l.one-index l.done) l.request ≡ reply_done l.done l.request
