use Rattle.std.proofs.Common.{◌≡◌, take}
use Rattle.site_model.specs.Sessions.{lasts_of}
use Rattle.site.proofs.lasts.lasts_of.Given as goal

abbrev pub invariant-loop-one : goal.invariant-loop-one
invariant-loop-one g l = l.lasts ≡ lasts_of l.origin (take l.one-index l.done)
