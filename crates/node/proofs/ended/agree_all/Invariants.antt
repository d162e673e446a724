use Rattle.std.proofs.Common.{◌≡◌, ◌<◌, ℕ, Some}
use Rattle.std.specs.List.{slice_get}
use Rattle.node.specs.declared.ended.EndedReplica.{EndedReplica}
use Rattle.node.specs.Agreement.{OneBegins}
use Rattle.node.proofs.ended.agree_all.Given as goal

abbrev pub invariant-loop-one : goal.invariant-loop-one
invariant-loop-one g l =
    (i j : ℕ) (x y : EndedReplica g.row.J.Denot g.row.P.Denot g.J.LogSetting g.J.LogIdentity) → i < l.one-index → slice_get l.all.items i ≡ Some x → slice_get l.all.items j ≡ Some y → OneBegins x.seen y.seen

abbrev pub invariant-loop-other : goal.invariant-loop-other
invariant-loop-other g l = (j : ℕ) (y : EndedReplica g.row.J.Denot g.row.P.Denot g.J.LogSetting g.J.LogIdentity) → j < l.other-index → slice_get l.all.items j ≡ Some y → OneBegins l.one.seen y.seen
