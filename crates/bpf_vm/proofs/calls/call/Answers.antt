use Rattle.std.proofs.Common.{subst}
use Rattle.bpf_vm.specs.Calls.{CanCall}
use Rattle.bpf_vm.proofs.calls.call.Goals as goal

pub row_get-requires-clause-can : goal.row_get-requires-clause-can
row_get-requires-clause-can g c = subst (λ helper. CanCall (g.S.Store.answers_from c.args.view.now.store) c.args.schema.now helper c.args.words.now c.args.view.now.own) c.in-RowGet.is c.requires.can

pub row_put-requires-clause-can : goal.row_put-requires-clause-can
row_put-requires-clause-can g c = subst (λ helper. CanCall (g.S.Store.answers_from c.args.view.now.store) c.args.schema.now helper c.args.words.now c.args.view.now.own) c.in-RowPut.is c.requires.can

pub row_delete-requires-clause-can : goal.row_delete-requires-clause-can
row_delete-requires-clause-can g c = subst (λ helper. CanCall (g.S.Store.answers_from c.args.view.now.store) c.args.schema.now helper c.args.words.now c.args.view.now.own) c.in-RowDelete.is c.requires.can

pub range_count-requires-clause-can : goal.range_count-requires-clause-can
range_count-requires-clause-can g c = subst (λ helper. CanCall (g.S.Store.answers_from c.args.view.now.store) c.args.schema.now helper c.args.words.now c.args.view.now.own) c.in-RangeCount.is c.requires.can

pub range_next-requires-clause-can : goal.range_next-requires-clause-can
range_next-requires-clause-can g c = subst (λ helper. CanCall (g.S.Store.answers_from c.args.view.now.store) c.args.schema.now helper c.args.words.now c.args.view.now.own) c.in-RangeNext.is c.requires.can
