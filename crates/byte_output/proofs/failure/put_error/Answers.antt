use Rattle.std.proofs.Common.{[], ◌++◌, codes}
use Rattle.std.proofs.lemmas.Result.{err_from_is_err_and}
use Rattle.byte_output.proofs.WritesLemmas.{AppendsBeginning-then, AppendsBeginning-more}
use Rattle.byte_output.proofs.BehindLemmas.{writes_behind}
use Rattle.byte_output.proofs.failure.put_error.Goals as goal

pub returns-in_err-put : goal.returns-in_err-put
returns-in_err-put g c =
    let q = err_from_is_err_and c.from_residual.result c.from_residual.ensures.1 in
    ([], rw q.1 (AppendsBeginning-more _ _ (codes "dsmdb: ") (codes "\n") c.in_err-put.ensures))

pub returns-in_err-put-2 : goal.returns-in_err-put-2
returns-in_err-put-2 g c =
    let q = err_from_is_err_and c.from_residual-in_err-put-2.result c.from_residual-in_err-put-2.ensures.1 in
    (c.deref.result.now, rw q.1 (AppendsBeginning-then _ _ _ (codes "dsmdb: ") c.deref.result.now (codes "\n") c.in_ok-put.ensures c.in_err-put-2.ensures))

pub returns : goal.returns
returns g c =
    let message = c.deref.result.now in
    (message, writes_behind _ _ _ (codes "dsmdb: ") (message ++ codes "\n") c.put-3.result c.in_ok-put.ensures (writes_behind _ _ _ message (codes "\n") c.put-3.result c.in_ok-put-2.ensures c.put-3.ensures))
