use Rattle.std.proofs.lemmas.Result.{err_from_is_err_and}
use Rattle.byte_output.specs.Pending.{output_of, pending_of}
use Rattle.byte_output.proofs.WritesLemmas.{AppendsBeginning-more}
use Rattle.byte_output.proofs.PendingLemmas.{Takes-directly}
use Rattle.byte_output.proofs.paged.PagedOutput.put.Goals as goal

pub returns-in_err-put_out-clause-bytes : goal.returns-in_err-put_out-clause-bytes
returns-in_err-put_out-clause-bytes g c =
    let q = err_from_is_err_and c.from_residual.result c.from_residual.ensures.1 in
    rw q.1 (AppendsBeginning-more (g.W.Write.contents (output_of c.args.self.now).now) (g.W.Write.contents (output_of c.put_out.new.self).now) (pending_of c.args.self.now) c.args.bytes.now c.in_err-put_out.ensures.bytes)

pub returns-then-bytes-gt-PAGE_BYTES-clause-bytes : goal.returns-then-bytes-gt-PAGE_BYTES-clause-bytes
returns-then-bytes-gt-PAGE_BYTES-clause-bytes g c =
    rw c.in_ok-put_out.ensures.empty
    (Takes-directly (g.W.Write.contents (output_of c.args.self.now).now) (g.W.Write.contents (output_of c.put_out.new.self).now) (g.W.Write.contents c.put.new.output) (pending_of c.args.self.now) c.args.bytes.now c.put.result
    c.in_ok-put_out.ensures.bytes c.put.ensures)
