use Rattle.std.proofs.Common.{sym, arith}
use Rattle.row_scan.proofs.ScanLemmas.{none_above}
use Rattle.row_scan.proofs.scan.above.Goals as goal

pub returns-then-key-look-clause-rows : goal.returns-then-key-look-clause-rows
returns-then-key-look-clause-rows c = λ rows. sym (none_above c.args.look rows c.args.key (omega arith))
