use Rattle.interval.proofs.table.table.Goals as goal

pub returns-in-Movsx : goal.returns-in-Movsx
returns-in-Movsx c = rw c.in-Movsx.is (c.sign_extension.ensures c.args.a)
