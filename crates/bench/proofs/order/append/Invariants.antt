use Rattle.bench.proofs.order.append.Given as goal

-- the log whose cells were just made
abbrev pub ghosts-append_to_log : goal.ghosts-append_to_log
ghosts-append_to_log g a = record { groups = a.cells }
