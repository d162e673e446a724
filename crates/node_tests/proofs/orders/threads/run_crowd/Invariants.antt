use Rattle.node_tests.proofs.orders.threads.run_crowd.Given as goal

-- the log whose cells were just made
abbrev pub ghosts-try_crowd : goal.ghosts-try_crowd
ghosts-try_crowd g a = record { groups = a.cells }
