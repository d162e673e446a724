use Rattle.node_tests.proofs.orders.refused.a_refused_growth_adds_nothing.Given as goal

-- the log whose cells were just made
abbrev pub ghosts-append_scarcely : goal.ghosts-append_scarcely
ghosts-append_scarcely g a = record { groups = a.cells }
