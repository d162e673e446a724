use Rattle.node_tests.proofs.orders.refused.a_log_of_two_places_takes_two.Given as goal

-- the log whose cells were just made
abbrev pub ghosts-fill_two : goal.ghosts-fill_two
ghosts-fill_two g a = record { groups = a.cells }
