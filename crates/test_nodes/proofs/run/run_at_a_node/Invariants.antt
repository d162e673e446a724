use Rattle.tallies.specs.Tallies.{names_by_place}
use Rattle.test_nodes.proofs.run.run_at_a_node.Given as goal
use Rattle.catalogue.specs.Catalogue.{system_setting}

-- the node whose log's cells and ledgers were just made, of this catalogue and window
abbrev pub ghosts-run_node-J-LogSetting : goal.ghosts-run_node-J-LogSetting
ghosts-run_node-J-LogSetting g a = record { setting = system_setting a.parts.catalogue a.parts.options.window }

abbrev pub ghosts-run_node-J-LogIdentity : goal.ghosts-run_node-J-LogIdentity
ghosts-run_node-J-LogIdentity g a = record { groups = a.cells }

abbrev pub ghosts-run_node-J-Ledgers : goal.ghosts-run_node-J-Ledgers
ghosts-run_node-J-Ledgers g a = record { names = names_by_place a.blanks }
