use Rattle.tallies.specs.Tallies.{names_by_place}
use Rattle.script_run.proofs.run.run_script.Given as goal
use Rattle.catalogue.specs.Catalogue.{system_setting}

-- the node whose log's cells and ledgers were just made, of this catalogue and window
abbrev pub ghosts-run_on_node-J-LogSetting : goal.ghosts-run_on_node-J-LogSetting
ghosts-run_on_node-J-LogSetting g a = record { setting = system_setting a.catalogue a.options.window }

abbrev pub ghosts-run_on_node-J-LogIdentity : goal.ghosts-run_on_node-J-LogIdentity
ghosts-run_on_node-J-LogIdentity g a = record { groups = a.cells }

abbrev pub ghosts-run_on_node-J-Ledgers : goal.ghosts-run_on_node-J-Ledgers
ghosts-run_on_node-J-Ledgers g a = record { names = names_by_place a.blanks }
