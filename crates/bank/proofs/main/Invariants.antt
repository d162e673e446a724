use Rattle.tallies.specs.Tallies.{names_by_place}
use Rattle.bank.proofs.main.Given as goal
use Rattle.catalogue.specs.Catalogue.{system_setting}

-- the node whose log's cells and ledgers were just made, of this catalogue and window
abbrev pub ghosts-use_node-J-LogSetting : goal.ghosts-use_node-J-LogSetting
ghosts-use_node-J-LogSetting g a = record { setting = system_setting a.catalogue a.options.window }

abbrev pub ghosts-use_node-J-LogIdentity : goal.ghosts-use_node-J-LogIdentity
ghosts-use_node-J-LogIdentity g a = record { groups = a.cells }

abbrev pub ghosts-use_node-J-Ledgers : goal.ghosts-use_node-J-Ledgers
ghosts-use_node-J-Ledgers g a = record { names = names_by_place a.blanks }
