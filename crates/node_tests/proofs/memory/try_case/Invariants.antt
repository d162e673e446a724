use Rattle.tallies.specs.Tallies.{names_by_place}
use Rattle.catalogue.specs.Catalogue.{system_setting}
use Rattle.node_tests.proofs.memory.try_case.Given as goal

-- the node whose log's cells and ledgers were just made, of this catalogue and window
abbrev pub ghosts-try_two-J-LogSetting : goal.ghosts-try_two-J-LogSetting
ghosts-try_two-J-LogSetting g a = record { setting = system_setting a.start.catalogue a.start.window }

abbrev pub ghosts-try_two-J-LogIdentity : goal.ghosts-try_two-J-LogIdentity
ghosts-try_two-J-LogIdentity g a = record { groups = a.cells }

abbrev pub ghosts-try_two-J-Ledgers : goal.ghosts-try_two-J-Ledgers
ghosts-try_two-J-Ledgers g a = record { names = names_by_place a.blanks }
