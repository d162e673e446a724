use Rattle.std.proofs.Common.{◌≡◌, map, take, Some}
use Rattle.program_commands.specs.Number.{table_word}
use Rattle.command_line.proofs.words.read_tables.Given as goal

-- the words so far are the tables so far
abbrev pub invariant-loop-word : goal.invariant-loop-word
invariant-loop-word l = map (λ w. table_word w.now) (take l.word-index l.words) ≡ map (λ t. Some t) l.tables.items
