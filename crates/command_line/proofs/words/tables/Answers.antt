use Rattle.std.proofs.Common.{◌≡◌, ◌∙◌, ap, sym, refl, codes, ◌∷◌, [], List, ℕ, map, Some}
use Rattle.std.specs.Option.{unwrap_or}
use Rattle.std.specs.Borrow.{Bor}
use Rattle.clap.specs.Words.{found_of}
use Rattle.clap.proofs.WalkLemmas.{raw_values-rows}
use Rattle.program_commands.specs.Number.{table_word}
use Rattle.command_line.proofs.LocalLemmas.{ok_gives}
use Rattle.command_line.proofs.words.tables.Goals as goal

texts_read : (words : List (Bor (List ℕ))) → map table_word (map (λ w. w.now) words) ≡ map (λ w. table_word w.now) words
texts_read [] = refl
texts_read (w ∷ ws) = ap (λ rest. table_word w.now ∷ rest) (texts_read ws)

pub returns-in-Some : goal.returns-in-Some
returns-in-Some c =
    let all = c.in-Some.ensures ∙ raw_values-rows (found_of c.args.values.now) (codes "T:W") in
    ok_gives c.read_tables.result _ _ c.read_tables.ensures (λ tables read. ap (λ o. map table_word (unwrap_or o [])) (sym all) ∙ texts_read c.in-Some.words.now ∙ read)

pub returns-in-None : goal.returns-in-None
returns-in-None c =
    let all = c.in-None.ensures ∙ raw_values-rows (found_of c.args.values.now) (codes "T:W") in
    ap (λ o. map table_word (unwrap_or o [])) (sym all) ∙ ap (map (λ t. Some t)) (sym c.new.ensures.items)
