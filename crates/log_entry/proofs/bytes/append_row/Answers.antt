use Rattle.std.proofs.Common.{rules, ◌≡◌, ℕ, List, ◌∷◌, subst}
use Rattle.log_entry.specs.Bytes.{row_bytes}
use Rattle.log_entry.proofs.bytes.append_row.Goals as goal

pub returns-in-Some : goal.returns-in-Some
returns-in-Some g c =
    let text : 1 ∷ c.as_slice.result.now ≡ row_bytes c.args.row.now = search rules in
    subst (λ (bytes : List ℕ). g.S.ByteSink.appends c.args.sink.now c.append-in-Some-2.new.self bytes) text
    (g.met.S.ByteSink.together _ _ _ _ _ c.append-in-Some.ensures c.append-in-Some-2.ensures)
