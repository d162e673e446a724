use Rattle.std.proofs.Common.{◌≡◌, List, ◌++◌, ℕ, nat_eq, map, sym, ap, subst, ◌∙◌}
use Rattle.std.specs.List.{IsDistinct}
use Rattle.catalogue.specs.Stored.{ListedProcedure, NamedProcedure, listed, listed_entry}
use Rattle.catalogue.proofs.StoredLemmas.{fresh_behind}
use Rattle.catalogue.proofs.table.share_all.Goals as goal

pub enter-requires : goal.enter-requires
enter-requires g c =
    let before = listed c.loop-number.shared.entries in
    let e : ℕ × NamedProcedure = (c.in-Some.number.now, c.in-Some.named.now) in
    let all : before ++ listed c.loop-number.number-iterator ≡ listed c.args.table.now.entries = c.loop-number.invariant in
    fresh_behind before (listed c.next.new.self) (listed_entry e)
    (subst (λ (ls : List ListedProcedure). IsDistinct nat_eq (map (λ l. l.number) ls))
    (sym (ap (λ (es : List (ℕ × NamedProcedure)). before ++ listed es) (sym c.in-Some.ensures.steps) ∙ all)) c.requires.numbers)
