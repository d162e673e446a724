use Rattle.std.proofs.Common.{◌≡◌, ◌∙◌, ℕ, ◌+◌, ◌%◌, ◌<◌, sym, ap, arith}
use Rattle.std.proofs.Math.Nat.{mod_self, mod-eq_of_lt}
use Rattle.certify.proofs.search.next_place.Goals as goal

pub returns-then-at-count-clause-next : goal.returns-then-at-count-clause-next
returns-then-at-count-clause-next c =
    let last : c.args.at + 1 ≡ c.args.count = let e = c.if-at-count.true in omega arith in
    sym (ap (λ (n : ℕ). n % c.args.count) last ∙ mod_self c.args.count)

pub returns-clause-next : goal.returns-clause-next
returns-clause-next c =
    let within : c.args.at + 1 < c.args.count = let e = c.if-at-count.false in let lt = c.requires in omega arith in
    sym (mod-eq_of_lt within)
