use Rattle.std.proofs.Common.{◌≡◌, ◌<◌, ◌∙◌, ℕ, List, length, get_or, sym, ap, arith}
use Rattle.std.specs.Prelude.{◌≢◌, Option}
use Rattle.row_chain.specs.Version.{ChainState, row_up_to}
use Rattle.row_chain.specs.Slots.{Slot, below, versions_in}
use Rattle.row_chain.proofs.TableLemmas.{chain_here, chain_other, chain_past}
use Rattle.row_chain.proofs.entries.row_at.Goals as goal

read : (es : List Slot) (n k : ℕ) (e : Slot) → n ≡ below k es → e ≡ get_or es n e → e ≡ get_or es (below k es) e
read es n k e is r = r ∙ ap (λ (i : ℕ). get_or es i e) is

pub returns-then-at-entries : goal.returns-then-at-entries
returns-then-at-entries g c = sym (ap (λ (o : Option ChainState). row_up_to c.args.position (versions_in o)) (chain_past c.args.key c.args.entries.now (omega (arith, c.place-at.ensures.place, c.if-at-entries.true))))

pub returns-then-key : goal.returns-then-key
returns-then-key g c =
    let e = c.index-entries-at.result in
    let r = read c.args.entries.now c.place-at.result c.args.key e c.place-at.ensures.place c.index-entries-at.is in
    let k = ap (λ (x : Slot). x.key) r in
    let within : below c.args.key c.args.entries.now < length c.args.entries.now = omega (arith, c.place-at.ensures.place, c.if-at-entries.false) in
    let other : (get_or c.args.entries.now (below c.args.key c.args.entries.now) e).key ≢ c.args.key = λ is. c.if-key.true (c.key.ensures ∙ k ∙ is) in
    sym (ap (λ (o : Option ChainState). row_up_to c.args.position (versions_in o)) (chain_other c.args.key c.args.entries.now e c.requires within other))

pub returns : goal.returns
returns g c =
    let e = c.index-entries-at.result in
    let r = read c.args.entries.now c.place-at.result c.args.key e c.place-at.ensures.place c.index-entries-at.is in
    let within : below c.args.key c.args.entries.now < length c.args.entries.now = omega (arith, c.place-at.ensures.place, c.if-at-entries.false) in
    c.row.ensures
    ∙ ap (λ (x : Slot). row_up_to c.args.position x.chain.versions) r
    ∙ sym (ap (λ (o : Option ChainState). row_up_to c.args.position (versions_in o)) (chain_here c.args.key c.args.entries.now e c.requires within (sym (ap (λ (x : Slot). x.key) r) ∙ sym c.key.ensures ∙ c.if-key.false)))
