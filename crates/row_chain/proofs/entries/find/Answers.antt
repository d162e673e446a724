use Rattle.std.proofs.Common.{◌≡◌, ◌<◌, ◌∙◌, ℕ, List, length, get_or, sym, ap, arith}
use Rattle.std.specs.Prelude.{Some}
use Rattle.std.proofs.lemmas.List.{get_or_default}
use Rattle.row_chain.specs.Slots.{Slot, AreRising, below, chain_at}
use Rattle.row_chain.proofs.TableLemmas.{chain_here, chain_other, chain_past}
use Rattle.row_chain.proofs.entries.find.Goals as goal

found : (es : List Slot) (n k : ℕ) (e d : Slot) → AreRising es → n ≡ below k es → n < length es → e ≡ get_or es n e → e.key ≡ k → ((get_or es n d).key ≡ k) × (chain_at es k ≡ Some (get_or es n d).chain)
found es n k e d up place lt read is =
    let same : get_or es n d ≡ e = get_or_default es n d e lt ∙ sym read in
    let key : (get_or es n d).key ≡ k = ap (λ (x : Slot). x.key) same ∙ is in
    (key, chain_here k es d up (omega arith) (ap (λ (i : ℕ). (get_or es i d).key) (sym place) ∙ key) ∙ ap (λ (i : ℕ). Some (get_or es i d).chain) (sym place))

pub returns-then-at-entries-clause-absent : goal.returns-then-at-entries-clause-absent
returns-then-at-entries-clause-absent g c = chain_past c.args.key c.args.entries.now (omega (arith, c.place-at.ensures.place, c.if-at-entries.true))

pub returns-then-key-clause-absent : goal.returns-then-key-clause-absent
returns-then-key-clause-absent g c =
    let e = c.index-entries-at.result in
    let r : e ≡ get_or c.args.entries.now (below c.args.key c.args.entries.now) e = c.index-entries-at.is ∙ ap (λ (i : ℕ). get_or c.args.entries.now i e) c.place-at.ensures.place in
    let within : below c.args.key c.args.entries.now < length c.args.entries.now = omega (arith, c.place-at.ensures.place, c.if-at-entries.false) in
    chain_other c.args.key c.args.entries.now e c.requires within (λ is. c.if-key.true (c.key.ensures ∙ ap (λ (x : Slot). x.key) r ∙ is))

pub returns-clause-found : goal.returns-clause-found
returns-clause-found g c =
    (c.if-at-entries.false, λ d. found c.args.entries.now c.place-at.result c.args.key c.index-entries-at.result d c.requires c.place-at.ensures.place c.if-at-entries.false c.index-entries-at.is (sym c.key.ensures ∙ c.if-key.false))
