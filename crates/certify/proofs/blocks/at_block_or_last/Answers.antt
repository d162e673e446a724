use Rattle.std.proofs.Common.{◌≡◌, ◌∙◌, ℕ, ◌+◌, ◌-◌, ◌*◌, ◌/◌, ◌%◌, ◌≤◌, ◌<◌, List, [], ◌++◌, length, get_or, refl, sym, ap, subst, arith}
use Rattle.std.proofs.lemmas.List.{get_or_default, length-append}
use Rattle.std.proofs.lemmas.Option.{slice_get_read}
use Rattle.certify.specs.declared.certification.Certification.{Certification}
use Rattle.certify.specs.Blocks.{all_of, AreFull}
use Rattle.certify.proofs.BlockLemmas.{length-all, in_block, at_block, at_last}
use Rattle.certify.proofs.blocks.at_block_or_last.Goals as goal

-- a block that is read
read : (full : List (List Certification)) (i : ℕ) (block : List Certification) → i < length full → block ≡ get_or full i block → get_or full i [] ≡ block
read full i block lt is = get_or_default full i [] block lt ∙ sym is

-- a place behind the full blocks
behind : (full : List (List Certification)) (last : List Certification) (before : ℕ) → AreFull full → before < length (all_of full ++ last) → length full ≤ before / 1024
    → (length full * 1024 ≤ before) × (before - length full * 1024 < length last)
behind full last before are lt past =
    let both = length-append (all_of full) last in
    let all = length-all full are in
    (omega arith, omega arith)

pub at-requires : goal.at-requires
at-requires g c =
    let lt = c.if-before-full.true in
    subst (λ (b : List Certification). c.args.before % 1024 < length b) (read c.args.full.now (c.args.before / 1024) c.index-full-before.result lt c.index-full-before.is)
    (in_block c.args.full.now c.args.before c.requires.full lt)

pub returns-then-before-full-clause-place : goal.returns-then-before-full-clause-place
returns-then-before-full-clause-place g c d =
    let lt = c.if-before-full.true in
    let at = c.args.before in
    c.at.ensures d
    ∙ ap (λ (b : List Certification). get_or b (at % 1024) d) (sym (read c.args.full.now (at / 1024) c.index-full-before.result lt c.index-full-before.is))
    ∙ sym (at_block c.args.full.now c.args.last.now (at / 1024) (at % 1024) d c.requires.full lt (omega arith))
    ∙ ap (λ (n : ℕ). get_or (all_of c.args.full.now ++ c.args.last.now) n d) (omega arith)

pub returns-then-before-full-clause-found : goal.returns-then-before-full-clause-found
returns-then-before-full-clause-found g c =
    let all = all_of c.args.full.now ++ c.args.last.now in
    slice_get_read all (length all) c.args.before c.at.result refl c.requires.before (returns-then-before-full-clause-place g c c.at.result)

pub at_place-requires : goal.at_place-requires
at_place-requires g c = (behind c.args.full.now c.args.last.now c.args.before c.requires.full c.requires.before c.if-before-full.false).1

pub returns-clause-place : goal.returns-clause-place
returns-clause-place g c d =
    let there = behind c.args.full.now c.args.last.now c.args.before c.requires.full c.requires.before c.if-before-full.false in
    c.at_place.ensures d
    ∙ sym (at_last c.args.full.now c.args.last.now c.args.before d c.requires.full there.0)

pub returns-clause-found : goal.returns-clause-found
returns-clause-found g c =
    let all = all_of c.args.full.now ++ c.args.last.now in
    slice_get_read all (length all) c.args.before c.at_place.result refl c.requires.before (returns-clause-place g c c.at_place.result)
