use Rattle.std.proofs.Common.{◌≡◌, ◌∙◌, List, [], ◌∷◌, ◌++◌, length, sym, ap₂, subst, arith}
use Rattle.certify.specs.declared.certification.Certification.{Certification}
use Rattle.certify.specs.Blocks.{all_of, AreFull}
use Rattle.certify.proofs.BlockLemmas.{all_moved, full_more}
use Rattle.certify.proofs.blocks.begin_block.Goals as goal

moved : (full now : List (List Certification)) (last block : List Certification) (reserved : List (List Certification)) → now ≡ reserved ++ block ∷ [] → reserved ≡ full → block ≡ last → now ≡ full ++ last ∷ []
moved full now last block reserved is same taken = is ∙ ap₂ (λ (f : List (List Certification)) (b : List Certification). f ++ b ∷ []) same taken

pub returns-clause-items : goal.returns-clause-items
returns-clause-items g c =
    let full = c.args.full.now.items in let last = c.args.last.now.items in
    ap₂ (λ (f : List (List Certification)) (l : List Certification). all_of f ++ l)
    (moved full c.push_block.new.blocks.items last c.take_all.result c.reserve.new.self.items c.push_block.ensures c.reserve.ensures.items c.take_all.ensures.taken) c.take_all.ensures.none
    ∙ all_moved full last

pub returns-clause-full : goal.returns-clause-full
returns-clause-full g c full =
    let blocks = c.args.full.now.items in let last = c.args.last.now.items in
    let is : length last ≡ 1024 = let n = c.len.ensures in let e = c.if-len-ne-BLOCK.false in omega arith in
    subst AreFull (sym (moved blocks c.push_block.new.blocks.items last c.take_all.result c.reserve.new.self.items c.push_block.ensures c.reserve.ensures.items c.take_all.ensures.taken)) (full_more blocks last full is)
