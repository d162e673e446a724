-- Certifications in blocks, and where each stands.
use Rattle.std.proofs.Common.{◌≡◌, ℕ, zero, suc, ◌+◌, ◌-◌, ◌*◌, ◌/◌, ◌%◌, ◌≤◌, ◌<◌, List, [], ◌∷◌, ◌++◌, length, get_or, refl, sym, ap, ◌∙◌, arith}
use Rattle.std.proofs.lemmas.List.{append_assoc, length-append, get_or_append_left, get_or-append_right}
use Rattle.certify.specs.declared.certification.Certification.{Certification}
use Rattle.certify.specs.Blocks.{all_of, AreFull}

append_nil : (l : List Certification) → l ++ [] ≡ l
append_nil [] = refl
append_nil (c ∷ l) = ap (λ (r : List Certification). c ∷ r) (append_nil l)

-- the last block joins the full ones, and an empty one takes its place
pub all_moved : (blocks : List (List Certification)) (last : List Certification) → all_of (blocks ++ last ∷ []) ++ [] ≡ all_of blocks ++ last
all_moved blocks last = append_nil (all_of (blocks ++ last ∷ [])) ∙ more blocks
  where
    more : (blocks : List (List Certification)) → all_of (blocks ++ last ∷ []) ≡ all_of blocks ++ last
    more [] = append_nil last
    more (block ∷ blocks) = ap (λ (l : List Certification). block ++ l) (more blocks) ∙ sym (append_assoc block (all_of blocks) last)

pub full_more : (blocks : List (List Certification)) (last : List Certification) → AreFull blocks → length last ≡ 1024 → AreFull (blocks ++ last ∷ [])
full_more [] last full is = (is, tt)
full_more (block ∷ blocks) last full is = (full.0, full_more blocks last full.1 is)

pub length-all : (blocks : List (List Certification)) → AreFull blocks → length (all_of blocks) ≡ length blocks * 1024
length-all [] full = refl
length-all (block ∷ blocks) full =
    let both : length (block ++ all_of blocks) ≡ length block + length (all_of blocks) = length-append block (all_of blocks) in
    let here : length block ≡ 1024 = full.0 in
    let more : length (all_of blocks) ≡ length blocks * 1024 = length-all blocks full.1 in
    let is : length (block ∷ blocks) ≡ length blocks + 1 = omega arith in
    omega arith

-- a place of a full block
pub in_block : (blocks : List (List Certification)) (at : ℕ) → AreFull blocks → at / 1024 < length blocks → at % 1024 < length (get_or blocks (at / 1024) [])
in_block blocks at full lt = there blocks (at / 1024) full lt
  where
    there : (blocks : List (List Certification)) (i : ℕ) → AreFull blocks → i < length blocks → at % 1024 < length (get_or blocks i [])
    there [] i full lt = absurd (omega arith)
    there (block ∷ blocks) zero full lt = let here : length block ≡ 1024 = full.0 in omega arith
    there (block ∷ blocks) (suc i) full lt = there blocks i full.1 (omega arith)

pub at_block : (blocks : List (List Certification)) (last : List Certification) (i k : ℕ) (d : Certification) → AreFull blocks → i < length blocks → k < 1024
    → get_or (all_of blocks ++ last) (i * 1024 + k) d ≡ get_or (get_or blocks i []) k d
at_block [] last i k d full lt few = absurd (omega arith)
at_block (block ∷ blocks) last zero k d full lt few =
    let here : length block ≡ 1024 = full.0 in
    ap (λ (l : List Certification). get_or l (0 * 1024 + k) d) (append_assoc block (all_of blocks) last)
    ∙ get_or_append_left block (all_of blocks ++ last) d (0 * 1024 + k) (omega arith)
    ∙ ap (λ (n : ℕ). get_or block n d) (omega arith)
at_block (block ∷ blocks) last (suc i) k d full lt few =
    let here : length block ≡ 1024 = full.0 in
    let past : suc i * 1024 + k - 1024 ≡ i * 1024 + k = omega arith in
    ap (λ (l : List Certification). get_or l (suc i * 1024 + k) d) (append_assoc block (all_of blocks) last)
    ∙ get_or-append_right block (all_of blocks ++ last) 1024 (suc i * 1024 + k) d here (omega arith)
    ∙ ap (λ (n : ℕ). get_or (all_of blocks ++ last) n d) past
    ∙ at_block blocks last i k d full.1 (omega arith) few

-- a place behind the full blocks
pub at_last : (blocks : List (List Certification)) (last : List Certification) (at : ℕ) (d : Certification) → AreFull blocks → length blocks * 1024 ≤ at
    → get_or (all_of blocks ++ last) at d ≡ get_or last (at - length blocks * 1024) d
at_last blocks last at d full past = get_or-append_right (all_of blocks) last (length blocks * 1024) at d (length-all blocks full) past
