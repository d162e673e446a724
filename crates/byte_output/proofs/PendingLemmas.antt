-- Texts that are given one after another to an output in front of which a page is kept.
use Rattle.std.proofs.Common.{◌≡◌, ℕ, List, [], ◌++◌, Option, Result, Ok, Err, MatchResult, sym, ap, subst, ◌∙◌, append_assoc}
use Rattle.std.proofs.lemmas.List.{append-nil}
use Rattle.std.specs.Io.KnownBytes.{Appends}
use Rattle.byte_output.specs.declared.paged.PagedOutput.{PagedOutput}
use Rattle.byte_output.specs.Writes.{AppendsBeginning, WritesText}
use Rattle.byte_output.specs.Pending.{output_of, pending_of, Passes}
use Rattle.byte_output.proofs.WritesLemmas.{Appends-then, AppendsBeginning-then}

-- what was pending left, and then the text did
pub Takes-directly : {T E : Type 0} (a b c : Option (List ℕ)) (pending text : List ℕ) (result : Result T E) → Appends a b pending → WritesText b c result text
    → MatchResult result (λ _. (left : List ℕ) × (pending ++ text ≡ left ++ []) × Appends a c left) (λ _. AppendsBeginning a c (pending ++ text))
Takes-directly a b c pending text (Ok x) p q = (pending ++ text, sym (append-nil (pending ++ text)), Appends-then a b c pending text p q)
Takes-directly a b c pending text (Err e) p q =
    subst (λ (t : List ℕ). AppendsBeginning a c (pending ++ t)) (append-nil text) (AppendsBeginning-then a b c pending text [] p q)

-- p and then xs are us and then q, that and then ys are vs and then r
joined : (p q r xs ys us vs : List ℕ) → p ++ xs ≡ us ++ q → q ++ ys ≡ vs ++ r → p ++ (xs ++ ys) ≡ us ++ (vs ++ r)
joined p q r xs ys us vs first second = sym (append_assoc p xs ys) ∙ ap (λ (t : List ℕ). t ++ ys) first ∙ append_assoc us q ys ∙ ap (λ (t : List ℕ). us ++ t) second

pub Passes-then : {W : Type 0} (contents : W → Option (List ℕ)) (a b c : PagedOutput W) (xs ys : List ℕ) → Passes contents a b xs → Passes contents b c ys → Passes contents a c (xs ++ ys)
Passes-then contents a b c xs ys (us, first, p) (vs, second, q) = (
  us ++ vs,
  joined (pending_of a) (pending_of b) (pending_of c) xs ys us vs first second ∙ sym (append_assoc us vs (pending_of c)),
  Appends-then (contents (output_of a).now) (contents (output_of b).now) (contents (output_of c).now) us vs p q,
)

-- what was given, and a beginning of what was pending and comes next, with more behind it
pub AppendsBeginning-given : {W : Type 0} (contents : W → Option (List ℕ)) (a b : PagedOutput W) (c : Option (List ℕ)) (front text rest : List ℕ) → Passes contents a b front
    → AppendsBeginning (contents (output_of b).now) c (pending_of b ++ text) → AppendsBeginning (contents (output_of a).now) c (pending_of a ++ (front ++ (text ++ rest)))
AppendsBeginning-given contents a b c front text rest (left, split, p) q =
    let behind : pending_of a ++ (front ++ (text ++ rest)) ≡ left ++ ((pending_of b ++ text) ++ rest) =
    joined (pending_of a) (pending_of b) ((pending_of b ++ text) ++ rest) front (text ++ rest) left [] split (sym (append_assoc (pending_of b) text rest)) in
    subst (AppendsBeginning (contents (output_of a).now) c) (sym behind)
    (AppendsBeginning-then (contents (output_of a).now) (contents (output_of b).now) c left (pending_of b ++ text) rest p q)

-- a text that was given where nothing was pending, and then a beginning of what was pending of it
pub AppendsBeginning-finished : {W : Type 0} (contents : W → Option (List ℕ)) (a b : PagedOutput W) (old : W) (new : Option (List ℕ)) (text : List ℕ) → (output_of a).now ≡ old → pending_of a ≡ []
    → Passes contents a b text → AppendsBeginning (contents (output_of b).now) new (pending_of b) → AppendsBeginning (contents old) new text
AppendsBeginning-finished contents a b old new text same none (left, split, p) q =
    subst (AppendsBeginning (contents old) new) (ap (λ (t : List ℕ). left ++ t) (append-nil (pending_of b)) ∙ sym split ∙ ap (λ (t : List ℕ). t ++ text) none)
    (AppendsBeginning-then (contents old) (contents (output_of b).now) new left (pending_of b) []
    (subst (λ w. Appends (contents w) (contents (output_of b).now) left) same p) q)

-- a text that was given where nothing was pending, and then what was pending of it, or a beginning of that
pub Writes-finished : {W T E : Type 0} (contents : W → Option (List ℕ)) (a b : PagedOutput W) (old : W) (new left : Option (List ℕ)) (text : List ℕ) (result : Result T E) → new ≡ left → (output_of a).now ≡ old
    → pending_of a ≡ [] → Passes contents a b text → WritesText (contents (output_of b).now) left result (pending_of b) → WritesText (contents old) new result text
Writes-finished contents a b old new left text (Err e) is same none passes q =
    subst (λ (t : Option (List ℕ)). AppendsBeginning (contents old) t text) (sym is) (AppendsBeginning-finished contents a b old left text same none passes q)
Writes-finished contents a b old new left text (Ok x) is same none (front, split, p) q =
    let whole : front ++ pending_of b ≡ text = sym split ∙ ap (λ (t : List ℕ). t ++ text) none in
    let gone = Appends-then (contents (output_of a).now) (contents (output_of b).now) left front (pending_of b) p q in
    subst (λ (t : Option (List ℕ)). Appends (contents old) t text) (sym is)
    (subst (λ w. Appends (contents w) left text) same (subst (Appends (contents (output_of a).now) left) whole gone))
