-- Texts of which a beginning is given to an output in front of which a page is kept.
use Rattle.std.proofs.Common.{◌≡◌, ℕ, List, [], ◌++◌, Option, Some, None, refl, sym, ap, subst, ◌∙◌, append_assoc}
use Rattle.std.proofs.lemmas.List.{append-nil}
use Rattle.std.specs.Io.KnownBytes.{Appends}
use Rattle.byte_output.specs.declared.paged.PagedOutput.{PagedOutput}
use Rattle.byte_output.specs.Pending.{output_of, pending_of, Passes}
use Rattle.byte_output.specs.Writes.{AppendsBeginning}
use Rattle.byte_output.proofs.WritesLemmas.{Appends-then, AppendsBeginning-then}
use Rattle.script_replay.specs.Acting.{PassesBeginning}

pub Appends-nothing : (a : Option (List ℕ)) → Appends a a []
Appends-nothing None = tt
Appends-nothing (Some x) = sym (append-nil x)

pub Passes-nothing : {W : Type 0} (contents : W → Option (List ℕ)) (a : PagedOutput W) → Passes contents a a []
Passes-nothing contents a = ([], append-nil (pending_of a), Appends-nothing (contents (output_of a).now))

-- a text that was given whole is a beginning of it with more behind it
pub PassesBeginning-front : {W : Type 0} (contents : W → Option (List ℕ)) (a b : PagedOutput W) (text rest : List ℕ) → Passes contents a b text → PassesBeginning contents a b (text ++ rest)
PassesBeginning-front contents a b text rest (left, split, p) =
    (left, rest, sym (append_assoc (pending_of a) text rest) ∙ ap (λ (t : List ℕ). t ++ rest) split, p)

pub PassesBeginning-more : {W : Type 0} (contents : W → Option (List ℕ)) (a b : PagedOutput W) (text more : List ℕ) → PassesBeginning contents a b text → PassesBeginning contents a b (text ++ more)
PassesBeginning-more contents a b text more (front, rest, split, p) = (
  front,
  rest ++ more,
  sym (append_assoc (pending_of a) text more) ∙ ap (λ (t : List ℕ). t ++ more) split ∙ append_assoc (front ++ pending_of b) rest more,
  p,
)

-- p and then xs are us and then q, that and then ys are vs, r and more
joined : (p q r xs ys us vs more : List ℕ) → p ++ xs ≡ us ++ q → q ++ ys ≡ (vs ++ r) ++ more → p ++ (xs ++ ys) ≡ ((us ++ vs) ++ r) ++ more
joined p q r xs ys us vs more first second =
    sym (append_assoc p xs ys)
    ∙ ap (λ (t : List ℕ). t ++ ys) first
    ∙ append_assoc us q ys
    ∙ ap (λ (t : List ℕ). us ++ t) second
    ∙ sym (append_assoc us (vs ++ r) more)
    ∙ ap (λ (t : List ℕ). t ++ more) (sym (append_assoc us vs r))

-- a text was given, and then a beginning of another
pub PassesBeginning-then : {W : Type 0} (contents : W → Option (List ℕ)) (a b c : PagedOutput W) (xs ys : List ℕ) → Passes contents a b xs → PassesBeginning contents b c ys → PassesBeginning contents a c (xs ++ ys)
PassesBeginning-then contents a b c xs ys (us, first, p) (vs, more, second, q) = (
  us ++ vs,
  more,
  joined (pending_of a) (pending_of b) (pending_of c) xs ys us vs more first second,
  Appends-then (contents (output_of a).now) (contents (output_of b).now) (contents (output_of c).now) us vs p q,
)

-- where nothing was pending: a beginning of a text was given, and then a beginning of what was pending of it left
pub PassesBeginning-finished : {W : Type 0} (contents : W → Option (List ℕ)) (a b : PagedOutput W) (old : W) (new : Option (List ℕ)) (text : List ℕ) → (output_of a).now ≡ old → pending_of a ≡ []
    → PassesBeginning contents a b text → AppendsBeginning (contents (output_of b).now) new (pending_of b) → AppendsBeginning (contents old) new text
PassesBeginning-finished contents a b old new text same none (front, rest, split, p) q =
    subst (AppendsBeginning (contents old) new) (sym (append_assoc front (pending_of b) rest) ∙ sym split ∙ ap (λ (t : List ℕ). t ++ text) none)
    (AppendsBeginning-then (contents old) (contents (output_of b).now) new front (pending_of b) rest
    (subst (λ w. Appends (contents w) (contents (output_of b).now) front) same p) q)

-- where nothing was pending: what was pending of it is lost
pub PassesBeginning-lost : {W : Type 0} (contents : W → Option (List ℕ)) (a b : PagedOutput W) (old : W) (text : List ℕ) → (output_of a).now ≡ old → pending_of a ≡ [] → PassesBeginning contents a b text
    → AppendsBeginning (contents old) (contents (output_of b).now) text
PassesBeginning-lost contents a b old text same none p =
    PassesBeginning-finished contents a b old (contents (output_of b).now) text same none p ([], pending_of b, refl, Appends-nothing (contents (output_of b).now))
