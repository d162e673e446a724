-- A piece more, and the end.
use Rattle.std.proofs.Common.{◌≡◌, false, is_none, ℕ, List, [], ◌++◌, Option, Some, None, Result, Ok, Err, sym, ap, subst, ◌∙◌, append_assoc}
use Rattle.std.proofs.lemmas.List.{append-nil}
use Rattle.std.specs.Io.KnownBytes.{Appends}
use Rattle.byte_output.specs.Writes.{AppendsBeginning, WritesText}
use Rattle.byte_output.specs.declared.paged.PagedOutput.{PagedOutput}
use Rattle.byte_output.specs.Pending.{output_of, pending_of, Passes, Takes}
use Rattle.byte_output.proofs.WritesLemmas.{Appends-then, AppendsBeginning-then, AppendsBeginning-more}
use Rattle.byte_output.specs.Taken.{HasPassed, HasTaken}

pub Appends-nothing : (a : Option (List ℕ)) → Appends a a []
Appends-nothing None = tt
Appends-nothing (Some x) = sym (append-nil x)

module _ {W : Type 0} (E : Type 0) (contents : W → Option (List ℕ)) (start : Option (List ℕ)) (text piece : List ℕ) (a b : PagedOutput W) where
  pub given : Passes contents a b piece → HasTaken {E = E} contents start text a None → HasTaken {E = E} contents start (text ++ piece) b None
  given (more, split, q) (left, whole, p) = (
    left ++ more,
    ap (λ (t : List ℕ). t ++ piece) whole ∙ append_assoc left (pending_of a) piece ∙ ap (λ (t : List ℕ). left ++ t) split ∙ sym (append_assoc left more (pending_of b)),
    Appends-then start (contents (output_of a).now) (contents (output_of b).now) left more p q,
  )

  pub broken : (error : E) → AppendsBeginning (contents (output_of a).now) (contents (output_of b).now) (pending_of a ++ piece) → HasTaken {E = E} contents start text a None
      → HasTaken contents start (text ++ piece) b (Some error)
  broken error q (left, whole, p) =
      let all : left ++ ((pending_of a ++ piece) ++ []) ≡ text ++ piece =
      ap (λ (t : List ℕ). left ++ t) (append-nil (pending_of a ++ piece)) ∙ sym (append_assoc left (pending_of a) piece) ∙ ap (λ (t : List ℕ). t ++ piece) (sym whole) in
      subst (AppendsBeginning start (contents (output_of b).now)) all
      (AppendsBeginning-then start (contents (output_of a).now) (contents (output_of b).now) left (pending_of a ++ piece) [] p q)

-- by what `put` answers
pub taken : {W E : Type 0} (contents : W → Option (List ℕ)) (start : Option (List ℕ)) (text piece : List ℕ) (a b : PagedOutput W) (result : Result (Unit {0}) E) (was now : Option E) → was ≡ None
    → now ≡ Rattle.std.specs.Result.result_err result → Takes contents a b result piece → HasTaken contents start text a was → HasTaken contents start (text ++ piece) b now
taken {E = E} contents start text piece a b (Ok t) was now none is q h = rw is (given E contents start text piece a b q (subst (HasTaken contents start text a) none h))
taken {E = E} contents start text piece a b (Err e) was now none is q h = rw is (broken E contents start text piece a b e q (subst (HasTaken contents start text a) none h))

-- an output that failed stays so
pub stays_broken : {W E : Type 0} (contents : W → Option (List ℕ)) (start : Option (List ℕ)) (text piece : List ℕ) (a : PagedOutput W) (failed : Option E) → is_none failed ≡ false → HasTaken contents start text a failed
    → HasTaken contents start (text ++ piece) a failed
stays_broken contents start text piece a None is h = absurd cc
stays_broken contents start text piece a (Some e) is h = AppendsBeginning-more start (contents (output_of a).now) text piece h

-- what was pending left, or a beginning of it
pub finished : {W T E F : Type 0} (contents : W → Option (List ℕ)) (start new : Option (List ℕ)) (text : List ℕ) (a : PagedOutput W) (failed : Option F) (result : Result T E) → failed ≡ None
    → WritesText (contents (output_of a).now) new result (pending_of a) → HasTaken contents start text a failed → WritesText start new result text
finished contents start new text a (Some e) result is q h = absurd cc
finished contents start new text a None (Ok t) is q (left, whole, p) = rw whole (Appends-then start (contents (output_of a).now) new left (pending_of a) p q)
finished contents start new text a None (Err e) is q (left, whole, p) =
    rw (whole ∙ ap (λ (t : List ℕ). left ++ t) (sym (append-nil (pending_of a)))) (AppendsBeginning-then start (contents (output_of a).now) new left (pending_of a) [] p q)

-- pages in front of an output to which nothing was given
pub fresh : {W : Type 0} (contents : W → Option (List ℕ)) (start : Option (List ℕ)) (a : PagedOutput W) → contents (output_of a).now ≡ start → pending_of a ≡ [] → HasPassed contents start [] a
fresh contents start a same empty = ([], sym empty, subst (λ (t : Option (List ℕ)). Appends t (contents (output_of a).now) []) same (Appends-nothing (contents (output_of a).now)))

-- by what the output has at the end
pub written : {T E : Type 0} (start new left : Option (List ℕ)) (result : Result T E) (text : List ℕ) → new ≡ left → WritesText start left result text → WritesText start new result text
written start new left result text same wrote = subst (λ (t : Option (List ℕ)). WritesText start t result text) (sym same) wrote

-- by what the pages are at the end
pub taken_by : {W E : Type 0} (contents : W → Option (List ℕ)) (start : Option (List ℕ)) (text : List ℕ) (a b : PagedOutput W) (failed : Option E) → a ≡ b → HasTaken contents start text b failed → HasTaken contents start text a failed
taken_by {W = W} contents start text a b failed same taken = subst (λ (p : PagedOutput W). HasTaken contents start text p failed) (sym same) taken
