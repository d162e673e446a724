-- Texts that are given one after another, up to one of which a beginning is given.
use Rattle.std.proofs.Common.{◌≡◌, ℕ, List, [], ◌++◌, Option, Result, Ok, Err, refl, sym, ap, ◌∙◌, append_assoc}
use Rattle.std.proofs.lemmas.List.{append-nil}
use Rattle.byte_output.specs.declared.paged.PagedOutput.{PagedOutput}
use Rattle.byte_output.specs.Writes.{AppendsBeginning}
use Rattle.byte_output.specs.Pending.{output_of, pending_of, Passes}
use Rattle.byte_output.proofs.PendingLemmas.{Passes-then}
use Rattle.byte_output.proofs.WritesLemmas.{Appends-then}
pub use Rattle.report.proofs.PrintingLemmas.{nothing_given, nothing_appended}
use Rattle.log_model.specs.Log.{Setting}
use Rattle.dsm_model.specs.World.{World}
use Rattle.script.specs.Script.{ScriptAction}
use Rattle.script_replay.specs.Actions.{Does}
use Rattle.script_replay.specs.Acting.{PassesBeginning, Gives, HasDone}

-- nothing is a beginning of any text
pub nothing_begun : {W : Type 0} (contents : W → Option (List ℕ)) (a : PagedOutput W) (text : List ℕ) → PassesBeginning contents a a text
nothing_begun contents a text = ([], text, refl, nothing_appended (contents (output_of a).now))

-- what the output took of what was pending and of the text, where the rest was given up
pub beginning_left : {W : Type 0} (contents : W → Option (List ℕ)) (a b : PagedOutput W) (text : List ℕ) → AppendsBeginning (contents (output_of a).now) (contents (output_of b).now) (pending_of a ++ text)
    → pending_of b ≡ [] → PassesBeginning contents a b text
beginning_left contents a b text (front, rest, split, p) none =
    (front, rest, split ∙ ap (λ (t : List ℕ). t ++ rest) (sym (append-nil front)) ∙ ap (λ (t : List ℕ). (front ++ t) ++ rest) (sym none), p)

pub whole_given : {W : Type 0} (contents : W → Option (List ℕ)) (a b : PagedOutput W) (text : List ℕ) → Passes contents a b text → PassesBeginning contents a b text
whole_given contents a b text (left, split, p) = (left, [], split ∙ sym (append-nil (left ++ pending_of b)), p)

pub beginning_then : {W : Type 0} (contents : W → Option (List ℕ)) (a b c : PagedOutput W) (xs ys : List ℕ) → Passes contents a b xs → PassesBeginning contents b c ys → PassesBeginning contents a c (xs ++ ys)
beginning_then contents a b c xs ys (left, first, p) (front, rest, second, q) = (
  left ++ front,
  rest,
  sym (append_assoc (pending_of a) xs ys) ∙ ap (λ (t : List ℕ). t ++ ys) first ∙ append_assoc left (pending_of b) ys ∙ ap (λ (t : List ℕ). left ++ t) second
      ∙ sym (append_assoc left (front ++ pending_of c) rest) ∙ ap (λ (t : List ℕ). t ++ rest) (sym (append_assoc left front (pending_of c))),
  Appends-then (contents (output_of a).now) (contents (output_of b).now) (contents (output_of c).now) left front p q,
)

pub beginning_more : {W : Type 0} (contents : W → Option (List ℕ)) (a b : PagedOutput W) (xs ys : List ℕ) → PassesBeginning contents a b xs → PassesBeginning contents a b (xs ++ ys)
beginning_more contents a b xs ys (front, rest, split, p) = (
  front,
  rest ++ ys,
  sym (append_assoc (pending_of a) xs ys) ∙ ap (λ (t : List ℕ). t ++ ys) split ∙ append_assoc (front ++ pending_of b) rest ys,
  p,
)

-- a line that prints a text, of which that was given
pub gives_done : {W T E : Type 0} (contents : W → Option (List ℕ)) (w : Setting) (before : World) (c : ScriptAction) (a b : PagedOutput W) (result : Result T E) (after : World) (text : List ℕ)
    → Does w before c text after → Gives contents a b result text → HasDone contents w before c a b result after
gives_done contents w before c a b (Ok x) after text does given = (text, does, given)
gives_done contents w before c a b (Err x) after text does given = (text, after, does, given)

-- a text, and then one that is given or begun
pub given_then : {W T E : Type 0} (contents : W → Option (List ℕ)) (a b c : PagedOutput W) (result : Result T E) (front last : List ℕ) → Passes contents a b front → Gives contents b c result last
    → Gives contents a c result (front ++ last)
given_then contents a b c (Ok x) front last given this = Passes-then contents a b c front last given this
given_then contents a b c (Err x) front last given this = beginning_then contents a b c front last given this
