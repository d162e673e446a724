-- A step that is taken again, as far as a loop has come.
use Rattle.std.proofs.Common.{◌≡◌, ◌≢◌, ◌<◌, ◌+◌, ◌-◌, inl, ℕ, zero, suc, Bool, true, false, List, [], ◌∷◌, ◌++◌, refl, sym, ap, subst, ◌∙◌, append_assoc, arith}
use Rattle.std.proofs.lemmas.List.{append-nil}
use Rattle.std.specs.List.{concat}
use Rattle.std.specs.Prelude.{Option}
use Rattle.byte_output.specs.declared.paged.PagedOutput.{PagedOutput}
use Rattle.byte_output.specs.Pending.{Passes}
use Rattle.byte_output.proofs.PendingLemmas.{Passes-then}
use Rattle.dsm_model.specs.declared.outcome.Outcome.{Outcome}
use Rattle.dsm_model.specs.declared.outcome.Outcome.TheVariants.{More}
use Rattle.log_model.specs.Log.{Setting}
use Rattle.dsm_model.specs.World.{World, Step, Turn, IsStep, after_step}
use Rattle.dsm_world.specs.Execution.{IsExecution}
use Rattle.script_replay.specs.Printed.{step_text}
use Rattle.script_replay.specs.Actions.{Later, Repeats, is_more, last_line}
use Rattle.script_replay.specs.Acting.{PassesBeginning}
use Rattle.script_replay.proofs.GivenLemmas.{nothing_given, beginning_then, beginning_more}

-- ---- there is always a way on

abbrev Some_way : (List (List ℕ) → World → Type 0) → Type 0
Some_way P = (lines : List (List ℕ)) × (after : World) × P lines after

abbrev said : Setting → World → Step → Outcome → List ℕ
said w after step outcome = step_text w after.log step outcome

later : (w : Setting) (step : Step) (goes : Outcome → Bool) (n : ℕ) (before between : World) (first : Outcome) (b : Bool) → IsStep w before step first between → b ≡ goes first → Some_way (Repeats w step goes n between)
    → Some_way (Repeats w step goes (suc n) before)
unfolding Repeats
later w step goes n before between first true is e (rest, after, more) = (said w between step first ∷ rest, after, (first, rest, between, refl, is, subst (λ (b : Bool). Later b (Repeats w step goes n between rest after) rest between after) e more))
later w step goes n before between first false is e _ = (said w between step first ∷ [], between, (first, [], between, refl, is, subst (λ (b : Bool). Later b (Repeats w step goes n between [] between) [] between between) e (refl, refl)))

pub repeats_can : (w : Setting) (step : Step) (goes : Outcome → Bool) (n : ℕ) (before : World) → Some_way (Repeats w step goes n before)
unfolding Repeats
repeats_can w step goes zero before = ([], before, (refl, refl))
repeats_can w step goes (suc n) before =
    later w step goes n before (after_step w before step).1 (after_step w before step).0 (goes (after_step w before step).0) (inl refl) refl (repeats_can w step goes n (after_step w before step).1)

-- ---- with the line of each outcome

-- so many are left of the most; what was given so far is what they print before those
pub record Came {W : Type 0} (contents : W → Option (List ℕ)) (w : Setting) (step : Step) (goes : Outcome → Bool) (most left : ℕ) (start now : World) (old new : PagedOutput W) : Type 0 where
  pub done : List ℕ
  pub given : Passes contents old new done
  pub back : (lines : List (List ℕ)) (after : World) → Repeats w step goes left now lines after → (all : List (List ℕ)) × Repeats w step goes most start all after × (concat all ≡ done ++ concat lines)

pub at_start : {W : Type 0} (contents : W → Option (List ℕ)) (w : Setting) (step : Step) (goes : Outcome → Bool) (most : ℕ) (start : World) (old : PagedOutput W) → Came contents w step goes most most start start old old
at_start contents w step goes most start old = record { done = []; given = nothing_given contents old; back = λ lines after r. (lines, r, refl) }

-- all that one more step and what follows it print
abbrev Whole : Setting → Step → (Outcome → Bool) → ℕ → World → World → List ℕ → Type 0
Whole w step goes most start after text = (all : List (List ℕ)) × Repeats w step goes most start all after × (concat all ≡ text)

one_more : {W : Type 0} (contents : W → Option (List ℕ)) (w : Setting) (step : Step) (goes : Outcome → Bool) (most left : ℕ) (start now : World) (old new : PagedOutput W) (came : Came contents w step goes most (suc left) start now old new) (outcome : Outcome) (between after : World) (lines : List (List ℕ))
    → IsStep w now step outcome between → Later (goes outcome) (Repeats w step goes left between lines after) lines between after
    → Whole w step goes most start after (came.done ++ (said w between step outcome ++ concat lines))
unfolding Repeats
one_more contents w step goes most left start now old new came outcome between after lines is more =
    came.back (said w between step outcome ∷ lines) after (outcome, lines, between, refl, is, more)

came_more : {W : Type 0} (contents : W → Option (List ℕ)) (w : Setting) (step : Step) (goes : Outcome → Bool) (most left : ℕ) (start now next : World) (old mid new : PagedOutput W) (outcome : Outcome) → Came contents w step goes most (suc left) start now old mid
    → IsStep w now step outcome next → goes outcome ≡ true → Passes contents mid new (said w next step outcome) → Came contents w step goes most left start next old new
came_more contents w step goes most left start now next old mid new outcome came is goes_on given = record {
  done = came.done ++ said w next step outcome;
  given = Passes-then contents old mid new came.done (said w next step outcome) came.given given;
  back = λ lines after r.
      let all = one_more contents w step goes most left start now old mid came outcome next after lines is (subst (λ (b : Bool). Later b (Repeats w step goes left next lines after) lines next after) (sym goes_on) r) in
      (all.0, all.1, all.2 ∙ sym (append_assoc came.done (said w next step outcome) (concat lines)));
}

-- what was done in all, and given
abbrev pub AllGiven : {W : Type 0} → (W → Option (List ℕ)) → Setting → Step → (Outcome → Bool) → ℕ → World → World → PagedOutput W → PagedOutput W → Type 0
AllGiven contents w step goes most start after old new = (lines : List (List ℕ)) × Repeats w step goes most start lines after × Passes contents old new (concat lines)

came_last : {W : Type 0} (contents : W → Option (List ℕ)) (w : Setting) (step : Step) (goes : Outcome → Bool) (most left : ℕ) (start now next : World) (old mid new : PagedOutput W) (outcome : Outcome) → Came contents w step goes most (suc left) start now old mid
    → IsStep w now step outcome next → goes outcome ≡ false → Passes contents mid new (said w next step outcome) → AllGiven contents w step goes most start next old new
came_last contents w step goes most left start now next old mid new outcome came is ends given =
    let all = one_more contents w step goes most left start now old mid came outcome next next [] is (subst (λ (b : Bool). Later b (Repeats w step goes left next [] next) [] next next) (sym ends) (refl, refl)) in
    let text : concat all.0 ≡ came.done ++ said w next step outcome = all.2 ∙ ap (λ (x : List ℕ). came.done ++ x) (append-nil (said w next step outcome)) in
    (all.0, all.1, subst (Passes contents old new) (sym text) (Passes-then contents old mid new came.done (said w next step outcome) came.given given))

pub came_out : {W : Type 0} (contents : W → Option (List ℕ)) (w : Setting) (step : Step) (goes : Outcome → Bool) (most : ℕ) (start now : World) (old new : PagedOutput W) → Came contents w step goes most zero start now old new → AllGiven contents w step goes most start now old new
unfolding Repeats
came_out contents w step goes most start now old new came =
    let all = came.back [] now (refl, refl) in
    (all.0, all.1, subst (Passes contents old new) (sym (all.2 ∙ append-nil came.done)) came.given)

-- a beginning of what may be given in all
abbrev pub SomeGiven : {W : Type 0} → (W → Option (List ℕ)) → Setting → Step → (Outcome → Bool) → ℕ → World → PagedOutput W → PagedOutput W → Type 0
SomeGiven contents w step goes most start old new = (lines : List (List ℕ)) × (after : World) × Repeats w step goes most start lines after × PassesBeginning contents old new (concat lines)

begun : {W : Type 0} (contents : W → Option (List ℕ)) (old mid new : PagedOutput W) (done here later all : List ℕ) → Passes contents old mid done → PassesBeginning contents mid new here → all ≡ done ++ (here ++ later) → PassesBeginning contents old new all
begun contents old mid new done here later all given began e =
    subst (PassesBeginning contents old new) (sym e) (beginning_then contents old mid new done (here ++ later) given (beginning_more contents mid new here later began))

onward : {W : Type 0} (contents : W → Option (List ℕ)) (w : Setting) (step : Step) (goes : Outcome → Bool) (most left : ℕ) (start now next : World) (old mid new : PagedOutput W) (outcome : Outcome) (came : Came contents w step goes most (suc left) start now old mid)
    → IsStep w now step outcome next → PassesBeginning contents mid new (said w next step outcome) → (b : Bool) → b ≡ goes outcome → SomeGiven contents w step goes most start old new
onward contents w step goes most left start now next old mid new outcome came is began true e =
    let rest = repeats_can w step goes left next in
    let all = one_more contents w step goes most left start now old mid came outcome next rest.1 rest.0 is (subst (λ (b : Bool). Later b (Repeats w step goes left next rest.0 rest.1) rest.0 next rest.1) e rest.2) in
    (all.0, rest.1, all.1, begun contents old mid new came.done (said w next step outcome) (concat rest.0) (concat all.0) came.given began all.2)
onward contents w step goes most left start now next old mid new outcome came is began false e =
    let all = one_more contents w step goes most left start now old mid came outcome next next [] is (subst (λ (b : Bool). Later b (Repeats w step goes left next [] next) [] next next) e (refl, refl)) in
    (all.0, next, all.1, begun contents old mid new came.done (said w next step outcome) [] (concat all.0) came.given began all.2)

came_fails : {W : Type 0} (contents : W → Option (List ℕ)) (w : Setting) (step : Step) (goes : Outcome → Bool) (most left : ℕ) (start now next : World) (old mid new : PagedOutput W) (outcome : Outcome) → Came contents w step goes most (suc left) start now old mid
    → IsStep w now step outcome next → PassesBeginning contents mid new (said w next step outcome) → SomeGiven contents w step goes most start old new
came_fails contents w step goes most left start now next old mid new outcome came is began = onward contents w step goes most left start now next old mid new outcome came is began (goes outcome) refl

-- ---- one more step of a loop that counts, where the world's setting has stayed

module _ {W : Type 0} (contents : W → Option (List ℕ)) (here w : Setting) (step : Step) (goes : Outcome → Bool) (most counter : ℕ) (start now next : World) (old mid new : PagedOutput W) (outcome : Outcome) (few : counter < most) (same : here ≡ w)
    (came : Came contents w step goes most (most - counter) start now old mid) where
  one_left : Came contents w step goes most (suc (most - (counter + 1))) start now old mid
  one_left = let left : most - counter ≡ suc (most - (counter + 1)) = omega arith in subst (λ (k : ℕ). Came contents w step goes most k start now old mid) left came

  stepped : IsStep here now step outcome next → IsStep w now step outcome next
  stepped is = subst (λ (v : Setting). IsStep v now step outcome next) same is

  pub counted_more : IsStep here now step outcome next × Passes contents mid new (said here next step outcome) → goes outcome ≡ true → Came contents w step goes most (most - (counter + 1)) start next old new
  counted_more s goes_on =
      came_more contents w step goes most (most - (counter + 1)) start now next old mid new outcome one_left (stepped s.0) goes_on
      (subst (λ (v : Setting). Passes contents mid new (said v next step outcome)) same s.1)

  pub counted_last : IsStep here now step outcome next × Passes contents mid new (said here next step outcome) → goes outcome ≡ false → AllGiven contents w step goes most start next old new
  counted_last s ends =
      came_last contents w step goes most (most - (counter + 1)) start now next old mid new outcome one_left (stepped s.0) ends
      (subst (λ (v : Setting). Passes contents mid new (said v next step outcome)) same s.1)

  pub counted_fails : IsStep here now step outcome next → PassesBeginning contents mid new (said here next step outcome) → SomeGiven contents w step goes most start old new
  counted_fails is began =
      came_fails contents w step goes most (most - (counter + 1)) start now next old mid new outcome one_left (stepped is)
      (subst (λ (v : Setting). PassesBeginning contents mid new (said v next step outcome)) same began)

-- ---- with the last line alone

-- so many are left of the most; whatever they print last, all of them do
pub record Ran (w : Setting) (step : Step) (goes : Outcome → Bool) (most left : ℕ) (start now : World) : Type 0 where
  pub back : (line : List ℕ) (lines : List (List ℕ)) (after : World) → Repeats w step goes left now (line ∷ lines) after
      → (all : List (List ℕ)) × Repeats w step goes most start all after × (last_line all ≡ last_line (line ∷ lines))

pub none_ran : (w : Setting) (step : Step) (goes : Outcome → Bool) (most : ℕ) (start : World) → Ran w step goes most most start start
none_ran w step goes most start = record { back = λ line lines after r. (line ∷ lines, r, refl) }

pub ran_more : (w : Setting) (step : Step) (goes : Outcome → Bool) (most left : ℕ) (start now next : World) (outcome : Outcome) → Ran w step goes most (suc left) start now → IsStep w now step outcome next → goes outcome ≡ true
    → Ran w step goes most left start next
unfolding Repeats
ran_more w step goes most left start now next outcome ran is goes_on = record {
  back = λ line lines after r.
      ran.back (said w next step outcome) (line ∷ lines) after
      (outcome, line ∷ lines, next, refl, is, subst (λ (b : Bool). Later b (Repeats w step goes left next (line ∷ lines) after) (line ∷ lines) next after) (sym goes_on) r);
}

-- what was done in all, and the last line
abbrev pub AllRan : Setting → Step → (Outcome → Bool) → ℕ → World → World → List ℕ → Type 0
AllRan w step goes most start after text = (lines : List (List ℕ)) × Repeats w step goes most start lines after × (text ≡ last_line lines)

pub ran_last : (w : Setting) (step : Step) (goes : Outcome → Bool) (most left : ℕ) (start now next : World) (outcome : Outcome) → Ran w step goes most (suc left) start now → IsStep w now step outcome next → goes outcome ≡ false
    → AllRan w step goes most start next (said w next step outcome)
unfolding Repeats
ran_last w step goes most left start now next outcome ran is ends =
    let all = ran.back (said w next step outcome) [] next (outcome, [], next, refl, is, subst (λ (b : Bool). Later b (Repeats w step goes left next [] next) [] next next) (sym ends) (refl, refl)) in
    (all.0, all.1, sym all.2)

last_of : (w : Setting) (step : Step) (goes : Outcome → Bool) (next : World) (b : Bool) → Later b (Repeats w step goes zero next [] next) [] next next
unfolding Repeats
last_of w step goes next true = (refl, refl)
last_of w step goes next false = (refl, refl)

pub ran_out : (w : Setting) (step : Step) (goes : Outcome → Bool) (most : ℕ) (start now next : World) (outcome : Outcome) → Ran w step goes most (suc zero) start now → IsStep w now step outcome next
    → AllRan w step goes most start next (said w next step outcome)
unfolding Repeats
ran_out w step goes most start now next outcome ran is =
    let all = ran.back (said w next step outcome) [] next (outcome, [], next, refl, is, last_of w step goes next (goes outcome)) in
    (all.0, all.1, sym all.2)

-- ---- turns in one go

not_more : (outcome : Outcome) → outcome ≢ More → is_more outcome ≡ false
not_more More apart = absurd (apart refl)
not_more _ apart = refl

-- a first line and others, of which the last is that of the outcome
abbrev RanOn : Setting → ℕ → ℕ → World → Outcome → World → Type 0
RanOn w call most start outcome after = (line : List ℕ) × (lines : List (List ℕ)) × Repeats w (Turn call) is_more most start (line ∷ lines) after × (said w after (Turn call) outcome ≡ last_line (line ∷ lines))

ran_on : (w : Setting) (call before most : ℕ) (start : World) (outcome : Outcome) (after : World) → before < most → is_more outcome ≡ false → IsExecution w start call before outcome after → RanOn w call most start outcome after
unfolding Repeats
ran_on w call before zero start outcome after few ends is = absurd (omega (arith, few))
ran_on w call zero (suc most) start outcome after few ends is = (
  said w after (Turn call) outcome,
  [],
  (outcome, [], after, refl, is, subst (λ (b : Bool). Later b (Repeats w (Turn call) is_more most after [] after) [] after after) (sym ends) (refl, refl)),
  refl,
)
ran_on w call (suc before) (suc most) start outcome after few ends is =
    let rest = ran_on w call before most is.0 outcome after (omega (arith, few)) ends is.2 in (
      said w is.0 (Turn call) More,
      rest.0 ∷ rest.1,
      (More, rest.0 ∷ rest.1, is.0, refl, is.1, rest.2),
      rest.3,
    )

pub ran_at_once : (w : Setting) (call before most : ℕ) (start : World) (outcome : Outcome) (after : World) → before < most → outcome ≢ More → IsExecution w start call before outcome after
    → AllRan w (Turn call) is_more most start after (said w after (Turn call) outcome)
ran_at_once w call before most start outcome after few ends is =
    let ran = ran_on w call before most start outcome after few (not_more outcome ends) is in
    (ran.0 ∷ ran.1, ran.2, ran.3)
