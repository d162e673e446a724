-- Enough turns bring an open call to its end.
use Rattle.std.proofs.Common.{◌≡◌, ◌⊎◌, inl, inr, ℕ, zero, suc, ◌+◌, ◌≤◌, ◌<◌, Bool, true, false, ◌&&◌, List, [], ◌∷◌, ◌++◌, length, slice_get, cond, nat_eq, Option, Some, None, is_some, refl, sym, ap, subst, ◌∙◌, arith}
use Rattle.bpf_semantics.specs.Step.{Ended}
use Rattle.bpf_semantics.specs.Run.{Run, moment}
use Rattle.bpf_semantics.specs.Path.{longest_path}
use Rattle.dsm_model.specs.declared.outcome.StepRefusal.{StepRefusal}
use Rattle.dsm_model.specs.declared.outcome.StepRefusal.TheVariants.{NoReplica, NoProcedure, ArgumentsLength, NoCall, NotAtExit, NothingToDeliver, ReplicaStopped, LogFull, TooManyCalls, ArgumentsLimit, ProgramRefused, NameShape, ZeroInRequest}
use Rattle.dsm_model.specs.declared.outcome.StepRefusal.TheVariants as step_refusal
use Rattle.dsm_model.specs.declared.outcome.Outcome.{Outcome}
use Rattle.dsm_model.specs.declared.outcome.Outcome.TheVariants.{Begun, More, Exit, Stale, NoMemory, Ordered, Read, Cancelled, Delivered, Rebuilt, Added, Refused}
use Rattle.log_model.specs.declared.request.RequestId.{RequestId}
use Rattle.log_model.specs.Log.{StoredProcedure, Catalogue, Setting, Call, Log, by_number, procedures_after, procedure_of, moment_at, run_in}
use Rattle.log_model.specs.Fit.{BeginsSafely}
use Rattle.dsm_model.specs.World.{World, Step, Begin, Turn, Order, Deliver, Rebuild, numbered, with_numbered, flatten, open_call, without_call, with_turns, IsStep, AreSteps, is_answer, Add}
use Rattle.log_model.specs.OpenCall.{OpenCall}
use Rattle.dsm_model.specs.Sound.{IsWorld, IsSound, AreGiven}
use Rattle.dsm_model.specs.Worlds.{HasExited, IsCallNumbered, is_turn_of, runs_further, turns_of}
use Rattle.log_model.proofs.GrowthLemmas.{procedures_grown, run_grown}
use Rattle.log_model.proofs.RunLemmas.{just}
use Rattle.dsm_model.proofs.Numbered.{some_is, numbered_there, numbered_gone, numbered_first, flat_is}
use Rattle.dsm_model.proofs.Cases.{Case, Same, New, Over, Turned, Appended, Verdicted, Stop, Anew, step_case, Put}
use Rattle.dsm_model.proofs.WorldLemmas.{begun_within, step_keeps, steps_keep}
use Rattle.log_model.proofs.NextLemmas.{at_procedure}
use Rattle.dsm_model.proofs.SoundLemmas.{open_run, sound}
use Rattle.dsm_model.proofs.PartLemmas.{begun_is_open, here}
use Rattle.dsm_model.proofs.LeadLemmas.{Follows, step_leads, log_grows, over_stays}
use Rattle.dsm_model.proofs.StepLemmas.{begins, turns_on, turns_to_exit, turns_stale, turns_without_memory, turns_of_none}
use Rattle.dsm_model.proofs.AnswerLemmas.{own_answers}

-- a call that went on: the same call, at its end or so many turns further
record WentOn (w : Setting) (log : Log) (o q : OpenCall) (n : ℕ) : Type 0 where
  same : q.call ≡ o.call
  turns : (q.turns ≡ (run_in w log q.call).steps) ⊎ (o.turns + n ≤ q.turns)

stayed : (w : Setting) (log : Log) (o q : OpenCall) → q ≡ o → WentOn w log o q 0
stayed w log o q e = record {
  same = ap (λ (x : OpenCall). x.call) e;
  turns = inr (let turns : q.turns ≡ o.turns = ap (λ (x : OpenCall). x.turns) e in omega arith);
}

-- ---- a step that isn't a turn of the call leaves it

set_else : (xs : List (Option OpenCall)) (d c : ℕ) (x : Option OpenCall) (o q : OpenCall) → (d ≡ c → x ≡ just q → ⊥) → flatten (numbered xs c) ≡ just o → flatten (numbered (with_numbered xs d x) c) ≡ just q → q ≡ o
set_else xs d c x o q apart before after = elim (numbered_there xs d c x (just o) (flat_is (numbered xs c) o before)) [
  | inl stays ↦ some_is q o (sym after ∙ ap flatten stays)
  | inr new ↦ absurd (apart (sym new.0) (some_is x (just q) (sym new.1 ∙ flat_is (numbered (with_numbered xs d x) c) q after)))
]

case_else : (w : Setting) (before : World) (step : Step) (outcome : Outcome) (after : World) (c : ℕ) (o q : OpenCall) → (step ≡ Turn c → ⊥) → open_call before c ≡ just o → open_call after c ≡ just q → Case w before step outcome after → q ≡ o
case_else w before step outcome after c o q apart e f (Same x) = some_is q o (sym f ∙ ap (λ (v : World). open_call v c) x.same ∙ e)
case_else w before step outcome after c o q apart e f (New x) =
    some_is q o (sym f ∙ ap (λ (v : World). open_call v c) x.leaves ∙ ap flatten (numbered_first before.calls _ (just o) c (flat_is (numbered before.calls c) o e)))
case_else w before step outcome after c o q apart e f (Over x) =
    set_else before.calls x.c c None o q (λ same y. absurd cc) e (sym (ap (λ (v : World). open_call v c) x.leaves) ∙ f)
case_else w before step outcome after c o q apart e f (Turned x) =
    set_else before.calls x.c c (just (record x.o { turns = x.turns })) o q (λ same y. apart (x.is ∙ ap (λ (n : ℕ). Turn n) same)) e (sym (ap (λ (v : World). open_call v c) x.leaves) ∙ f)
case_else w before step outcome after c o q apart e f (Appended x) =
    set_else before.calls x.c c None o q (λ same y. absurd cc) e (sym (ap (λ (v : World). open_call v c) x.leaves) ∙ f)
case_else w before step outcome after c o q apart e f (Verdicted x) = some_is q o (sym f ∙ ap (λ (v : World). open_call v c) x.leaves ∙ e)
case_else w before step outcome after c o q apart e f (Stop x) = some_is q o (sym f ∙ ap (λ (v : World). open_call v c) x.leaves ∙ e)
case_else w before step outcome after c o q apart e f (Anew x) = some_is q o (sym f ∙ ap (λ (v : World). open_call v c) x.leaves ∙ e)
case_else w before step outcome after c o q apart e f (Put x) = some_is q o (sym f ∙ ap (λ (v : World). open_call v c) x.leaves ∙ e)

-- ---- a turn of the call takes it further

turned_to : (world : World) (c turns : ℕ) (p o q : OpenCall) → open_call world c ≡ just p → open_call world c ≡ just o → open_call (with_turns world c p turns) c ≡ just q → (q.call ≡ o.call) × (q.turns ≡ turns) × (p ≡ o)
turned_to world c turns p o q e f g =
    let same : p ≡ o = some_is p o (sym e ∙ f) in
    let there = ap (λ (x : Option (Option OpenCall)). is_some x) (flat_is (numbered world.calls c) o f) in
    let is : record p { turns = turns } ≡ q = some_is (record p { turns = turns }) q (sym (ap flatten (here world.calls c (just (record p { turns = turns })) there)) ∙ g) in
    (ap (λ (x : OpenCall). x.call) (sym is) ∙ ap (λ (x : OpenCall). x.call) same, ap (λ (x : OpenCall). x.turns) (sym is), same)

none_open : (world : World) (c : ℕ) (q : OpenCall) → open_call (without_call world c) c ≡ just q → ⊥
none_open world c q e = let gone = numbered_gone world.calls c in cc

refusal_of_turn : (c : ℕ) (refusal : StepRefusal) → is_answer (Turn c) (Refused refusal) ≡ true → refusal ≡ NoCall
refusal_of_turn c NoCall e = refl
refusal_of_turn c NoReplica e = absurd cc
refusal_of_turn c NoProcedure e = absurd cc
refusal_of_turn c ArgumentsLength e = absurd cc
refusal_of_turn c NotAtExit e = absurd cc
refusal_of_turn c NothingToDeliver e = absurd cc
refusal_of_turn c ReplicaStopped e = absurd cc
refusal_of_turn c LogFull e = absurd cc
refusal_of_turn c step_refusal.NoMemory e = absurd cc
refusal_of_turn c TooManyCalls e = absurd cc
refusal_of_turn c ArgumentsLimit e = absurd cc
refusal_of_turn c (ProgramRefused fault) e = absurd cc
refusal_of_turn c NameShape e = absurd cc
refusal_of_turn c ZeroInRequest e = absurd cc

turn_further : (w : Setting) (before : World) (outcome : Outcome) (after : World) (c : ℕ) (o q : OpenCall) → open_call before c ≡ just o → open_call after c ≡ just q → IsStep w before (Turn c) outcome after → is_answer (Turn c) outcome ≡ true → WentOn w after.log o q 1
turn_further w before More after c o q e f h is =
    let x = turns_on w before c after h in
    let to = turned_to before c (x.0.turns + 1) x.0 o q x.1 e (sym (ap (λ (v : World). open_call v c) x.3) ∙ f) in
    let turns = to.1 in
    let same : x.0.turns ≡ o.turns = ap (λ (y : OpenCall). y.turns) to.2 in
    record { same = to.0; turns = inr (omega arith) }
turn_further w before (Exit reply) after c o q e f h is =
    let x = turns_to_exit w before c reply after h in
    let to = turned_to before c (run_in w before.log x.0.call).steps x.0 o q x.1 e (sym (ap (λ (v : World). open_call v c) x.4) ∙ f) in
    let log : after.log ≡ before.log = ap (λ (v : World). v.log) x.4 in
    record {
      same = to.0;
      turns = inl (to.1 ∙ ap (λ (y : OpenCall). (run_in w before.log y.call).steps) to.2 ∙ ap (λ (y : Call). (run_in w before.log y).steps) (sym to.0) ∙ ap (λ (l : Log). (run_in w l q.call).steps) (sym log));
    }
turn_further w before Stale after c o q e f h is = let x = turns_stale w before c after h in absurd (none_open before c q (sym (ap (λ (v : World). open_call v c) x.4) ∙ f))
turn_further w before NoMemory after c o q e f h is = let x = turns_without_memory w before c after h in absurd (none_open before c q (sym (ap (λ (v : World). open_call v c) x.3) ∙ f))
turn_further w before (Refused refusal) after c o q e f h is =
    let same = refusal_of_turn c refusal is in
    let none = turns_of_none w before c after (subst (λ (x : StepRefusal). IsStep w before (Turn c) (Refused x) after) same h) in
    absurd cc
turn_further w before (Begun a s) after c o q e f h is = absurd cc
turn_further w before (Ordered d) after c o q e f h is = absurd cc
turn_further w before (Read s n) after c o q e f h is = absurd cc
turn_further w before (Cancelled s n) after c o q e f h is = absurd cc
turn_further w before (Delivered d v) after c o q e f h is = absurd cc
turn_further w before (Rebuilt d) after c o q e f h is = absurd cc
turn_further w before (Added d) after c o q e f h is = absurd cc

-- ---- a step

one_turn : (c d : ℕ) → Turn c ≡ Turn d → c ≡ d
one_turn c d e = cc

abbrev one_if : Bool → ℕ
one_if b = cond b 1 0

is_same : (c d : ℕ) → d ≡ c → nat_eq d c ≡ true
is_same c d e = elim (nat_eq d c) as (λ b. nat_eq d c ≡ b → nat_eq d c ≡ true) [ true ↦ λ h. h | false ↦ λ h. absurd (let bad : ⊥ = grind arith in bad) ] refl

not_same : (c d : ℕ) → (d ≡ c → ⊥) → nat_eq d c ≡ false
not_same c d apart = elim (nat_eq d c) as (λ b. nat_eq d c ≡ b → nat_eq d c ≡ false) [ true ↦ λ e. absurd (apart (grind arith)) | false ↦ λ e. e ] refl

same_or_not : (c d : ℕ) → (d ≡ c) ⊎ (d ≡ c → ⊥)
same_or_not c d = elim (nat_eq d c) as (λ b. nat_eq d c ≡ b → (d ≡ c) ⊎ (d ≡ c → ⊥)) [ true ↦ λ e. inl (grind arith) | false ↦ λ e. inr (λ h. grind arith) ] refl

is_turn : (c : ℕ) (step : Step) (outcome : Outcome) → is_turn_of c step outcome ≡ true → (step ≡ Turn c) × (runs_further outcome ≡ true)
is_turn c (Turn d) outcome e = elim (same_or_not c d) [
  | inl same ↦ (ap (λ (n : ℕ). Turn n) same, ap (λ b. b && runs_further outcome) (sym (is_same c d same)) ∙ e)
  | inr apart ↦ absurd (let none : false ≡ true = ap (λ b. b && runs_further outcome) (sym (not_same c d apart)) ∙ e in cc)
]
is_turn c (Begin r p args request) outcome e = absurd cc
is_turn c (Order d) outcome e = absurd cc
is_turn c (Deliver r) outcome e = absurd cc
is_turn c (Rebuild r) outcome e = absurd cc
is_turn c (Add name number args_len checked) outcome e = absurd cc

-- a turn that ran no instruction ends an open call
no_turn : (w : Setting) (before : World) (outcome : Outcome) (after : World) (c : ℕ) (o q : OpenCall) → open_call before c ≡ just o → open_call after c ≡ just q → IsStep w before (Turn c) outcome after → is_answer (Turn c) outcome ≡ true → runs_further outcome ≡ false → ⊥
no_turn w before More after c o q e f h is none = absurd cc
no_turn w before (Exit reply) after c o q e f h is none = absurd cc
no_turn w before Stale after c o q e f h is none = let x = turns_stale w before c after h in none_open before c q (sym (ap (λ (v : World). open_call v c) x.4) ∙ f)
no_turn w before NoMemory after c o q e f h is none = let x = turns_without_memory w before c after h in none_open before c q (sym (ap (λ (v : World). open_call v c) x.3) ∙ f)
no_turn w before (Refused refusal) after c o q e f h is none =
    let same = refusal_of_turn c refusal is in
    let no_call = turns_of_none w before c after (subst (λ (x : StepRefusal). IsStep w before (Turn c) (Refused x) after) same h) in
    cc
no_turn w before (Begun a s) after c o q e f h is none = absurd cc
no_turn w before (Ordered d) after c o q e f h is none = absurd cc
no_turn w before (Read s n) after c o q e f h is none = absurd cc
no_turn w before (Cancelled s n) after c o q e f h is none = absurd cc
no_turn w before (Delivered d v) after c o q e f h is none = absurd cc
no_turn w before (Rebuilt d) after c o q e f h is none = absurd cc
no_turn w before (Added d) after c o q e f h is none = absurd cc

-- a step that isn't a turn of an open call leaves it
else_same : (w : Setting) (before : World) (step : Step) (outcome : Outcome) (after : World) (c : ℕ) (o q : OpenCall) → open_call before c ≡ just o → open_call after c ≡ just q → IsStep w before step outcome after → is_turn_of c step outcome ≡ false → q ≡ o
else_same w before (Turn d) outcome after c o q e f h none = elim (same_or_not c d) [
  | inl same ↦
      let turn : IsStep w before (Turn c) outcome after = subst (λ (n : ℕ). IsStep w before (Turn n) outcome after) same h in
      absurd (no_turn w before outcome after c o q e f turn (own_answers w before (Turn c) outcome after turn) (ap (λ b. b && runs_further outcome) (sym (is_same c d same)) ∙ none))
  | inr apart ↦ case_else w before (Turn d) outcome after c o q (λ t. apart (one_turn d c t)) e f (step_case w before (Turn d) outcome after h)
]
else_same w before (Begin r p args request) outcome after c o q e f h none = case_else w before (Begin r p args request) outcome after c o q (λ t. cc) e f (step_case w before (Begin r p args request) outcome after h)
else_same w before (Order d) outcome after c o q e f h none = case_else w before (Order d) outcome after c o q (λ t. cc) e f (step_case w before (Order d) outcome after h)
else_same w before (Deliver r) outcome after c o q e f h none = case_else w before (Deliver r) outcome after c o q (λ t. cc) e f (step_case w before (Deliver r) outcome after h)
else_same w before (Rebuild r) outcome after c o q e f h none = case_else w before (Rebuild r) outcome after c o q (λ t. cc) e f (step_case w before (Rebuild r) outcome after h)
else_same w before (Add name number args_len checked) outcome after c o q e f h none =
    case_else w before (Add name number args_len checked) outcome after c o q (λ t. cc) e f (step_case w before (Add name number args_len checked) outcome after h)

step_on : (w : Setting) (before : World) (step : Step) (outcome : Outcome) (after : World) (c : ℕ) (o q : OpenCall) → open_call before c ≡ just o → open_call after c ≡ just q → IsStep w before step outcome after
    → WentOn w after.log o q (one_if (is_turn_of c step outcome))
step_on w before step outcome after c o q e f h = elim (is_turn_of c step outcome) as (λ b. is_turn_of c step outcome ≡ b → WentOn w after.log o q (one_if b)) [
  | true ↦ λ yes.
      let turn : IsStep w before (Turn c) outcome after = subst (λ (x : Step). IsStep w before x outcome after) (is_turn c step outcome yes).0 h in
      turn_further w before outcome after c o q e f turn (own_answers w before (Turn c) outcome after turn)
  | false ↦ λ none. stayed w after.log o q (else_same w before step outcome after c o q e f h none)
] refl

-- a call that isn't open has no turn that runs an instruction
no_call_runs : (w : Setting) (before : World) (step : Step) (outcome : Outcome) (after : World) (c : ℕ) → open_call before c ≡ None → IsStep w before step outcome after → is_turn_of c step outcome ≡ false
no_call_runs w before step outcome after c gone h = elim (is_turn_of c step outcome) as (λ b. is_turn_of c step outcome ≡ b → b ≡ false) [
  | true ↦ λ yes. absurd (ran outcome (is_turn c step outcome yes).1 (subst (λ (x : Step). IsStep w before x outcome after) (is_turn c step outcome yes).0 h))
  | false ↦ λ none. refl
] refl
  where
    ran : (outcome : Outcome) → runs_further outcome ≡ true → IsStep w before (Turn c) outcome after → ⊥
    ran More e h = let x = turns_on w before c after h in let there = x.1 in cc
    ran (Exit reply) e h = let x = turns_to_exit w before c reply after h in let there = x.1 in cc
    ran Stale e h = absurd cc
    ran NoMemory e h = absurd cc
    ran (Refused refusal) e h = absurd cc
    ran (Begun a s) e h = absurd cc
    ran (Ordered d) e h = absurd cc
    ran (Read s n) e h = absurd cc
    ran (Cancelled s n) e h = absurd cc
    ran (Delivered d v) e h = absurd cc
    ran (Rebuilt d) e h = absurd cc
    ran (Added d) e h = absurd cc

-- ---- steps

count_none : (c : ℕ) (step : Step) (outcome : Outcome) (steps : List Step) (outcomes : List Outcome) → is_turn_of c step outcome ≡ false → turns_of c (step ∷ steps) (outcome ∷ outcomes) ≡ turns_of c steps outcomes
count_none c step outcome steps outcomes none = let count : turns_of c (step ∷ steps) (outcome ∷ outcomes) ≡ 0 + turns_of c steps outcomes = ap (λ b. one_if b + turns_of c steps outcomes) none in omega arith

count_one : (c : ℕ) (step : Step) (outcome : Outcome) (steps : List Step) (outcomes : List Outcome) → is_turn_of c step outcome ≡ true → turns_of c (step ∷ steps) (outcome ∷ outcomes) ≡ 1 + turns_of c steps outcomes
count_one c step outcome steps outcomes ran = ap (λ b. one_if b + turns_of c steps outcomes) ran

gone_steps : (w : Setting) (before : World) (steps : List Step) (outcomes : List Outcome) (after : World) (c : ℕ) → AreSteps w before steps outcomes after → numbered before.calls c ≡ Some None → (numbered after.calls c ≡ Some None) × (turns_of c steps outcomes ≡ 0)
unfolding AreSteps
gone_steps w before [] [] after c h e = (ap (λ (v : World). numbered v.calls c) (sym h) ∙ e, refl)
gone_steps w before [] (outcome ∷ outcomes) after c h e = absurd h
gone_steps w before (step ∷ steps) [] after c h e = absurd h
gone_steps w before (step ∷ steps) (outcome ∷ outcomes) after c h e =
    let rest = gone_steps w h.0 steps outcomes after c h.2 (over_stays w before step outcome h.0 c h.1 e) in
    (rest.0, count_none c step outcome steps outcomes (no_call_runs w before step outcome h.0 c (ap flatten e) h.1) ∙ rest.1)

-- further still
further : (w : Setting) (between after : World) (o p q : OpenCall) (m n : ℕ) → IsWorld w after → q.turns ≤ (run_in w after.log q.call).steps → (run_in w after.log p.call).steps ≡ (run_in w between.log p.call).steps
    → WentOn w between.log o p m → WentOn w after.log p q n → WentOn w after.log o q (m + n)
further w between after o p q m n world within grown first rest = record {
  same = rest.same ∙ first.same;
  turns = elim rest.turns [
    | inl end ↦ inl end
    | inr more ↦ elim first.turns [
      | inr some ↦ inr (omega arith)
      | inl end ↦
          let at : (run_in w after.log q.call).steps ≡ (run_in w after.log p.call).steps = ap (λ (x : Call). (run_in w after.log x).steps) rest.same in
          inl (omega arith)
    ]
  ];
}

steps_on : (w : Setting) (before : World) (steps : List Step) (outcomes : List Outcome) (after : World) (c : ℕ) (o q : OpenCall) → AreGiven w steps outcomes → IsWorld w before → AreSteps w before steps outcomes after
    → open_call before c ≡ just o → open_call after c ≡ just q → WentOn w after.log o q (turns_of c steps outcomes)
unfolding AreSteps
steps_on w before [] [] after c o q bytes is h e f = stayed w after.log o q (some_is q o (sym f ∙ ap (λ (v : World). open_call v c) (sym h) ∙ e))
steps_on w before [] (outcome ∷ outcomes) after c o q bytes is h e f = absurd h
steps_on w before (step ∷ steps) [] after c o q bytes is h e f = absurd h
steps_on w before (step ∷ steps) (outcome ∷ outcomes) after c o q bytes is h e f =
    let next = (step_leads w before step outcome h.0 h.1).calls c (just o) (flat_is (numbered before.calls c) o e) in
    let between = step_keeps w before step outcome h.0 bytes.0 h.1 is in
    let end = steps_keep w h.0 steps outcomes after bytes.1 h.2 between in
    let grows = log_grows w h.0 steps outcomes after h.2 in
    go next.0 next.1 between end grows.0 grows.1 (λ p now. steps_on w h.0 steps outcomes after c p q bytes.1 between h.2 now f)
  where
    go : (y : Option OpenCall) → numbered h.0.calls c ≡ just y → IsWorld w h.0 → IsWorld w after → (more : Log) → after.log ≡ h.0.log ++ more → ((p : OpenCall) → open_call h.0 c ≡ just p → WentOn w after.log p q (turns_of c steps outcomes)) → WentOn w after.log o q (turns_of c (step ∷ steps) (outcome ∷ outcomes))
    go None at between end more log rest = absurd (let gone = ap flatten (gone_steps w h.0 steps outcomes after c h.2 at).0 in cc)
    go (Some p) at between end more log rest =
        let here_now : open_call h.0 c ≡ just p = ap flatten at in
        let near = begun_within w h.0 p between (between.open_calls c p here_now) in
        further w h.0 after o p q (one_if (is_turn_of c step outcome)) (turns_of c steps outcomes) end (end.open_calls c q f).turns
        (ap (λ (l : Log). (run_in w l p.call).steps) log ∙ ap (λ (r : Run). r.steps) (run_grown w h.0.log more p.call near))
        (step_on w before step outcome h.0 c o p e here_now h.1) (rest p here_now)

-- ---- one of the turns answers Exit

later : (c n : ℕ) (step : Step) (steps : List Step) (outcome : Outcome) (outcomes : List Outcome) → HasExited c n steps outcomes → HasExited c n (step ∷ steps) (outcome ∷ outcomes)
later c n step steps outcome outcomes x = record { at = suc x.at; turn = x.turn; exit = x.exit }

-- of an open call of which enough turns run
Exits : Setting → World → List Step → List Outcome → ℕ → OpenCall → Type 0
Exits w before steps outcomes c o = 1 ≤ turns_of c steps outcomes → (run_in w before.log o.call).steps ≤ o.turns + turns_of c steps outcomes → HasExited c (run_in w before.log o.call).reply steps outcomes

own_turn : (w : Setting) (before : World) (outcome : Outcome) (between : World) (steps : List Step) (outcomes : List Outcome) (c : ℕ) (o : OpenCall) → IsStep w before (Turn c) outcome between → open_call before c ≡ just o → runs_further outcome ≡ true
    → ((q : OpenCall) → open_call between c ≡ just q → Exits w between steps outcomes c q) → (run_in w before.log o.call).steps ≤ o.turns + (1 + turns_of c steps outcomes) → HasExited c (run_in w before.log o.call).reply (Turn c ∷ steps) (outcome ∷ outcomes)
unfolding Exits
own_turn w before More between steps outcomes c o h e ran rest enough =
    let x = turns_on w before c between h in
    let same : x.0 ≡ o = some_is x.0 o (sym x.1 ∙ e) in
    let left : o.turns + 1 < (run_in w before.log o.call).steps = subst (λ (p : OpenCall). p.turns + 1 < (run_in w before.log p.call).steps) same x.2 in
    let leaves : between ≡ with_turns before c o (o.turns + 1) = subst (λ (p : OpenCall). between ≡ with_turns before c p (p.turns + 1)) same x.3 in
    let there = ap (λ (y : Option (Option OpenCall)). is_some y) (flat_is (numbered before.calls c) o e) in
    let on_now : open_call between c ≡ just (record o { turns = o.turns + 1 }) = ap (λ (v : World). open_call v c) leaves ∙ ap flatten (here before.calls c (just (record o { turns = o.turns + 1 })) there) in
    let log : between.log ≡ before.log = ap (λ (v : World). v.log) leaves in
    let steps_now : (run_in w between.log o.call).steps ≡ (run_in w before.log o.call).steps = ap (λ (l : Log). (run_in w l o.call).steps) log in
    subst (λ (n : ℕ). HasExited c n (Turn c ∷ steps) (More ∷ outcomes)) (ap (λ (l : Log). (run_in w l o.call).reply) log)
    (later c (run_in w between.log o.call).reply (Turn c) steps More outcomes (rest (record o { turns = o.turns + 1 }) on_now (omega arith) (omega arith)))
own_turn w before (Exit reply) between steps outcomes c o h e ran rest enough =
    let x = turns_to_exit w before c reply between h in
    let same : x.0 ≡ o = some_is x.0 o (sym x.1 ∙ e) in
    record { at = 0; turn = refl; exit = ap (λ (n : ℕ). just (Exit n)) (x.3 ∙ ap (λ (p : OpenCall). (run_in w before.log p.call).reply) same) }
own_turn w before Stale between steps outcomes c o h e ran rest enough = absurd cc
own_turn w before NoMemory between steps outcomes c o h e ran rest enough = absurd cc
own_turn w before (Refused refusal) between steps outcomes c o h e ran rest enough = absurd cc
own_turn w before (Begun a s) between steps outcomes c o h e ran rest enough = absurd cc
own_turn w before (Ordered d) between steps outcomes c o h e ran rest enough = absurd cc
own_turn w before (Read s n) between steps outcomes c o h e ran rest enough = absurd cc
own_turn w before (Cancelled s n) between steps outcomes c o h e ran rest enough = absurd cc
own_turn w before (Delivered d v) between steps outcomes c o h e ran rest enough = absurd cc
own_turn w before (Rebuilt d) between steps outcomes c o h e ran rest enough = absurd cc
own_turn w before (Added d) between steps outcomes c o h e ran rest enough = absurd cc

exits : (w : Setting) (before : World) (steps : List Step) (outcomes : List Outcome) (after : World) (c : ℕ) (o : OpenCall) → AreGiven w steps outcomes → IsWorld w before → AreSteps w before steps outcomes after → open_call before c ≡ just o → Exits w before steps outcomes c o
unfolding AreSteps Exits
exits w before [] [] after c o bytes is h e some enough = absurd (omega arith)
exits w before [] (outcome ∷ outcomes) after c o bytes is h e some enough = absurd h
exits w before (step ∷ steps) [] after c o bytes is h e some enough = absurd h
exits w before (step ∷ steps) (outcome ∷ outcomes) after c o bytes is h e some enough =
    let between = step_keeps w before step outcome h.0 bytes.0 h.1 is in
    let rest = λ (q : OpenCall) (f : open_call h.0 c ≡ just q). exits w h.0 steps outcomes after c q bytes.1 between h.2 f in
    elim (is_turn_of c step outcome) as (λ b. is_turn_of c step outcome ≡ b → HasExited c (run_in w before.log o.call).reply (step ∷ steps) (outcome ∷ outcomes)) [
      | true ↦ λ yes.
          let own = is_turn c step outcome yes in
          let count = count_one c step outcome steps outcomes yes in
          let turn : IsStep w before (Turn c) outcome h.0 = subst (λ (x : Step). IsStep w before x outcome h.0) own.0 h.1 in
          subst (λ (x : Step). HasExited c (run_in w before.log o.call).reply (x ∷ steps) (outcome ∷ outcomes)) (sym own.0)
          (own_turn w before outcome h.0 steps outcomes c o turn e own.1 rest (omega arith))
      | false ↦ λ none.
          let leads = step_leads w before step outcome h.0 h.1 in
          let next = leads.calls c (just o) (flat_is (numbered before.calls c) o e) in
          let near = begun_within w before o is (is.open_calls c o e) in
          else_on next.0 next.1 none leads.more leads.log near rest
    ] refl
  where
    else_on : (y : Option OpenCall) → numbered h.0.calls c ≡ just y → is_turn_of c step outcome ≡ false → (more : Log) → h.0.log ≡ before.log ++ more → o.call.snapshot ≤ length before.log → ((q : OpenCall) → open_call h.0 c ≡ just q → Exits w h.0 steps outcomes c q) → HasExited c (run_in w before.log o.call).reply (step ∷ steps) (outcome ∷ outcomes)
    else_on None at none more log near rest = absurd (let gone = (gone_steps w h.0 steps outcomes after c h.2 at).1 in let count = count_none c step outcome steps outcomes none in omega arith)
    else_on (Some q) at none more log near rest =
        let f : open_call h.0 c ≡ just q = ap flatten at in
        let same = else_same w before step outcome h.0 c o q e f h.1 none in
        let count = count_none c step outcome steps outcomes none in
        let run : run_in w h.0.log o.call ≡ run_in w before.log o.call = ap (λ (l : Log). run_in w l o.call) log ∙ run_grown w before.log more o.call near in
        let steps_now = ap (λ (r : Run). r.steps) run in
        subst (λ (n : ℕ). HasExited c n (step ∷ steps) (outcome ∷ outcomes)) (ap (λ (r : Run). r.reply) run)
        (later c (run_in w h.0.log o.call).reply step steps outcome outcomes (rest o (subst (λ (x : OpenCall). open_call h.0 c ≡ just x) same f) (omega arith) (omega arith)))

-- ---- from where it is open

-- the steps from a world on in which the call is open
record Since (w : Setting) (steps : List Step) (outcomes : List Outcome) (after : World) (c : ℕ) (call : Call) : Type 0 where
  between : World
  rest : List Step
  answers : List Outcome
  given : AreGiven w rest answers
  world : IsWorld w between
  are : AreSteps w between rest answers after
  o : OpenCall
  stands : open_call between c ≡ just o
  same : o.call ≡ call
  count : turns_of c steps outcomes ≡ turns_of c rest answers
  lift : (n : ℕ) → HasExited c n rest answers → HasExited c n steps outcomes

-- a number that is given to a call was no call's before
not_yet : (w : Setting) (before : World) (steps : List Step) (outcomes : List Outcome) (after : World) (c i r procedure snapshot : ℕ) (args : List ℕ) (request : Option RequestId) → AreSteps w before steps outcomes after
    → slice_get steps i ≡ just (Begin r procedure args request) → slice_get outcomes i ≡ just (Begun c snapshot) → numbered before.calls c ≡ None
unfolding AreSteps
not_yet w before [] outcomes after c i r procedure snapshot args request h a b = absurd cc
not_yet w before (step ∷ steps) [] after c i r procedure snapshot args request h a b = absurd h
not_yet w before (step ∷ steps) (outcome ∷ outcomes) after c zero r procedure snapshot args request h a b =
    let begun : IsStep w before (Begin r procedure args request) (Begun c snapshot) h.0 = subst (λ (x : Step). IsStep w before x (Begun c snapshot) h.0) (some_is step (Begin r procedure args request) a) (subst (λ (x : Outcome). IsStep w before step x h.0) (some_is outcome (Begun c snapshot) b) h.1) in
    let x = begins w before r procedure args request c snapshot h.0 begun in
    let next : c ≡ suc (length before.calls) = (let place = x.7 in omega arith) in
    ap (numbered before.calls) next ∙ past before.calls
  where
    past : {X : Type 0} (xs : List X) → slice_get xs (length xs) ≡ None
    past [] = refl
    past (x ∷ xs) = past xs
not_yet w before (step ∷ steps) (outcome ∷ outcomes) after c (suc i) r procedure snapshot args request h a b =
    let none = not_yet w h.0 steps outcomes after c i r procedure snapshot args request h.2 a b in
    go (numbered before.calls c) refl none
  where
    go : (y : Option (Option OpenCall)) → numbered before.calls c ≡ y → numbered h.0.calls c ≡ None → numbered before.calls c ≡ None
    go None e none = e
    go (Some x) e none = absurd (let next = (step_leads w before step outcome h.0 h.1).calls c x e in let there = next.1 in cc)

begun_call_is : (call : Call) (c : ℕ) (request : Option RequestId) → call.number ≡ c → call.request ≡ request → record { number = c; procedure = call.procedure; args = call.args; snapshot = call.snapshot; request = request } ≡ call
begun_call_is call c request number carried = rw (sym number) rw (sym carried) refl

since_begun : (w : Setting) (before : World) (steps : List Step) (outcomes : List Outcome) (after : World) (c i r : ℕ) (request : Option RequestId) (call : Call) → AreGiven w steps outcomes → IsWorld w before → AreSteps w before steps outcomes after
    → slice_get steps i ≡ just (Begin r call.procedure call.args request) → slice_get outcomes i ≡ just (Begun c call.snapshot) → call.number ≡ c → call.request ≡ request → Since w steps outcomes after c call
unfolding AreSteps
since_begun w before [] outcomes after c i r request call bytes is h a b number carried = absurd cc
since_begun w before (step ∷ steps) [] after c i r request call bytes is h a b number carried = absurd h
since_begun w before (step ∷ steps) (outcome ∷ outcomes) after c zero r request call bytes is h a b number carried =
    let begin = some_is step (Begin r call.procedure call.args request) a in
    let begun : IsStep w before (Begin r call.procedure call.args request) (Begun c call.snapshot) h.0 = subst (λ (x : Step). IsStep w before x (Begun c call.snapshot) h.0) begin (subst (λ (x : Outcome). IsStep w before step x h.0) (some_is outcome (Begun c call.snapshot) b) h.1) in
    record {
      between = h.0;
      rest = steps;
      answers = outcomes;
      given = bytes.1;
      world = step_keeps w before step outcome h.0 bytes.0 h.1 is;
      are = h.2;
      o = record { replica = r; call = record { number = c; procedure = call.procedure; args = call.args; snapshot = call.snapshot; request = request }; turns = 0 };
      stands = begun_is_open w before r call.procedure call.args request c call.snapshot h.0 begun;
      same = begun_call_is call c request number carried;
      count = count_none c step outcome steps outcomes (ap (λ (x : Step). is_turn_of c x outcome) begin);
      lift = λ n x. later c n step steps outcome outcomes x;
    }
since_begun w before (step ∷ steps) (outcome ∷ outcomes) after c (suc i) r request call bytes is h a b number carried =
    let x = since_begun w h.0 steps outcomes after c i r request call bytes.1 (step_keeps w before step outcome h.0 bytes.0 h.1 is) h.2 a b number carried in
    let none = not_yet w before (step ∷ steps) (outcome ∷ outcomes) after c (suc i) r call.procedure call.snapshot call.args request h a b in
    record {
      between = x.between;
      rest = x.rest;
      answers = x.answers;
      given = x.given;
      world = x.world;
      are = x.are;
      o = x.o;
      stands = x.stands;
      same = x.same;
      count = count_none c step outcome steps outcomes (no_call_runs w before step outcome h.0 c (ap flatten none) h.1) ∙ x.count;
      lift = λ n y. later c n step steps outcome outcomes (x.lift n y);
    }

since : (w : Setting) (before : World) (steps : List Step) (outcomes : List Outcome) (after : World) (c : ℕ) (call : Call) → AreGiven w steps outcomes → IsWorld w before → AreSteps w before steps outcomes after → IsCallNumbered before steps outcomes c call → Since w steps outcomes after c call
since w before steps outcomes after c call bytes is h (inl x) = record {
  between = before;
  rest = steps;
  answers = outcomes;
  given = bytes;
  world = is;
  are = h;
  o = x.0;
  stands = x.1;
  same = x.2;
  count = refl;
  lift = λ n y. y;
}
since w before steps outcomes after c call bytes is h (inr x) = since_begun w before steps outcomes after c x.at x.replica x.request call bytes is h x.begin x.answer x.number x.carried

same_procedure : (a b : StoredProcedure) → just a ≡ just b → a ≡ b
same_procedure a b e = cc

-- each path has an instruction, since a call at its beginning isn't at its end
some_path : (w : Setting) (log : Log) (o : OpenCall) (p : StoredProcedure) → procedure_of w log o.call ≡ just p → IsSound w log o → 1 ≤ longest_path p.program
unfolding moment
some_path w log o p known s =
    subst (λ (x : StoredProcedure). 1 ≤ longest_path x.program) (same_procedure s.is_call.procedure p (sym s.is_call.known ∙ known)) (go (longest_path s.is_call.procedure.program) s.ends)
  where
    go : (n : ℕ) → moment_at w log o.call n ≡ Ended (run_in w log o.call).reply s.end → 1 ≤ n
    go zero e = absurd (let first = at_procedure w log o.call s.is_call.procedure zero s.is_call.known in cc)
    go (suc n) e = omega arith

-- what is known of the call where it is open, of its run in the end
record Known (w : Setting) (between after : World) (o : OpenCall) (p : StoredProcedure) : Type 0 where
  run : run_in w after.log o.call ≡ run_in w between.log o.call
  short : (run_in w between.log o.call).steps ≤ longest_path p.program
  some : 1 ≤ longest_path p.program

known : (w : Setting) (steps : List Step) (outcomes : List Outcome) (after : World) (c : ℕ) (call : Call) (p : StoredProcedure) → BeginsSafely w → procedure_of w after.log call ≡ just p → (x : Since w steps outcomes after c call) → Known w x.between after x.o p
known w steps outcomes after c call p safe is x =
    let one = x.world.open_calls c x.o x.stands in
    let near = begun_within w x.between x.o x.world one in
    let grows = log_grows w x.between x.rest x.answers after x.are in
    let there : procedure_of w x.between.log x.o.call ≡ just p =
    sym (ap (λ (ps : Catalogue). by_number ps x.o.call.procedure) (ap (λ (l : Log). procedures_after w l x.o.call.snapshot) grows.1 ∙ procedures_grown w x.between.log grows.0 x.o.call.snapshot near))
    ∙ ap (procedure_of w after.log) x.same ∙ is in
    let short = (open_run w x.between x.o safe x.world one).short in
    let same = ap (λ (q : StoredProcedure). longest_path q.program) (same_procedure one.is_call.procedure p (sym one.is_call.known ∙ there)) in
    record {
      run = ap (λ (l : Log). run_in w l x.o.call) grows.1 ∙ run_grown w x.between.log grows.0 x.o.call near;
      short = omega arith;
      some = some_path w x.between.log x.o p there (sound w x.between x.o safe x.world one);
    }

pub reaches_exit : (w : Setting) (before : World) (steps : List Step) (outcomes : List Outcome) (after : World) (c : ℕ) (call : Call) (p : StoredProcedure) → BeginsSafely w → AreGiven w steps outcomes → IsWorld w before → AreSteps w before steps outcomes after
    → IsCallNumbered before steps outcomes c call → procedure_of w after.log call ≡ Some p → longest_path p.program ≤ turns_of c steps outcomes → HasExited c (run_in w after.log call).reply steps outcomes
unfolding Exits
reaches_exit w before steps outcomes after c call p safe bytes is h numbered_so there enough =
    let x = since w before steps outcomes after c call bytes is h numbered_so in
    let k = known w steps outcomes after c call p safe there x in
    let count = x.count in
    let short = k.short in
    let some = k.some in
    x.lift (run_in w after.log call).reply
    (subst (λ (n : ℕ). HasExited c n x.rest x.answers) (sym (ap (λ (r : Run). r.reply) k.run) ∙ ap (λ (y : Call). (run_in w after.log y).reply) x.same)
    (exits w x.between x.rest x.answers after c x.o x.given x.world x.are x.stands (omega arith) (omega arith)))

pub reaches_end : (w : Setting) (before : World) (steps : List Step) (outcomes : List Outcome) (after : World) (c : ℕ) (call : Call) (o : OpenCall) (p : StoredProcedure) → BeginsSafely w → AreGiven w steps outcomes → IsWorld w before → AreSteps w before steps outcomes after
    → IsCallNumbered before steps outcomes c call → procedure_of w after.log call ≡ Some p → longest_path p.program ≤ turns_of c steps outcomes → open_call after c ≡ Some o → o.turns ≡ (run_in w after.log o.call).steps
reaches_end w before steps outcomes after c call o p safe bytes is h numbered_so there enough f =
    let x = since w before steps outcomes after c call bytes is h numbered_so in
    let k = known w steps outcomes after c call p safe there x in
    let on = steps_on w x.between x.rest x.answers after c x.o o x.given x.world x.are x.stands f in
    let within = ((steps_keep w before steps outcomes after bytes h is).open_calls c o f).turns in
    let run = ap (λ (r : Run). r.steps) (ap (run_in w after.log) on.same ∙ k.run) in
    let count = x.count in
    let short = k.short in
    elim on.turns [ inl at ↦ at | inr more ↦ omega arith ]

-- ---- an open call stays the same, and so does its run

pub step_grows : (w : Setting) (before : World) (step : Step) (outcome : Outcome) (after : World) → IsStep w before step outcome after → (more : Log) × (after.log ≡ before.log ++ more)
step_grows w before step outcome after h = let leads = step_leads w before step outcome after h in (leads.more, leads.log)

follows_same : (o q : OpenCall) (y : Option OpenCall) → y ≡ just q → Follows (just o) y → q.call ≡ o.call
follows_same o q None e f = absurd cc
follows_same o q (Some p) e f = ap (λ (x : OpenCall). x.call) (sym (some_is p q e)) ∙ f

pub same_call : (w : Setting) (before : World) (step : Step) (outcome : Outcome) (after : World) (c : ℕ) (o q : OpenCall) → IsStep w before step outcome after → open_call before c ≡ Some o → open_call after c ≡ Some q → q.call ≡ o.call
same_call w before step outcome after c o q h e f =
    let next = (step_leads w before step outcome after h).calls c (just o) (flat_is (numbered before.calls c) o e) in
    follows_same o q next.0 (some_is next.0 (just q) (sym next.1 ∙ flat_is (numbered after.calls c) q f)) next.2

pub run_stays : (w : Setting) (world : World) (c : ℕ) (o : OpenCall) (more : Log) → IsWorld w world → open_call world c ≡ Some o → run_in w (world.log ++ more) o.call ≡ run_in w world.log o.call
run_stays w world c o more is e = run_grown w world.log more o.call (begun_within w world o is (is.open_calls c o e))

pub exit_stays : (w : Setting) (before : World) (c reply : ℕ) (after : World) (o : OpenCall) (more : Log) → IsWorld w before → IsStep w before (Turn c) (Exit reply) after → open_call before c ≡ Some o → (run_in w (before.log ++ more) o.call).reply ≡ reply
exit_stays w before c reply after o more is h e =
    let x = turns_to_exit w before c reply after h in
    ap (λ (r : Run). r.reply) (run_stays w before c o more is e) ∙ ap (λ (p : OpenCall). (run_in w before.log p.call).reply) (some_is o x.0 (sym e ∙ x.1)) ∙ sym x.3

-- ---- which turns count

pub counts_more : (c : ℕ) (steps : List Step) (outcomes : List Outcome) → turns_of c (Turn c ∷ steps) (More ∷ outcomes) ≡ 1 + turns_of c steps outcomes
counts_more c steps outcomes = count_one c (Turn c) More steps outcomes (ap (λ b. b && true) (is_same c c refl))

pub counts_exit : (c reply : ℕ) (steps : List Step) (outcomes : List Outcome) → turns_of c (Turn c ∷ steps) (Exit reply ∷ outcomes) ≡ 1 + turns_of c steps outcomes
counts_exit c reply steps outcomes = count_one c (Turn c) (Exit reply) steps outcomes (ap (λ b. b && true) (is_same c c refl))

pub counts_no_other : (c d : ℕ) (steps : List Step) (outcome : Outcome) (outcomes : List Outcome) → (d ≡ c → ⊥) → turns_of c (Turn d ∷ steps) (outcome ∷ outcomes) ≡ turns_of c steps outcomes
counts_no_other c d steps outcome outcomes apart = count_none c (Turn d) outcome steps outcomes (ap (λ b. b && runs_further outcome) (not_same c d apart))
