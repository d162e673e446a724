-- What each step of a world keeps.
use Rattle.std.proofs.Common.{◌≡◌, inl, inr, ℕ, zero, suc, ◌+◌, ◌≤◌, ◌<◌, List, [], ◌∷◌, ◌++◌, length, true, false, Option, None, All, refl, sym, ap, subst, ◌∙◌, arith}
use Rattle.std.proofs.lemmas.List.{length-append}
use Rattle.bpf_code.specs.Program.{Program}
use Rattle.bpf_semantics.specs.Run.{Run}
use Rattle.log_model.specs.declared.request.RequestId.{RequestId}
use Rattle.dsm_model.specs.declared.outcome.Outcome.{Outcome}
use Rattle.log_model.specs.Log.{Setting, Call, run_in, verdict_of, StoredProcedure, CallItem, AdditionItem, Log}
use Rattle.dsm_model.specs.World.{World, Replica, Step, Begin, max_calls, numbered, with_numbered, flatten, open_call, without_call, with_replica, with_begun, new_call, with_turns, with_ordered, first_world, IsStep, AreSteps, Add, addition_count, call_count, with_added}
use Rattle.log_model.specs.OpenCall.{OpenCall}
use Rattle.program_checks.specs.ProgramCheck.{Passed}
use Rattle.dsm_model.specs.Sound.{IsOpenCall, open_count, IsWorld, IsGiven, AreGiven}
use Rattle.log_model.proofs.GrowthLemmas.{run_grown, is_log_snoc, verdict_within}
use Rattle.dsm_model.specs.declared.outcome.Outcome.TheVariants.{Added}
use Rattle.log_model.specs.Fit.{IsSafe}
use Rattle.log_model.proofs.RunLemmas.{just}
use Rattle.log_model.proofs.GrowthLemmas.{is_call_grown, are_items_snoc, is_log_snoc, verdict_within}
use Rattle.dsm_model.proofs.Numbered.{some_is, numbered_set, numbered_there, numbered_one_more, flat_is, numbered_replicate, length_numbered, numbered_count, numbered_none, count_one_more}
use Rattle.dsm_model.proofs.Cases.{Case, Same, New, Over, Turned, Appended, Verdicted, Stop, Anew, Put, step_case}

-- ---- open calls

is_open : (w : Setting) (world : World) → IsWorld w world → (c : ℕ) (o : OpenCall) → numbered world.calls c ≡ just (just o) → IsOpenCall w world o
is_open w world is c o e = is.open_calls c o (ap flatten e)

is_numbered : (w : Setting) (world : World) → IsWorld w world → (c : ℕ) (o : OpenCall) → numbered world.calls c ≡ just (just o) → o.call.number ≡ c
is_numbered w world is c o e = is.numbers c o (ap flatten e)

-- the snapshot of an open call is no more than the log's length
pub begun_within : (w : Setting) (world : World) (o : OpenCall) → IsWorld w world → IsOpenCall w world o → o.call.snapshot ≤ length world.log
begun_within w world o is one =
    let within = is.positions o.replica one.replica one.stands in
    let begun = one.begun in
    omega arith

-- other open calls, each as it should be
with_calls : (w : Setting) (world : World) (calls : List (Option OpenCall)) → IsWorld w world → length calls + addition_count world.log ≤ max_calls → length world.log + open_count calls ≤ length calls + addition_count world.log
    → ((c : ℕ) (o : OpenCall) → numbered calls c ≡ just (just o) → IsOpenCall w world o × (o.call.number ≡ c)) → IsWorld w (record world { calls = calls })
with_calls w world calls is few ordered open_calls = record {
  log = is.log;
  items = is.items;
  positions = is.positions;
  open_calls = λ c o e.
      let old = (open_calls c o (flat_is (numbered calls c) o e)).0 in
      record { is_call = old.is_call; replica = old.replica; stands = old.stands; begun = old.begun; turns = old.turns };
  numbers = λ c o e. (open_calls c o (flat_is (numbered calls c) o e)).1;
  calls_limit = few;
  log_limit = ordered;
}

pub over_keeps : (w : Setting) (world : World) (c : ℕ) → IsWorld w world → IsWorld w (without_call world c)
over_keeps w world c is =
    let long = length_numbered world.calls c None in
    let fewer = numbered_none world.calls c in
    let few = is.calls_limit in
    let ordered = is.log_limit in
    with_calls w world (with_numbered world.calls c None) is (omega arith) (omega arith) (λ i o e. elim (numbered_set world.calls c i None (just o) e) [
      | inl old ↦ (is_open w world is i o old, is_numbered w world is i o old)
      | inr new ↦ absurd (let bad = new.1 in cc)
    ])

turned_keeps : (w : Setting) (world : World) (c : ℕ) (o : OpenCall) (turns : ℕ) → open_call world c ≡ just o → turns ≤ (run_in w world.log o.call).steps → IsWorld w world → IsWorld w (with_turns world c o turns)
turned_keeps w world c o turns stands within is =
    let one = is.open_calls c o stands in
    let next : OpenCall = record o { turns = turns } in
    let long = length_numbered world.calls c (just (record o { turns = turns })) in
    let count = numbered_count world.calls c o stands (just (record o { turns = turns })) in
    let few = is.calls_limit in
    let ordered = is.log_limit in
    with_calls w world (with_numbered world.calls c (just (record o { turns = turns }))) is (omega arith) (omega arith) (λ i q e. elim (numbered_set world.calls c i (just (record o { turns = turns })) (just q) e) [
      | inl old ↦ (is_open w world is i q old, is_numbered w world is i q old)
      | inr new ↦
          let same = some_is (record o { turns = turns }) q new.1 in (
            subst (IsOpenCall w world) same (record { is_call = one.is_call; replica = one.replica; stands = one.stands; begun = one.begun; turns = within }),
            ap (λ (x : OpenCall). x.call.number) (sym same) ∙ is.numbers c o stands ∙ sym new.0,
          )
    ])

begun_keeps : (w : Setting) (world : World) (r : ℕ) (call : Call) → call.number ≡ length world.calls + 1 → IsOpenCall w world (record { replica = r; call = call; turns = 0 }) → call_count world < max_calls → IsWorld w world → IsWorld w (with_begun world r call)
begun_keeps w world r call number now fewer is =
    let long = length-append world.calls (just (record { replica = r; call = call; turns = 0 }) ∷ []) in
    let count = count_one_more world.calls (record { replica = r; call = call; turns = 0 }) in
    let ordered = is.log_limit in
    with_calls w world (world.calls ++ just (record { replica = r; call = call; turns = 0 }) ∷ []) is (omega arith) (omega arith) (λ i q e.
    elim (numbered_one_more world.calls (just (record { replica = r; call = call; turns = 0 })) (just q) i e) [
      | inl old ↦ (is_open w world is i q old, is_numbered w world is i q old)
      | inr new ↦
          let same = some_is (record { replica = r; call = call; turns = 0 }) q new.0 in
          (subst (IsOpenCall w world) same now, ap (λ (x : OpenCall). x.call.number) (sym same) ∙ number ∙ sym new.1)
    ])

count_call : (log : Log) (call : Call) → addition_count (log ++ CallItem call ∷ []) ≡ addition_count log
count_call [] call = refl
count_call (CallItem x ∷ log) call = count_call log call
count_call (AdditionItem p ∷ log) call = let rest = count_call log call in omega arith

count_addition : (log : Log) (p : StoredProcedure) → addition_count (log ++ AdditionItem p ∷ []) ≡ addition_count log + 1
count_addition [] p = refl
count_addition (CallItem x ∷ log) p = count_addition log p
count_addition (AdditionItem q ∷ log) p = let rest = count_addition log p in omega arith

-- an open call where the log is longer
open_grown : (w : Setting) (world : World) (more : Log) (o : OpenCall) → IsWorld w world → IsOpenCall w world o → IsOpenCall w (record world { log = world.log ++ more }) o
open_grown w world more o is one =
    let near = begun_within w world o is one in
    record {
      is_call = is_call_grown w world.log more o.call near one.is_call;
      replica = one.replica;
      stands = one.stands;
      begun = one.begun;
      turns = subst (λ (r : Run). o.turns ≤ r.steps) (sym (run_grown w world.log more o.call near)) one.turns;
    }

-- one more ordered, in place of one that was open
ordered_keeps : (w : Setting) (world : World) (c : ℕ) (o : OpenCall) → open_call world c ≡ just o → IsWorld w world → IsWorld w (with_ordered world c o.call)
ordered_keeps w world c o stands is =
    let one = is.open_calls c o stands in
    let without = over_keeps w world c is in
    let le = begun_within w world o is one in
    let more : length (world.log ++ CallItem o.call ∷ []) ≡ length world.log + 1 = length-append world.log (CallItem o.call ∷ []) in
    let same = count_call world.log o.call in
    let long = length_numbered world.calls c None in
    let count = numbered_count world.calls c o stands None in
    let ordered = is.log_limit in
    let few = is.calls_limit in
    record {
      log = is_log_snoc 0 world.log (CallItem o.call) is.log (omega arith);
      items = are_items_snoc w world.log (CallItem o.call) is.log is.items le one.is_call;
      positions = λ r replica e. let old = is.positions r replica e in omega arith;
      open_calls = λ i q e.
          let old = open_grown w (without_call world c) (CallItem o.call ∷ []) q without (without.open_calls i q e) in
          record { is_call = old.is_call; replica = old.replica; stands = old.stands; begun = old.begun; turns = old.turns };
      numbers = without.numbers;
      calls_limit = omega arith;
      log_limit = omega arith;
    }

-- a procedure is added
added_keeps : (w : Setting) (world : World) (p : StoredProcedure) → IsSafe w.tables p → call_count world < max_calls → IsWorld w world → IsWorld w (with_added world p)
added_keeps w world p safe fewer is =
    let more : length (world.log ++ AdditionItem p ∷ []) ≡ length world.log + 1 = length-append world.log (AdditionItem p ∷ []) in
    let count = count_addition world.log p in
    let ordered = is.log_limit in
    let few = is.calls_limit in
    record {
      log = is_log_snoc 0 world.log (AdditionItem p) is.log tt;
      items = are_items_snoc w world.log (AdditionItem p) is.log is.items tt safe;
      positions = λ r replica e. let old = is.positions r replica e in omega arith;
      open_calls = λ i q e.
          let old = open_grown w world (AdditionItem p ∷ []) q is (is.open_calls i q e) in
          record { is_call = old.is_call; replica = old.replica; stands = old.stands; begun = old.begun; turns = old.turns };
      numbers = is.numbers;
      calls_limit = omega arith;
      log_limit = omega arith;
    }

-- a replica gets no less far, and no further than the log
moved_keeps : (w : Setting) (world : World) (r : ℕ) (before after : Replica) → numbered world.replicas r ≡ just before → before.position ≤ after.position → after.position ≤ length world.log → IsWorld w world
    → IsWorld w (with_replica world r after)
moved_keeps w world r before after stands further within is = record {
  log = is.log;
  items = is.items;
  positions = λ i replica e. elim (numbered_set world.replicas r i after replica e) [
    | inl old ↦ is.positions i replica old
    | inr new ↦ subst (λ (x : Replica). x.position ≤ length world.log) new.1 within
  ];
  open_calls = λ c o e.
      let old = is.open_calls c o e in
      let begun = old.begun in
      elim (numbered_there world.replicas r o.replica after old.replica old.stands) [
        | inl stays ↦ record { is_call = old.is_call; replica = old.replica; stands = stays; begun = old.begun; turns = old.turns }
        | inr new ↦
            let same : old.replica ≡ before = some_is old.replica before (sym old.stands ∙ ap (numbered world.replicas) new.0 ∙ stands) in
            let at : old.replica.position ≡ before.position = ap (λ (x : Replica). x.position) same in
            record { is_call = old.is_call; replica = after; stands = new.1; begun = omega arith; turns = old.turns }
      ];
  numbers = is.numbers;
  calls_limit = is.calls_limit;
  log_limit = is.log_limit;
}

-- ---- each step

bytes_of : (w : Setting) (step : Step) (r procedure : ℕ) (args : List ℕ) (request : Option RequestId) (outcome : Outcome) → IsGiven w step outcome → step ≡ Begin r procedure args request → All (λ b. b < 256) args
bytes_of w step r procedure args request outcome given e = subst (λ (s : Step). IsGiven w s outcome) e given

safe_of : (w : Setting) (step : Step) (name : List ℕ) (number args_len : ℕ) (program : Program) (position : ℕ) (outcome : Outcome) → IsGiven w step outcome → step ≡ Add name number args_len (Passed program) → outcome ≡ Added position → IsSafe w.tables (record { name = name; number = number; program = program; args_len = args_len })
safe_of w step name number args_len program position outcome given e f = subst (λ (o : Outcome). IsGiven w (Add name number args_len (Passed program)) o) f (subst (λ (s : Step). IsGiven w s outcome) e given)

case_keeps : (w : Setting) (before : World) (step : Step) (outcome : Outcome) (after : World) → IsGiven w step outcome → IsWorld w before → Case w before step outcome after → IsWorld w after
case_keeps w before step outcome after bytes is (Same c) = subst (IsWorld w) (sym c.same) is
case_keeps w before step outcome after bytes is (New c) =
    subst (IsWorld w) (sym c.leaves) (begun_keeps w before c.r (new_call before c.procedure c.args c.request c.replica.position) refl (record {
      is_call = record { procedure = c.stored; known = c.known; arguments = record { count = c.count; each_byte = bytes_of w step c.r c.procedure c.args c.request outcome bytes c.is } };
      replica = c.replica;
      stands = c.stands;
      begun = omega arith;
      turns = omega arith;
    }) c.few is)
case_keeps w before step outcome after bytes is (Over c) = subst (IsWorld w) (sym c.leaves) (over_keeps w before c.c is)
case_keeps w before step outcome after bytes is (Turned c) = subst (IsWorld w) (sym c.leaves) (turned_keeps w before c.c c.o c.turns c.stands c.within is)
case_keeps w before step outcome after bytes is (Appended c) = subst (IsWorld w) (sym c.leaves) (ordered_keeps w before c.c c.o c.stands is)
case_keeps w before step outcome after bytes is (Verdicted c) =
    let one : suc c.replica.position ≡ c.replica.position + 1 = omega arith in
    let lt = verdict_within w before.log c.replica.position c.verdict (ap (verdict_of w before.log) one ∙ c.known) in
    subst (IsWorld w) (sym c.leaves) (moved_keeps w before c.r c.replica (record c.replica { position = c.replica.position + 1 }) c.stands (omega arith) (omega arith) is)
case_keeps w before step outcome after bytes is (Stop c) = subst (IsWorld w) (sym c.leaves) (moved_keeps w before c.r c.replica (record c.replica { stopped = true }) c.stands (omega arith) (is.positions c.r c.replica c.stands) is)
case_keeps w before step outcome after bytes is (Anew c) =
    let within = is.positions c.r c.replica c.stands in
    subst (IsWorld w) (sym c.leaves) (moved_keeps w before c.r c.replica (record { position = length before.log; stopped = false }) c.stands (omega arith) (omega arith) is)
case_keeps w before step outcome after bytes is (Put c) =
    subst (IsWorld w) (sym c.leaves) (added_keeps w before (record { name = c.name; number = c.number; program = c.program; args_len = c.args_len }) (safe_of w step c.name c.number c.args_len c.program (length before.log + 1) outcome bytes c.is c.answer) c.few is)

pub step_keeps : (w : Setting) (before : World) (step : Step) (outcome : Outcome) (after : World) → IsGiven w step outcome → IsStep w before step outcome after → IsWorld w before → IsWorld w after
step_keeps w before step outcome after bytes e is = case_keeps w before step outcome after bytes is (step_case w before step outcome after e)

pub steps_keep : (w : Setting) (before : World) (steps : List Step) (outcomes : List Outcome) (after : World) → AreGiven w steps outcomes → AreSteps w before steps outcomes after → IsWorld w before → IsWorld w after
unfolding AreSteps
steps_keep w before [] [] after bytes h is = subst (IsWorld w) h is
steps_keep w before [] (outcome ∷ outcomes) after bytes h is = absurd h
steps_keep w before (step ∷ steps) [] after bytes h is = absurd h
steps_keep w before (step ∷ steps) (outcome ∷ outcomes) after bytes h is =
    steps_keep w h.0 steps outcomes after bytes.1 h.2 (step_keeps w before step outcome h.0 bytes.0 h.1 is)

pub first_is_world : (w : Setting) (replicas : ℕ) → IsWorld w (first_world replicas)
first_is_world w replicas = record {
  log = tt;
  items = tt;
  positions = λ r replica e. subst (λ (x : Replica). x.position ≤ 0) (numbered_replicate replicas r (record { position = 0; stopped = false }) replica e) (omega arith);
  open_calls = λ c o e. absurd (none c o (flat_is (numbered [] c) o e));
  numbers = λ c o e. absurd (none c o (flat_is (numbered [] c) o e));
  calls_limit = omega arith;
  log_limit = omega arith;
}
  where
    none : (c : ℕ) (o : OpenCall) → numbered [] c ≡ just (just o) → ⊥
    none zero o e = cc
    none (suc c) o e = cc
