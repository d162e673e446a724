-- The states that wait at the slots ahead.
use Rattle.std.proofs.Common.{◌≡◌, ℕ, zero, suc, ◌+◌, ◌<◌, ◌≤◌, ◌==◌, if◌then◌else◌, true, false, List, [], ◌∷◌, ◌++◌, length, slice_index_or, Option, Some, None, refl, sym, ◌∙◌, subst, replicate, add-one, arith, inl, inr, ◌≢◌, get_or}
use Rattle.std.proofs.Math.ListN.{set}
use Rattle.std.proofs.lemmas.Bool.{cases_eq, cases_lt}
use Rattle.std.proofs.lemmas.Option.{slice_get_past}
use Rattle.std.proofs.lemmas.List.{append_assoc, get_or-set_same, get_or-set_other, length-replicate, get_or-replicate}
use Rattle.std.proofs.lemmas.Bool.Decides.{nat_tests}
use Rattle.bpf_code.specs.Program.{Program, instruction_at}
use Rattle.bpf_code.specs.declared.instruction.Instruction.{Instruction}
use Rattle.bpf_semantics.specs.Path.{fall_through, jump_of}
use Rattle.abs_step.specs.Result.{next_state, jump_state}
use Rattle.abs_state.specs.declared.state.AbsState.{AbsState}
use Rattle.abs_step.specs.declared.cause.Cause.{Cause}
use Rattle.abs_state.specs.State.{abs_entry}
use Rattle.schema.specs.Schema.{Tables}
use Rattle.bpf_verify.specs.Flow.{Procedure, edge_states, states_from, states_from_before, join_with, join_of, join_one, at_entry, states_before, state_at, cause_at, cause_if, IsAccepted}

-- each slot ahead has the join of what came so far, and none behind has a cause
pub record IsPending (p : Procedure) (slot : ℕ) (pending : List (Option AbsState)) : Type 0 where
  pub long : length pending ≡ length p.program
  pub ahead : (j : ℕ) → slot ≤ j → j < length p.program → slice_index_or pending j None ≡ join_of (at_entry j ++ states_from_before p (state_at p) slot j)
  pub behind : (j : ℕ) → j < slot → cause_at p j ≡ None

pub join_more : (known : Option AbsState) (xs ys : List AbsState) → join_with known (xs ++ ys) ≡ join_with (join_with known xs) ys
unfolding join_with
join_more known [] ys = refl
join_more known (x ∷ xs) ys = join_more (Some (join_one known x)) xs ys

same_senders : (p : Procedure) (f g : ℕ → Option AbsState) (n j : ℕ) → ((k : ℕ) → k < n → f k ≡ g k) → states_from_before p f n j ≡ states_from_before p g n j
unfolding states_from_before
same_senders p f g zero j h = refl
same_senders p f g (suc n) j h =
    let e : f n ≡ g n = h n (omega arith) in
    rw (same_senders p f g n j (λ k l. h k (omega arith)), e)

eq_self : (n : ℕ) → (n == n) ≡ true
eq_self n = grind (arith, nat_tests)

when_no : (j target : ℕ) (xs : List AbsState) → j ≢ target → (if j == target then xs else []) ≡ []
when_no j target xs h = grind (arith, nat_tests)

pub arrived : (all : List (Option AbsState)) (target : ℕ) (s : AbsState) (new : Option AbsState) (j : ℕ) → target < length all → new ≡ Some (join_one (get_or all target None) s) → get_or (set all target new) j None ≡ join_with (get_or all j None) (if j == target then s ∷ [] else [])
unfolding join_with
arrived all target s new j h e = elim (cases_eq j target) [
  | inl same ↦ subst (λ (i : ℕ). get_or (set all target new) i None ≡ join_with (get_or all i None) (if i == target then s ∷ [] else [])) (sym same) (rw (eq_self target) (get_or-set_same all target new None h ∙ e))
  | inr other ↦ rw (when_no j target (s ∷ []) other) (get_or-set_other all target j new None other)
]

pub not_arrived : (all : List (Option AbsState)) (target : ℕ) (s : AbsState) (j : ℕ) → length all ≤ target → j < length all → get_or all j None ≡ join_with (get_or all j None) (if j == target then s ∷ [] else [])
unfolding join_with
not_arrived all target s j h l = rw (when_no j target (s ∷ []) (λ e. omega arith))

eq_less : (k n : ℕ) → k < n → (k == n) ≡ false
eq_less k n h = grind (arith, nat_tests)

known_before : (p : Procedure) (n k : ℕ) → k < n → states_before p n k ≡ state_at p k
unfolding states_before
known_before p zero k h = absurd (omega arith)
known_before p (suc n) k h = elim (cases_eq k n) [
  | inl same ↦ subst (λ (m : ℕ). states_before p (suc m) k ≡ state_at p k) same refl
  | inr other ↦ let less : k < n = omega arith in rw (eq_less k n less) (known_before p n k less)
]

pub state_is : (p : Procedure) (j : ℕ) → state_at p j ≡ join_of (at_entry j ++ states_from_before p (state_at p) j j)
unfolding states_before
state_is p j = rw (eq_self j, same_senders p (states_before p j) (state_at p) j j (known_before p j))

-- at the slot that is next, what waits is what is known there
pub state_here : (p : Procedure) (slot : ℕ) (pending : List (Option AbsState)) → IsPending p slot pending → slot < length p.program → slice_index_or pending slot None ≡ state_at p slot
state_here p slot pending h l = h.ahead slot (omega arith) l ∙ sym (state_is p slot)

next_ahead : (p : Procedure) (slot : ℕ) (old new : List (Option AbsState)) → IsPending p slot old → slot < length p.program → (j : ℕ) → slot + 1 ≤ j → j < length p.program → get_or new j None ≡ join_with (get_or old j None) (states_from p.tables slot j (instruction_at p.program slot) (get_or old slot None)) → get_or new j None ≡ join_of (at_entry j ++ states_from_before p (state_at p) (slot + 1) j)
unfolding states_from_before
next_ahead p slot old new h l j q m sent =
    let now = h.ahead j (omega arith) m in
    let here = state_here p slot old h l in
    let e : get_or new j None ≡ join_with (join_of (at_entry j ++ states_from_before p (state_at p) slot j)) (states_from p.tables slot j (instruction_at p.program slot) (state_at p slot)) = rw (now, here) at sent in
    rw add-one (rw (← join_more, append_assoc) at e)

pub next_pending : (p : Procedure) (slot : ℕ) (old new : List (Option AbsState)) → IsPending p slot old → slot < length p.program → length new ≡ length old → cause_at p slot ≡ None → ((j : ℕ) → slot < j → j < length old → slice_index_or new j None ≡ join_with (slice_index_or old j None) (states_from p.tables slot j (instruction_at p.program slot) (slice_index_or old slot None))) → IsPending p (slot + 1) new
next_pending p slot old new h l same none sent = record {
  long = same ∙ h.long;
  ahead = λ j q m. next_ahead p slot old new h l j q m (sent j (omega arith) (omega (arith, h.long)));
  behind = λ j q. elim (cases_eq j slot) [
    | inl e ↦ subst (λ (k : ℕ). cause_at p k ≡ None) (sym e) none
    | inr other ↦ h.behind j (omega arith)
  ];
}

sent_nothing : (tables : Tables) (slot j : ℕ) (o : Option Instruction) → states_from tables slot j o None ≡ []
sent_nothing tables slot j None = refl
sent_nothing tables slot j (Some i) = refl

pub quiet_state : (tables : Tables) (all : List (Option AbsState)) (slot j : ℕ) (o : Option Instruction) (here new : Option AbsState) → slot < j → here ≡ None → get_or (set all slot new) j None ≡ join_with (get_or all j None) (states_from tables slot j o here)
unfolding join_with
quiet_state tables all slot j o here new l e = rw (e, sent_nothing tables slot j o) (get_or-set_other all slot j new None (λ h. omega arith))

pub quiet_slot : (tables : Tables) (all : List (Option AbsState)) (slot j : ℕ) (o : Option Instruction) (here new : Option AbsState) → slot < j → o ≡ None → get_or (set all slot new) j None ≡ join_with (get_or all j None) (states_from tables slot j o here)
unfolding join_with
quiet_slot tables all slot j o here new l e = rw e (get_or-set_other all slot j new None (λ h. omega arith))

pub both_sent : (tables : Tables) (all mid last : List (Option AbsState)) (slot j : ℕ) (o : Option Instruction) (here new : Option AbsState) (i : Instruction) (s : AbsState) → slot < j → o ≡ Some i → here ≡ Some s → get_or mid j None ≡ join_with (get_or (set all slot new) j None) (edge_states slot j (fall_through i) (next_state tables i s)) → get_or last j None ≡ join_with (get_or mid j None) (edge_states slot j (jump_of i) (jump_state i s)) → get_or last j None ≡ join_with (get_or all j None) (states_from tables slot j o here)
both_sent tables all mid last slot j o here new i s l is_i is_s first second =
    let kept : get_or (set all slot new) j None ≡ get_or all j None = get_or-set_other all slot j new None (λ h. omega arith) in
    let one : get_or mid j None ≡ join_with (get_or all j None) (edge_states slot j (fall_through i) (next_state tables i s)) = rw kept at first in
    rw (is_i, is_s, join_more) (rw one at second)

only_entry : (j : ℕ) → (if j == 0 then abs_entry ∷ [] else []) ≡ at_entry j ++ []
only_entry zero = refl
only_entry (suc j) = when_no (suc j) 0 (abs_entry ∷ []) (λ e. omega arith)

pub first_pending : (p : Procedure) (old new : List (Option AbsState)) (s : AbsState) → old ≡ replicate (length p.program) None → length new ≡ length old → s ≡ abs_entry → ((j : ℕ) → j < length old → get_or new j None ≡ join_with (get_or old j None) (if j == 0 then s ∷ [] else [])) → IsPending p 0 new
unfolding states_from_before
first_pending p old new s empty same is_entry first =
    let long : length old ≡ length p.program = rw empty (length-replicate (length p.program) None) in
    record {
      long = same ∙ long;
      ahead = λ j q m.
          let none : get_or old j None ≡ None = rw empty (get_or-replicate (length p.program) j None None m) in
          rw (none, is_entry, only_entry j) at (first j (omega arith));
      behind = λ j q. absurd (omega arith);
    }

pub cause_here : (p : Procedure) (slot : ℕ) (pending : List (Option AbsState)) (r : Option Cause) → IsPending p slot pending → slot < length p.program → r ≡ cause_if p.tables p.args_len (instruction_at p.program slot) (get_or pending slot None) → cause_at p slot ≡ r
cause_here p slot pending r h l e = rw (← state_here p slot pending h l) (sym e)

past_end : (p : Program) (j : ℕ) → length p ≤ j → instruction_at p j ≡ None
past_end p j h = rw (slice_get_past p j h)

pub all_accepted : (p : Procedure) (slot : ℕ) → length p.program ≤ slot → ((j : ℕ) → j < slot → cause_at p j ≡ None) → IsAccepted p
all_accepted p slot h behind j = elim (cases_lt j slot) [
  | inl l ↦ behind j l
  | inr l ↦ rw (past_end p.program j (omega arith))
]
