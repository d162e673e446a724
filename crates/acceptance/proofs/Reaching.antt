-- What is known before a slot is true of each state that comes there by an edge.
use Rattle.std.proofs.Common.{◌≡◌, ℕ, zero, suc, ◌+◌, ◌<◌, ◌==◌, ◌⊎◌, inl, inr, Bool, true, false, List, [], ◌∷◌, ◌++◌, Option, Some, None, refl, sym, subst, arith}
use Rattle.std.specs.Prelude.{IfSome, if◌then◌else◌}
use Rattle.std.specs.Option.{IsSomeAnd}
use Rattle.std.proofs.lemmas.Bool.{cases_eq}
use Rattle.bpf_code.specs.declared.instruction.Instruction.{Instruction}
use Rattle.bpf_code.specs.Program.{Program, instruction_at}
use Rattle.schema.specs.Schema.{Tables}
use Rattle.bpf_semantics.specs.State.{State}
use Rattle.bpf_semantics.specs.Path.{fall_through, jump_of}
use Rattle.abs_state.specs.declared.state.AbsState.{AbsState}
use Rattle.abs_state.specs.State.{state_join, abs_entry}
use Rattle.abs_step.specs.Result.{next_state, jump_state}
use Rattle.bpf_verify.specs.Flow.{Procedure, edge_states, states_from, states_from_before, join_with, join_of, at_entry, states_before, state_at}
use Rattle.bpf_verify.proofs.FlowLemmas.{state_is}
use Rattle.acceptance.specs.Description.{Describes, IsAbsState, IsOfProgram, SendsKnown}
use Rattle.acceptance.proofs.Entry.{entry_known}
use Rattle.acceptance.proofs.Joins.{join_known, join_left, join_right}

-- each instruction of the program is sound
abbrev pub AllOfProgram : Program → Type 0
AllOfProgram program = (slot : ℕ) (i : Instruction) → instruction_at program slot ≡ Some i → IsOfProgram i

-- what any sound instruction sends may be known of a state
abbrev pub AllSend : Tables → Type 0
AllSend tables = (i : Instruction) (known : AbsState) → IsOfProgram i → IsAbsState known → SendsKnown tables i known

-- ---- what is known before a slot may be known of a state

-- it holds of each of them
abbrev pub Each : (AbsState → Type 0) → List AbsState → Type 0
Each P [] = Unit {0}
Each P (x ∷ xs) = P x × Each P xs

Each-append : (P : AbsState → Type 0) (xs ys : List AbsState) → Each P xs → Each P ys → Each P (xs ++ ys)
Each-append P [] ys h k = k
Each-append P (x ∷ xs) ys h k = (h.0, Each-append P xs ys h.1 k)

joins_known : (xs : List AbsState) (known : Option AbsState) → IfSome known IsAbsState → Each IsAbsState xs → IfSome (join_with known xs) IsAbsState
unfolding join_with
joins_known [] known h k = h
joins_known (x ∷ xs) None h k = joins_known xs (Some x) k.0 k.1
joins_known (x ∷ xs) (Some t) h k = joins_known xs (Some (state_join t x)) (join_known t x h k.0) k.1

when_known : (t : Bool) (s : AbsState) → IsAbsState s → Each IsAbsState (if t then s ∷ [] else [])
when_known true s h = (h, tt)
when_known false s h = tt

edge_states_known : (slot j : ℕ) (slots : Option ℕ) (o : Option AbsState) → IfSome o IsAbsState → Each IsAbsState (edge_states slot j slots o)
edge_states_known slot j None o h = tt
edge_states_known slot j (Some n) None h = tt
edge_states_known slot j (Some n) (Some s) h = when_known (j == slot + n) s h

from_known : (tables : Tables) (slot j : ℕ) (i : Option Instruction) (o : Option AbsState) → AllSend tables → ((i2 : Instruction) → i ≡ Some i2 → IsOfProgram i2) → IfSome o IsAbsState → Each IsAbsState (states_from tables slot j i o)
from_known tables slot j None o sends sound h = tt
from_known tables slot j (Some i) None sends sound h = tt
from_known tables slot j (Some i) (Some s) sends sound h =
    let known = sends i s (sound i refl) h in
    Each-append IsAbsState (edge_states slot j (fall_through i) (next_state tables i s)) (edge_states slot j (jump_of i) (jump_state i s))
    (edge_states_known slot j (fall_through i) (next_state tables i s) known.on)
    (edge_states_known slot j (jump_of i) (jump_state i s) known.by_jump)

before_known : (p : Procedure) (states : ℕ → Option AbsState) (n j : ℕ) → AllSend p.tables → AllOfProgram p.program → ((k : ℕ) → IfSome (states k) IsAbsState) → Each IsAbsState (states_from_before p states n j)
unfolding states_from_before
before_known p states zero j sends sound h = tt
before_known p states (suc n) j sends sound h =
    Each-append IsAbsState (states_from_before p states n j) (states_from p.tables n j (instruction_at p.program n) (states n))
    (before_known p states n j sends sound h)
    (from_known p.tables n j (instruction_at p.program n) (states n) sends (sound n) (h n))

entry_list : (j : ℕ) → Each IsAbsState (at_entry j)
entry_list zero = (entry_known, tt)
entry_list (suc j) = tt

either_known : (t : Bool) (a b : Option AbsState) → IfSome a IsAbsState → IfSome b IsAbsState → IfSome (if t then a else b) IsAbsState
either_known true a b h k = h
either_known false a b h k = k

states_known : (p : Procedure) (n j : ℕ) → AllSend p.tables → AllOfProgram p.program → IfSome (states_before p n j) IsAbsState
unfolding states_before
states_known p zero j sends sound = tt
states_known p (suc n) j sends sound =
    either_known (j == n) (join_of (at_entry j ++ states_from_before p (states_before p n) n j)) (states_before p n j)
    (joins_known (at_entry j ++ states_from_before p (states_before p n) n j) None tt (Each-append IsAbsState (at_entry j) (states_from_before p (states_before p n) n j) (entry_list j) (before_known p (states_before p n) n j sends sound (λ k. states_known p n k sends sound))))
    (states_known p n j sends sound)

pub state_known : (p : Procedure) (j : ℕ) → AllSend p.tables → AllOfProgram p.program → IfSome (state_at p j) IsAbsState
state_known p j sends sound = states_known p (suc j) j sends sound

pub all_before : (p : Procedure) (n j : ℕ) → AllSend p.tables → AllOfProgram p.program → Each IsAbsState (at_entry j ++ states_from_before p (state_at p) n j)
all_before p n j sends sound = Each-append IsAbsState (at_entry j) (states_from_before p (state_at p) n j) (entry_list j) (before_known p (state_at p) n j sends sound (λ k. state_known p k sends sound))

-- ---- what one of the joined states is true of, the join is true of

-- it holds of one of them
abbrev pub One : (AbsState → Type 0) → List AbsState → Type 0
One D [] = ⊥
One D (x ∷ xs) = D x ⊎ One D xs

stays : (args_len : ℕ) (s : State) (xs : List AbsState) (known : AbsState) → IsAbsState known → Each IsAbsState xs → Describes args_len known s → IsSomeAnd (join_with (Some known) xs) (λ t. Describes args_len t s)
unfolding join_with
stays args_len s [] known p q h = h
stays args_len s (x ∷ xs) known p q h = stays args_len s xs (state_join known x) (join_known known x p q.0) q.1 (join_left args_len known x s p q.0 h)

one_of : (args_len : ℕ) (s : State) (xs : List AbsState) (known : Option AbsState) → IfSome known IsAbsState → Each IsAbsState xs → One (λ t. Describes args_len t s) xs → IsSomeAnd (join_with known xs) (λ t. Describes args_len t s)
unfolding join_with
one_of args_len s [] known p q h = absurd h
one_of args_len s (x ∷ xs) None p q (inl here) = stays args_len s xs x q.0 q.1 here
one_of args_len s (x ∷ xs) None p q (inr rest) = one_of args_len s xs (Some x) q.0 q.1 rest
one_of args_len s (x ∷ xs) (Some t) p q (inl here) = stays args_len s xs (state_join t x) (join_known t x p q.0) q.1 (join_right args_len t x s p q.0 here)
one_of args_len s (x ∷ xs) (Some t) p q (inr rest) = one_of args_len s xs (Some (state_join t x)) (join_known t x p q.0) q.1 rest

pub One-left : (D : AbsState → Type 0) (xs ys : List AbsState) → One D xs → One D (xs ++ ys)
One-left D [] ys h = absurd h
One-left D (x ∷ xs) ys (inl here) = inl here
One-left D (x ∷ xs) ys (inr rest) = inr (One-left D xs ys rest)

pub One-right : (D : AbsState → Type 0) (xs ys : List AbsState) → One D ys → One D (xs ++ ys)
One-right D [] ys h = h
One-right D (x ∷ xs) ys h = inr (One-right D xs ys h)

sent_one : (D : AbsState → Type 0) (p : Procedure) (states : ℕ → Option AbsState) (n slot j : ℕ) → slot < n → One D (states_from p.tables slot j (instruction_at p.program slot) (states slot)) → One D (states_from_before p states n j)
unfolding states_from_before
sent_one D p states zero slot j l h = absurd (omega arith)
sent_one D p states (suc n) slot j l h = elim (cases_eq slot n) [
  | inl e ↦ One-right D (states_from_before p states n j) _ (subst (λ (k : ℕ). One D (states_from p.tables k j (instruction_at p.program k) (states k))) e h)
  | inr other ↦ One-left D _ _ (sent_one D p states n slot j (omega arith) h)
]

-- what an earlier slot sends along an edge is true there too
pub edge_known : (p : Procedure) (s : State) (slot j : ℕ) → AllSend p.tables → AllOfProgram p.program → slot < j → One (λ t. Describes p.args_len t s) (states_from p.tables slot j (instruction_at p.program slot) (state_at p slot)) → IsSomeAnd (state_at p j) (λ t. Describes p.args_len t s)
edge_known p s slot j sends sound l h =
    subst (λ (o : Option AbsState). IsSomeAnd o (λ t. Describes p.args_len t s)) (sym (state_is p j))
    (one_of p.args_len s (at_entry j ++ states_from_before p (state_at p) j j) None tt (all_before p j j sends sound)
    (One-right (λ t. Describes p.args_len t s) (at_entry j) (states_from_before p (state_at p) j j) (sent_one (λ t. Describes p.args_len t s) p (state_at p) j slot j l h)))

pub entry_here : (p : Procedure) (s : State) → AllSend p.tables → AllOfProgram p.program → Describes p.args_len abs_entry s → IsSomeAnd (state_at p 0) (λ t. Describes p.args_len t s)
entry_here p s sends sound h =
    subst (λ (o : Option AbsState). IsSomeAnd o (λ t. Describes p.args_len t s)) (sym (state_is p 0))
    (one_of p.args_len s (at_entry 0 ++ states_from_before p (state_at p) 0 0) None tt (all_before p 0 0 sends sound) (inl h))
