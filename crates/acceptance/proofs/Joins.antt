-- What is known where either of two states is: it may be known of a state, and is true of each that either is true of.
use Rattle.std.proofs.Common.{◌≡◌, ℕ, zero, suc, ◌<◌, Bool, true, false, List, [], ◌∷◌, length, get_or, slice_index_or, refl, sym, ap, ◌∙◌, subst, inl, inr, arith, IsTrue}
use Rattle.std.specs.Prelude.{ℤ, ◌≤ℤ◌}
use Rattle.std.specs.Int.{int_min, int_max}
use Rattle.std.proofs.lemmas.Bool.{cases_lt, false≢true}
use Rattle.std.proofs.lemmas.Int.{ints}
use Rattle.std.proofs.lemmas.List.{get_or_past}
use Rattle.bpf_code.specs.declared.instruction.Register.{Register}
use Rattle.bpf_code.specs.Register.{number_of}
use Rattle.bpf_semantics.specs.declared.value.Value.{Value}
use Rattle.bpf_semantics.specs.declared.value.Value.TheVariants as value
use Rattle.bpf_semantics.specs.State.{State, register}
use Rattle.interval.specs.Range.{Bounds, IsRange, IsWithin, join}
use Rattle.abs_state.specs.declared.kind.Kind.{Kind}
use Rattle.abs_state.specs.declared.kind.Kind.TheVariants.{Nothing, Number, Stack, Args}
use Rattle.abs_state.specs.declared.state.AbsState.{AbsState}
use Rattle.abs_state.specs.State.{kind_join, zip_with, in_both, state_join, kind_of}
use Rattle.acceptance.specs.Description.{IsOf, Describes, IsKind, IsAbsState}
use Rattle.acceptance.proofs.Put.{register_below}

-- ---- element by element

pub zip_length : {A B C : Type 0} (f : A → B → C) (xs : List A) (ys : List B) → length xs ≡ length ys → length (zip_with f xs ys) ≡ length xs
unfolding zip_with
zip_length f [] ys e = refl
zip_length f (x ∷ xs) [] e = absurd (omega arith)
zip_length f (x ∷ xs) (y ∷ ys) e = ap (λ (n : ℕ). suc n) (zip_length f xs ys (omega arith))

pub zip_at : {A B C : Type 0} (f : A → B → C) (xs : List A) (ys : List B) (k : ℕ) (a : A) (b : B) (c : C) → length xs ≡ length ys → k < length xs → get_or (zip_with f xs ys) k c ≡ f (get_or xs k a) (get_or ys k b)
unfolding zip_with
zip_at f [] ys k a b c e h = absurd (omega arith)
zip_at f (x ∷ xs) [] k a b c e h = absurd (omega arith)
zip_at f (x ∷ xs) (y ∷ ys) zero a b c e h = refl
zip_at f (x ∷ xs) (y ∷ ys) (suc k) a b c e h = zip_at f xs ys k a b c (omega arith) (omega arith)

-- ---- kinds

range_join : (a b : Bounds) → IsRange a → IsRange b → IsRange (join a b)
range_join a b p q = record { ordered = omega (arith, p.ordered, q.ordered); word = omega (arith, p.word, q.word) }

kind_joined : (a b : Kind) → IsKind a → IsKind b → IsKind (kind_join a b)
kind_joined Nothing b p q = tt
kind_joined (Number a) Nothing p q = tt
kind_joined (Number a) (Number b) p q = range_join a b p q
kind_joined (Number a) (Stack lo hi) p q = tt
kind_joined (Number a) (Args lo hi) p q = tt
kind_joined (Stack lo hi) Nothing p q = tt
kind_joined (Stack lo hi) (Number b) p q = tt
kind_joined (Stack lo hi) (Stack lo2 hi2) p q = tt
kind_joined (Stack lo hi) (Args lo2 hi2) p q = tt
kind_joined (Args lo hi) Nothing p q = tt
kind_joined (Args lo hi) (Number b) p q = tt
kind_joined (Args lo hi) (Stack lo2 hi2) p q = tt
kind_joined (Args lo hi) (Args lo2 hi2) p q = tt

within_left : (a b : Bounds) (x : ℕ) → IsWithin a x → IsWithin (join a b) x
within_left a b x h = record { from = omega (arith, h.from); to = omega (arith, h.to) }

within_right : (a b : Bounds) (x : ℕ) → IsWithin b x → IsWithin (join a b) x
within_right a b x h = record { from = omega (arith, h.from); to = omega (arith, h.to) }

between_left : (lo hi lo2 hi2 p : ℤ) → (lo ≤ℤ p) × (p ≤ℤ hi) → (int_min lo lo2 ≤ℤ p) × (p ≤ℤ int_max hi hi2)
between_left lo hi lo2 hi2 p h = (grind (arith, ints, h.0), grind (arith, ints, h.1))

between_right : (lo hi lo2 hi2 p : ℤ) → (lo2 ≤ℤ p) × (p ≤ℤ hi2) → (int_min lo lo2 ≤ℤ p) × (p ≤ℤ int_max hi hi2)
between_right lo hi lo2 hi2 p h = (grind (arith, ints, h.0), grind (arith, ints, h.1))

left_of : (a b : Kind) (v : Value) → IsOf a v → IsOf (kind_join a b) v
left_of Nothing b v h = tt
left_of (Number a) Nothing v h = tt
left_of (Number a) (Number b) value.Nothing h = absurd h
left_of (Number a) (Number b) (value.Number n) h = within_left a b n h
left_of (Number a) (Number b) (value.Stack p) h = absurd h
left_of (Number a) (Number b) (value.Args p) h = absurd h
left_of (Number a) (Stack lo hi) v h = tt
left_of (Number a) (Args lo hi) v h = tt
left_of (Stack lo hi) Nothing v h = tt
left_of (Stack lo hi) (Number b) v h = tt
left_of (Stack lo hi) (Stack lo2 hi2) value.Nothing h = absurd h
left_of (Stack lo hi) (Stack lo2 hi2) (value.Number n) h = absurd h
left_of (Stack lo hi) (Stack lo2 hi2) (value.Stack p) h = between_left lo hi lo2 hi2 p h
left_of (Stack lo hi) (Stack lo2 hi2) (value.Args p) h = absurd h
left_of (Stack lo hi) (Args lo2 hi2) v h = tt
left_of (Args lo hi) Nothing v h = tt
left_of (Args lo hi) (Number b) v h = tt
left_of (Args lo hi) (Stack lo2 hi2) v h = tt
left_of (Args lo hi) (Args lo2 hi2) value.Nothing h = absurd h
left_of (Args lo hi) (Args lo2 hi2) (value.Number n) h = absurd h
left_of (Args lo hi) (Args lo2 hi2) (value.Stack p) h = absurd h
left_of (Args lo hi) (Args lo2 hi2) (value.Args p) h = between_left lo hi lo2 hi2 p h

right_of : (a b : Kind) (v : Value) → IsOf b v → IsOf (kind_join a b) v
right_of Nothing b v h = tt
right_of (Number a) Nothing v h = tt
right_of (Number a) (Number b) value.Nothing h = absurd h
right_of (Number a) (Number b) (value.Number n) h = within_right a b n h
right_of (Number a) (Number b) (value.Stack p) h = absurd h
right_of (Number a) (Number b) (value.Args p) h = absurd h
right_of (Number a) (Stack lo hi) v h = tt
right_of (Number a) (Args lo hi) v h = tt
right_of (Stack lo hi) Nothing v h = tt
right_of (Stack lo hi) (Number b) v h = tt
right_of (Stack lo hi) (Stack lo2 hi2) value.Nothing h = absurd h
right_of (Stack lo hi) (Stack lo2 hi2) (value.Number n) h = absurd h
right_of (Stack lo hi) (Stack lo2 hi2) (value.Stack p) h = between_right lo hi lo2 hi2 p h
right_of (Stack lo hi) (Stack lo2 hi2) (value.Args p) h = absurd h
right_of (Stack lo hi) (Args lo2 hi2) v h = tt
right_of (Args lo hi) Nothing v h = tt
right_of (Args lo hi) (Number b) v h = tt
right_of (Args lo hi) (Stack lo2 hi2) v h = tt
right_of (Args lo hi) (Args lo2 hi2) value.Nothing h = absurd h
right_of (Args lo hi) (Args lo2 hi2) (value.Number n) h = absurd h
right_of (Args lo hi) (Args lo2 hi2) (value.Stack p) h = absurd h
right_of (Args lo hi) (Args lo2 hi2) (value.Args p) h = between_right lo hi lo2 hi2 p h

-- ---- states

-- a register's kind in a join is the join of both
pub joined_at : (s t : AbsState) → IsAbsState s → IsAbsState t → (r : Register) → kind_of (state_join s t) r ≡ kind_join (kind_of s r) (kind_of t r)
unfolding state_join
joined_at s t p q r = zip_at kind_join s.kinds t.kinds (number_of r) Nothing Nothing Nothing (p.registers ∙ sym q.registers) (let n = register_below r in omega (arith, p.registers, n))

pub join_known : (s t : AbsState) → IsAbsState s → IsAbsState t → IsAbsState (state_join s t)
unfolding state_join
join_known s t p q = record {
  registers = zip_length kind_join s.kinds t.kinds (p.registers ∙ sym q.registers) ∙ p.registers;
  kinds = λ r. subst IsKind (sym (joined_at s t p q r)) (kind_joined (kind_of s r) (kind_of t r) (p.kinds r) (q.kinds r));
  stack = zip_length in_both s.initialised t.initialised (p.stack ∙ sym q.stack) ∙ p.stack;
}

and_left : (a b : Bool) → IsTrue (in_both a b) → IsTrue a
and_left true b h = refl
and_left false b h = absurd (false≢true h)

and_right : (a b : Bool) → IsTrue (in_both a b) → IsTrue b
and_right true b h = h
and_right false b h = absurd (false≢true h)

-- a byte is in the join where it is in both
joined_byte : (s t : AbsState) → IsAbsState s → IsAbsState t → (k : ℕ) → IsTrue (slice_index_or (state_join s t).initialised k false) → IsTrue (in_both (slice_index_or s.initialised k false) (slice_index_or t.initialised k false))
unfolding state_join
joined_byte s t p q k h =
    let same : length s.initialised ≡ length t.initialised = p.stack ∙ sym q.stack in
    elim (cases_lt k (length s.initialised)) [
      | inl below ↦ sym (zip_at in_both s.initialised t.initialised k false false false same below) ∙ h
      | inr past ↦
          let none : get_or (zip_with in_both s.initialised t.initialised) k false ≡ false = get_or_past (zip_with in_both s.initialised t.initialised) k false (omega (arith, zip_length in_both s.initialised t.initialised same)) in
          absurd (false≢true (sym none ∙ h))
    ]

pub join_left : (args_len : ℕ) (known other : AbsState) (s : State) → IsAbsState known → IsAbsState other → Describes args_len known s → Describes args_len (state_join known other) s
join_left args_len known other s p q h = record {
  registers = λ r. subst (λ (k : Kind). IsOf k (register s r)) (sym (joined_at known other p q r)) (left_of (kind_of known r) (kind_of other r) (register s r) (h.registers r));
  stack = λ k byte. h.stack k (and_left _ _ (joined_byte known other p q k byte));
  args = h.args;
}

pub join_right : (args_len : ℕ) (known other : AbsState) (s : State) → IsAbsState known → IsAbsState other → Describes args_len other s → Describes args_len (state_join known other) s
join_right args_len known other s p q h = record {
  registers = λ r. subst (λ (k : Kind). IsOf k (register s r)) (sym (joined_at known other p q r)) (right_of (kind_of known r) (kind_of other r) (register s r) (h.registers r));
  stack = λ k byte. h.stack k (and_right _ _ (joined_byte known other p q k byte));
  args = h.args;
}
