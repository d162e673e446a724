-- What is known of the stack's bytes after some are written.
use Rattle.std.proofs.Common.{◌≡◌, ℕ, ◌+◌, ◌-◌, refl, ◌<◌, ◌≤◌, Bool, true, false, List, ◌++◌, length, take, drop, get_or, map, replicate, Option, None, sym, ap, subst, ◌∙◌, inl, inr, arith}
use Rattle.std.specs.Prelude.{IsSome}
use Rattle.std.proofs.lemmas.Bool.{cases_lt}
use Rattle.std.proofs.lemmas.List.{length-map, length-replicate, get_or-map}
use Rattle.bpf_semantics.specs.Memory.{stack_with}
use Rattle.bpf_semantics.proofs.StepLemmas.{just}
use Rattle.acceptance.proofs.Bytes.{AreKnown, written, written_among, written_before, written_after, length_written}

some_bytes : (bytes : List ℕ) → length (map (λ b. just b) bytes) ≡ length bytes
some_bytes bytes = length-map bytes (λ b. just b)

written_stack : (stack : List (Option ℕ)) (k : ℕ) (bytes : List ℕ) → written stack k (map (λ b. just b) bytes) ≡ stack_with stack k bytes
written_stack stack k bytes = ap (λ (n : ℕ). take k stack ++ map (λ b. just b) bytes ++ drop (k + n) stack) (some_bytes bytes)

pub length_stack : (stack : List (Option ℕ)) (k : ℕ) (bytes : List ℕ) → k + length bytes ≤ length stack → length (stack_with stack k bytes) ≡ length stack
length_stack stack k bytes fits = ap (λ (l : List (Option ℕ)). length l) (sym (written_stack stack k bytes)) ∙ length_written stack k (map (λ b. just b) bytes) (omega (arith, some_bytes bytes))

-- each byte that is written is known
known_among : (stack : List (Option ℕ)) (k : ℕ) (bytes : List ℕ) (j : ℕ) → k + length bytes ≤ length stack → k ≤ j → j < k + length bytes → IsSome (get_or (stack_with stack k bytes) j None)
known_among stack k bytes j fits from to =
    let long = some_bytes bytes in
    let is = written_among stack k (map (λ b. just b) bytes) j None (omega arith) from (omega arith) in
    let known = get_or-map (λ b. just b) bytes (j - k) 0 None (omega arith) in
    subst (λ (o : Option ℕ). IsSome o) (sym (ap (λ (l : List (Option ℕ)). get_or l j None) (sym (written_stack stack k bytes)) ∙ is ∙ known)) refl

-- each other is as before
same_before : (stack : List (Option ℕ)) (k : ℕ) (bytes : List ℕ) (j : ℕ) → k + length bytes ≤ length stack → j < k → get_or (stack_with stack k bytes) j None ≡ get_or stack j None
same_before stack k bytes j fits below =
    ap (λ (l : List (Option ℕ)). get_or l j None) (sym (written_stack stack k bytes)) ∙ written_before stack k (map (λ b. just b) bytes) j None (omega (arith, some_bytes bytes)) below

same_after : (stack : List (Option ℕ)) (k : ℕ) (bytes : List ℕ) (j : ℕ) → k + length bytes ≤ length stack → k + length bytes ≤ j → get_or (stack_with stack k bytes) j None ≡ get_or stack j None
same_after stack k bytes j fits past =
    ap (λ (l : List (Option ℕ)). get_or l j None) (sym (written_stack stack k bytes)) ∙ written_after stack k (map (λ b. just b) bytes) j None (omega (arith, some_bytes bytes)) (omega (arith, some_bytes bytes))

-- a byte is known where it is written, or was known
known_at : (stack : List (Option ℕ)) (k : ℕ) (bytes : List ℕ) (j : ℕ) → k + length bytes ≤ length stack
    → (j < k → IsSome (get_or stack j None)) → (k + length bytes ≤ j → IsSome (get_or stack j None)) → IsSome (get_or (stack_with stack k bytes) j None)
known_at stack k bytes j fits before after = elim (cases_lt j k) [
  | inl below ↦ subst (λ (o : Option ℕ). IsSome o) (sym (same_before stack k bytes j fits below)) (before below)
  | inr from ↦
      elim (cases_lt j (k + length bytes)) [
        | inl to ↦ known_among stack k bytes j fits from to
        | inr past ↦ subst (λ (o : Option ℕ). IsSome o) (sym (same_after stack k bytes j fits past)) (after past)
      ]
]

-- what was known still is
pub still_known : (initialised : List Bool) (stack : List (Option ℕ)) (k : ℕ) (bytes : List ℕ) → k + length bytes ≤ length stack → AreKnown initialised stack → AreKnown initialised (stack_with stack k bytes)
still_known initialised stack k bytes fits known j h = known_at stack k bytes j fits (λ b. known j h) (λ a. known j h)

initialised_is : (initialised : List Bool) (k count : ℕ) → written initialised k (replicate count true) ≡ take k initialised ++ replicate count true ++ drop (k + count) initialised
initialised_is initialised k count = ap (λ (n : ℕ). take k initialised ++ replicate count true ++ drop (k + n) initialised) (length-replicate count true)

initialised_before : (initialised : List Bool) (k count j : ℕ) → k + count ≤ length initialised → j < k → get_or (take k initialised ++ replicate count true ++ drop (k + count) initialised) j false ≡ get_or initialised j false
initialised_before initialised k count j fits below =
    let long = length-replicate count true in
    ap (λ (l : List Bool). get_or l j false) (sym (initialised_is initialised k count)) ∙ written_before initialised k (replicate count true) j false (omega arith) below

initialised_after : (initialised : List Bool) (k count j : ℕ) → k + count ≤ length initialised → k + count ≤ j → get_or (take k initialised ++ replicate count true ++ drop (k + count) initialised) j false ≡ get_or initialised j false
initialised_after initialised k count j fits past =
    let long = length-replicate count true in
    ap (λ (l : List Bool). get_or l j false) (sym (initialised_is initialised k count)) ∙ written_after initialised k (replicate count true) j false (omega arith) (omega arith)

-- and what is written is known as well
pub more_known : (initialised : List Bool) (stack : List (Option ℕ)) (k count : ℕ) (bytes : List ℕ) → length bytes ≡ count → k + count ≤ length initialised → k + count ≤ length stack → AreKnown initialised stack
    → AreKnown (take k initialised ++ replicate count true ++ drop (k + count) initialised) (stack_with stack k bytes)
more_known initialised stack k count bytes long within fits known j h =
    known_at stack k bytes j (omega arith)
    (λ below. known j (sym (initialised_before initialised k count j within below) ∙ h))
    (λ past. known j (sym (initialised_after initialised k count j within (omega arith)) ∙ h))

pub length_initialised : (initialised : List Bool) (k count : ℕ) → k + count ≤ length initialised → length (take k initialised ++ replicate count true ++ drop (k + count) initialised) ≡ length initialised
length_initialised initialised k count fits =
    let long = length-replicate count true in
    ap (λ (l : List Bool). length l) (sym (initialised_is initialised k count)) ∙ length_written initialised k (replicate count true) (omega arith)
