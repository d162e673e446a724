-- The bytes of a program have no fault.
use Rattle.std.proofs.Common.{◌≡◌, ℕ, suc, ℤ, pos, negsuc, ◌+◌, ◌-◌, ◌*◌, ◌/◌, ◌%◌, ◌<◌, true, false, List, [], ◌∷◌, ◌++◌, length, slice_index_or, Option, Some, None, Ok, refl, ap, subst, ◌∙◌, length-append, arith}
use Rattle.std.specs.Prelude.{IsSome, slice_get, nat_eq, nat_lt}
use Rattle.std.specs.Option.{option_and_then}
use Rattle.std.proofs.lemmas.List.Concat.{flat_map-cons}
use Rattle.std.proofs.lemmas.Bool.Decides.{nat_tests}
use Rattle.bpf_code.specs.Program.{max_slots, Program, is_wide, AreSlots, IsProgram, Lands, distance_of}
use Rattle.bpf_bytes.specs.declared.fault.DecodeFault.{DecodeFault}
use Rattle.bpf_code.specs.declared.instruction.Instruction.{Instruction}
use Rattle.bpf_code.specs.declared.instruction.Instruction.TheVariants.{LoadWide, Exit}
use Rattle.bpf_bytes.specs.Fields.{bytes_of}
use Rattle.bpf_bytes.specs.Spelling.{fields_of, instruction_bytes, spelling, spelling_at}
use Rattle.bpf_bytes.specs.Decoding.{or_else, landing_fault, distance_fault, jump_fault, jump_faults, last_fault, exit_fault, program_of}
use Rattle.bpf_bytes.proofs.SpellingLemmas.{instruction_bytes-short, instruction_at-index}
use Rattle.bpf_bytes.proofs.ProgramAgain.{slots_read_again}

-- ---- eight bytes a slot

length-short : (i : Instruction) (rest : Program) → is_wide i ≡ false → length (spelling rest) ≡ 8 * length rest → length (spelling (Some i ∷ rest)) ≡ 8 * length (Some i ∷ rest)
length-short i rest short h =
    let bytes : spelling (Some i ∷ rest) ≡ bytes_of (fields_of i) ++ spelling rest =
    flat_map-cons spelling_at (Some i) rest ∙ ap (λ (b : List ℕ). b ++ spelling rest) (instruction_bytes-short i short) in
    ap length bytes ∙ length-append (bytes_of (fields_of i)) (spelling rest) ∙ omega (arith, h)

length-wide : (i : Instruction) (rest : Program) → length (instruction_bytes i) ≡ 16 → length (spelling rest) ≡ 8 * length rest
    → length (spelling (Some i ∷ None ∷ rest)) ≡ 8 * length (Some i ∷ None ∷ rest)
length-wide i rest both h =
    let bytes : spelling (Some i ∷ None ∷ rest) ≡ instruction_bytes i ++ spelling rest =
    flat_map-cons spelling_at (Some i) (None ∷ rest) ∙ ap (λ (b : List ℕ). instruction_bytes i ++ b) (flat_map-cons spelling_at None rest) in
    ap length bytes ∙ length-append (instruction_bytes i) (spelling rest) ∙ omega (arith, h, both)

sixteen : (i : Instruction) → is_wide i ≡ true → length (instruction_bytes i) ≡ 16
unfolding instruction_bytes
sixteen (LoadWide dst value) e = refl
sixteen i e = absurd cc

pub length-spelling : (p : Program) → AreSlots false p → length (spelling p) ≡ 8 * length p
unfolding AreSlots
length-spelling [] slots = refl
length-spelling (None ∷ p) slots = absurd slots
length-spelling (Some i ∷ []) slots =
    elim (is_wide i) as (λ w. is_wide i ≡ w → AreSlots w [] → length (spelling (Some i ∷ [])) ≡ 8 * length (Some i ∷ [])) [
      | true ↦ λ wide h. absurd h
      | false ↦ λ short h. length-short i [] short refl
    ] refl slots
length-spelling (Some i ∷ None ∷ p) slots =
    elim (is_wide i) as (λ w. is_wide i ≡ w → AreSlots w (None ∷ p) → length (spelling (Some i ∷ None ∷ p)) ≡ 8 * length (Some i ∷ None ∷ p)) [
      | true ↦ λ wide h. length-wide i p (sixteen i wide) (length-spelling p h)
      | false ↦ λ short h. absurd h
    ] refl slots
length-spelling (Some i ∷ Some j ∷ p) slots =
    elim (is_wide i) as (λ w. is_wide i ≡ w → AreSlots w (Some j ∷ p) → length (spelling (Some i ∷ Some j ∷ p)) ≡ 8 * length (Some i ∷ Some j ∷ p)) [
      | true ↦ λ wide h. absurd h
      | false ↦ λ short h. length-short i (Some j ∷ p) short (length-spelling (Some j ∷ p) h)
    ] refl slots

-- ---- the jumps

landing_well : (slot : ℕ) (s : Option (Option Instruction)) → IsSome (option_and_then (λ i. i) s) → landing_fault slot s ≡ None
landing_well slot None h = absurd cc
landing_well slot (Some None) h = absurd cc
landing_well slot (Some (Some i)) h = refl

lands_well : (p : Program) (slot : ℕ) (d : ℤ) → Lands p slot d → distance_fault p slot (Some d) ≡ None
lands_well p slot (pos n) h = landing_well slot (slice_get p (slot + 1 + n)) h
lands_well p slot (negsuc n) h = absurd h

distance_well : (p : Program) (slot : ℕ) (j : Option ℤ) → ((d : ℤ) → j ≡ Some d → Lands p slot d) → distance_fault p slot j ≡ None
distance_well p slot None h = refl
distance_well p slot (Some d) h = lands_well p slot d (h d refl)

jump_well : (p : Program) (slot : ℕ) (s : Option Instruction) → ((i : Instruction) (d : ℤ) → s ≡ Some i → distance_of i ≡ Some d → Lands p slot d) → jump_fault p slot s ≡ None
unfolding jump_fault
jump_well p slot None h = refl
jump_well p slot (Some i) h = distance_well p slot (distance_of i) (λ d e. h i d refl e)

none_then : (a b : Option DecodeFault) → a ≡ None → b ≡ None → or_else a b ≡ None
none_then a b e f = rw (e, f) refl

no_faults : (p rest : Program) (k : ℕ) → ((n : ℕ) → n < length rest → jump_fault p (k + n) (slice_index_or rest n None) ≡ None) → jump_faults p k rest ≡ None
unfolding jump_faults
no_faults p [] k h = refl
no_faults p (s ∷ rest) k h =
    let here : k + 0 ≡ k = omega arith in
    let first : jump_fault p k s ≡ None = subst (λ (slot : ℕ). jump_fault p slot s ≡ None) here (h 0 (omega arith)) in
    none_then (jump_fault p k s) (jump_faults p (k + 1) rest) first
    (no_faults p rest (k + 1) (λ n within.
    let there : k + suc n ≡ (k + 1) + n = omega arith in
    subst (λ (slot : ℕ). jump_fault p slot (slice_index_or rest n None) ≡ None) there (h (suc n) (omega arith))))

jumps_well : (p : Program) → IsProgram p → jump_faults p 0 p ≡ None
jumps_well p is = no_faults p p 0 (λ n within.
    let there : n ≡ 0 + n = omega arith in
    subst (λ (slot : ℕ). jump_fault p slot (slice_index_or p n None) ≡ None) there
    (jump_well p n (slice_index_or p n None) (λ i d begins jumps. is.jumps n i d (instruction_at-index p n within ∙ begins) jumps)))

-- ---- the end

exits : (slot : ℕ) (s : Option (Option Instruction)) → option_and_then (λ i. i) s ≡ Some Exit → last_fault slot s ≡ None
exits slot None e = absurd cc
exits slot (Some None) e = absurd cc
exits slot (Some (Some Exit)) e = refl
exits slot (Some (Some _)) e = absurd cc

exit_well : (p : Program) → IsProgram p → exit_fault p ≡ None
unfolding exit_fault
exit_well p is = exits (length p - 1) (slice_get p (length p - 1)) is.ends

-- ---- the whole

pub program_again : (p : Program) → IsProgram p → program_of (spelling p) ≡ Ok p
unfolding program_of
program_again p is =
    let len = length-spelling p is.slots in
    let some = is.not_empty in
    let short = is.not_long in
    let not_zero : nat_eq (length (spelling p)) 0 ≡ false = grind (arith, nat_tests) in
    let whole : nat_eq (length (spelling p) % 8) 0 ≡ true = grind (arith, nat_tests) in
    let not_many : nat_lt max_slots (length (spelling p) / 8) ≡ false = grind (arith, nat_tests) in
    rw (not_zero, whole, not_many, slots_read_again p 0 is.slots is.in_range, jumps_well p is, exit_well p is) refl
