-- The bytes of a program that grows by an instruction.
use Rattle.std.proofs.Common.{◌≡◌, ℕ, zero, suc, ◌+◌, ◌<◌, take, length, slice_index_or, arith, false, List, [], ◌∷◌, ◌++◌, Option, Some, None, refl, sym, ap, ◌∙◌, append_assoc}
use Rattle.std.proofs.lemmas.Grind.{flat_map-append}
use Rattle.std.proofs.lemmas.List.{append-nil, take_more}
use Rattle.std.proofs.lemmas.List.Concat.{flat_map-cons}
use Rattle.bpf_bytes.specs.declared.fields.Fields.{Fields}
use Rattle.bpf_code.specs.declared.instruction.Instruction.{Instruction}
use Rattle.bpf_code.specs.declared.instruction.Instruction.TheVariants.{LoadWide}
use Rattle.bpf_bytes.specs.Fields.{bytes_of}
use Rattle.bpf_bytes.specs.Spelling.{fields_of, second_slot, slot_bytes, instruction_bytes, spelling, spelling_at}
use Rattle.bpf_code.specs.Program.{Program, instruction_at, is_wide}

no_second : (i : Instruction) → is_wide i ≡ false → second_slot i ≡ None
no_second (LoadWide dst value) e = absurd cc
no_second _ e = refl

pub instruction_bytes-short : (i : Instruction) → is_wide i ≡ false → instruction_bytes i ≡ bytes_of (fields_of i)
unfolding instruction_bytes
instruction_bytes-short i e =
    ap (λ (s : Option Fields). bytes_of (fields_of i) ++ slot_bytes s) (no_second i e) ∙ append-nil (bytes_of (fields_of i))

pub spelling-push : (p : Program) (s : Option Instruction) → spelling (p ++ s ∷ []) ≡ spelling p ++ spelling_at s
spelling-push p s =
    flat_map-append spelling_at p (s ∷ []) ∙ ap (λ (x : List ℕ). spelling p ++ x) (flat_map-cons spelling_at s [] ∙ append-nil (spelling_at s))

-- an instruction of one slot behind a program whose bytes are those before the slot
pub pushes_short : (p q : Program) (half : List ℕ) (i : Instruction) (f : Fields) → q ≡ p ++ Some i ∷ [] → is_wide i ≡ false → fields_of i ≡ f → half ≡ []
    → spelling q ++ [] ≡ (spelling p ++ half) ++ bytes_of f
pushes_short p q half i f grown short spelled none =
    append-nil (spelling q) ∙ ap spelling grown ∙ spelling-push p (Some i)
    ∙ ap (λ (x : List ℕ). spelling p ++ x) (instruction_bytes-short i short ∙ ap bytes_of spelled)
    ∙ ap (λ (x : List ℕ). x ++ bytes_of f) (sym (append-nil (spelling p)) ∙ ap (λ (x : List ℕ). spelling p ++ x) (sym none))

-- a wide load behind a program whose bytes and first half are those before the second slot
pub pushes_wide : (p q r : Program) (half : List ℕ) (i : Instruction) (first second f : Fields) → q ≡ p ++ Some i ∷ [] → r ≡ q ++ None ∷ []
    → instruction_bytes i ≡ bytes_of first ++ bytes_of second → half ≡ bytes_of first → second ≡ f → spelling r ++ [] ≡ (spelling p ++ half) ++ bytes_of f
pushes_wide p q r half i first second f grown ended spelled waits same =
    append-nil (spelling r) ∙ ap spelling ended ∙ spelling-push q None ∙ append-nil (spelling q)
    ∙ ap spelling grown ∙ spelling-push p (Some i)
    ∙ ap (λ (x : List ℕ). spelling p ++ x) spelled ∙ sym (append_assoc (spelling p) (bytes_of first) (bytes_of second))
    ∙ ap (λ (x : List ℕ). (spelling p ++ x) ++ bytes_of second) (sym waits)
    ∙ ap (λ (g : Fields). (spelling p ++ half) ++ bytes_of g) same

-- what begins at a slot of the program is what the slot holds
pub instruction_at-index : (p : Program) (slot : ℕ) → slot < length p → instruction_at p slot ≡ slice_index_or p slot None
instruction_at-index [] slot within = absurd (omega arith)
instruction_at-index (x ∷ p) zero within = refl
instruction_at-index (x ∷ p) (suc slot) within = instruction_at-index p slot (omega arith)

pub spelling-take : (p : Program) (slot : ℕ) → slot < length p → spelling (take (slot + 1) p) ≡ spelling (take slot p) ++ spelling_at (instruction_at p slot)
spelling-take p slot within =
    ap spelling (take_more p slot None within) ∙ spelling-push (take slot p) (slice_index_or p slot None)
    ∙ ap (λ (s : Option Instruction). spelling (take slot p) ++ spelling_at s) (sym (instruction_at-index p slot within))
