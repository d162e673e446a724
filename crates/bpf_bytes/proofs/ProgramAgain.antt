-- The bytes of a program decode to it, the whole of it.
use Rattle.std.proofs.Common.{◌≡◌, ℕ, ℤ, pos, negsuc, ◌+◌, ◌*◌, ◌/◌, ◌%◌, ◌^◌, ◌<◌, false, List, [], ◌∷◌, ◌++◌, Some, None, Ok, refl, ap, ◌∙◌, append_assoc, arith, rules}
use Rattle.std.specs.Prelude.{FitsSigned}
use Rattle.std.specs.Int.{w16, w32, cast_signed, cast_unsigned}
use Rattle.std.proofs.lemmas.Int.{to_z-of_z}
use Rattle.std.proofs.lemmas.List.Concat.{flat_map-cons}
use Rattle.bpf_bytes.specs.declared.fields.Fields.{Fields}
use Rattle.bpf_words.specs.declared.operation.BinaryOperation.{BinaryOperation}
use Rattle.bpf_words.specs.declared.operation.BinaryOperation.TheVariants as operation
use Rattle.bpf_words.specs.declared.operation.EndWidth.{EndWidth}
use Rattle.bpf_words.specs.declared.operation.EndWidth.TheVariants.{Low16, Low32, Low64}
use Rattle.bpf_code.specs.declared.instruction.Register.{Register}
use Rattle.bpf_code.specs.declared.instruction.Register.TheVariants.{R0, R1, R2, R3, R4, R5, R6, R7, R8, R9, R10}
use Rattle.bpf_code.specs.declared.instruction.SignExtendingMove.{SignExtendingMove}
use Rattle.bpf_code.specs.declared.instruction.SignExtendingMove.TheVariants.{From8To32, From16To32, From8To64, From16To64, From32To64}
use Rattle.bpf_code.specs.Register.{number_of}
use Rattle.bpf_code.specs.declared.instruction.Instruction.{Instruction}
use Rattle.bpf_code.specs.declared.instruction.Instruction.TheVariants.{LoadWide, Load, StoreImmediate, StoreRegister, Arithmetic, Negate, MoveSignExtended, End, Jump, LongJump, Branch, Call, Exit}
use Rattle.bpf_code.specs.declared.instruction.Source.TheVariants as source
use Rattle.bpf_bytes.specs.Fields.{bytes_of, fields_of_bytes, slots_of}
use Rattle.bpf_bytes.specs.Reading.{reading_of}
use Rattle.bpf_bytes.specs.Spelling.{fields_of, second_half, instruction_bytes, operation_offset, extension_offset, end_immediate, spelling, spelling_at}
use Rattle.bpf_code.specs.Program.{Program, is_wide, AreSlots, IsInRange, AllInRange}
use Rattle.bpf_bytes.specs.Decoding.{reading_of_slots}
use Rattle.bpf_bytes.proofs.SpellingLemmas.{instruction_bytes-short}
use Rattle.bpf_bytes.proofs.AgainLemmas.{first_of, read_again, read_half_again}

-- ---- the slots of bytes

-- fields whose numbers fit
record AreFields (f : Fields) : Type 0 where
  dst : f.dst < 16
  src : f.src < 16
  offset : FitsSigned w16 f.offset
  immediate : FitsSigned w32 f.immediate

below_16 : (z : ℤ) → FitsSigned w16 z → cast_unsigned w16 z < 2 ^ 16
below_16 (pos n) fits = let h = fits.sfits in omega arith
below_16 (negsuc n) fits = omega arith

below_32 : (z : ℤ) → FitsSigned w32 z → cast_unsigned w32 z < 2 ^ 32
below_32 (pos n) fits = let h = fits.sfits in omega arith
below_32 (negsuc n) fits = omega arith

two_again : (z : ℤ) → FitsSigned w16 z → cast_signed w16 (cast_unsigned w16 z % 256 + 256 * (cast_unsigned w16 z / 256 % 256 + 256 * 0)) ≡ z
two_again z fits =
    let below = below_16 z fits in
    let same : cast_unsigned w16 z % 256 + 256 * (cast_unsigned w16 z / 256 % 256 + 256 * 0) ≡ cast_unsigned w16 z = omega arith in
    ap (cast_signed w16) same ∙ to_z-of_z w16 z fits

four_again : (z : ℤ) → FitsSigned w32 z
    → cast_signed w32 (cast_unsigned w32 z % 256 + 256 * (cast_unsigned w32 z / 256 % 256 + 256 * (cast_unsigned w32 z / 65536 % 256 + 256 * (cast_unsigned w32 z / 16777216 % 256 + 256 * 0)))) ≡ z
four_again z fits =
    let below = below_32 z fits in
    let same : cast_unsigned w32 z % 256 + 256 * (cast_unsigned w32 z / 256 % 256 + 256 * (cast_unsigned w32 z / 65536 % 256 + 256 * (cast_unsigned w32 z / 16777216 % 256 + 256 * 0))) ≡ cast_unsigned w32 z = omega arith in
    ap (cast_signed w32) same ∙ to_z-of_z w32 z fits

-- the fields are read again from their bytes
fields_again : (f : Fields) → AreFields f → fields_of_bytes (bytes_of f) ≡ f
fields_again f fits =
    let dst : (f.dst + 16 * f.src) % 16 ≡ f.dst = omega (arith, fits.dst) in
    let src : (f.dst + 16 * f.src) / 16 ≡ f.src = omega (arith, fits.dst) in
    let make : ℕ → ℕ → ℤ → ℤ → Fields = λ d s o i. record { opcode = f.opcode; dst = d; src = s; offset = o; immediate = i } in
    ap (λ (d : ℕ). make d ((f.dst + 16 * f.src) / 16) (fields_of_bytes (bytes_of f)).offset (fields_of_bytes (bytes_of f)).immediate) dst
    ∙ ap (λ (s : ℕ). make f.dst s (fields_of_bytes (bytes_of f)).offset (fields_of_bytes (bytes_of f)).immediate) src
    ∙ ap (λ (o : ℤ). make f.dst f.src o (fields_of_bytes (bytes_of f)).immediate) (two_again f.offset fits.offset)
    ∙ ap (λ (i : ℤ). make f.dst f.src f.offset i) (four_again f.immediate fits.immediate)

slots_again : (f : Fields) (rest : List ℕ) → AreFields f → slots_of (bytes_of f ++ rest) ≡ f ∷ slots_of rest
unfolding slots_of
slots_again f rest fits = ap (λ (g : Fields). g ∷ slots_of rest) (fields_again f fits)

number_below : (r : Register) → number_of r < 16
number_below R0 = omega arith
number_below R1 = omega arith
number_below R2 = omega arith
number_below R3 = omega arith
number_below R4 = omega arith
number_below R5 = omega arith
number_below R6 = omega arith
number_below R7 = omega arith
number_below R8 = omega arith
number_below R9 = omega arith
number_below R10 = omega arith

fits_16 : (n : ℕ) → n < 2 ^ 15 → FitsSigned w16 (pos n)
fits_16 n h = record { sfits = h }

fits_32 : (n : ℕ) → n < 2 ^ 31 → FitsSigned w32 (pos n)
fits_32 n h = record { sfits = h }

zero_16 : FitsSigned w16 (pos 0)
zero_16 = fits_16 0 (omega arith)

zero_32 : FitsSigned w32 (pos 0)
zero_32 = fits_32 0 (omega arith)

word_fits : (n : ℕ) → n < 2 ^ 32 → FitsSigned w32 (cast_signed w32 n)
word_fits n h = search rules

offset_fits : (op : BinaryOperation) → FitsSigned w16 (operation_offset op)
offset_fits operation.Sdiv = fits_16 1 (omega arith)
offset_fits operation.Smod = fits_16 1 (omega arith)
offset_fits _ = zero_16

extension_fits : (kind : SignExtendingMove) → FitsSigned w16 (extension_offset kind)
extension_fits From8To32 = fits_16 8 (omega arith)
extension_fits From16To32 = fits_16 16 (omega arith)
extension_fits From8To64 = fits_16 8 (omega arith)
extension_fits From16To64 = fits_16 16 (omega arith)
extension_fits From32To64 = fits_16 32 (omega arith)

end_fits : (width : EndWidth) → FitsSigned w32 (end_immediate width)
end_fits Low16 = fits_32 16 (omega arith)
end_fits Low32 = fits_32 32 (omega arith)
end_fits Low64 = fits_32 64 (omega arith)

zero_below : 0 < 16
zero_below = omega arith

fields_fit : (i : Instruction) → IsInRange i → AreFields (fields_of i)
unfolding fields_of
fields_fit (LoadWide dst value) h = record { dst = number_below dst; src = zero_below; offset = zero_16; immediate = word_fits (value % 2 ^ 32) (omega arith) }
fields_fit (Load kind dst src offset) h = record { dst = number_below dst; src = number_below src; offset = h; immediate = zero_32 }
fields_fit (StoreImmediate size dst offset immediate) h = record { dst = number_below dst; src = zero_below; offset = h.0; immediate = h.1 }
fields_fit (StoreRegister size dst src offset) h = record { dst = number_below dst; src = number_below src; offset = h; immediate = zero_32 }
fields_fit (Arithmetic width op dst (source.Immediate immediate)) h = record { dst = number_below dst; src = zero_below; offset = offset_fits op; immediate = h }
fields_fit (Arithmetic width op dst (source.Register src)) h = record { dst = number_below dst; src = number_below src; offset = offset_fits op; immediate = zero_32 }
fields_fit (Negate width dst) h = record { dst = number_below dst; src = zero_below; offset = zero_16; immediate = zero_32 }
fields_fit (MoveSignExtended kind dst src) h = record { dst = number_below dst; src = number_below src; offset = extension_fits kind; immediate = zero_32 }
fields_fit (End order width dst) h = record { dst = number_below dst; src = zero_below; offset = zero_16; immediate = end_fits width }
fields_fit (Jump distance) h = record { dst = zero_below; src = zero_below; offset = h; immediate = zero_32 }
fields_fit (LongJump distance) h = record { dst = zero_below; src = zero_below; offset = zero_16; immediate = h }
fields_fit (Branch width condition dst (source.Immediate immediate) distance) h = record { dst = number_below dst; src = zero_below; offset = h.1; immediate = h.0 }
fields_fit (Branch width condition dst (source.Register src) distance) h = record { dst = number_below dst; src = number_below src; offset = h; immediate = zero_32 }
fields_fit (Call helper) h = record { dst = zero_below; src = zero_below; offset = zero_16; immediate = h }
fields_fit Exit h = record { dst = zero_below; src = zero_below; offset = zero_16; immediate = zero_32 }

half_fits : (high : ℕ) → high < 2 ^ 32 → AreFields (second_half high)
half_fits high h = record { dst = zero_below; src = zero_below; offset = zero_16; immediate = word_fits high h }

-- ---- the slots of a program

short_first : (i : Instruction) → is_wide i ≡ false → first_of i ≡ i
short_first (LoadWide dst value) e = absurd cc
short_first i e = refl

read_short : (i : Instruction) (rest : Program) (k : ℕ) → is_wide i ≡ false → IsInRange i → reading_of_slots None (k + 1) (slots_of (spelling rest)) ≡ Ok rest
    → reading_of_slots None k (slots_of (spelling (Some i ∷ rest))) ≡ Ok (Some i ∷ rest)
unfolding reading_of_slots
read_short i rest k short fits again =
    let bytes : spelling (Some i ∷ rest) ≡ bytes_of (fields_of i) ++ spelling rest =
    flat_map-cons spelling_at (Some i) rest ∙ ap (λ (b : List ℕ). b ++ spelling rest) (instruction_bytes-short i short) in
    let slots : slots_of (spelling (Some i ∷ rest)) ≡ fields_of i ∷ slots_of (spelling rest) = ap slots_of bytes ∙ slots_again (fields_of i) (spelling rest) (fields_fit i fits) in
    let reads : reading_of (fields_of i) ≡ Ok i = read_again i ∙ ap (λ (j : Instruction). Ok j) (short_first i short) in
    ap (reading_of_slots None k) slots ∙ rw (reads, short, again) refl

read_wide : (dst : Register) (value : ℕ) (rest : Program) (k : ℕ) → value < 2 ^ 64 → reading_of_slots None (k + 1 + 1) (slots_of (spelling rest)) ≡ Ok rest
    → reading_of_slots None k (slots_of (spelling (Some (LoadWide dst value) ∷ None ∷ rest))) ≡ Ok (Some (LoadWide dst value) ∷ None ∷ rest)
unfolding reading_of_slots instruction_bytes
read_wide dst value rest k fits again =
    let i = LoadWide dst value in
    let high : value / 2 ^ 32 < 2 ^ 32 = omega arith in
    let bytes : spelling (Some (LoadWide dst value) ∷ None ∷ rest) ≡ bytes_of (fields_of (LoadWide dst value)) ++ (bytes_of (second_half (value / 2 ^ 32)) ++ spelling rest) =
    flat_map-cons spelling_at (Some (LoadWide dst value)) (None ∷ rest) ∙ ap (λ (b : List ℕ). instruction_bytes (LoadWide dst value) ++ b) (flat_map-cons spelling_at None rest)
    ∙ append_assoc (bytes_of (fields_of (LoadWide dst value))) (bytes_of (second_half (value / 2 ^ 32))) (spelling rest) in
    let slots : slots_of (spelling (Some (LoadWide dst value) ∷ None ∷ rest)) ≡ fields_of (LoadWide dst value) ∷ second_half (value / 2 ^ 32) ∷ slots_of (spelling rest) =
    ap slots_of bytes ∙ slots_again (fields_of (LoadWide dst value)) (bytes_of (second_half (value / 2 ^ 32)) ++ spelling rest) (fields_fit (LoadWide dst value) fits)
    ∙ ap (λ (fs : List Fields). fields_of (LoadWide dst value) ∷ fs) (slots_again (second_half (value / 2 ^ 32)) (spelling rest) (half_fits (value / 2 ^ 32) high)) in
    let whole : value % 2 ^ 32 + 2 ^ 32 * (value / 2 ^ 32) ≡ value = omega arith in
    ap (reading_of_slots None k) slots ∙ rw (read_again (LoadWide dst value), read_half_again (value / 2 ^ 32) high, again, whole) refl

nothing_read : (k : ℕ) → reading_of_slots None k (slots_of []) ≡ Ok []
unfolding reading_of_slots slots_of
nothing_read k = refl

pub slots_read_again : (p : Program) (k : ℕ) → AreSlots false p → AllInRange p → reading_of_slots None k (slots_of (spelling p)) ≡ Ok p
unfolding AreSlots
slots_read_again [] k slots fits = nothing_read k
slots_read_again (None ∷ p) k slots fits = absurd slots
slots_read_again (Some (LoadWide dst value) ∷ []) k slots fits = absurd slots
slots_read_again (Some (LoadWide dst value) ∷ Some i ∷ p) k slots fits = absurd slots
slots_read_again (Some (LoadWide dst value) ∷ None ∷ p) k slots fits = read_wide dst value p k fits.0 (slots_read_again p (k + 1 + 1) slots fits.1)
slots_read_again (Some (Load a b c d) ∷ p) k slots fits = read_short (Load a b c d) p k refl fits.0 (slots_read_again p (k + 1) slots fits.1)
slots_read_again (Some (StoreImmediate a b c d) ∷ p) k slots fits = read_short (StoreImmediate a b c d) p k refl fits.0 (slots_read_again p (k + 1) slots fits.1)
slots_read_again (Some (StoreRegister a b c d) ∷ p) k slots fits = read_short (StoreRegister a b c d) p k refl fits.0 (slots_read_again p (k + 1) slots fits.1)
slots_read_again (Some (Arithmetic a b c d) ∷ p) k slots fits = read_short (Arithmetic a b c d) p k refl fits.0 (slots_read_again p (k + 1) slots fits.1)
slots_read_again (Some (Negate a b) ∷ p) k slots fits = read_short (Negate a b) p k refl fits.0 (slots_read_again p (k + 1) slots fits.1)
slots_read_again (Some (MoveSignExtended a b c) ∷ p) k slots fits = read_short (MoveSignExtended a b c) p k refl fits.0 (slots_read_again p (k + 1) slots fits.1)
slots_read_again (Some (End a b c) ∷ p) k slots fits = read_short (End a b c) p k refl fits.0 (slots_read_again p (k + 1) slots fits.1)
slots_read_again (Some (Jump a) ∷ p) k slots fits = read_short (Jump a) p k refl fits.0 (slots_read_again p (k + 1) slots fits.1)
slots_read_again (Some (LongJump a) ∷ p) k slots fits = read_short (LongJump a) p k refl fits.0 (slots_read_again p (k + 1) slots fits.1)
slots_read_again (Some (Branch a b c d e) ∷ p) k slots fits = read_short (Branch a b c d e) p k refl fits.0 (slots_read_again p (k + 1) slots fits.1)
slots_read_again (Some (Call a) ∷ p) k slots fits = read_short (Call a) p k refl fits.0 (slots_read_again p (k + 1) slots fits.1)
slots_read_again (Some Exit ∷ p) k slots fits = read_short Exit p k refl fits.0 (slots_read_again p (k + 1) slots fits.1)
