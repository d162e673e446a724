-- Bytes that decode to a program make one.
use Rattle.std.proofs.Common.{◌≡◌, ℕ, zero, suc, pos, ◌+◌, ◌*◌, ◌/◌, ◌%◌, ◌^◌, ◌==◌, ◌≤◌, ◌<◌, Bool, true, false, not, cond, ◌&&◌, ◌||◌, nat_lt, List, [], ◌∷◌, ◌++◌, length, take, drop, Option, Some, None, Result, Ok, Err, refl, sym, ap, subst, ◌∙◌, arith}
use Rattle.std.specs.Prelude.{FitsSigned}
use Rattle.std.specs.Int.{w16, w32, cast_unsigned}
use Rattle.std.specs.List.{AllByRecursion}
use Rattle.std.specs.Option.{option_map}
use Rattle.std.specs.Ordering.{int_eq}
use Rattle.std.proofs.lemmas.Bool.Decides.{nat_tests}
use Rattle.std.proofs.lemmas.List.{length-drop}
use Rattle.byteorder.specs.Endian.{little_from}
use Rattle.bpf_code.specs.declared.instruction.Instruction.{Instruction}
use Rattle.bpf_code.specs.declared.instruction.Instruction.TheVariants as instruction
use Rattle.bpf_code.specs.declared.instruction.Register.{Register}
use Rattle.bpf_code.specs.declared.instruction.Width.TheVariants.{Bits32, Bits64}
use Rattle.bpf_code.specs.declared.instruction.Source.TheVariants as source
use Rattle.bpf_code.specs.Program.{Program, max_slots, is_wide, IsInRange, AllInRange, IsProgram}
use Rattle.bpf_code.specs.Register.{register_of}
use Rattle.bpf_bytes.specs.declared.fields.Fields.{Fields}
use Rattle.bpf_bytes.specs.declared.opcode.Opcode.{Opcode}
use Rattle.bpf_bytes.specs.declared.opcode.Opcode.TheVariants as opcode
use Rattle.bpf_bytes.specs.declared.opcode.SourceKind.TheVariants.{Immediate, Register as InRegister}
use Rattle.bpf_bytes.specs.Fields.{fields_of_bytes, slots_of}
use Rattle.bpf_bytes.specs.Opcode.{opcode_of}
use Rattle.bpf_bytes.specs.Uses.{fields_used, uses_of}
use Rattle.bpf_bytes.specs.declared.fault.DecodeCause.{DecodeCause}
use Rattle.bpf_bytes.specs.declared.fault.DecodeCause.TheVariants as fault_cause
use Rattle.bpf_bytes.specs.declared.fault.DecodeFault.{DecodeFault}
use Rattle.bpf_bytes.specs.Decoding.{fault, at_slot, with_front, completed_load, reading_of_slots, or_else, jump_faults, exit_fault, program_unless, checked_program, program_of}
use Rattle.bpf_bytes.specs.Reading.{reading_of, half_reading_of, unused_are_zero, instruction_of, on_register, operation_of, extension_of, end_width_of, is_move, or_fault}
use Rattle.bpf_bytes.specs.Steps.{IsFirstHalf, IsHalf, half_count}
use Rattle.bpf_bytes.proofs.DecodeLemmas.{slots_of-cons}
use Rattle.bpf_bytes.proofs.ProgramLemmas.{AreSlots-reading_of, all_land, ends_with_exit}
use borrow.Author.Gap.{read_sfits}
use mir.ValLaws as laws

-- ---- one slot

-- its signed numbers fit
pub record FieldsFit (f : Fields) : Type 0 where
  pub offset : FitsSigned w16 f.offset
  pub immediate : FitsSigned w32 f.immediate

pub fields_fit : (bytes : List ℕ) → FieldsFit (fields_of_bytes bytes)
fields_fit bytes = record { offset = read_sfits w16 (little_from 2 2 bytes); immediate = read_sfits w32 (little_from 4 4 bytes) }

pub below_half : (f : Fields) → FieldsFit f → cast_unsigned w32 f.immediate < 2 ^ 32
below_half f fit = (laws.of_z_fits w32 f.immediate fit.immediate).fits

-- an instruction in range, which is the first half of a wide load where it is wide
abbrev pub IsRead : Instruction → Type 0
IsRead i = IsInRange i × (is_wide i ≡ true → IsFirstHalf i)

module _ (i : Instruction) where
  of_some : (made : Instruction) → IsRead made → Some made ≡ Some i → IsRead i
  of_some made is e = subst IsRead (same e) is
    where
      same : Some made ≡ Some i → made ≡ i
      same e = cc

  of_map : {X : Type 0} (o : Option X) (make : X → Instruction) → ((x : X) → IsRead (make x)) → option_map make o ≡ Some i → IsRead i
  of_map None make is e = absurd cc
  of_map (Some x) make is e = of_some (make x) (is x) e

  of_cond : (b : Bool) (x y : Option Instruction) → (x ≡ Some i → IsRead i) → (y ≡ Some i → IsRead i) → cond b x y ≡ Some i → IsRead i
  of_cond true x y first second e = first e
  of_cond false x y first second e = second e

  of_src : (b : Bool) (made : Instruction) → IsRead made → cond b (Some made) None ≡ Some i → IsRead i
  of_src b made is = of_cond b (Some made) None (of_some made is) (λ e. absurd cc)

  is_read : (o : Opcode) (dst src : Register) (f : Fields) → FieldsFit f → instruction_of o dst src f ≡ Some i → IsRead i
  unfolding instruction_of on_register
  is_read opcode.LoadWide dst src f fit e =
      let half = below_half f fit in
      of_src (f.src == 0) (instruction.LoadWide dst (cast_unsigned w32 f.immediate)) (omega arith, λ _. half) e
  is_read (opcode.Load kind) dst src f fit e = of_some (instruction.Load kind dst src f.offset) (fit.offset, λ w. absurd cc) e
  is_read (opcode.StoreImmediate size) dst src f fit e = of_some (instruction.StoreImmediate size dst f.offset f.immediate) ((fit.offset, fit.immediate), λ w. absurd cc) e
  is_read (opcode.StoreRegister size) dst src f fit e = of_some (instruction.StoreRegister size dst src f.offset) (fit.offset, λ w. absurd cc) e
  is_read (opcode.Arithmetic width code Immediate) dst src f fit e =
      of_map (operation_of code f.offset) (λ op. instruction.Arithmetic width op dst (source.Immediate f.immediate)) (λ op. (fit.immediate, λ w. absurd cc)) e
  is_read (opcode.Arithmetic width code InRegister) dst src f fit e =
      of_cond (is_move code && not (int_eq f.offset (pos 0)))
      (option_map (λ kind. instruction.MoveSignExtended kind dst src) (extension_of width f.offset))
      (option_map (λ op. instruction.Arithmetic width op dst (source.Register src)) (operation_of code f.offset))
      (of_map (extension_of width f.offset) (λ kind. instruction.MoveSignExtended kind dst src) (λ kind. (tt, λ w. absurd cc)))
      (of_map (operation_of code f.offset) (λ op. instruction.Arithmetic width op dst (source.Register src)) (λ op. (tt, λ w. absurd cc)))
      e
  is_read (opcode.Negate width) dst src f fit e = of_some (instruction.Negate width dst) (tt, λ w. absurd cc) e
  is_read (opcode.End order) dst src f fit e = of_map (end_width_of f.immediate) (λ width. instruction.End order width dst) (λ width. (tt, λ w. absurd cc)) e
  is_read (opcode.Jump Bits64) dst src f fit e = of_some (instruction.Jump f.offset) (fit.offset, λ w. absurd cc) e
  is_read (opcode.Jump Bits32) dst src f fit e = of_some (instruction.LongJump f.immediate) (fit.immediate, λ w. absurd cc) e
  is_read (opcode.Branch width condition Immediate) dst src f fit e =
      of_some (instruction.Branch width condition dst (source.Immediate f.immediate) f.offset) ((fit.immediate, fit.offset), λ w. absurd cc) e
  is_read (opcode.Branch width condition InRegister) dst src f fit e =
      of_some (instruction.Branch width condition dst (source.Register src) f.offset) (fit.offset, λ w. absurd cc) e
  is_read opcode.Call dst src f fit e = of_src (f.src == 0) (instruction.Call f.immediate) (fit.immediate, λ w. absurd cc) e
  is_read opcode.Exit dst src f fit e = of_some instruction.Exit (tt, λ w. absurd cc) e

pub of_or_fault : {A : Type 0} (cause : DecodeCause) (o : Option A) (next : A → Result Instruction DecodeCause) (i : Instruction) → or_fault cause o next ≡ Ok i → (x : A) × (o ≡ Some x) × (next x ≡ Ok i)
of_or_fault cause None next i e = absurd cc
of_or_fault cause (Some x) next i e = (x, refl, e)

pub where_unused : (b : Bool) (r : Result Instruction DecodeCause) (i : Instruction) → cond b r (Err fault_cause.UnusedField) ≡ Ok i → (b ≡ true) × (r ≡ Ok i)
where_unused true r i e = (refl, e)
where_unused false r i e = absurd cc

abbrev pub okay : Instruction → Result Instruction DecodeCause
okay x = Ok x

pub is_same : (made i : Instruction) → okay made ≡ okay i → made ≡ i
is_same made i e = cc

-- what an instruction is read from
pub read_parts : (f : Fields) (i : Instruction) → reading_of f ≡ Ok i
    → (o : Opcode) × (dst : Register) × (src : Register) × (opcode_of f.opcode ≡ Some o) × (register_of f.dst ≡ Some dst) × (register_of f.src ≡ Some src) × (unused_are_zero (uses_of o) f ≡ true) × (instruction_of o dst src f ≡ Some i)
unfolding reading_of
read_parts f i e =
    let (o, known, e1) = of_or_fault fault_cause.UnknownOpcode (opcode_of f.opcode) _ i e in
    let (dst, known_dst, e2) = of_or_fault fault_cause.RegisterNumber (register_of f.dst) _ i e1 in
    let (src, known_src, e3) = of_or_fault fault_cause.RegisterNumber (register_of f.src) _ i e2 in
    let (unused, e4) = where_unused (unused_are_zero (uses_of o) f) _ i e3 in
    let (made, is, e5) = of_or_fault fault_cause.UndefinedValue (instruction_of o dst src f) (λ x. Ok x) i e4 in
    (o, dst, src, known, known_dst, known_src, unused, is ∙ ap Some (is_same made i e5))

pub reads : (f : Fields) (i : Instruction) → FieldsFit f → reading_of f ≡ Ok i → IsRead i
reads f i fit e =
    let (o, dst, src, known, known_dst, known_src, unused, is) = read_parts f i e in
    is_read i o dst src f fit is

abbrev pub high_half : ℕ → Result ℕ DecodeCause
high_half x = Ok x

pub half_below : (f : Fields) (high : ℕ) → FieldsFit f → half_reading_of f ≡ Ok high → high < 2 ^ 32
unfolding half_reading_of
half_below f high fit = by_tests (unused_are_zero (fields_used false false false true) f && f.opcode == 0)
  where
    same : (a b : ℕ) → high_half a ≡ high_half b → a ≡ b
    same a b e = cc

    by_tests : (b : Bool) → cond b (high_half (cast_unsigned w32 f.immediate)) (Err fault_cause.UnusedField) ≡ Ok high → high < 2 ^ 32
    by_tests true e = subst (λ (n : ℕ). n < 2 ^ 32) (same (cast_unsigned w32 f.immediate) high e) (below_half f fit)
    by_tests false e = absurd cc

-- ---- all slots

-- an instruction that waits for its second half loads 64 bits
pub by_first_half : (P : Instruction → Type 0) → ((dst : Register) (low : ℕ) → low < 2 ^ 32 → P (instruction.LoadWide dst low)) → (first : Instruction) → IsFirstHalf first → P first
by_first_half P wide (instruction.LoadWide dst low) half = wide dst low half
by_first_half P wide (instruction.Load _ _ _ _) half = absurd half
by_first_half P wide (instruction.StoreImmediate _ _ _ _) half = absurd half
by_first_half P wide (instruction.StoreRegister _ _ _ _) half = absurd half
by_first_half P wide (instruction.Arithmetic _ _ _ _) half = absurd half
by_first_half P wide (instruction.Negate _ _) half = absurd half
by_first_half P wide (instruction.MoveSignExtended _ _ _) half = absurd half
by_first_half P wide (instruction.End _ _ _) half = absurd half
by_first_half P wide (instruction.Jump _) half = absurd half
by_first_half P wide (instruction.LongJump _) half = absurd half
by_first_half P wide (instruction.Branch _ _ _ _ _) half = absurd half
by_first_half P wide (instruction.Call _) half = absurd half
by_first_half P wide instruction.Exit half = absurd half

completed_in_range : (first : Instruction) (high : ℕ) → IsFirstHalf first → high < 2 ^ 32 → IsInRange (completed_load first high)
completed_in_range first high half below = by_first_half (λ (i : Instruction). IsInRange (completed_load i high)) wide first half
  where
    wide : (dst : Register) (low : ℕ) → low < 2 ^ 32 → IsInRange (completed_load (instruction.LoadWide dst low) high)
    wide dst low small = omega arith

pub with_front_ok : (front : Program) (r : Result Program DecodeFault) (p : Program) → with_front front r ≡ Ok p → (q : Program) × (r ≡ Ok q) × (p ≡ front ++ q)
with_front_ok front (Ok q) p e = (q, refl, cc)
with_front_ok front (Err e) p h = absurd cc

pub of_slot : {A : Type 0} (slot : ℕ) (r : Result A DecodeCause) (next : A → Result Program DecodeFault) (p : Program) → at_slot slot r next ≡ Ok p → (x : A) × (r ≡ Ok x) × (next x ≡ Ok p)
of_slot slot (Ok x) next p e = (x, refl, e)
of_slot slot (Err cause) next p e = absurd cc

-- what was read of so many slots is in range, and fills them
abbrev AreRead : ℕ → Program → Type 0
AreRead n p = AllInRange p × (length p ≡ n)

abbrev pub read_okay : Program → Result Program DecodeFault
read_okay p = Ok p

pub program_is : (p q : Program) → read_okay p ≡ read_okay q → p ≡ q
program_is p q e = cc

slots_read : (fs : List Fields) (half : Option Instruction) (slot : ℕ) (p : Program) → AllByRecursion FieldsFit fs → IsHalf half → reading_of_slots half slot fs ≡ Ok p → AreRead (length fs + half_count half) p
unfolding reading_of_slots
slots_read [] None slot p fit waits e = subst (AreRead 0) (program_is [] p e) (tt, refl)
slots_read [] (Some first) slot p fit waits e = absurd cc
slots_read (f ∷ fs) None slot p fit waits e =
    let (i, is, e1) = of_slot slot (reading_of f) (λ i. cond (is_wide i) (reading_of_slots (Some i) (slot + 1) fs) (with_front (Some i ∷ []) (reading_of_slots None (slot + 1) fs))) p e in
    let read = reads f i fit.0 is in
    elim (is_wide i) as (λ w. is_wide i ≡ w → cond w (reading_of_slots (Some i) (slot + 1) fs) (with_front (Some i ∷ []) (reading_of_slots None (slot + 1) fs)) ≡ Ok p → AreRead (length (f ∷ fs) + 0) p) [
      | true ↦ λ wide h.
          let later = slots_read fs (Some i) (slot + 1) p fit.1 (read.1 wide) h in
          (later.0, omega (arith, later.1))
      | false ↦ λ short h.
          let (q, was, same) = with_front_ok (Some i ∷ []) (reading_of_slots None (slot + 1) fs) p h in
          let later = slots_read fs None (slot + 1) q fit.1 tt was in
          subst (AreRead (length (f ∷ fs) + 0)) (sym same) ((read.0, later.0), omega (arith, later.1))
    ] refl e1
slots_read (f ∷ fs) (Some first) slot p fit waits e =
    let (high, is, e1) = of_slot slot (half_reading_of f) (λ high. with_front (Some (completed_load first high) ∷ None ∷ []) (reading_of_slots None (slot + 1) fs)) p e in
    let (q, was, same) = with_front_ok (Some (completed_load first high) ∷ None ∷ []) (reading_of_slots None (slot + 1) fs) p e1 in
    let later = slots_read fs None (slot + 1) q fit.1 tt was in
    subst (AreRead (length (f ∷ fs) + 1)) (sym same) ((completed_in_range first high waits (half_below f high fit.0 is), later.0), omega (arith, later.1))

abbrev pub AreFields : ℕ → List Fields → Type 0
AreFields n fs = AllByRecursion FieldsFit fs × (length fs ≡ n)

pub fields_are : (n : ℕ) (bytes : List ℕ) → length bytes ≡ 8 * n → AreFields n (slots_of bytes)
unfolding slots_of
fields_are zero [] e = (tt, refl)
fields_are zero (b ∷ bytes) e = absurd (omega arith)
fields_are (suc n) bytes e =
    let many : 8 ≤ length bytes = omega arith in
    let rest : length (drop 8 bytes) ≡ 8 * n = omega (arith, length-drop 8 bytes) in
    let later = fields_are n (drop 8 bytes) rest in
    subst (AreFields (suc n)) (sym (slots_of-cons bytes many)) ((fields_fit (take 8 bytes), later.0), omega (arith, later.1))

-- ---- the whole

-- what is read of whole slots, and has no fault, is a program
checked_is : (n : ℕ) (bytes : List ℕ) (p : Program) → length bytes ≡ 8 * n → 0 < n → n ≤ max_slots → checked_program (reading_of_slots None 0 (slots_of bytes)) ≡ Ok p → IsProgram p
checked_is n bytes p long some few = by_reading (reading_of_slots None 0 (slots_of bytes)) refl
  where
    no_fault : (a b : Option DecodeFault) (q : Program) → program_unless (or_else a b) q ≡ Ok p → (a ≡ None) × (b ≡ None) × (q ≡ p)
    no_fault None None q e = (refl, refl, program_is q p e)
    no_fault None (Some f) q e = absurd cc
    no_fault (Some f) b q e = absurd cc

    whole : (q : Program) → reading_of_slots None 0 (slots_of bytes) ≡ Ok q → jump_faults q 0 q ≡ None → exit_fault q ≡ None → IsProgram q
    whole q is jumps exit =
        let fields = fields_are n bytes long in
        let read = slots_read (slots_of bytes) None 0 q fields.0 tt is in
        record {
          not_empty = omega (arith, read.1, fields.1);
          not_long = omega (arith, read.1, fields.1);
          slots = AreSlots-reading_of (slots_of bytes) None 0 q tt is;
          jumps = all_land q jumps;
          in_range = read.0;
          ends = ends_with_exit q exit;
        }

    by_reading : (r : Result Program DecodeFault) → reading_of_slots None 0 (slots_of bytes) ≡ r → checked_program r ≡ Ok p → IsProgram p
    by_reading (Err f) is e = absurd cc
    by_reading (Ok q) is e =
        let (jumps, exit, same) = no_fault (jump_faults q 0 q) (exit_fault q) q e in
        subst IsProgram same (whole q is jumps exit)

-- bytes that decode are whole slots, few but some, and what is read of them has no fault
pub record AreWhole (bytes : List ℕ) (p : Program) (n : ℕ) : Type 0 where
  pub long : length bytes ≡ 8 * n
  pub some : 0 < n
  pub few : n ≤ max_slots
  pub checked : checked_program (reading_of_slots None 0 (slots_of bytes)) ≡ Ok p

whole_from : (bytes : List ℕ) (p : Program) → program_of bytes ≡ Ok p → (n : ℕ) × AreWhole bytes p n
unfolding program_of
whole_from bytes p = by_tests (length bytes == 0) refl (length bytes % 8 == 0) refl (nat_lt max_slots (length bytes / 8)) refl
  where
    checked : Result Program DecodeFault
    checked = checked_program (reading_of_slots None 0 (slots_of bytes))

    by_tests : (a : Bool) → (length bytes == 0) ≡ a → (b : Bool) → (length bytes % 8 == 0) ≡ b → (c : Bool) → nat_lt max_slots (length bytes / 8) ≡ c
        → cond (a || not b) (Err (fault fault_cause.Length 0)) (cond c (Err (fault fault_cause.TooManySlots 0)) checked) ≡ Ok p → (n : ℕ) × AreWhole bytes p n
    by_tests true ea b eb c ec e = absurd cc
    by_tests false ea false eb c ec e = absurd cc
    by_tests false ea true eb true ec e = absurd cc
    by_tests false ea true eb false ec e =
        let n = length bytes / 8 in
        let whole : length bytes % 8 ≡ 0 = grind (arith, nat_tests) in
        let some : 0 < length bytes = grind (arith, nat_tests) in
        let few : n ≤ max_slots = grind (arith, nat_tests) in
        let long : length bytes ≡ 8 * n = omega arith in
        (n, record { long = long; some = omega arith; few = few; checked = e })

-- bytes that decode to a program make one
pub decoded_is_program : (bytes : List ℕ) (p : Program) → program_of bytes ≡ Ok p → IsProgram p
decoded_is_program bytes p e =
    let (n, is) = whole_from bytes p e in
    checked_is n bytes p is.long is.some is.few is.checked

pub whole_length : (bytes : List ℕ) (p : Program) → program_of bytes ≡ Ok p → length bytes ≤ 8 * max_slots
whole_length bytes p e = let (n, is) = whole_from bytes p e in omega (arith, is.long, is.few)

-- and it is read of their slots
pub whole_slots : (bytes : List ℕ) (p : Program) → program_of bytes ≡ Ok p → (n : ℕ) × (length bytes ≡ 8 * n) × (reading_of_slots None 0 (slots_of bytes) ≡ Ok p)
whole_slots bytes p e =
    let (n, is) = whole_from bytes p e in
    (n, is.long, by_reading (reading_of_slots None 0 (slots_of bytes)) is.checked)
  where
    no_fault : (o : Option DecodeFault) (q : Program) → program_unless o q ≡ Ok p → read_okay q ≡ read_okay p
    no_fault None q e = e
    no_fault (Some f) q e = absurd cc

    by_reading : (r : Result Program DecodeFault) → checked_program r ≡ Ok p → r ≡ Ok p
    by_reading (Err f) e = absurd cc
    by_reading (Ok q) e = no_fault (or_else (jump_faults q 0 q) (exit_fault q)) q e
