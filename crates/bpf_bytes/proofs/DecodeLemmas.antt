-- What the decoder's loop keeps: what is read so far, and what is left.
use Rattle.std.proofs.Common.{◌≡◌, ℕ, ◌+◌, ◌-◌, ◌*◌, ◌≤◌, List, [], ◌∷◌, ◌++◌, length, take, drop, Option, Some, None, Ok, Err, refl, sym, ap, ◌∙◌, arith}
use Rattle.std.proofs.lemmas.List.{append-nil, drop-drop, drop_all, length-drop, get_or-drop}
use Rattle.std.proofs.Math.Seq.{take-add}
use Rattle.std.specs.Prelude.{IsSome}
use Rattle.bpf_bytes.specs.declared.fault.DecodeCause.TheVariants.{CutShort}
use Rattle.bpf_bytes.specs.declared.fault.DecodeFault.{DecodeFault}
use Rattle.bpf_bytes.specs.declared.fields.Fields.{Fields}
use Rattle.bpf_code.specs.declared.instruction.Instruction.{Instruction}
use Rattle.bpf_bytes.specs.Fields.{fields_of_bytes, bytes_of, slots_of}
use Rattle.bpf_code.specs.Program.{Program}
use Rattle.bpf_bytes.specs.Spelling.{spelling}
use Rattle.bpf_bytes.specs.Decoding.{fault, with_front, reading_of_slots}
use Rattle.bpf_bytes.specs.Steps.{IsHalf, half_count, half_bytes}
use Rattle.bpf_bytes.proofs.FieldsLemmas.{IsBytes, bytes_of-fields_of_bytes}

pub record IsReadTo (bytes : List ℕ) (slots : Program) (half : Option Instruction) (slot : ℕ) : Type 0 where
  pub waits : IsHalf half
  pub count : length slots + half_count half ≡ slot
  pub so_far : with_front slots (reading_of_slots half slot (slots_of (drop (8 * slot) bytes))) ≡ reading_of_slots None 0 (slots_of bytes)
  pub spelled : spelling slots ++ half_bytes half ≡ take (8 * slot) bytes

-- the first slot, and those behind it
pub slots_of-cons : (xs : List ℕ) → 8 ≤ length xs → slots_of xs ≡ fields_of_bytes (take 8 xs) ∷ slots_of (drop 8 xs)
unfolding slots_of
slots_of-cons [] h = absurd (omega arith)
slots_of-cons (a ∷ []) h = absurd (omega arith)
slots_of-cons (a ∷ b ∷ []) h = absurd (omega arith)
slots_of-cons (a ∷ b ∷ c ∷ []) h = absurd (omega arith)
slots_of-cons (a ∷ b ∷ c ∷ d ∷ []) h = absurd (omega arith)
slots_of-cons (a ∷ b ∷ c ∷ d ∷ e ∷ []) h = absurd (omega arith)
slots_of-cons (a ∷ b ∷ c ∷ d ∷ e ∷ f ∷ []) h = absurd (omega arith)
slots_of-cons (a ∷ b ∷ c ∷ d ∷ e ∷ f ∷ g ∷ []) h = absurd (omega arith)
slots_of-cons (a ∷ b ∷ c ∷ d ∷ e ∷ f ∷ g ∷ h ∷ rest) _ = refl

-- eight bytes are the bytes of their fields
pub first_bytes : (xs : List ℕ) → 8 ≤ length xs → IsBytes xs → bytes_of (fields_of_bytes (take 8 xs)) ≡ take 8 xs
first_bytes [] h _ = absurd (omega arith)
first_bytes (a ∷ []) h _ = absurd (omega arith)
first_bytes (a ∷ b ∷ []) h _ = absurd (omega arith)
first_bytes (a ∷ b ∷ c ∷ []) h _ = absurd (omega arith)
first_bytes (a ∷ b ∷ c ∷ d ∷ []) h _ = absurd (omega arith)
first_bytes (a ∷ b ∷ c ∷ d ∷ e ∷ []) h _ = absurd (omega arith)
first_bytes (a ∷ b ∷ c ∷ d ∷ e ∷ f ∷ []) h _ = absurd (omega arith)
first_bytes (a ∷ b ∷ c ∷ d ∷ e ∷ f ∷ g ∷ []) h _ = absurd (omega arith)
first_bytes (a ∷ b ∷ c ∷ d ∷ e ∷ f ∷ g ∷ h ∷ rest) _ fits = bytes_of-fields_of_bytes a b c d e f g h (fits 0) (fits 1) (fits 2) (fits 3) (fits 4) (fits 5) (fits 6) (fits 7)

-- the bytes of the slots read, and of the one slot more
take_slot : (bytes : List ℕ) (slot : ℕ) → take (8 * (slot + 1)) bytes ≡ take (8 * slot) bytes ++ take 8 (drop (8 * slot) bytes)
take_slot bytes slot =
    let more : 8 * (slot + 1) ≡ 8 * slot + 8 = omega arith in
    ap (λ (n : ℕ). take n bytes) more ∙ take-add (8 * slot) 8 bytes

IsBytes-drop : (n : ℕ) (bytes : List ℕ) → IsBytes bytes → IsBytes (drop n bytes)
IsBytes-drop n bytes fits i = rw get_or-drop (fits (n + i))

pub IsReadTo-step : (bytes : List ℕ) (slots slots' : Program) (half half' : Option Instruction) (slot width : ℕ) (f : Fields)
    → IsBytes bytes → 8 * slot + 8 ≤ length bytes → width ≡ 8 → f ≡ fields_of_bytes (take width (drop (8 * slot) bytes)) → IsReadTo bytes slots half slot
    → ((rest : List Fields) → with_front slots (reading_of_slots half slot (f ∷ rest)) ≡ with_front slots' (reading_of_slots half' (slot + 1) rest))
    → IsHalf half' → length slots' + half_count half' ≡ length slots + half_count half + 1
    → spelling slots' ++ half_bytes half' ≡ (spelling slots ++ half_bytes half) ++ bytes_of f → IsReadTo bytes slots' half' (slot + 1)
IsReadTo-step bytes slots slots' half half' slot width f fits within eight reading_of so_far goes_on waits count spelled =
    let front = drop (8 * slot) bytes in
    let left : 8 ≤ length front = omega (arith, length-drop (8 * slot) bytes) in
    let same : f ≡ fields_of_bytes (take 8 front) = reading_of ∙ ap (λ (n : ℕ). fields_of_bytes (take n front)) eight in
    let behind : drop 8 front ≡ drop (8 * (slot + 1)) bytes = drop-drop 8 (8 * slot) bytes ∙ ap (λ (n : ℕ). drop n bytes) (let e : 8 * slot + 8 ≡ 8 * (slot + 1) = omega arith in e) in
    let split : slots_of front ≡ f ∷ slots_of (drop (8 * (slot + 1)) bytes) = slots_of-cons front left ∙ ap (λ (g : Fields). g ∷ slots_of (drop 8 front)) (sym same) ∙ ap (λ (b : List ℕ). f ∷ slots_of b) behind in
    let bytes_are : bytes_of f ≡ take 8 front = ap bytes_of same ∙ first_bytes front left (IsBytes-drop (8 * slot) bytes fits) in
    record {
      waits = waits;
      count = omega (arith, so_far.count, count);
      so_far = sym (goes_on (slots_of (drop (8 * (slot + 1)) bytes))) ∙ ap (λ (fs : List Fields). with_front slots (reading_of_slots half slot fs)) (sym split) ∙ so_far.so_far;
      spelled = spelled ∙ ap (λ (b : List ℕ). b ++ bytes_of f) so_far.spelled ∙ ap (λ (b : List ℕ). take (8 * slot) bytes ++ b) bytes_are ∙ sym (take_slot bytes slot);
    }

-- a fault in a slot is the fault of the whole
pub IsReadTo-fault : (bytes : List ℕ) (slots : Program) (half : Option Instruction) (slot width : ℕ) (f : Fields) (e : DecodeFault)
    → 8 * slot + 8 ≤ length bytes → width ≡ 8 → f ≡ fields_of_bytes (take width (drop (8 * slot) bytes)) → IsReadTo bytes slots half slot
    → ((rest : List Fields) → reading_of_slots half slot (f ∷ rest) ≡ Err e) → reading_of_slots None 0 (slots_of bytes) ≡ Err e
IsReadTo-fault bytes slots half slot width f e within eight reading_of so_far ends =
    let front = drop (8 * slot) bytes in
    let left : 8 ≤ length front = omega (arith, length-drop (8 * slot) bytes) in
    let same : f ≡ fields_of_bytes (take 8 front) = reading_of ∙ ap (λ (n : ℕ). fields_of_bytes (take n front)) eight in
    let split : slots_of front ≡ f ∷ slots_of (drop 8 front) = slots_of-cons front left ∙ ap (λ (g : Fields). g ∷ slots_of (drop 8 front)) (sym same) in
    sym so_far.so_far ∙ ap (λ (fs : List Fields). with_front slots (reading_of_slots half slot fs)) split ∙ ap (with_front slots) (ends (slots_of (drop 8 front)))

-- behind the last slot
nothing_left : (bytes : List ℕ) (slot : ℕ) → length bytes ≤ 8 * slot → slots_of (drop (8 * slot) bytes) ≡ []
unfolding slots_of
nothing_left bytes slot past = ap slots_of (drop_all (8 * slot) bytes past)

pub IsReadTo-end : (bytes : List ℕ) (slots : Program) (slot : ℕ) (half : Option Instruction) → length bytes ≤ 8 * slot → half ≡ None → IsReadTo bytes slots half slot
    → reading_of_slots None 0 (slots_of bytes) ≡ Ok slots
unfolding reading_of_slots
IsReadTo-end bytes slots slot half past none so_far =
    let at_end : with_front slots (reading_of_slots half slot []) ≡ Ok slots = rw none (ap (λ (p : Program). Ok p) (append-nil slots)) in
    sym so_far.so_far ∙ ap (λ (fs : List Fields). with_front slots (reading_of_slots half slot fs)) (nothing_left bytes slot past) ∙ at_end

pub IsReadTo-cut : (bytes : List ℕ) (slots : Program) (slot : ℕ) (half : Option Instruction) → length bytes ≤ 8 * slot → IsSome half → IsReadTo bytes slots half slot
    → reading_of_slots None 0 (slots_of bytes) ≡ Err (fault CutShort (slot - 1))
unfolding reading_of_slots
IsReadTo-cut bytes slots slot None past some so_far = absurd cc
IsReadTo-cut bytes slots slot (Some first) past some so_far =
    sym so_far.so_far ∙ ap (λ (fs : List Fields). with_front slots (reading_of_slots (Some first) slot fs)) (nothing_left bytes slot past)
