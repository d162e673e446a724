-- Runs on rows of the schema and arguments of bytes stay in states that fit: values, bytes and states.
use Rattle.std.proofs.Common.{◌≡◌, ◌≢◌, ℕ, zero, suc, ℤ, pos, negsuc, Bool, true, false, cond, ◌+◌, ◌-◌, ◌*◌, ◌^◌, ◌%◌, ◌<◌, ◌≤◌, List, [], ◌∷◌, ◌++◌, length, take, drop, Option, Some, None, refl, sym, ap, subst, ◌∙◌, arith, inl, inr, get_or}
use Rattle.std.specs.Prelude.{◌≤ℤ◌, ◌+ℤ◌, neg_ℤ, unsigned_abs, nat_le, is_some, IsSome, IfSome, All, map, slice_index}
use Rattle.std.specs.Option.{option_map}
use Rattle.std.specs.Int.{w64, cast_signed, byte_at, bytes_low_first}
use Rattle.std.proofs.Math.Nat.{pow-succ'}
use Rattle.std.specs.FinMap.{get}
use Rattle.std.proofs.lemmas.Bool.Decides.{nat_tests}
use Rattle.std.proofs.lemmas.Bool.{cases_lt}
use Rattle.std.proofs.lemmas.Int.{ints}
use Rattle.std.proofs.lemmas.List.{length-take-le, length-drop, length-append, length-map, get_or_past}
use Rattle.std.proofs.lemmas.List.Elements.{All-take, All-drop, All-append, All-map, All-get_or, All-head, All-tail, All-nil, All-cons}
use Rattle.byteorder.specs.Endian.{little_number, little_from, little_bytes}
use Rattle.bpf_words.specs.declared.operation.Operation.{Operation}
use Rattle.bpf_words.specs.declared.operation.Operation.TheVariants.{Binary, Movsx}
use Rattle.bpf_words.specs.declared.operation.SignExtension.TheVariants.{From8, From16, From32}
use Rattle.bpf_words.specs.declared.operation.BinaryOperation.{BinaryOperation}
use Rattle.bpf_words.specs.declared.operation.BinaryOperation.TheVariants.{Add, Sub, Mul, Div, Sdiv, Or, And, Lsh, Rsh, Mod, Smod, Xor, Mov, Arsh}
use Rattle.bpf_words.specs.Operation.{alu}
use Rattle.bpf_words.proofs.Words.{alu_below}
use Rattle.bpf_code.specs.declared.instruction.Width.{Width}
use Rattle.bpf_code.specs.declared.instruction.Width.TheVariants.{Bits32, Bits64}
use Rattle.bpf_code.specs.declared.instruction.LoadKind.{LoadKind}
use Rattle.bpf_code.specs.declared.instruction.LoadKind.TheVariants.{U8, U16, U32, U64, I8, I16, I32}
use Rattle.bpf_code.specs.Sizes.{load_bytes, width_bits}
use Rattle.bpf_semantics.specs.declared.value.Value.{Value}
use Rattle.bpf_semantics.specs.declared.value.Value.TheVariants.{Nothing, Number, Stack, Args}
use Rattle.bpf_semantics.specs.State.{number}
use Rattle.bpf_semantics.specs.Helpers.{buffer_of}
use Rattle.bpf_semantics.specs.Memory.{and_then, load_value, index_in, stack_index, known_list, known_bytes, stack_with, stack_bytes, args_bytes, memory_bytes, stack_with_store, memory_with_store}
use Rattle.bpf_semantics.specs.Step.{near_place, moved_place, is_move_operation, move_result, place_result, binary_result, operation_result}
use Rattle.bpf_semantics.specs.Fit.{IsPlace, IsValue, IsStackByte}
use Rattle.bpf_semantics.proofs.StepLemmas.{just, bound, some_is}

-- ---- values

pub number_fits : (v : Value) (n : ℕ) → IsValue v → number v ≡ just n → n < 2 ^ 64
number_fits (Number m) n fits e = subst (λ (k : ℕ). k < 2 ^ 64) (some_is m n e) fits
number_fits Nothing n fits e = absurd cc
number_fits (Stack place) n fits e = absurd cc
number_fits (Args place) n fits e = absurd cc

pub alu_fits : (width : Width) (op : Operation) (a b : ℕ) → alu (width_bits width) op a b < 2 ^ 64
alu_fits Bits32 op a b = let below : alu 32 op a b < 2 ^ 32 = alu_below 32 op a b in omega arith
alu_fits Bits64 op a b = alu_below 64 op a b

pub near_fits : (z place : ℤ) → near_place z ≡ just place → IsPlace place
near_fits (pos n) place e =
    elim (nat_le n 65536) as (λ b. nat_le n 65536 ≡ b → cond b (just (pos n)) None ≡ just place → IsPlace place) [
      | true ↦ λ within h. let near : n ≤ 65536 = grind (arith, nat_tests) in subst IsPlace (some_is (pos n) place h) (search (arith, ints, near), search (arith, ints, near))
      | false ↦ λ outside h. absurd cc
    ] refl e
near_fits (negsuc n) place e =
    elim (nat_le (suc n) 65536) as (λ b. nat_le (suc n) 65536 ≡ b → cond b (just (negsuc n)) None ≡ just place → IsPlace place) [
      | true ↦ λ within h. let near : suc n ≤ 65536 = grind (arith, nat_tests) in let far : n ≤ 65535 = omega arith in subst IsPlace (some_is (negsuc n) place h) (search (arith, ints, far), search (arith, ints, far))
      | false ↦ λ outside h. absurd cc
    ] refl e

pub mapped : {X Y : Type 0} (f : X → Y) (o : Option X) (y : Y) → option_map f o ≡ just y → (x : X) × (o ≡ just x) × (f x ≡ y)
mapped f None y e = absurd cc
mapped f (Some x) y e = (x, refl, some_is (f x) y e)

moved_fits : (v : Value) (distance : ℤ) (w : Value) → moved_place v distance ≡ just w → IsValue w
moved_fits (Stack place) distance w e = let m = mapped (λ p. Stack p) (near_place (place +ℤ distance)) w e in subst IsValue m.2 (near_fits (place +ℤ distance) m.0 m.1)
moved_fits (Args place) distance w e = let m = mapped (λ p. Args p) (near_place (place +ℤ distance)) w e in subst IsValue m.2 (near_fits (place +ℤ distance) m.0 m.1)
moved_fits Nothing distance w e = absurd cc
moved_fits (Number n) distance w e = absurd cc

-- where it is a place, it is near
abbrev pub PlaceFits : Value → Type 0
PlaceFits (Stack place) = IsPlace place
PlaceFits (Args place) = IsPlace place
PlaceFits _ = Unit {0}

pub place_part : (v : Value) → IsValue v → PlaceFits v
place_part Nothing fits = tt
place_part (Number n) fits = tt
place_part (Stack place) fits = fits
place_part (Args place) fits = fits

move_fits : (width : Width) (b v : Value) → PlaceFits b → move_result width b ≡ just v → IsValue v
move_fits width (Number b) v fits e = subst IsValue (some_is (Number (alu (width_bits width) (Binary Mov) 0 b)) v e) (alu_fits width (Binary Mov) 0 b)
move_fits Bits64 (Stack place) v fits e = subst IsValue (some_is (Stack place) v e) fits
move_fits Bits64 (Args place) v fits e = subst IsValue (some_is (Args place) v e) fits
move_fits Bits32 (Stack place) v fits e = absurd cc
move_fits Bits32 (Args place) v fits e = absurd cc
move_fits width Nothing v fits e = absurd cc

place_fits : (width : Width) (op : BinaryOperation) (a : Value) (b : ℕ) (v : Value) → place_result width op a b ≡ just v → IsValue v
place_fits Bits32 op a b v e = absurd cc
place_fits Bits64 op a b v e =
    elim op as (λ o. place_result Bits64 o a b ≡ just v → IsValue v) [
      | Add ↦ λ h. moved_fits a (cast_signed w64 b) v h
      | Sub ↦ λ h. moved_fits a (neg_ℤ (cast_signed w64 b)) v h
      | Mul ↦ λ h. absurd cc
      | Div ↦ λ h. absurd cc
      | Sdiv ↦ λ h. absurd cc
      | Or ↦ λ h. absurd cc
      | And ↦ λ h. absurd cc
      | Lsh ↦ λ h. absurd cc
      | Rsh ↦ λ h. absurd cc
      | Mod ↦ λ h. absurd cc
      | Smod ↦ λ h. absurd cc
      | Xor ↦ λ h. absurd cc
      | Mov ↦ λ h. absurd cc
      | Arsh ↦ λ h. absurd cc
    ] e

binary_fits : (width : Width) (op : BinaryOperation) (a b v : Value) → binary_result width op a b ≡ just v → IsValue v
binary_fits width op (Number a) (Number b) v e = subst IsValue (some_is (Number (alu (width_bits width) (Binary op) a b)) v e) (alu_fits width (Binary op) a b)
binary_fits width op Nothing (Number b) v e = place_fits width op Nothing b v e
binary_fits width op (Stack place) (Number b) v e = place_fits width op (Stack place) b v e
binary_fits width op (Args place) (Number b) v e = place_fits width op (Args place) b v e
binary_fits width op Nothing Nothing v e = absurd cc
binary_fits width op (Number a) Nothing v e = absurd cc
binary_fits width op (Stack place) Nothing v e = absurd cc
binary_fits width op (Args place) Nothing v e = absurd cc
binary_fits width op Nothing (Stack q) v e = absurd cc
binary_fits width op (Number a) (Stack q) v e = absurd cc
binary_fits width op (Stack place) (Stack q) v e = absurd cc
binary_fits width op (Args place) (Stack q) v e = absurd cc
binary_fits width op Nothing (Args q) v e = absurd cc
binary_fits width op (Number a) (Args q) v e = absurd cc
binary_fits width op (Stack place) (Args q) v e = absurd cc
binary_fits width op (Args place) (Args q) v e = absurd cc

pub operation_fits : (width : Width) (op : BinaryOperation) (a b v : Value) → PlaceFits b → operation_result width op a b ≡ just v → IsValue v
unfolding operation_result
operation_fits width op a b v fits e =
    elim (is_move_operation op) as (λ m. cond m (move_result width b) (binary_result width op a b) ≡ just v → IsValue v) [
      | true ↦ λ h. move_fits width b v fits h
      | false ↦ λ h. binary_fits width op a b v h
    ] e

-- ---- bytes

byte_in : (xs : List ℕ) (i : ℕ) → All (λ b. b < 256) xs → slice_index xs i < 256
byte_in xs i bytes = elim (cases_lt i (length xs)) [
  | inl within ↦ All-get_or (λ b. b < 256) xs i 0 within bytes
  | inr past ↦ subst (λ (k : ℕ). k < 256) (sym (get_or_past xs i 0 past)) (omega arith)
]

pub little_fits : (n i : ℕ) (xs : List ℕ) → All (λ b. b < 256) xs → little_from i n xs < 256 ^ n
little_fits zero i xs bytes = let one : 256 ^ zero ≡ 1 = refl in omega arith
little_fits (suc n) i xs bytes =
    let rest = little_fits n (suc i) xs bytes in
    let here = byte_in xs i bytes in
    let power : 256 ^ suc n ≡ 256 * 256 ^ n = pow-succ' 256 n in
    omega arith

-- what a load makes of the bytes that it read
pub load_fits : (kind : LoadKind) (bytes : List ℕ) → length bytes ≡ load_bytes kind → All (λ b. b < 256) bytes → load_value kind (little_number (length bytes) bytes) < 2 ^ 64
unfolding alu
load_fits U8 bytes e all = let below = subst (λ (k : ℕ). little_number (length bytes) bytes < 256 ^ k) e (little_fits (length bytes) 0 bytes all) in omega arith
load_fits U16 bytes e all = let below = subst (λ (k : ℕ). little_number (length bytes) bytes < 256 ^ k) e (little_fits (length bytes) 0 bytes all) in omega arith
load_fits U32 bytes e all = let below = subst (λ (k : ℕ). little_number (length bytes) bytes < 256 ^ k) e (little_fits (length bytes) 0 bytes all) in omega arith
load_fits U64 bytes e all = let below = subst (λ (k : ℕ). little_number (length bytes) bytes < 256 ^ k) e (little_fits (length bytes) 0 bytes all) in omega arith
load_fits I8 bytes e all = alu_below 64 (Movsx From8) 0 (little_number (length bytes) bytes)
load_fits I16 bytes e all = alu_below 64 (Movsx From16) 0 (little_number (length bytes) bytes)
load_fits I32 bytes e all = alu_below 64 (Movsx From32) 0 (little_number (length bytes) bytes)

-- so many bytes, each of them one
pub record AreBytes (count : ℕ) (bytes : List ℕ) : Type 0 where
  pub counted : length bytes ≡ count
  pub each : All (λ b. b < 256) bytes

low_byte : (i x : ℕ) → byte_at i x < 256
low_byte zero x = omega arith
low_byte (suc i) x = omega arith

pub low_bytes_are : (n i x : ℕ) → AreBytes n (bytes_low_first i n x)
low_bytes_are zero i x = record { counted = refl; each = All-nil (λ b. b < 256) }
low_bytes_are (suc n) i x =
    let rest = low_bytes_are n (suc i) x in
    let here = low_byte i x in
    record { counted = ap suc rest.counted; each = All-cons (λ b. b < 256) (byte_at i x) (bytes_low_first (suc i) n x) here rest.each }

index_fits : (place : ℤ) (count all k : ℕ) → index_in place count all ≡ just k → k + count ≤ all
index_fits (pos n) count all k e =
    elim (nat_le (n + count) all) as (λ b. nat_le (n + count) all ≡ b → cond b (just n) None ≡ just k → k + count ≤ all) [
      | true ↦ λ within h. let same = some_is n k h in let fits : n + count ≤ all = grind (arith, nat_tests) in omega arith
      | false ↦ λ outside h. absurd cc
    ] refl e
index_fits (negsuc n) count all k e = absurd cc

known_fits : (xs : List (Option ℕ)) (bytes : List ℕ) → All IsStackByte xs → known_list xs ≡ just bytes → AreBytes (length xs) bytes
unfolding known_list
known_fits [] bytes all e = subst (AreBytes 0) (some_is [] bytes e) (record { counted = refl; each = All-nil (λ b. b < 256) })
known_fits (None ∷ xs) bytes all e = absurd cc
known_fits (Some b ∷ xs) bytes all e =
    let m = mapped (λ bs. b ∷ bs) (known_list xs) bytes e in
    let rest = known_fits xs m.0 (All-tail IsStackByte (Some b) xs all) m.1 in
    subst (AreBytes (suc (length xs))) m.2 (record { counted = ap suc rest.counted; each = All-cons (λ b. b < 256) b m.0 (All-head IsStackByte (just b) xs all) rest.each })

-- the stack's bytes from an index on
pub stack_part_fits : (stack : List (Option ℕ)) (k count : ℕ) (bytes : List ℕ) → length stack ≡ 512 → All IsStackByte stack → k + count ≤ 512 → known_bytes stack k count ≡ just bytes → AreBytes count bytes
stack_part_fits stack k count bytes whole all within e =
    let known = known_fits (take count (drop k stack)) bytes (All-take IsStackByte count (drop k stack) (All-drop IsStackByte k stack all)) e in
    let long : length (take count (drop k stack)) ≡ count = length-take-le count (drop k stack) (let l = length-drop k stack in omega arith) in
    record { counted = known.counted ∙ long; each = known.each }

pub memory_fits : (stack : List (Option ℕ)) (args : List ℕ) (v : Value) (offset : ℤ) (count : ℕ) (bytes : List ℕ) → length stack ≡ 512 → All IsStackByte stack → All (λ b. b < 256) args
    → memory_bytes stack args v offset count ≡ just bytes → AreBytes count bytes
unfolding stack_bytes args_bytes
memory_fits stack args (Stack place) offset count bytes whole all fits e =
    let b = bound _ _ bytes e in
    stack_part_fits stack b.0 count bytes whole all (index_fits _ count 512 b.0 b.1) b.2
memory_fits stack args (Args place) offset count bytes whole all fits e =
    let b = bound _ _ bytes e in
    let within = index_fits _ count (length args) b.0 b.1 in
    let long : length (take count (drop b.0 args)) ≡ count = length-take-le count (drop b.0 args) (let l = length-drop b.0 args in omega arith) in
    subst (AreBytes count) (some_is (take count (drop b.0 args)) bytes b.2) (record { counted = long; each = All-take (λ b. b < 256) count (drop b.0 args) (All-drop (λ b. b < 256) b.0 args fits) })
memory_fits stack args Nothing offset count bytes whole all fits e = absurd cc
memory_fits stack args (Number n) offset count bytes whole all fits e = absurd cc

-- a stack of 512 bytes
pub record IsWhole (stack : List (Option ℕ)) : Type 0 where
  pub long : length stack ≡ 512
  pub each : All IsStackByte stack

pub overwrite_fits : (stack : List (Option ℕ)) (k count : ℕ) (bytes : List ℕ) → IsWhole stack → AreBytes count bytes → k + count ≤ 512 → IsWhole (stack_with stack k bytes)
overwrite_fits stack k count bytes whole are within =
    let a = length-append (take k stack ++ map (λ b. just b) bytes) (drop (k + length bytes) stack) in
    let b = length-append (take k stack) (map (λ b. just b) bytes) in
    let c = length-take-le k stack (omega (arith, whole.long)) in
    let d : length (map (λ b. just b) bytes) ≡ length bytes = length-map bytes (λ b. just b) in
    let f = length-drop (k + length bytes) stack in
    let counted = are.counted in
    let long = whole.long in
    record {
      long = omega arith;
      each =
          All-append IsStackByte (take k stack ++ map (λ b. just b) bytes) (drop (k + length bytes) stack)
          (All-append IsStackByte (take k stack) (map (λ b. just b) bytes) (All-take IsStackByte k stack whole.each) (All-map IsStackByte (λ b. just b) bytes are.each))
          (All-drop IsStackByte (k + length bytes) stack whole.each);
    }

pub buffer_within : (v : Value) (width k : ℕ) → buffer_of v width ≡ just k → k + width ≤ 512
buffer_within (Stack place) width k e = index_fits _ width 512 k e
buffer_within Nothing width k e = absurd cc
buffer_within (Number n) width k e = absurd cc
buffer_within (Args place) width k e = absurd cc

pub store_fits : (stack : List (Option ℕ)) (v : Value) (offset : ℤ) (bytes : List ℕ) (new : List (Option ℕ)) → IsWhole stack → AreBytes (length bytes) bytes → memory_with_store stack v offset bytes ≡ just new → IsWhole new
unfolding stack_with_store
store_fits stack (Stack place) offset bytes new whole are e =
    let b = bound _ _ new e in
    subst IsWhole (some_is (stack_with stack b.0 bytes) new b.2) (overwrite_fits stack b.0 (length bytes) bytes whole are (index_fits _ (length bytes) 512 b.0 b.1))
store_fits stack Nothing offset bytes new whole are e = absurd cc
store_fits stack (Number n) offset bytes new whole are e = absurd cc
store_fits stack (Args place) offset bytes new whole are e = absurd cc
