-- Loads by words.
use Rattle.std.proofs.Common.{◌≡◌, ◌≢◌, ℕ, ◌+◌, ◌-◌, ◌^◌, ◌<◌, ◌≤◌, ℤ, pos, negsuc, ◌+ℤ◌, nat_le, nat_lt, true, false, List, [], ◌∷◌, length, take, drop, Option, Some, None, refl, lit<, lit≤, length-take, length-drop, sym, ◌∙◌, ap, subst, arith, if◌then◌else◌, FitsSigned}
use Rattle.std.proofs.lemmas.Bool.Decides.{nat_tests}
use Rattle.std.proofs.lemmas.Int.{ints}
use Rattle.std.specs.List.{AllZip}
use Rattle.std.specs.Int.{w16}
use Rattle.byteorder.specs.Endian.{little_number}
use Rattle.bpf_code.specs.declared.instruction.Register.{Register}
use Rattle.bpf_code.specs.declared.instruction.LoadKind.{LoadKind}
use Rattle.bpf_code.specs.declared.instruction.LoadKind.TheVariants.{U8, U16, U32, U64, I8, I16, I32}
use Rattle.bpf_code.specs.declared.instruction.Instruction.TheVariants.{Load}
use Rattle.bpf_code.specs.Sizes.{load_bytes}
use Rattle.schema.specs.Schema.{Tables}
use Rattle.bpf_semantics.specs.declared.value.Value.{Value}
use Rattle.bpf_semantics.specs.declared.value.Value.TheVariants.{Nothing, Number, Stack, Args}
use Rattle.bpf_semantics.specs.State.{State, register}
use Rattle.bpf_semantics.specs.Memory.{and_then, load_value, index_in, stack_index, known_list, known_bytes, stack_bytes, args_bytes, memory_bytes}
use Rattle.bpf_semantics.specs.Helpers.{buffer_of}
use Rattle.bpf_semantics.specs.Step.{Stuck, execute, or_stuck, with_result}
use Rattle.vm_state.specs.Words.{Words, IsWordOf, IsByteOf, IsWordOfPlace, Holds, HoldsNext, CanRun, word}
use Rattle.vm_state.specs.Access.{InStack, CanLoad, stack_from, bytes_from, offset_address, words_past, with_word}
use Rattle.vm_state.proofs.Zip.{zip_take, zip_drop}
use Rattle.vm_state.proofs.Places.{mapped}
use Rattle.vm_state.proofs.Holding.{word_holds, result_holds}

pub chained : {X Y : Type 0} (o : Option X) (f : X → Option Y) (y : Y) → and_then o f ≡ Some y → (x : X) × (o ≡ Some x) × (f x ≡ Some y)
unfolding and_then
chained None f y e = absurd cc
chained (Some x) f y e = (x, refl, e)

-- known bytes are those of the words
known_are : (xs : List (Option ℕ)) (ys bs : List ℕ) → AllZip IsByteOf xs ys → known_list xs ≡ Some bs → bs ≡ ys
unfolding known_list
known_are [] [] bs h e = cc
known_are [] (y ∷ ys) bs h e = absurd h
known_are (x ∷ xs) [] bs h e = absurd h
known_are (None ∷ xs) (y ∷ ys) bs h e = absurd cc
known_are (Some x ∷ xs) (y ∷ ys) bs h e =
    let (rest, is, same) = mapped (λ bs. x ∷ bs) (known_list xs) bs e in
    let k = known_are xs ys rest h.1 is in
    same ∙ ap (λ l. x ∷ l) k ∙ ap (λ b. b ∷ ys) (sym h.0)

stack_known : (s : State) (m : Words) (k n : ℕ) (bs : List ℕ) → Holds s m → known_bytes s.stack k n ≡ Some bs → bs ≡ take n (drop k m.stack)
stack_known s m k n bs h known = known_are (take n (drop k s.stack)) (take n (drop k m.stack)) bs (zip_take IsByteOf n _ _ (zip_drop IsByteOf k _ _ h.stack)) known

pub index_is : (z : ℤ) (n all k : ℕ) → index_in z n all ≡ Some k → (z ≡ pos k) × (k + n ≤ all)
index_is (negsuc z) n all k e = absurd cc
index_is (pos z) n all k e = elim (nat_le (z + n) all) as (λ t. nat_le (z + n) all ≡ t → (if t then Some z else None) ≡ Some k → (pos z ≡ pos k) × (k + n ≤ all)) [
  | true ↦ λ t e. let s : z ≡ k = cc in (ap (λ m. pos m) s, subst (λ (m : ℕ). m + n ≤ all) s (grind (arith, nat_tests)))
  | false ↦ λ t e. absurd cc
] refl e

-- an address with its offset
pub address_is : (base w k : ℕ) (place offset : ℤ) → FitsSigned w16 offset → 2 ^ 40 ≤ base → base ≤ 2 ^ 41 → IsWordOfPlace base place w → place +ℤ offset +ℤ pos 512 ≡ pos k → offset_address w offset + 512 ≡ base + k
address_is base w k place (pos o) fits low high is e = omega (arith, ints, is.near, is.word)
address_is base w k place (negsuc o) fits low high is e = omega (arith, ints, is.near, is.word)

-- ---- buffers

-- where a buffer begins, by its word
pub record BufferAt (w width buffer : ℕ) : Type 0 where
  pub at : w + 512 ≡ 2 ^ 40 + buffer
  pub inside : buffer + width ≤ 512

pub buffer_at : (v : Value) (w width buffer : ℕ) → IsWordOf v w → buffer_of v width ≡ Some buffer → BufferAt w width buffer
buffer_at Nothing w width buffer is e = absurd cc
buffer_at (Number _) w width buffer is e = absurd cc
buffer_at (Args _) w width buffer is e = absurd cc
buffer_at (Stack place) w width buffer is e =
    let (z, inside) = index_is (place +ℤ pos 512) width 512 buffer e in
    record { at = omega (arith, ints, is.near, is.word, z); inside = inside }

buffer_found : (v : Value) (w width : ℕ) (o : Option ℕ) → buffer_of v width ≡ o → IsWordOf v w → o ≢ None → InStack w width
buffer_found v w width None e is some = absurd (some refl)
buffer_found v w width (Some k) e is some =
    let b = buffer_at v w width k is e in
    record { low = omega (arith, b.at); high = omega (arith, b.at, b.inside) }

pub buffer_inside : (v : Value) (w width : ℕ) → IsWordOf v w → buffer_of v width ≢ None → InStack w width
buffer_inside v w width is some = buffer_found v w width (buffer_of v width) refl is some

pub buffer_known : (s : State) (m : Words) (v : Value) (w width k : ℕ) (bs : List ℕ) → Holds s m → IsWordOf v w → buffer_of v width ≡ Some k → known_bytes s.stack k width ≡ Some bs → take width (stack_from m w) ≡ bs
buffer_known s m v w width k bs h is at known =
    let b = buffer_at v w width k is at in
    let from : w + 512 - 2 ^ 40 ≡ k = omega (arith, b.at) in
    ap (λ i. take width (drop i m.stack)) from ∙ sym (stack_known s m k width bs h known)

-- ---- loads

-- the bytes are those at the address, which may be read
record LoadsBytes (m : Words) (at n : ℕ) (bs : List ℕ) : Type 0 where
  can : CanLoad m at n
  long : length bs ≡ n
  bytes : bs ≡ take n (bytes_from m at)

pub in_stack : (m : Words) (at : ℕ) → at < 2 ^ 40 → bytes_from m at ≡ drop (at + 512 - 2 ^ 40) m.stack
in_stack m at h = let t : nat_lt at (2 ^ 40) ≡ true = grind (arith, nat_tests) in rw t

pub in_args : (m : Words) (at : ℕ) → 2 ^ 40 ≤ at → bytes_from m at ≡ drop (at - 2 ^ 41) m.args
in_args m at h = let t : nat_lt at (2 ^ 40) ≡ false = grind (arith, nat_tests) in rw t

stack_loads : (s : State) (m : Words) (place offset : ℤ) (w n : ℕ) (bs : List ℕ) → FitsSigned w16 offset → 0 < n → Holds s m → IsWordOfPlace (2 ^ 40) place w → stack_bytes s.stack (place +ℤ offset) n ≡ Some bs → LoadsBytes m (offset_address w offset) n bs
unfolding stack_bytes
stack_loads s m place offset w n bs fits some h is e =
    let (k, at, known) = chained (stack_index (place +ℤ offset) n) (λ k. known_bytes s.stack k n) bs e in
    let (zk, inside) = index_is (place +ℤ offset +ℤ pos 512) n 512 k at in
    let a = address_is (2 ^ 40) w k place offset fits (lit≤ tt) (lit≤ tt) is zk in
    let same = stack_known s m k n bs h known in
    let below : offset_address w offset < 2 ^ 40 = omega arith in
    let from : offset_address w offset + 512 - 2 ^ 40 ≡ k = omega arith in
    record {
      can = record { stack = λ _. record { low = omega arith; high = omega arith }; args = λ above. absurd (omega arith) };
      long = rw same (omega (arith, length-take {A = ℕ}, length-drop {A = ℕ}, h.bytes));
      bytes = same ∙ ap (λ i. take n (drop i m.stack)) (sym from) ∙ ap (take n) (sym (in_stack m (offset_address w offset) below));
    }

args_loads : (s : State) (m : Words) (place offset : ℤ) (w n : ℕ) (bs : List ℕ) → FitsSigned w16 offset → 0 < n → Holds s m → IsWordOfPlace (2 ^ 41) place w → args_bytes s.args (place +ℤ offset) n ≡ Some bs → LoadsBytes m (offset_address w offset) n bs
unfolding args_bytes
args_loads s m place offset w n bs fits some h is e =
    let (k, at, known) = chained (index_in (place +ℤ offset) n (length s.args)) (λ k. Some (take n (drop k s.args))) bs e in
    let (zk, inside) = index_is (place +ℤ offset) n (length s.args) k at in
    let a = address_is (2 ^ 41) w (k + 512) place offset fits (lit≤ tt) (lit≤ tt) is (ap (λ z. z +ℤ pos 512) zk) in
    let same : bs ≡ take n (drop k m.args) = rw (h.args) (let s : take n (drop k s.args) ≡ bs = cc in sym s) in
    let above : 2 ^ 40 ≤ offset_address w offset = omega arith in
    let from : offset_address w offset - 2 ^ 41 ≡ k = omega arith in
    let all : length m.args ≡ length s.args = ap length h.args in
    record {
      can = record { stack = λ below. absurd (omega arith); args = λ _. record { low = omega arith; high = omega arith } };
      long = rw same (omega (arith, length-take {A = ℕ}, length-drop {A = ℕ}));
      bytes = same ∙ ap (λ i. take n (drop i m.args)) (sym from) ∙ ap (take n) (sym (in_args m (offset_address w offset) above));
    }

memory_loads : (s : State) (m : Words) (v : Value) (offset : ℤ) (w n : ℕ) (bs : List ℕ) → FitsSigned w16 offset → 0 < n → Holds s m → IsWordOf v w → memory_bytes s.stack s.args v offset n ≡ Some bs → LoadsBytes m (offset_address w offset) n bs
memory_loads s m Nothing offset w n bs fits some h is e = absurd cc
memory_loads s m (Number _) offset w n bs fits some h is e = absurd cc
memory_loads s m (Stack place) offset w n bs fits some h is e = stack_loads s m place offset w n bs fits some h is e
memory_loads s m (Args place) offset w n bs fits some h is e = args_loads s m place offset w n bs fits some h is e

pub some_bytes : (kind : LoadKind) → 0 < load_bytes kind
some_bytes U8 = lit< tt
some_bytes U16 = lit< tt
some_bytes U32 = lit< tt
some_bytes U64 = lit< tt
some_bytes I8 = lit< tt
some_bytes I16 = lit< tt
some_bytes I32 = lit< tt

pub can_load : (kind : LoadKind) (dst src : Register) (offset : ℤ) (m : Words) → FitsSigned w16 offset → CanRun (Load kind dst src offset) m → CanLoad m (offset_address (word m src) offset) (load_bytes kind)
unfolding execute or_stuck
can_load kind dst src offset m fits (tables, s, h, runs) =
    elim (memory_bytes s.stack s.args (register s src) offset (load_bytes kind)) as (λ o. memory_bytes s.stack s.args (register s src) offset (load_bytes kind) ≡ o → (or_stuck o (λ bytes. with_result 1 dst (Number (load_value kind (little_number (length bytes) bytes))) s) ≢ Stuck) → CanLoad m (offset_address (word m src) offset) (load_bytes kind)) [
      | None ↦ λ e runs. absurd (runs refl)
      | Some bs ↦ λ e runs. (memory_loads s m (register s src) offset (word m src) (load_bytes kind) bs fits (some_bytes kind) h (word_holds s m src h) e).can
    ] refl runs

bytes_long : (m : Words) (at n : ℕ) → length m.stack ≡ 512 → CanLoad m at n → length (take n (bytes_from m at)) ≡ n
bytes_long m at n long can = elim (nat_lt at (2 ^ 40)) as (λ t. nat_lt at (2 ^ 40) ≡ t → length (take n (bytes_from m at)) ≡ n) [
  | true ↦ λ t.
      let below : at < 2 ^ 40 = grind (arith, nat_tests) in
      let inside = can.stack below in
      rw (in_stack m at below) (omega (arith, inside.low, inside.high, length-take {A = ℕ}, length-drop {A = ℕ}))
  | false ↦ λ t.
      let above : 2 ^ 40 ≤ at = grind (arith, nat_tests) in
      let inside = can.args above in
      rw (in_args m at above) (omega (arith, inside.low, inside.high, length-take {A = ℕ}, length-drop {A = ℕ}))
] refl

-- so many bytes are there
pub load_long : (kind : LoadKind) (dst src : Register) (offset : ℤ) (m : Words) → FitsSigned w16 offset → CanRun (Load kind dst src offset) m → length (take (load_bytes kind) (bytes_from m (offset_address (word m src) offset))) ≡ load_bytes kind
load_long kind dst src offset m fits can =
    let (tables, s, h, runs) = can in
    bytes_long m (offset_address (word m src) offset) (load_bytes kind) h.bytes (can_load kind dst src offset m fits can)

pub load_holds : (tables : Tables) (s : State) (m : Words) (kind : LoadKind) (dst src : Register) (offset : ℤ) (bytes : List ℕ) → FitsSigned w16 offset → bytes ≡ take (load_bytes kind) (bytes_from m (offset_address (word m src) offset)) → Holds s m → HoldsNext (execute tables (Load kind dst src offset) s) (words_past 1 (with_word m dst (load_value kind (little_number (length bytes) bytes))))
unfolding execute or_stuck
load_holds tables s m kind dst src offset bytes fits is h =
    elim (memory_bytes s.stack s.args (register s src) offset (load_bytes kind)) as (λ o. memory_bytes s.stack s.args (register s src) offset (load_bytes kind) ≡ o → HoldsNext (or_stuck o (λ bytes. with_result 1 dst (Number (load_value kind (little_number (length bytes) bytes))) s)) (words_past 1 (with_word m dst (load_value kind (little_number (length bytes) bytes))))) [
      | None ↦ λ e. tt
      | Some bs ↦ λ e.
          let l = memory_loads s m (register s src) offset (word m src) (load_bytes kind) bs fits (some_bytes kind) h (word_holds s m src h) e in
          result_holds s m 1 dst (Number (load_value kind (little_number (length bs) bs))) _ h (ap (λ l. load_value kind (little_number (length l) l)) (is ∙ sym l.bytes))
    ] refl
