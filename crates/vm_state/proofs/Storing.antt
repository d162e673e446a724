-- Stores by words.
use Rattle.std.proofs.Common.{◌≡◌, ◌≢◌, ℕ, ◌+◌, ◌-◌, ◌^◌, ◌≤◌, ℤ, pos, ◌+ℤ◌, List, [], ◌∷◌, ◌++◌, length, take, drop, map, Option, Some, None, refl, lit≤, length-take, length-drop, length-append, sym, subst, arith, FitsSigned}
use Rattle.std.specs.List.{AllZip}
use Rattle.std.specs.Int.{w16, w64, cast_unsigned}
use Rattle.byteorder.specs.Endian.{little_bytes}
use Rattle.bpf_code.specs.declared.instruction.Register.{Register}
use Rattle.bpf_code.specs.declared.instruction.Size.{Size}
use Rattle.bpf_code.specs.declared.instruction.Size.TheVariants.{Byte, HalfWord, Word, DoubleWord}
use Rattle.bpf_code.specs.declared.instruction.Instruction.TheVariants.{StoreImmediate, StoreRegister}
use Rattle.bpf_code.specs.Sizes.{size_bytes}
use Rattle.schema.specs.Schema.{Tables}
use Rattle.bpf_semantics.specs.declared.value.Value.{Value}
use Rattle.bpf_semantics.specs.declared.value.Value.TheVariants.{Nothing, Number, Stack, Args}
use Rattle.bpf_semantics.specs.Memory.{stack_index, stack_with, stack_with_store, memory_with_store}
use Rattle.bpf_semantics.specs.State.{State, register, number}
use Rattle.bpf_semantics.specs.Helpers.{buffer_of, with_stack}
use Rattle.bpf_semantics.specs.Step.{Moment, Stuck, execute, or_stuck, with_store}
use Rattle.vm_state.specs.Words.{Words, IsWordOf, IsByteOf, IsWordOfPlace, Holds, HoldsNext, CanRun, word}
use Rattle.vm_state.specs.Access.{InStack, offset_address, words_past, with_bytes}
use Rattle.vm_state.proofs.Zip.{zip_take, zip_drop, zip_append}
use Rattle.vm_state.proofs.Holding.{word_holds, past_holds}
use Rattle.vm_state.proofs.Loading.{chained, index_is, address_is, buffer_at}

written_bytes : (bs : List ℕ) → AllZip IsByteOf (map (λ b. Some b) bs) bs
written_bytes [] = tt
written_bytes (b ∷ bs) = (refl, written_bytes bs)

stack_long : (stack bs : List ℕ) (k : ℕ) → length stack ≡ 512 → k + length bs ≤ 512 → length (take k stack ++ bs ++ drop (k + length bs) stack) ≡ 512
stack_long stack bs k all inside = omega (arith, length-append {A = ℕ}, length-take {A = ℕ}, length-drop {A = ℕ})

-- bytes from an index on, which is that of the address
bytes_hold : (s : State) (m : Words) (at k : ℕ) (bs : List ℕ) → Holds s m → at + 512 ≡ 2 ^ 40 + k → k + length bs ≤ 512 → Holds (with_stack (stack_with s.stack k bs) s) (with_bytes m at bs)
bytes_hold s m at k bs h is inside =
    let from : at + 512 - 2 ^ 40 ≡ k = omega arith in
    record {
      slot = h.slot;
      registers = h.registers;
      eleven = h.eleven;
      stack = rw from (zip_append IsByteOf _ _ _ _
          (zip_append IsByteOf _ _ _ _ (zip_take IsByteOf k _ _ h.stack) (written_bytes bs))
          (zip_drop IsByteOf (k + length bs) _ _ h.stack));
      bytes = rw from (stack_long m.stack bs k h.bytes inside);
      args = h.args;
    }

pub buffer_holds : (s : State) (m : Words) (v : Value) (w k : ℕ) (bs : List ℕ) → Holds s m → IsWordOf v w → buffer_of v (length bs) ≡ Some k → Holds (with_stack (stack_with s.stack k bs) s) (with_bytes m w bs)
buffer_holds s m v w k bs h is e =
    let b = buffer_at v w (length bs) k is e in
    bytes_hold s m w k bs h b.at b.inside

-- ---- stores

-- a store may be made, and then the state with it is held
record StoresBytes (s : State) (m : Words) (at : ℕ) (bs : List ℕ) (stack : List (Option ℕ)) : Type 0 where
  can : InStack at (length bs)
  held : Holds (with_stack stack s) (with_bytes m at bs)

stack_stores : (s : State) (m : Words) (place offset : ℤ) (w : ℕ) (bs : List ℕ) (stack : List (Option ℕ)) → FitsSigned w16 offset → Holds s m → IsWordOfPlace (2 ^ 40) place w → stack_with_store s.stack (place +ℤ offset) bs ≡ Some stack → StoresBytes s m (offset_address w offset) bs stack
unfolding stack_with_store
stack_stores s m place offset w bs stack fits h is e =
    let (k, at, known) = chained (stack_index (place +ℤ offset) (length bs)) (λ k. Some (stack_with s.stack k bs)) stack e in
    let (zk, inside) = index_is (place +ℤ offset +ℤ pos 512) (length bs) 512 k at in
    let a = address_is (2 ^ 40) w k place offset fits (lit≤ tt) (lit≤ tt) is zk in
    let same : stack_with s.stack k bs ≡ stack = cc in
    record {
      can = record { low = omega arith; high = omega arith };
      held = subst (λ (x : List (Option ℕ)). Holds (with_stack x s) (with_bytes m (offset_address w offset) bs)) same (bytes_hold s m (offset_address w offset) k bs h a inside);
    }

memory_stores : (s : State) (m : Words) (v : Value) (offset : ℤ) (w : ℕ) (bs : List ℕ) (stack : List (Option ℕ)) → FitsSigned w16 offset → Holds s m → IsWordOf v w → memory_with_store s.stack v offset bs ≡ Some stack → StoresBytes s m (offset_address w offset) bs stack
memory_stores s m (Stack place) offset w bs stack fits h is e = stack_stores s m place offset w bs stack fits h is e
memory_stores s m Nothing offset w bs stack fits h is e = absurd cc
memory_stores s m (Number _) offset w bs stack fits h is e = absurd cc
memory_stores s m (Args _) offset w bs stack fits h is e = absurd cc

-- what comes of a store
record Stores (next : Moment) (m : Words) (at : ℕ) (bs : List ℕ) : Type 0 where
  can : next ≢ Stuck → InStack at (length bs)
  held : HoldsNext next (words_past 1 (with_bytes m at bs))

bytes_store : (s : State) (m : Words) (v : Value) (offset : ℤ) (w : ℕ) (bs : List ℕ) → FitsSigned w16 offset → Holds s m → IsWordOf v w → Stores (with_store (memory_with_store s.stack v offset bs) s) m (offset_address w offset) bs
unfolding or_stuck
bytes_store s m v offset w bs fits h is =
    elim (memory_with_store s.stack v offset bs) as (λ o. memory_with_store s.stack v offset bs ≡ o → Stores (with_store o s) m (offset_address w offset) bs) [
      | None ↦ λ e. record { can = λ runs. absurd (runs refl); held = tt }
      | Some stack ↦ λ e.
          let st = memory_stores s m v offset w bs stack fits h is e in
          record { can = λ _. st.can; held = past_holds _ _ 1 st.held }
    ] refl

number_stores : (s : State) (m : Words) (a v : Value) (offset : ℤ) (w n count : ℕ) → FitsSigned w16 offset → Holds s m → IsWordOf a w → IsWordOf v n → Stores (or_stuck (number v) (λ n. with_store (memory_with_store s.stack a offset (little_bytes count n)) s)) m (offset_address w offset) (little_bytes count n)
unfolding or_stuck
number_stores s m a Nothing offset w n count fits h is num = record { can = λ runs. absurd (runs refl); held = tt }
number_stores s m a (Stack _) offset w n count fits h is num = record { can = λ runs. absurd (runs refl); held = tt }
number_stores s m a (Args _) offset w n count fits h is num = record { can = λ runs. absurd (runs refl); held = tt }
number_stores s m a (Number k) offset w n count fits h is num =
    subst (λ (j : ℕ). Stores (with_store (memory_with_store s.stack a offset (little_bytes count k)) s) m (offset_address w offset) (little_bytes count j)) (sym num)
    (bytes_store s m a offset w (little_bytes count k) fits h is)

immediate_stores : (tables : Tables) (s : State) (m : Words) (size : Size) (dst : Register) (offset immediate : ℤ) → FitsSigned w16 offset → Holds s m → Stores (execute tables (StoreImmediate size dst offset immediate) s) m (offset_address (word m dst) offset) (little_bytes (size_bytes size) (cast_unsigned w64 immediate))
unfolding execute
immediate_stores tables s m size dst offset immediate fits h = bytes_store s m (register s dst) offset (word m dst) (little_bytes (size_bytes size) (cast_unsigned w64 immediate)) fits h (word_holds s m dst h)

register_stores : (tables : Tables) (s : State) (m : Words) (size : Size) (dst src : Register) (offset : ℤ) → FitsSigned w16 offset → Holds s m → Stores (execute tables (StoreRegister size dst src offset) s) m (offset_address (word m dst) offset) (little_bytes (size_bytes size) (word m src))
unfolding execute
register_stores tables s m size dst src offset fits h = number_stores s m (register s dst) (register s src) offset (word m dst) (word m src) (size_bytes size) fits h (word_holds s m dst h) (word_holds s m src h)

little_long : (size : Size) (n at : ℕ) → InStack at (length (little_bytes (size_bytes size) n)) → InStack at (size_bytes size)
little_long Byte n at inside = inside
little_long HalfWord n at inside = inside
little_long Word n at inside = inside
little_long DoubleWord n at inside = inside

pub can_store_immediate : (size : Size) (dst : Register) (offset immediate : ℤ) (m : Words) → FitsSigned w16 offset → CanRun (StoreImmediate size dst offset immediate) m → InStack (offset_address (word m dst) offset) (size_bytes size)
can_store_immediate size dst offset immediate m fits (tables, s, h, runs) = little_long size _ _ ((immediate_stores tables s m size dst offset immediate fits h).can runs)

pub can_store_register : (size : Size) (dst src : Register) (offset : ℤ) (m : Words) → FitsSigned w16 offset → CanRun (StoreRegister size dst src offset) m → InStack (offset_address (word m dst) offset) (size_bytes size)
can_store_register size dst src offset m fits (tables, s, h, runs) = little_long size _ _ ((register_stores tables s m size dst src offset fits h).can runs)

pub store_immediate_holds : (tables : Tables) (s : State) (m : Words) (size : Size) (dst : Register) (offset immediate : ℤ) → FitsSigned w16 offset → Holds s m → HoldsNext (execute tables (StoreImmediate size dst offset immediate) s) (words_past 1 (with_bytes m (offset_address (word m dst) offset) (little_bytes (size_bytes size) (cast_unsigned w64 immediate))))
store_immediate_holds tables s m size dst offset immediate fits h = (immediate_stores tables s m size dst offset immediate fits h).held

pub store_register_holds : (tables : Tables) (s : State) (m : Words) (size : Size) (dst src : Register) (offset : ℤ) → FitsSigned w16 offset → Holds s m → HoldsNext (execute tables (StoreRegister size dst src offset) s) (words_past 1 (with_bytes m (offset_address (word m dst) offset) (little_bytes (size_bytes size) (word m src))))
store_register_holds tables s m size dst src offset fits h = (register_stores tables s m size dst src offset fits h).held
