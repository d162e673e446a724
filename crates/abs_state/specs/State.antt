-- What is known of a program's state before an instruction, whichever way a run came there.
use Rattle.std.specs.Prelude.{ℕ, ◌+◌, take, drop, pos, Bool, true, false, ◌&&◌, List, [], ◌∷◌, ◌++◌, replicate, slice_index_or, slice_set}
use Rattle.std.specs.List.{fold}
use Rattle.std.specs.Int.{int_min, int_max}
use Rattle.bpf_code.specs.declared.instruction.Register.{Register}
use Rattle.bpf_code.specs.declared.instruction.Register.TheVariants.{R0, R1, R2, R3, R4, R5}
use Rattle.bpf_code.specs.Register.{number_of}
use Rattle.interval.specs.Range.{Bounds, join}
use Rattle.abs_state.specs.declared.kind.Kind.{Kind}
use Rattle.abs_state.specs.declared.kind.Kind.TheVariants.{Nothing, Number, Stack, Args}
use Rattle.abs_state.specs.declared.state.AbsState.{AbsState}

-- the join of what is known of a value: the least range round both, or nothing
abbrev pub kind_join : Kind → Kind → Kind
kind_join (Number a) (Number b) = Number (join a b)
kind_join (Stack a_lo a_hi) (Stack b_lo b_hi) = Stack (int_min a_lo b_lo) (int_max a_hi b_hi)
kind_join (Args a_lo a_hi) (Args b_lo b_hi) = Args (int_min a_lo b_lo) (int_max a_hi b_hi)
kind_join _ _ = Nothing

-- two lists, element by element
unfoldable pub zip_with : {A B C : Type 0} → (A → B → C) → List A → List B → List C
zip_with f [] ys = []
zip_with f (x ∷ xs) [] = []
zip_with f (x ∷ xs) (y ∷ ys) = f x y ∷ zip_with f xs ys

abbrev pub in_both : Bool → Bool → Bool
in_both a b = a && b

-- the join of states: each register's, and a byte of the stack is initialised where it is in both
unfoldable pub state_join : AbsState → AbsState → AbsState
state_join s t = record { kinds = zip_with kind_join s.kinds t.kinds; initialised = zip_with in_both s.initialised t.initialised }

-- at entry r1 is at the arguments, r10 at the stack's end, and no byte of the stack is initialised
abbrev pub abs_entry : AbsState
abs_entry = record {
  kinds = Nothing ∷ Args (pos 0) (pos 0) ∷ (replicate 8 Nothing ++ Stack (pos 0) (pos 0) ∷ []);
  initialised = replicate 512 false;
}

abbrev pub kind_of : AbsState → Register → Kind
kind_of s r = slice_index_or s.kinds (number_of r) Nothing

abbrev pub with_kind : AbsState → Register → Kind → AbsState
with_kind s r k = record s { kinds = slice_set s.kinds (number_of r) k }

-- so many bytes of the stack from an index on, which are initialised
abbrev pub with_initialised : AbsState → ℕ → ℕ → AbsState
with_initialised s from count = record s { initialised = take from s.initialised ++ replicate count true ++ drop (from + count) s.initialised }

-- after a call r0 has a number of the answer's range, and r1 to r5 hold nothing
abbrev pub with_known_answer : Bounds → AbsState → AbsState
with_known_answer answer s = with_kind (fold (λ known r. with_kind known r Nothing) s (R1 ∷ R2 ∷ R3 ∷ R4 ∷ R5 ∷ [])) R0 (Number answer)
