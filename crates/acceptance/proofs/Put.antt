-- What is known stays true where a register is written, and where only more is learnt.
use Rattle.std.proofs.Common.{◌≡◌, ℕ, ◌<◌, List, length, get_or, set, ap, ◌∙◌, inl, inr, arith}
use Rattle.std.proofs.lemmas.Bool.{cases_eq}
use Rattle.std.proofs.lemmas.List.{get_or-set_same, get_or-set_other, length-set}
use Rattle.bpf_code.specs.declared.instruction.Register.{Register}
use Rattle.bpf_code.specs.declared.instruction.Register.TheVariants.{R0, R1, R2, R3, R4, R5, R6, R7, R8, R9, R10}
use Rattle.bpf_code.specs.Register.{number_of}
use Rattle.bpf_semantics.specs.declared.value.Value.{Value}
use Rattle.bpf_semantics.specs.declared.value.Value.TheVariants as value
use Rattle.bpf_semantics.specs.State.{State, register, with_register, past}
use Rattle.abs_state.specs.declared.kind.Kind.{Kind}
use Rattle.abs_state.specs.declared.kind.Kind.TheVariants.{Nothing}
use Rattle.abs_state.specs.declared.state.AbsState.{AbsState}
use Rattle.abs_state.specs.State.{with_kind}
use Rattle.acceptance.specs.Description.{Describes, IsAbsState, IsKind, IsOf}

pub register_below : (r : Register) → number_of r < 11
register_below R0 = omega arith
register_below R1 = omega arith
register_below R2 = omega arith
register_below R3 = omega arith
register_below R4 = omega arith
register_below R5 = omega arith
register_below R6 = omega arith
register_below R7 = omega arith
register_below R8 = omega arith
register_below R9 = omega arith
register_below R10 = omega arith

-- a kind and a value that it has, written at one index of both lists
pub of_set : (kinds : List Kind) (values : List Value) (n m : ℕ) (k : Kind) (v : Value) → n < length kinds → n < length values → IsOf k v
    → IsOf (get_or kinds m Nothing) (get_or values m value.Nothing) → IsOf (get_or (set kinds n k) m Nothing) (get_or (set values n v) m value.Nothing)
of_set kinds values n m k v p q new old = elim (cases_eq m n) [
  | inl e ↦
      let a : get_or (set kinds n k) m Nothing ≡ k = ap (λ (i : ℕ). get_or (set kinds n k) i Nothing) e ∙ get_or-set_same kinds n k Nothing p in
      let b : get_or (set values n v) m value.Nothing ≡ v = ap (λ (i : ℕ). get_or (set values n v) i value.Nothing) e ∙ get_or-set_same values n v value.Nothing q in
      rw (a, b) new
  | inr e ↦ rw (get_or-set_other kinds n m k Nothing e, get_or-set_other values n m v value.Nothing e) old
]

-- a value of a kind is written
pub put_described : (args_len slots : ℕ) (known : AbsState) (s : State) (dst : Register) (k : Kind) (v : Value)
    → length known.kinds ≡ 11 → length s.registers ≡ 11 → Describes args_len known s → IsOf k v
    → Describes args_len (with_kind known dst k) (past slots (with_register s dst v))
put_described args_len slots known s dst k v kinds values d new =
    let below = register_below dst in
    record {
      registers = λ r. of_set known.kinds s.registers (number_of dst) (number_of r) k v (omega arith) (omega arith) new (d.registers r);
      stack = d.stack;
      args = d.args;
    }

-- no register is written
pub past_described : (args_len slots : ℕ) (known : AbsState) (s : State) → Describes args_len known s → Describes args_len known (past slots s)
past_described args_len slots known s d = record { registers = d.registers; stack = d.stack; args = d.args }

of_refined : (kinds : List Kind) (n m : ℕ) (k : Kind) (v w : Value) → n < length kinds → IsOf k v → (m ≡ n → w ≡ v) → IsOf (get_or kinds m Nothing) w
    → IsOf (get_or (set kinds n k) m Nothing) w
of_refined kinds n m k v w p new same old = elim (cases_eq m n) [
  | inl e ↦
      let a : get_or (set kinds n k) m Nothing ≡ k = ap (λ (i : ℕ). get_or (set kinds n k) i Nothing) e ∙ get_or-set_same kinds n k Nothing p in
      rw (a, same e) new
  | inr e ↦ rw (get_or-set_other kinds n m k Nothing e) old
]

-- more is known of a register
pub refined_described : (args_len : ℕ) (known : AbsState) (s : State) (dst : Register) (k : Kind)
    → length known.kinds ≡ 11 → Describes args_len known s → IsOf k (register s dst) → Describes args_len (with_kind known dst k) s
refined_described args_len known s dst k kinds d new =
    let below = register_below dst in
    record {
      registers = λ r. of_refined known.kinds (number_of dst) (number_of r) k (register s dst) (register s r) (omega arith) new
          (λ e. ap (λ (i : ℕ). get_or s.registers i value.Nothing) e) (d.registers r);
      stack = d.stack;
      args = d.args;
    }

-- what is known after it may be known
kind_set : (kinds : List Kind) (n m : ℕ) (k : Kind) → n < length kinds → IsKind k → IsKind (get_or kinds m Nothing) → IsKind (get_or (set kinds n k) m Nothing)
kind_set kinds n m k p new old = elim (cases_eq m n) [
  | inl e ↦ rw (ap (λ (i : ℕ). get_or (set kinds n k) i Nothing) e ∙ get_or-set_same kinds n k Nothing p) new
  | inr e ↦ rw (get_or-set_other kinds n m k Nothing e) old
]

pub put_known : (known : AbsState) (dst : Register) (k : Kind) → IsAbsState known → IsKind k → IsAbsState (with_kind known dst k)
put_known known dst k a new =
    let below = register_below dst in
    let long = a.registers in
    record {
      registers = length-set known.kinds (number_of dst) k ∙ long;
      kinds = λ r. kind_set known.kinds (number_of dst) (number_of r) k (omega arith) new (a.kinds r);
      stack = a.stack;
    }
