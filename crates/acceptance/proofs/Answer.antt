-- What is known of a state after a helper's answer, look and write.
use Rattle.std.proofs.Common.{◌≡◌, ℕ, ◌+◌, ◌≤◌, Bool, true, false, cond, List, [], ◌∷◌, ◌++◌, length, get_or, set, drop, replicate, Option, Some, refl, sym, subst, arith}
use Rattle.std.specs.Prelude.{is_some, nat_le}
use Rattle.std.specs.FinMap.{get}
use Rattle.std.proofs.lemmas.List.{get_or-drop}
use Rattle.bpf_code.specs.Register.{number_of}
use Rattle.bpf_code.specs.declared.instruction.Register.{Register}
use Rattle.bpf_code.specs.declared.instruction.Register.TheVariants.{R0, R1, R2, R3, R4, R5, R6, R7, R8, R9, R10}
use Rattle.bpf_semantics.specs.declared.value.Value.{Value}
use Rattle.bpf_semantics.specs.declared.value.Value.TheVariants as value
use Rattle.bpf_semantics.specs.State.{State}
use Rattle.bpf_semantics.specs.Helpers.{with_answer, with_look, look_at, with_point_look, with_range_look, with_row_write}
use Rattle.interval.specs.Range.{Bounds, IsWithin}
use Rattle.abs_state.specs.declared.kind.Kind.{Kind}
use Rattle.abs_state.specs.declared.kind.Kind.TheVariants.{Nothing, Number}
use Rattle.abs_state.specs.declared.state.AbsState.{AbsState}
use Rattle.abs_state.specs.State.{with_known_answer}
use Rattle.acceptance.specs.Description.{Describes, IsOf}

-- ---- the answer

abbrev pub kinds_after : Bounds → List Kind → List Kind
kinds_after b kinds = set (set (set (set (set (set kinds 1 Nothing) 2 Nothing) 3 Nothing) 4 Nothing) 5 Nothing) 0 (Number b)

abbrev values_after : ℕ → List Value → List Value
values_after n values = value.Number n ∷ (replicate 5 value.Nothing ++ drop 6 values)

-- a list of six elements and more
record SixOf (kinds : List Kind) : Type 0 where
  k0 : Kind
  k1 : Kind
  k2 : Kind
  k3 : Kind
  k4 : Kind
  k5 : Kind
  rest : List Kind
  is : kinds ≡ k0 ∷ k1 ∷ k2 ∷ k3 ∷ k4 ∷ k5 ∷ rest

six_of : (kinds : List Kind) → 6 ≤ length kinds → SixOf kinds
six_of [] h = absurd (omega arith)
six_of (a ∷ []) h = absurd (omega arith)
six_of (a ∷ b ∷ []) h = absurd (omega arith)
six_of (a ∷ b ∷ c ∷ []) h = absurd (omega arith)
six_of (a ∷ b ∷ c ∷ d ∷ []) h = absurd (omega arith)
six_of (a ∷ b ∷ c ∷ d ∷ e ∷ []) h = absurd (omega arith)
six_of (a ∷ b ∷ c ∷ d ∷ e ∷ f ∷ rest) h = record { k0 = a; k1 = b; k2 = c; k3 = d; k4 = e; k5 = f; rest = rest; is = refl }

abbrev AreOf : List Kind → List Value → Type 0
AreOf kinds values = (r : Register) → IsOf (get_or kinds (number_of r) Nothing) (get_or values (number_of r) value.Nothing)

-- a register that keeps its value
keeps : (k : Kind) (values : List Value) (m : ℕ) → IsOf k (get_or values (6 + m) value.Nothing) → IsOf k (get_or (drop 6 values) m value.Nothing)
keeps k values m is = subst (IsOf k) (sym (get_or-drop 6 values m value.Nothing)) is

answered : (k0 k1 k2 k3 k4 k5 : Kind) (rest : List Kind) (values : List Value) (b : Bounds) (n : ℕ) (r : Register) → IsWithin b n → AreOf (k0 ∷ k1 ∷ k2 ∷ k3 ∷ k4 ∷ k5 ∷ rest) values
    → IsOf (get_or (kinds_after b (k0 ∷ k1 ∷ k2 ∷ k3 ∷ k4 ∷ k5 ∷ rest)) (number_of r) Nothing) (get_or (values_after n values) (number_of r) value.Nothing)
answered k0 k1 k2 k3 k4 k5 rest values b n R0 within are = within
answered k0 k1 k2 k3 k4 k5 rest values b n R1 within are = tt
answered k0 k1 k2 k3 k4 k5 rest values b n R2 within are = tt
answered k0 k1 k2 k3 k4 k5 rest values b n R3 within are = tt
answered k0 k1 k2 k3 k4 k5 rest values b n R4 within are = tt
answered k0 k1 k2 k3 k4 k5 rest values b n R5 within are = tt
answered k0 k1 k2 k3 k4 k5 rest values b n R6 within are = keeps (get_or rest 0 Nothing) values 0 (are R6)
answered k0 k1 k2 k3 k4 k5 rest values b n R7 within are = keeps (get_or rest 1 Nothing) values 1 (are R7)
answered k0 k1 k2 k3 k4 k5 rest values b n R8 within are = keeps (get_or rest 2 Nothing) values 2 (are R8)
answered k0 k1 k2 k3 k4 k5 rest values b n R9 within are = keeps (get_or rest 3 Nothing) values 3 (are R9)
answered k0 k1 k2 k3 k4 k5 rest values b n R10 within are = keeps (get_or rest 4 Nothing) values 4 (are R10)

answered_by : (kinds : List Kind) (values : List Value) (b : Bounds) (n : ℕ) (r : Register) → IsWithin b n → AreOf kinds values → SixOf kinds
    → IsOf (get_or (kinds_after b kinds) (number_of r) Nothing) (get_or (values_after n values) (number_of r) value.Nothing)
answered_by kinds values b n r within are six =
    let all = λ (q : Register). subst (λ (l : List Kind). IsOf (get_or l (number_of q) Nothing) (get_or values (number_of q) value.Nothing)) six.is (are q) in
    subst (λ (l : List Kind). IsOf (get_or (kinds_after b l) (number_of r) Nothing) (get_or (values_after n values) (number_of r) value.Nothing)) (sym six.is)
    (answered six.k0 six.k1 six.k2 six.k3 six.k4 six.k5 six.rest values b n r within all)

pub answer_described : (args_len : ℕ) (known : AbsState) (s : State) (b : Bounds) (n : ℕ) → length known.kinds ≡ 11 → IsWithin b n → Describes args_len known s → Describes args_len (with_known_answer b known) (with_answer n s)
answer_described args_len known s b n long within d =
    let six = six_of known.kinds (omega arith) in
    record {
      registers = λ r. answered_by known.kinds s.registers b n r within d.registers six;
      stack = d.stack;
      args = d.args;
    }

-- ---- looks and writes

either : (args_len : ℕ) (known : AbsState) (b : Bool) (s t : State) → Describes args_len known s → Describes args_len known t → Describes args_len known (cond b s t)
either args_len known true s t p q = p
either args_len known false s t p q = q

pub point_described : (args_len : ℕ) (known : AbsState) (table key : ℕ) (s : State) → Describes args_len known s → Describes args_len known (with_point_look table key s)
point_described args_len known table key s d =
    either args_len known (is_some (get s.writes (table, key))) s (with_look (look_at table key key) s) d (record { registers = d.registers; stack = d.stack; args = d.args })

pub range_described : (args_len : ℕ) (known : AbsState) (table lo hi last : ℕ) (s : State) → Describes args_len known s → Describes args_len known (with_range_look table lo hi last s)
range_described args_len known table lo hi last s d =
    either args_len known (nat_le lo hi) (with_look (look_at table lo last) s) s (record { registers = d.registers; stack = d.stack; args = d.args }) d

pub write_described : (args_len : ℕ) (known : AbsState) (table key : ℕ) (write : Option (List ℕ)) (s : State) → Describes args_len known s → Describes args_len known (with_row_write table key write s)
write_described args_len known table key write s d = record { registers = d.registers; stack = d.stack; args = d.args }

pub code_described : (args_len : ℕ) (known : AbsState) (code : ℕ) (s : State) → Describes args_len known s → Describes args_len known (record s { cancel_code = Some code })
code_described args_len known code s d = record { registers = d.registers; stack = d.stack; args = d.args }
