-- Each step makes at most one look or one write; and what a helper looks at, and what a put leaves.
use Rattle.std.proofs.Common.{◌≡◌, ◌⊎◌, inl, inr, ℕ, zero, suc, ℤ, pos, negsuc, Bool, true, false, cond, ◌+◌, ◌<◌, ◌≤◌, List, [], ◌∷◌, ◌++◌, length, take, drop, Option, Some, None, refl, sym, ap, subst, ◌∙◌, arith}
use Rattle.std.specs.Prelude.{nat_le, is_some, IsSome, map}
use Rattle.std.specs.FinMap.{get, len, empty, contains_key, len-insert, len-empty}
use Rattle.std.proofs.lemmas.Bool.Decides.{nat_tests}
use Rattle.std.proofs.lemmas.List.{length-append}
use Rattle.bpf_words.specs.Condition.{holds}
use Rattle.bpf_code.specs.declared.instruction.Register.{Register}
use Rattle.bpf_code.specs.declared.instruction.Register.TheVariants.{R1, R2, R3, R4, R5}
use Rattle.bpf_code.specs.declared.instruction.Instruction.{Instruction}
use Rattle.bpf_code.specs.declared.instruction.Instruction.TheVariants.{LoadWide, Load, StoreImmediate, StoreRegister, Arithmetic, Negate, MoveSignExtended, End, Jump, LongJump, Branch, Call, Exit}
use Rattle.bpf_code.specs.Sizes.{width_bits}
use Rattle.bpf_code.specs.Program.{Program}
use Rattle.schema.specs.Schema.{Tables}
use Rattle.schema.specs.declared.look.Look.{Look}
use Rattle.schema.specs.Rows.{Key, Rows, Writes, key_cmp, key_cmp_total, with_write, row_at, first_in}
use Rattle.schema.specs.Helper.{helper_of}
use Rattle.schema.specs.declared.helper.Helper.{Helper}
use Rattle.schema.specs.declared.helper.Helper.TheVariants.{RowGet, RowPut, RowDelete, RangeCount, RangeNext, Cancel}
use Rattle.bpf_semantics.specs.declared.value.Value.{Value}
use Rattle.bpf_semantics.specs.State.{State, past, with_register, entry_state}
use Rattle.bpf_semantics.specs.Memory.{stack_with}
use Rattle.bpf_semantics.specs.Helpers.{Table, state_after_call, row_get, row_put, range_next, with_stack, with_look, with_point_look, with_range_look, with_row_read, with_next_read, look_at, last_seen, row_or_zeros, key_or_zeros, row_of}
use Rattle.bpf_semantics.specs.Step.{Moment, Going, Ended, Stuck, after_jump, with_result, with_store, execute, step}
use Rattle.bpf_semantics.specs.Run.{moment, next_moment}
use Rattle.bpf_semantics.proofs.StepLemmas.{just, bound, going_on, some_is, going_is, set_is, Steps, execute_leads}
use Rattle.bpf_semantics.proofs.RunLemmas.{exit_is, step_runs, going_runs, ended_runs}
use Rattle.bpf_semantics.proofs.LookLemmas.{LooksOn, execute_looks}

-- ---- the writes stay, or there is one more

abbrev WritesOn : Writes → Writes → Type 0
WritesOn before after = (after ≡ before) ⊎ ((k : Key) × (write : Option (List ℕ)) × (after ≡ with_write before k write))

either : (w : Writes) (b : Bool) (s t : State) → s.writes ≡ w → t.writes ≡ w → (cond b s t).writes ≡ w
either w true s t p q = p
either w false s t p q = q

point : (table key : ℕ) (s : State) → (with_point_look table key s).writes ≡ s.writes
point table key s = either s.writes (is_some (get s.writes (table, key))) s (with_look (look_at table key key) s) refl refl

range : (table lo hi last : ℕ) (s : State) → (with_range_look table lo hi last s).writes ≡ s.writes
range table lo hi last s = either s.writes (nat_le lo hi) (with_look (look_at table lo last) s) s refl refl

same : (w : Writes) (u v : State) → WritesOn w u.writes → u ≡ v → WritesOn w v.writes
same w u v p is = subst (λ (x : State). WritesOn w x.writes) is p

called_writes : (tables : Tables) (h : Helper) (s u : State) → state_after_call tables h s ≡ just u → WritesOn s.writes u.writes
unfolding state_after_call row_get row_put range_next
called_writes tables RowGet s u e =
    let a = bound _ _ u e in
    let b = bound _ _ u a.2 in
    let d = bound _ _ u b.2 in
    let stack = stack_with s.stack d.0 (row_or_zeros a.0.width (row_at s.rows a.0.table b.0)) in
    same s.writes (with_row_read s a.0 b.0 d.0 (row_at s.rows a.0.table b.0)) u (inl (point a.0.table b.0 (with_stack stack s))) (some_is _ u d.2)
called_writes tables RowPut s u e =
    let a = bound _ _ u e in
    let b = bound _ _ u a.2 in
    let d = bound _ _ u b.2 in
    let f = bound _ _ u d.2 in
    same s.writes _ u (inr ((a.0.table, b.0), Some f.0, refl)) (some_is _ u f.2)
called_writes tables RowDelete s u e =
    let a = bound _ _ u e in
    let b = bound _ _ u a.2 in
    same s.writes _ u (inr ((a.0.table, b.0), None, refl)) (some_is _ u b.2)
called_writes tables RangeCount s u e =
    let a = bound _ _ u e in
    let b = bound _ _ u a.2 in
    let d = bound _ _ u b.2 in
    same s.writes _ u (inl (range a.0.table b.0 d.0 d.0 s)) (some_is _ u d.2)
called_writes tables RangeNext s u e =
    let a = bound _ _ u e in
    let b = bound _ _ u a.2 in
    let d = bound _ _ u b.2 in
    let f = bound _ _ u d.2 in
    let g = bound _ _ u f.2 in
    let found = first_in (look_at a.0.table b.0 d.0) s.rows in
    let stack = stack_with (stack_with s.stack f.0 (key_or_zeros found)) g.0 (row_or_zeros a.0.width (row_of found)) in
    same s.writes (with_next_read s a.0 b.0 d.0 f.0 g.0 found) u (inl (range a.0.table b.0 d.0 (last_seen d.0 found) (with_stack stack s))) (some_is _ u g.2)
called_writes tables Cancel s u e =
    let a = bound _ _ u e in
    same s.writes _ u (inl refl) (some_is _ u a.2)

leaves : (n : ℕ) (s u t : State) → u.writes ≡ s.writes → Going (past n u) ≡ Going t → WritesOn s.writes t.writes
leaves n s u t p e = same s.writes (past n u) t (inl p) (going_is (past n u) t e)

jump_leaves : (d : ℤ) (s t : State) → after_jump d s ≡ Going t → WritesOn s.writes t.writes
jump_leaves (pos n) s t e = leaves (1 + n) s s t refl e
jump_leaves (negsuc n) s t e = absurd cc

branch_leaves : (b : Bool) (d : ℤ) (s t : State) → cond b (after_jump d s) (Going (past 1 s)) ≡ Going t → WritesOn s.writes t.writes
branch_leaves true d s t e = jump_leaves d s t e
branch_leaves false d s t e = leaves 1 s s t refl e

store_leaves : (o : Option (List (Option ℕ))) (s t : State) → with_store o s ≡ Going t → WritesOn s.writes t.writes
store_leaves o s t e = let a = going_on o _ t e in leaves 1 s (with_stack a.0 s) t refl a.2

set_leaves : (n : ℕ) (dst : Register) (v : Value) (s t : State) → with_result n dst v s ≡ Going t → WritesOn s.writes t.writes
set_leaves n dst v s t e = leaves n s (with_register s dst v) t refl (set_is n dst v s t e)

execute_writes : (tables : Tables) (i : Instruction) (s t : State) → execute tables i s ≡ Going t → WritesOn s.writes t.writes
unfolding execute
execute_writes tables (LoadWide dst value) s t e = set_leaves 2 dst _ s t e
execute_writes tables (Load kind dst src offset) s t e = let a = going_on _ _ t e in set_leaves 1 dst _ s t a.2
execute_writes tables (StoreImmediate size dst offset immediate) s t e = store_leaves _ s t e
execute_writes tables (StoreRegister size dst src offset) s t e = let a = going_on _ _ t e in store_leaves _ s t a.2
execute_writes tables (Arithmetic width op dst src) s t e = let a = going_on _ _ t e in set_leaves 1 dst _ s t a.2
execute_writes tables (Negate width dst) s t e = let a = going_on _ _ t e in set_leaves 1 dst _ s t a.2
execute_writes tables (MoveSignExtended kind dst src) s t e = let a = going_on _ _ t e in set_leaves 1 dst _ s t a.2
execute_writes tables (End order width dst) s t e = let a = going_on _ _ t e in set_leaves 1 dst _ s t a.2
execute_writes tables (Jump distance) s t e = jump_leaves distance s t e
execute_writes tables (LongJump distance) s t e = jump_leaves distance s t e
execute_writes tables (Branch width condition dst src distance) s t e =
    let a = going_on _ _ t e in
    let b = going_on _ _ t a.2 in
    branch_leaves (holds (width_bits width) condition a.0 b.0) distance s t b.2
execute_writes tables (Call helper) s t e =
    let a = going_on _ _ t e in
    let h = bound (helper_of helper) _ a.0 a.1 in
    same s.writes (past 1 a.0) t (called_writes tables h.0 s a.0 h.2) (going_is (past 1 a.0) t a.2)
execute_writes tables Exit s t e = let a = going_on _ _ t e in absurd cc

-- ---- no more looks and no more writes than steps

abbrev pub Sparse : State → Type 0
Sparse s = (length s.looks ≤ s.steps) × (len s.writes ≤ s.steps)

fewer_looks : (tables : Tables) (before after : List Look) (steps : ℕ) → LooksOn tables before after → length before ≤ steps → length after ≤ steps + 1
fewer_looks tables before after steps (inl e) h = let same = ap length e in omega arith
fewer_looks tables before after steps (inr (look, known, e)) h = let same = ap length e in let both = length-append before (look ∷ []) in omega arith

one_more : (b : Bool) (n : ℕ) → cond b n (n + 1) ≤ n + 1
one_more true n = omega arith
one_more false n = omega arith

fewer_writes : (before after : Writes) (steps : ℕ) → WritesOn before after → len before ≤ steps → len after ≤ steps + 1
fewer_writes before after steps (inl e) h = let same : len after ≡ len before = ap (λ (w : Writes). len w) e in omega arith
fewer_writes before after steps (inr (k, write, e)) h =
    let same : len after ≡ len (with_write before k write) = ap (λ (w : Writes). len w) e in
    let grown : len (with_write before k write) ≡ cond (contains_key before k) (len before) (len before + 1) = len-insert key_cmp_total before k write in
    let most = one_more (contains_key before k) (len before) in
    omega arith

execute_sparse : (tables : Tables) (i : Instruction) (s t : State) → execute tables i s ≡ Going t → Sparse s → Sparse t
execute_sparse tables i s t e h =
    let counts = (execute_leads tables i s t e).counts in
    let looks = fewer_looks tables s.looks t.looks s.steps (execute_looks tables i s t e) h.0 in
    let writes = fewer_writes s.writes t.writes s.steps (execute_writes tables i s t e) h.1 in
    (omega arith, omega arith)

abbrev pub MomentSparse : Moment → Type 0
MomentSparse (Going s) = Sparse s
MomentSparse (Ended reply s) = Sparse s
MomentSparse Stuck = Unit {0}

step_sparse : (p : Program) (tables : Tables) (s : State) → Sparse s → MomentSparse (step p tables s)
step_sparse p tables s h =
    elim (step p tables s) as (λ m. step p tables s ≡ m → MomentSparse m) [
      | Going t ↦ λ e. let runs = step_runs p tables s (Going t) e (going_runs t) in execute_sparse tables runs.0 s t runs.2 h
      | Ended r t ↦ λ e.
          let runs = step_runs p tables s (Ended r t) e (ended_runs r t) in
          let more : Sparse (past 0 s) = (let a = h.0 in omega arith, let b = h.1 in omega arith) in
          subst Sparse (exit_is tables runs.0 s r t runs.2) more
      | Stuck ↦ λ e. tt
    ] refl

pub moment_sparse : (p : Program) (tables : Tables) (args : List ℕ) (rows : Rows) (k : ℕ) → MomentSparse (moment p tables k (entry_state args rows))
unfolding moment
moment_sparse p tables args rows zero = (omega arith, let none : len (entry_state args rows).writes ≡ 0 = len-empty key_cmp (Option (List ℕ)) in omega arith)
moment_sparse p tables args rows (suc k) =
    elim (moment p tables k (entry_state args rows)) as (λ m. MomentSparse m → MomentSparse (next_moment (step p tables) m)) [
      | Going s ↦ λ h. step_sparse p tables s h
      | Ended r s ↦ λ h. h
      | Stuck ↦ λ h. h
    ] (moment_sparse p tables args rows k)
