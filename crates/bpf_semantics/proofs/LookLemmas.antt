-- What a run has looked at stays so, and what that says of the rows that it depends on.
use Rattle.std.proofs.Common.{◌≡◌, ◌⊎◌, inl, inr, ℕ, zero, suc, ℤ, pos, negsuc, Bool, true, false, cond, ◌+◌, List, [], ◌∷◌, ◌++◌, length, Option, Some, refl, sym, ap, subst, ◌∙◌, arith}
use Rattle.std.specs.Prelude.{is_some, nat_le, ◌||◌}
use Rattle.std.specs.FinMap.{get}
use Rattle.bpf_words.specs.Condition.{holds}
use Rattle.bpf_code.specs.declared.instruction.Register.{Register}
use Rattle.bpf_code.specs.declared.instruction.Instruction.{Instruction}
use Rattle.bpf_code.specs.declared.instruction.Instruction.TheVariants.{LoadWide, Load, StoreImmediate, StoreRegister, Arithmetic, Negate, MoveSignExtended, End, Jump, LongJump, Branch, Call, Exit}
use Rattle.bpf_code.specs.Sizes.{width_bits}
use Rattle.bpf_code.specs.Program.{Program}
use Rattle.schema.specs.Schema.{Tables}
use Rattle.schema.specs.declared.look.Look.{Look}
use Rattle.schema.specs.Rows.{Key, Rows, AgreeOn, covers, any_covers, row_at, first_in}
use Rattle.schema.specs.Helper.{helper_of}
use Rattle.schema.specs.declared.helper.Helper.{Helper}
use Rattle.schema.specs.declared.helper.Helper.TheVariants.{RowGet, RowPut, RowDelete, RangeCount, RangeNext, Cancel}
use Rattle.bpf_semantics.specs.State.{State, past, with_register, entry_state}
use Rattle.bpf_semantics.specs.Memory.{stack_with}
use Rattle.bpf_semantics.specs.Helpers.{Table, table_of, with_look, range_count, state_after_call, row_get, row_put, range_next, with_stack, with_point_look, with_range_look, with_row_read, with_next_read, look_at, last_seen, row_or_zeros, key_or_zeros, row_of}
use Rattle.bpf_semantics.specs.Step.{Going, Ended, Stuck, after_jump, with_result, with_store, execute, step}
use Rattle.bpf_semantics.specs.Run.{next_moment, moment, Run, run}
use Rattle.bpf_semantics.specs.Agree.{looks_of, AgreeOnLooks, in_tables}
use Rattle.std.proofs.lemmas.Bool.Decides.{nat_tests}
use Rattle.bpf_semantics.specs.declared.value.Value.{Value}
use Rattle.bpf_semantics.proofs.StepLemmas.{just, bound, going_on, some_is, going_is, set_is}
use Rattle.bpf_semantics.proofs.RunLemmas.{moment-front, not_ended, ended_is, ended_stays, exit_is, step_runs, going_runs, ended_runs, run_ended}

-- ---- the looks stay, or there is one more, at a table of the schema

abbrev pub LooksOn : Tables → List Look → List Look → Type 0
LooksOn tables before after = (after ≡ before) ⊎ ((look : Look) × (is_some (get tables look.table) ≡ true) × (after ≡ before ++ look ∷ []))

same : (tables : Tables) (looks : List Look) (u v : State) → LooksOn tables looks u.looks → u ≡ v → LooksOn tables looks v.looks
same tables looks u v p is = subst (λ (x : State). LooksOn tables looks x.looks) is p

known_table : (tables : Tables) (v : Value) (t : Table) → table_of tables v ≡ just t → is_some (get tables t.table) ≡ true
known_table tables v t e =
    let a = bound _ _ t e in
    let b = bound _ _ t a.2 in
    subst (λ (x : Table). is_some (get tables x.table) ≡ true) (some_is _ t b.2) (ap is_some b.1)

point : (tables : Tables) (table key : ℕ) (s : State) → is_some (get tables table) ≡ true → LooksOn tables s.looks (with_point_look table key s).looks
point tables table key s known =
    elim (is_some (get s.writes (table, key))) as (λ b. LooksOn tables s.looks (cond b s (with_look (look_at table key key) s)).looks) [
      | true ↦ inl refl
      | false ↦ inr (look_at table key key, known, refl)
    ]

range : (tables : Tables) (table lo hi last : ℕ) (s : State) → is_some (get tables table) ≡ true → LooksOn tables s.looks (with_range_look table lo hi last s).looks
range tables table lo hi last s known =
    elim (nat_le lo hi) as (λ b. LooksOn tables s.looks (cond b (with_look (look_at table lo last) s) s).looks) [
      | true ↦ inr (look_at table lo last, known, refl)
      | false ↦ inl refl
    ]

called_looks : (tables : Tables) (h : Helper) (s u : State) → state_after_call tables h s ≡ just u → LooksOn tables s.looks u.looks
unfolding state_after_call row_get row_put range_next
called_looks tables RowGet s u e =
    let a = bound _ _ u e in
    let b = bound _ _ u a.2 in
    let d = bound _ _ u b.2 in
    let stack = stack_with s.stack d.0 (row_or_zeros a.0.width (row_at s.rows a.0.table b.0)) in
    same tables s.looks (with_row_read s a.0 b.0 d.0 (row_at s.rows a.0.table b.0)) u (point tables a.0.table b.0 (with_stack stack s) (known_table tables _ a.0 a.1)) (some_is _ u d.2)
called_looks tables RowPut s u e =
    let a = bound _ _ u e in
    let b = bound _ _ u a.2 in
    let d = bound _ _ u b.2 in
    let f = bound _ _ u d.2 in
    same tables s.looks _ u (inl refl) (some_is _ u f.2)
called_looks tables RowDelete s u e =
    let a = bound _ _ u e in
    let b = bound _ _ u a.2 in
    same tables s.looks _ u (inl refl) (some_is _ u b.2)
called_looks tables RangeCount s u e =
    let a = bound _ _ u e in
    let b = bound _ _ u a.2 in
    let d = bound _ _ u b.2 in
    same tables s.looks (range_count s a.0 b.0 d.0) u (range tables a.0.table b.0 d.0 d.0 s (known_table tables _ a.0 a.1)) (some_is _ u d.2)
called_looks tables RangeNext s u e =
    let a = bound _ _ u e in
    let b = bound _ _ u a.2 in
    let d = bound _ _ u b.2 in
    let f = bound _ _ u d.2 in
    let g = bound _ _ u f.2 in
    let found = first_in (look_at a.0.table b.0 d.0) s.rows in
    let stack = stack_with (stack_with s.stack f.0 (key_or_zeros found)) g.0 (row_or_zeros a.0.width (row_of found)) in
    same tables s.looks (with_next_read s a.0 b.0 d.0 f.0 g.0 found) u (range tables a.0.table b.0 d.0 (last_seen d.0 found) (with_stack stack s) (known_table tables _ a.0 a.1)) (some_is _ u g.2)
called_looks tables Cancel s u e =
    let a = bound _ _ u e in
    same tables s.looks _ u (inl refl) (some_is _ u a.2)

-- a step that looks at nothing
leaves : (tables : Tables) (n : ℕ) (s u t : State) → u.looks ≡ s.looks → Going (past n u) ≡ Going t → LooksOn tables s.looks t.looks
leaves tables n s u t p e = same tables s.looks (past n u) t (inl p) (going_is (past n u) t e)

jump_leaves : (tables : Tables) (d : ℤ) (s t : State) → after_jump d s ≡ Going t → LooksOn tables s.looks t.looks
jump_leaves tables (pos n) s t e = leaves tables (1 + n) s s t refl e
jump_leaves tables (negsuc n) s t e = absurd cc

branch_leaves : (tables : Tables) (b : Bool) (d : ℤ) (s t : State) → cond b (after_jump d s) (Going (past 1 s)) ≡ Going t → LooksOn tables s.looks t.looks
branch_leaves tables true d s t e = jump_leaves tables d s t e
branch_leaves tables false d s t e = leaves tables 1 s s t refl e

store_leaves : (tables : Tables) (o : Option (List (Option ℕ))) (s t : State) → with_store o s ≡ Going t → LooksOn tables s.looks t.looks
store_leaves tables o s t e = let a = going_on o _ t e in leaves tables 1 s (with_stack a.0 s) t refl a.2

set_leaves : (tables : Tables) (n : ℕ) (dst : Register) (v : Value) (s t : State) → with_result n dst v s ≡ Going t → LooksOn tables s.looks t.looks
set_leaves tables n dst v s t e = leaves tables n s (with_register s dst v) t refl (set_is n dst v s t e)

pub execute_looks : (tables : Tables) (i : Instruction) (s t : State) → execute tables i s ≡ Going t → LooksOn tables s.looks t.looks
unfolding execute
execute_looks tables (LoadWide dst value) s t e = set_leaves tables 2 dst _ s t e
execute_looks tables (Load kind dst src offset) s t e = let a = going_on _ _ t e in set_leaves tables 1 dst _ s t a.2
execute_looks tables (StoreImmediate size dst offset immediate) s t e = store_leaves tables _ s t e
execute_looks tables (StoreRegister size dst src offset) s t e = let a = going_on _ _ t e in store_leaves tables _ s t a.2
execute_looks tables (Arithmetic width op dst src) s t e = let a = going_on _ _ t e in set_leaves tables 1 dst _ s t a.2
execute_looks tables (Negate width dst) s t e = let a = going_on _ _ t e in set_leaves tables 1 dst _ s t a.2
execute_looks tables (MoveSignExtended kind dst src) s t e = let a = going_on _ _ t e in set_leaves tables 1 dst _ s t a.2
execute_looks tables (End order width dst) s t e = let a = going_on _ _ t e in set_leaves tables 1 dst _ s t a.2
execute_looks tables (Jump distance) s t e = jump_leaves tables distance s t e
execute_looks tables (LongJump distance) s t e = jump_leaves tables distance s t e
execute_looks tables (Branch width condition dst src distance) s t e =
    let a = going_on _ _ t e in
    let b = going_on _ _ t a.2 in
    branch_leaves tables (holds (width_bits width) condition a.0 b.0) distance s t b.2
execute_looks tables (Call helper) s t e =
    let a = going_on _ _ t e in
    let h = bound (helper_of helper) _ a.0 a.1 in
    same tables s.looks (past 1 a.0) t (called_looks tables h.0 s a.0 h.2) (going_is (past 1 a.0) t a.2)
execute_looks tables Exit s t e = let a = going_on _ _ t e in absurd cc

-- ---- an instruction that is no call looks at nothing

quiet : (n : ℕ) (s u t : State) → u.looks ≡ s.looks → Going (past n u) ≡ Going t → t.looks ≡ s.looks
quiet n s u t p e = ap (λ (x : State). x.looks) (sym (going_is (past n u) t e)) ∙ p

set_quiet : (n : ℕ) (dst : Register) (v : Value) (s t : State) → with_result n dst v s ≡ Going t → t.looks ≡ s.looks
set_quiet n dst v s t e = quiet n s (with_register s dst v) t refl (set_is n dst v s t e)

store_quiet : (o : Option (List (Option ℕ))) (s t : State) → with_store o s ≡ Going t → t.looks ≡ s.looks
store_quiet o s t e = let a = going_on o _ t e in quiet 1 s (with_stack a.0 s) t refl a.2

jump_quiet : (d : ℤ) (s t : State) → after_jump d s ≡ Going t → t.looks ≡ s.looks
jump_quiet (pos n) s t e = quiet (1 + n) s s t refl e
jump_quiet (negsuc n) s t e = absurd cc

branch_quiet : (b : Bool) (d : ℤ) (s t : State) → cond b (after_jump d s) (Going (past 1 s)) ≡ Going t → t.looks ≡ s.looks
branch_quiet true d s t e = jump_quiet d s t e
branch_quiet false d s t e = quiet 1 s s t refl e

pub execute_quiet : (tables : Tables) (i : Instruction) (s t : State) → ((n : ℤ) → i ≡ Call n → ⊥) → execute tables i s ≡ Going t → t.looks ≡ s.looks
unfolding execute
execute_quiet tables (LoadWide dst value) s t no_call e = set_quiet 2 dst _ s t e
execute_quiet tables (Load kind dst src offset) s t no_call e = let a = going_on _ _ t e in set_quiet 1 dst _ s t a.2
execute_quiet tables (StoreImmediate size dst offset immediate) s t no_call e = store_quiet _ s t e
execute_quiet tables (StoreRegister size dst src offset) s t no_call e = let a = going_on _ _ t e in store_quiet _ s t a.2
execute_quiet tables (Arithmetic width op dst src) s t no_call e = let a = going_on _ _ t e in set_quiet 1 dst _ s t a.2
execute_quiet tables (Negate width dst) s t no_call e = let a = going_on _ _ t e in set_quiet 1 dst _ s t a.2
execute_quiet tables (MoveSignExtended kind dst src) s t no_call e = let a = going_on _ _ t e in set_quiet 1 dst _ s t a.2
execute_quiet tables (End order width dst) s t no_call e = let a = going_on _ _ t e in set_quiet 1 dst _ s t a.2
execute_quiet tables (Jump distance) s t no_call e = jump_quiet distance s t e
execute_quiet tables (LongJump distance) s t no_call e = jump_quiet distance s t e
execute_quiet tables (Branch width condition dst src distance) s t no_call e =
    let a = going_on _ _ t e in
    let b = going_on _ _ t a.2 in
    branch_quiet (holds (width_bits width) condition a.0 b.0) distance s t b.2
execute_quiet tables (Call helper) s t no_call e = absurd (no_call helper refl)
execute_quiet tables Exit s t no_call e = let a = going_on _ _ t e in absurd cc

-- a call leaves what its helper does
pub execute_call : (tables : Tables) (n : ℤ) (s t : State) → execute tables (Call n) s ≡ Going t
    → (h : Helper) × (u : State) × (helper_of n ≡ just h) × (state_after_call tables h s ≡ just u) × (t ≡ past 1 u)
unfolding execute
execute_call tables n s t e =
    let a = going_on _ _ t e in
    let h = bound (helper_of n) _ a.0 a.1 in
    (h.0, a.0, h.1, h.2, sym (going_is (past 1 a.0) t a.2))

-- ---- what was looked at stays so

any_append : (looks : List Look) (look : Look) (q : Key) → any_covers (looks ++ look ∷ []) q ≡ (any_covers looks q || covers look q)
any_append [] look q = elim (covers look q) as (λ b. (b || false) ≡ b) [ true ↦ refl | false ↦ refl ]
any_append (l ∷ looks) look q =
    ap (λ b. covers l q || b) (any_append looks look q)
    ∙ elim (covers l q) as (λ b. (b || (any_covers looks q || covers look q)) ≡ ((b || any_covers looks q) || covers look q)) [ true ↦ refl | false ↦ refl ]

-- each key in a look of the first is in one of the second
abbrev pub Grows : State → State → Type 0
Grows s t = (q : Key) → any_covers s.looks q ≡ true → any_covers t.looks q ≡ true

grows_by : (tables : Tables) (s t : State) → LooksOn tables s.looks t.looks → Grows s t
grows_by tables s t (inl e) q h = ap (λ (l : List Look). any_covers l q) e ∙ h
grows_by tables s t (inr (look, known, e)) q h =
    ap (λ (l : List Look). any_covers l q) e ∙ any_append s.looks look q ∙ ap (λ b. b || covers look q) h

pub execute_grows : (tables : Tables) (i : Instruction) (s t : State) → execute tables i s ≡ Going t → Grows s t
execute_grows tables i s t e = grows_by tables s t (execute_looks tables i s t e)

ended_grows : (p : Program) (tables : Tables) (k : ℕ) (s : State) (reply : ℕ) (t : State) → moment p tables k s ≡ Ended reply t → Grows s t
ended_grows p tables zero s reply t e = absurd (not_ended p tables s reply t e)
ended_grows p tables (suc k) s reply t e =
    elim (step p tables s) as (λ m. step p tables s ≡ m → next_moment (moment p tables k) m ≡ Ended reply t → Grows s t) [
      | Going u ↦ λ is h.
          let runs = step_runs p tables s (Going u) is (going_runs u) in
          λ q c. ended_grows p tables k u reply t h q (execute_grows tables runs.0 s u runs.2 q c)
      | Ended r u ↦ λ is h.
          let runs = step_runs p tables s (Ended r u) is (ended_runs r u) in
          λ q c. subst (λ (x : State). any_covers x.looks q ≡ true) (exit_is tables runs.0 s r u runs.2 ∙ ended_is r u reply t h) c
      | Stuck ↦ λ is h. absurd (ended_runs reply t (sym h))
    ] refl (sym (moment-front p tables k s) ∙ e)

-- so many steps after a moment
pub moment-add : (p : Program) (tables : Tables) (i j : ℕ) (s : State) → moment p tables (i + j) s ≡ next_moment (moment p tables i) (moment p tables j s)
unfolding moment
moment-add p tables zero j s =
    let same : 0 + j ≡ j = omega arith in
    ap (λ (k : ℕ). moment p tables k s) same ∙ elim (moment p tables j s) as (λ m. m ≡ next_moment (λ t. Going t) m) [ Going t ↦ refl | Ended r t ↦ refl | Stuck ↦ refl ]
moment-add p tables (suc i) j s =
    let same : suc i + j ≡ suc (i + j) = omega arith in
    ap (λ (k : ℕ). moment p tables k s) same ∙ ap (next_moment (step p tables)) (moment-add p tables i j s)
    ∙ elim (moment p tables j s) as (λ m. next_moment (step p tables) (next_moment (moment p tables i) m) ≡ next_moment (moment p tables (suc i)) m) [ Going t ↦ refl | Ended r t ↦ refl | Stuck ↦ refl ]

-- what was looked at before the end is looked at by the end
looked_before : (p : Program) (tables : Tables) (k j : ℕ) (s : State) (reply : ℕ) (t : State) (q : Key) → moment p tables k s ≡ Ended reply t
    → any_covers (looks_of (moment p tables j s)) q ≡ true → any_covers t.looks q ≡ true
looked_before p tables k j s reply t q e c =
    let order : j + k ≡ k + j = omega arith in
    let later : next_moment (moment p tables k) (moment p tables j s) ≡ Ended reply t =
    sym (moment-add p tables k j s) ∙ ap (λ (i : ℕ). moment p tables i s) (sym order) ∙ ended_stays p tables k j reply s t e in
    elim (moment p tables j s) as (λ m. next_moment (moment p tables k) m ≡ Ended reply t → any_covers (looks_of m) q ≡ true → any_covers t.looks q ≡ true) [
      | Going u ↦ λ h d. ended_grows p tables k u reply t h q d
      | Ended r u ↦ λ h d. subst (λ (x : State). any_covers x.looks q ≡ true) (ended_is r u reply t h) d
      | Stuck ↦ λ h d. absurd (ended_runs reply t (sym h))
    ] later c

-- it is enough that the maps agree on the looks of the run
pub agree_on_run : (p : Program) (tables : Tables) (args : List ℕ) (m n : Rows) (r : Run) → run p tables args m ≡ Some r → AgreeOn (any_covers r.looks) m n → AgreeOnLooks p tables args m n
unfolding run
agree_on_run p tables args m n r e agree k q c =
    let at = run_ended m (moment p tables (length p) (entry_state args m)) r e in
    let looked = looked_before p tables (length p) k (entry_state args m) at.0 at.1 q at.2 c in
    agree q (subst (λ (x : Run). any_covers x.looks q ≡ true) at.3 looked)

-- ---- a run looks at the schema's tables alone

abbrev Inside : Tables → List Look → Type 0
Inside tables looks = (q : Key) → any_covers looks q ≡ true → in_tables tables q ≡ true

split : (a b : Bool) → (a || b) ≡ true → (a ≡ true) ⊎ (b ≡ true)
split true b e = inl refl
split false b e = inr e

at_table : (look : Look) (q : Key) → covers look q ≡ true → look.table ≡ q.0
at_table look q e = grind (arith, nat_tests)

inside_by : (tables : Tables) (before after : List Look) → LooksOn tables before after → Inside tables before → Inside tables after
inside_by tables before after (inl e) h q c = h q (ap (λ (l : List Look). any_covers l q) (sym e) ∙ c)
inside_by tables before after (inr (look, known, e)) h q c =
    let at : (any_covers before q || covers look q) ≡ true = sym (any_append before look q) ∙ ap (λ (l : List Look). any_covers l q) (sym e) ∙ c in
    elim (split _ _ at) [
      | inl old ↦ h q old
      | inr new ↦ ap (λ (k : ℕ). is_some (get tables k)) (sym (at_table look q new)) ∙ known
    ]

step_inside : (p : Program) (tables : Tables) (s : State) → Inside tables s.looks → Inside tables (looks_of (step p tables s))
step_inside p tables s h =
    elim (step p tables s) as (λ m. step p tables s ≡ m → Inside tables (looks_of m)) [
      | Going t ↦ λ e. let runs = step_runs p tables s (Going t) e (going_runs t) in inside_by tables s.looks t.looks (execute_looks tables runs.0 s t runs.2) h
      | Ended r t ↦ λ e.
          let runs = step_runs p tables s (Ended r t) e (ended_runs r t) in
          inside_by tables s.looks t.looks (inl (ap (λ (x : State). x.looks) (sym (exit_is tables runs.0 s r t runs.2)))) h
      | Stuck ↦ λ e q c. absurd cc
    ] refl

moment_inside : (p : Program) (tables : Tables) (k : ℕ) (s : State) → Inside tables s.looks → Inside tables (looks_of (moment p tables k s))
unfolding moment
moment_inside p tables zero s h = h
moment_inside p tables (suc k) s h =
    elim (moment p tables k s) as (λ m. Inside tables (looks_of m) → Inside tables (looks_of (next_moment (step p tables) m))) [
      | Going t ↦ λ inside. step_inside p tables t inside
      | Ended r t ↦ λ inside. inside
      | Stuck ↦ λ inside. inside
    ] (moment_inside p tables k s h)

-- it is enough that the maps agree on the schema's tables
pub agree_on_tables : (p : Program) (tables : Tables) (args : List ℕ) (m n : Rows) → AgreeOn (in_tables tables) m n → AgreeOnLooks p tables args m n
agree_on_tables p tables args m n agree k q c = agree q (moment_inside p tables k (entry_state args m) (λ x none. absurd cc) q c)
