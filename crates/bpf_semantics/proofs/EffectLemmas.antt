-- The rows of a state are the first rows after its writes.
use Rattle.std.proofs.Common.{◌≡◌, ℕ, zero, suc, ℤ, pos, negsuc, Bool, true, false, cond, ◌+◌, List, Option, Some, None, length, refl, sym, ap, subst, ◌∙◌}
use Rattle.std.specs.Prelude.{is_some, nat_le, IsSome}
use Rattle.std.specs.FinMap.{get, empty}
use Rattle.bpf_words.specs.Condition.{holds}
use Rattle.bpf_code.specs.declared.instruction.Register.{Register}
use Rattle.bpf_code.specs.declared.instruction.Instruction.{Instruction}
use Rattle.bpf_code.specs.declared.instruction.Instruction.TheVariants.{LoadWide, Load, StoreImmediate, StoreRegister, Arithmetic, Negate, MoveSignExtended, End, Jump, LongJump, Branch, Call, Exit}
use Rattle.bpf_code.specs.Sizes.{width_bits}
use Rattle.bpf_code.specs.Program.{Program}
use Rattle.schema.specs.Schema.{Tables}
use Rattle.schema.specs.Rows.{Key, Rows, Writes, row_at, first_in, after_write, with_write, after_writes}
use Rattle.schema.proofs.RowsLemmas.{after_writes-with_write, after_writes-empty}
use Rattle.schema.specs.Helper.{helper_of}
use Rattle.schema.specs.declared.helper.Helper.{Helper}
use Rattle.schema.specs.declared.helper.Helper.TheVariants.{RowGet, RowPut, RowDelete, RangeCount, RangeNext, Cancel}
use Rattle.bpf_semantics.specs.declared.value.Value.{Value}
use Rattle.bpf_semantics.specs.State.{State, with_register, past, entry_state}
use Rattle.bpf_semantics.specs.Helpers.{Table, state_after_call, row_get, row_put, range_next, with_stack, with_point_look, with_range_look, with_row_read, with_next_read, look_at, last_seen, row_or_zeros, key_or_zeros, row_of}
use Rattle.bpf_semantics.specs.Memory.{stack_with}
use Rattle.bpf_semantics.specs.Step.{Going, Ended, Stuck, after_jump, with_result, with_store, execute, step}
use Rattle.bpf_semantics.specs.Run.{next_moment, moment, Run, run_of, run, unless_cancelled}
use Rattle.bpf_semantics.proofs.StepLemmas.{just, bound, going_on, some_is, going_is, set_is}
use Rattle.bpf_semantics.proofs.RunLemmas.{first_moment, moment-front, not_ended, ended_is, exit_is, step_runs, going_runs, ended_runs, run_ended}

abbrev pub Kept : Rows → State → Type 0
Kept rows s = s.rows ≡ after_writes s.writes rows

-- the same rows and writes
record SameRows (s t : State) : Type 0 where
  rows : t.rows ≡ s.rows
  writes : t.writes ≡ s.writes

itself : (s : State) → SameRows s s
itself s = record { rows = refl; writes = refl }

keeps : (rows : Rows) (s t : State) → SameRows s t → Kept rows s → Kept rows t
keeps rows s t p k = p.rows ∙ k ∙ ap (λ (w : Writes). after_writes w rows) (sym p.writes)

either : (b : Bool) (s t u : State) → SameRows s t → SameRows s u → SameRows s (cond b t u)
either true s t u p q = p
either false s t u p q = q

point : (table key : ℕ) (s t : State) → SameRows s t → SameRows s (with_point_look table key t)
point table key s t p = either (is_some (get t.writes (table, key))) s t _ p (record { rows = p.rows; writes = p.writes })

range : (table lo hi last : ℕ) (s t : State) → SameRows s t → SameRows s (with_range_look table lo hi last t)
range table lo hi last s t p = either (nat_le lo hi) s _ t (record { rows = p.rows; writes = p.writes }) p

same : (rows : Rows) (s t u v : State) → SameRows s t → t.rows ≡ u.rows → t.writes ≡ u.writes → u ≡ v → Kept rows s → Kept rows v
same rows s t u v p e f is k = subst (Kept rows) is (keeps rows s u (record { rows = sym e ∙ p.rows; writes = sym f ∙ p.writes }) k)

-- one more write
more : (rows : Rows) (s u v : State) (table key : ℕ) (write : Option (List ℕ)) → u.rows ≡ after_write (table, key) write s.rows → u.writes ≡ with_write s.writes (table, key) write → u ≡ v → Kept rows s → Kept rows v
more rows s u v table key write e f is k =
    let one : u.rows ≡ after_writes u.writes rows = e ∙ ap (after_write (table, key) write) k ∙ sym (after_writes-with_write s.writes (table, key) write rows) ∙ ap (λ (w : Writes). after_writes w rows) (sym f) in
    subst (Kept rows) is one

row_read_same : (s : State) (t : Table) (key buffer : ℕ) (found : Option (List ℕ)) → SameRows s (with_row_read s t key buffer found)
row_read_same s t key buffer found =
    let p = point t.table key s (with_stack (stack_with s.stack buffer (row_or_zeros t.width found)) s) (record { rows = refl; writes = refl }) in
    record { rows = p.rows; writes = p.writes }

next_read_same : (s : State) (t : Table) (lo hi key_buffer row_buffer : ℕ) (found : Option (Key × List ℕ)) → SameRows s (with_next_read s t lo hi key_buffer row_buffer found)
next_read_same s t lo hi key_buffer row_buffer found =
    let p = range t.table lo hi (last_seen hi found) s
    (with_stack (stack_with (stack_with s.stack key_buffer (key_or_zeros found)) row_buffer (row_or_zeros t.width (row_of found))) s) (record { rows = refl; writes = refl }) in
    record { rows = p.rows; writes = p.writes }

pub called_keeps : (rows : Rows) (tables : Tables) (h : Helper) (s u : State) → state_after_call tables h s ≡ just u → Kept rows s → Kept rows u
unfolding state_after_call row_get row_put range_next
called_keeps rows tables RowGet s u e k =
    let a = bound _ _ u e in
    let b = bound _ _ u a.2 in
    let d = bound _ _ u b.2 in
    same rows s _ _ u (row_read_same s a.0 b.0 d.0 (row_at s.rows a.0.table b.0)) refl refl (some_is _ u d.2) k
called_keeps rows tables RowPut s u e k =
    let a = bound _ _ u e in
    let b = bound _ _ u a.2 in
    let d = bound _ _ u b.2 in
    let f = bound _ _ u d.2 in
    more rows s _ u a.0.table b.0 (Some f.0) refl refl (some_is _ u f.2) k
called_keeps rows tables RowDelete s u e k =
    let a = bound _ _ u e in
    let b = bound _ _ u a.2 in
    more rows s _ u a.0.table b.0 None refl refl (some_is _ u b.2) k
called_keeps rows tables RangeCount s u e k =
    let a = bound _ _ u e in
    let b = bound _ _ u a.2 in
    let d = bound _ _ u b.2 in
    same rows s _ _ u (range a.0.table b.0 d.0 d.0 s s (itself s)) refl refl (some_is _ u d.2) k
called_keeps rows tables RangeNext s u e k =
    let a = bound _ _ u e in
    let b = bound _ _ u a.2 in
    let d = bound _ _ u b.2 in
    let f = bound _ _ u d.2 in
    let g = bound _ _ u f.2 in
    same rows s _ _ u (next_read_same s a.0 b.0 d.0 f.0 g.0 (first_in (look_at a.0.table b.0 d.0) s.rows)) refl refl (some_is _ u g.2) k
called_keeps rows tables Cancel s u e k =
    let a = bound _ _ u e in
    same rows s s _ u (itself s) refl refl (some_is _ u a.2) k

-- a step that leaves rows and writes
leaves : (rows : Rows) (n : ℕ) (s u t : State) → SameRows s u → Going (past n u) ≡ Going t → Kept rows s → Kept rows t
leaves rows n s u t p e k = same rows s u (past n u) t p refl refl (going_is (past n u) t e) k

jump_leaves : (rows : Rows) (d : ℤ) (s t : State) → after_jump d s ≡ Going t → Kept rows s → Kept rows t
jump_leaves rows (pos n) s t e k = leaves rows (1 + n) s s t (itself s) e k
jump_leaves rows (negsuc n) s t e k = absurd cc

branch_leaves : (rows : Rows) (b : Bool) (d : ℤ) (s t : State) → cond b (after_jump d s) (Going (past 1 s)) ≡ Going t → Kept rows s → Kept rows t
branch_leaves rows true d s t e k = jump_leaves rows d s t e k
branch_leaves rows false d s t e k = leaves rows 1 s s t (itself s) e k

store_leaves : (rows : Rows) (o : Option (List (Option ℕ))) (s t : State) → with_store o s ≡ Going t → Kept rows s → Kept rows t
store_leaves rows o s t e k = let a = going_on o _ t e in leaves rows 1 s (with_stack a.0 s) t (record { rows = refl; writes = refl }) a.2 k

set_leaves : (rows : Rows) (n : ℕ) (dst : Register) (v : Value) (s t : State) → with_result n dst v s ≡ Going t → Kept rows s → Kept rows t
set_leaves rows n dst v s t e k = leaves rows n s (with_register s dst v) t (record { rows = refl; writes = refl }) (set_is n dst v s t e) k

pub execute_keeps : (rows : Rows) (tables : Tables) (i : Instruction) (s t : State) → execute tables i s ≡ Going t → Kept rows s → Kept rows t
unfolding execute
execute_keeps rows tables (LoadWide dst value) s t e k = set_leaves rows 2 dst _ s t e k
execute_keeps rows tables (Load kind dst src offset) s t e k = let a = going_on _ _ t e in set_leaves rows 1 dst _ s t a.2 k
execute_keeps rows tables (StoreImmediate size dst offset immediate) s t e k = store_leaves rows _ s t e k
execute_keeps rows tables (StoreRegister size dst src offset) s t e k = let a = going_on _ _ t e in store_leaves rows _ s t a.2 k
execute_keeps rows tables (Arithmetic width op dst src) s t e k = let a = going_on _ _ t e in set_leaves rows 1 dst _ s t a.2 k
execute_keeps rows tables (Negate width dst) s t e k = let a = going_on _ _ t e in set_leaves rows 1 dst _ s t a.2 k
execute_keeps rows tables (MoveSignExtended kind dst src) s t e k = let a = going_on _ _ t e in set_leaves rows 1 dst _ s t a.2 k
execute_keeps rows tables (End order width dst) s t e k = let a = going_on _ _ t e in set_leaves rows 1 dst _ s t a.2 k
execute_keeps rows tables (Jump distance) s t e k = jump_leaves rows distance s t e k
execute_keeps rows tables (LongJump distance) s t e k = jump_leaves rows distance s t e k
execute_keeps rows tables (Branch width condition dst src distance) s t e k =
    let a = going_on _ _ t e in
    let b = going_on _ _ t a.2 in
    branch_leaves rows (holds (width_bits width) condition a.0 b.0) distance s t b.2 k
execute_keeps rows tables (Call helper) s t e k =
    let a = going_on _ _ t e in
    let h = bound (helper_of helper) _ a.0 a.1 in
    leaves rows 1 a.0 a.0 t (itself a.0) a.2 (called_keeps rows tables h.0 s a.0 h.2 k)
execute_keeps rows tables Exit s t e k = let a = going_on _ _ t e in absurd cc

pub ended_keeps : (rows : Rows) (p : Program) (tables : Tables) (k : ℕ) (s : State) (reply : ℕ) (t : State) → moment p tables k s ≡ Ended reply t → Kept rows s → Kept rows t
ended_keeps rows p tables zero s reply t e kept = absurd (not_ended p tables s reply t e)
ended_keeps rows p tables (suc k) s reply t e kept =
    elim (step p tables s) as (λ m. step p tables s ≡ m → next_moment (moment p tables k) m ≡ Ended reply t → Kept rows t) [
      | Going u ↦ λ is h.
          let runs = step_runs p tables s (Going u) is (going_runs u) in
          ended_keeps rows p tables k u reply t h (execute_keeps rows tables runs.0 s u runs.2 kept)
      | Ended r u ↦ λ is h.
          let runs = step_runs p tables s (Ended r u) is (ended_runs r u) in
          same rows s s (past 0 s) t (itself s) refl refl (exit_is tables runs.0 s r u runs.2 ∙ ended_is r u reply t h) kept
      | Stuck ↦ λ is h. absurd (ended_runs reply t (sym h))
    ] refl (sym (moment-front p tables k s) ∙ e)

-- while it goes on too
pub going_keeps : (rows : Rows) (p : Program) (tables : Tables) (k : ℕ) (s t : State) → moment p tables k s ≡ Going t → Kept rows s → Kept rows t
going_keeps rows p tables zero s t e kept = subst (Kept rows) (going_is s t (first_moment p tables s ∙ e)) kept
going_keeps rows p tables (suc k) s t e kept =
    elim (step p tables s) as (λ m. step p tables s ≡ m → next_moment (moment p tables k) m ≡ Going t → Kept rows t) [
      | Going u ↦ λ is h.
          let runs = step_runs p tables s (Going u) is (going_runs u) in
          going_keeps rows p tables k u t h (execute_keeps rows tables runs.0 s u runs.2 kept)
      | Ended r u ↦ λ is h. absurd cc
      | Stuck ↦ λ is h. absurd cc
    ] refl (sym (moment-front p tables k s) ∙ e)

-- a run that didn't cancel leaves the rows after its writes
pub effect_kept : (p : Program) (tables : Tables) (args : List ℕ) (rows : Rows) (r : Run) → run p tables args rows ≡ just r → r.cancel_code ≡ None → r.effect ≡ after_writes r.writes rows
unfolding run
effect_kept p tables args rows r e none =
    let at = run_ended rows (moment p tables (length p) (entry_state args rows)) r e in
    let kept = ended_keeps rows p tables (length p) (entry_state args rows) at.0 at.1 at.2 (sym (after_writes-empty rows)) in
    let none : at.1.cancel_code ≡ None = ap (λ (q : Run). q.cancel_code) at.3 ∙ none in
    let here : (run_of rows at.0 at.1).effect ≡ after_writes (run_of rows at.0 at.1).writes rows = rw none kept in
    subst (λ (q : Run). q.effect ≡ after_writes q.writes rows) at.3 here

cancelled_of : (rows : Rows) (reply : ℕ) (s : State) → IsSome s.cancel_code → ((run_of rows reply s).effect ≡ rows) × ((run_of rows reply s).writes ≡ empty)
cancelled_of rows reply s some =
    elim s.cancel_code as (λ o. IsSome o → (unless_cancelled o s.rows rows ≡ rows) × (unless_cancelled o s.writes empty ≡ empty)) [
      | None ↦ λ h. absurd cc
      | Some code ↦ λ h. (refl, refl)
    ] some

-- one that did leaves the rows as they were, and has no writes
pub effect_cancelled : (p : Program) (tables : Tables) (args : List ℕ) (rows : Rows) (r : Run) → run p tables args rows ≡ just r → IsSome r.cancel_code → (r.effect ≡ rows) × (r.writes ≡ empty)
unfolding run
effect_cancelled p tables args rows r e some =
    let at = run_ended rows (moment p tables (length p) (entry_state args rows)) r e in
    let some : IsSome at.1.cancel_code = subst (λ (q : Run). IsSome q.cancel_code) (sym at.3) some in
    subst (λ (q : Run). (q.effect ≡ rows) × (q.writes ≡ empty)) at.3 (cancelled_of rows at.0 at.1 some)
