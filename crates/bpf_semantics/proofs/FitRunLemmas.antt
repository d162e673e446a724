-- States and ends of runs that fit, read off their moments.
use Rattle.std.proofs.Common.{◌≡◌, ℕ, zero, ◌<◌, ◌≤◌, ◌^◌, List, length, Option, Some, None, refl, sym, ap, subst, ◌∙◌, arith}
use Rattle.std.specs.Prelude.{All, IfSome}
use Rattle.std.specs.FinMap.{len, empty, len-empty}
use Rattle.bpf_code.specs.Program.{Program, IsProgram}
use Rattle.schema.specs.Schema.{Tables}
use Rattle.schema.specs.Rows.{Rows, Writes, key_cmp, AreRows, AreWrites, after_writes}
use Rattle.schema.proofs.RowsLemmas.{after_writes-empty, no_writes}
use Rattle.bpf_semantics.specs.State.{State, entry_state}
use Rattle.bpf_semantics.specs.Step.{Moment, Going, Ended, Stuck}
use Rattle.bpf_semantics.specs.Run.{moment, Run, run, run_of, unless_cancelled}
use Rattle.bpf_semantics.specs.Fit.{IsState, IsRunOf}
use Rattle.bpf_semantics.proofs.StepLemmas.{just}
use Rattle.bpf_semantics.proofs.RunLemmas.{run_ended}
use Rattle.bpf_semantics.proofs.EffectLemmas.{Kept, going_keeps}
use Rattle.bpf_semantics.proofs.StateLemmas.{MomentFits, moment_fits}
use Rattle.bpf_semantics.proofs.SparseLemmas.{Sparse, MomentSparse, moment_sparse}

pub state_fits : (p : Program) (tables : Tables) (args : List ℕ) (rows : Rows) (k : ℕ) (s : State) → IsProgram p → All (λ b. b < 256) args → AreRows tables rows
    → moment p tables k (entry_state args rows) ≡ Going s → IsState tables s
state_fits p tables args rows k s is bytes are e = subst (MomentFits tables) e (moment_fits p tables args rows k is.in_range bytes are)

pub ended_fits : (p : Program) (tables : Tables) (args : List ℕ) (rows : Rows) (k reply : ℕ) (s : State) → IsProgram p → All (λ b. b < 256) args → AreRows tables rows
    → moment p tables k (entry_state args rows) ≡ Ended reply s → IsState tables s × (reply < 2 ^ 64)
ended_fits p tables args rows k reply s is bytes are e = subst (MomentFits tables) e (moment_fits p tables args rows k is.in_range bytes are)

pub state_rows : (p : Program) (tables : Tables) (args : List ℕ) (rows : Rows) (k : ℕ) (s : State) → moment p tables k (entry_state args rows) ≡ Going s → s.rows ≡ after_writes s.writes rows
state_rows p tables args rows k s e = going_keeps rows p tables k (entry_state args rows) s e (sym (after_writes-empty rows))

-- what is read off an end that fits
read_off : (tables : Tables) (rows : Rows) (reply : ℕ) (s : State) → AreRows tables rows → IsState tables s → reply < 2 ^ 64 → IsRunOf tables (run_of rows reply s)
read_off tables rows reply s are h small = record {
  reply = small;
  effect =
      elim s.cancel_code as (λ (o : Option ℕ). AreRows tables (unless_cancelled o s.rows rows)) [
        | None ↦ h.rows
        | Some code ↦ are
      ];
  writes =
      elim s.cancel_code as (λ (o : Option ℕ). AreWrites tables (unless_cancelled o s.writes empty)) [
        | None ↦ h.writes
        | Some code ↦ no_writes tables
      ];
  looks = h.looks;
  code = h.code;
}

pub run_fits : (p : Program) (tables : Tables) (args : List ℕ) (rows : Rows) (r : Run) → IsProgram p → All (λ b. b < 256) args → AreRows tables rows → run p tables args rows ≡ Some r → IsRunOf tables r
unfolding run
run_fits p tables args rows r is bytes are e =
    let at = run_ended rows (moment p tables (length p) (entry_state args rows)) r e in
    let fits : MomentFits tables (Ended at.0 at.1) = subst (MomentFits tables) at.2 (moment_fits p tables args rows (length p) is.in_range bytes are) in
    subst (IsRunOf tables) at.3 (read_off tables rows at.0 at.1 are fits.0 fits.1)

pub sparse_state : (p : Program) (tables : Tables) (args : List ℕ) (rows : Rows) (k : ℕ) (s : State) → moment p tables k (entry_state args rows) ≡ Going s → (length s.looks ≤ s.steps) × (len s.writes ≤ s.steps)
sparse_state p tables args rows k s e = subst MomentSparse e (moment_sparse p tables args rows k)

read_sparse : (rows : Rows) (reply : ℕ) (s : State) → Sparse s → (length (run_of rows reply s).looks ≤ (run_of rows reply s).steps) × (len (run_of rows reply s).writes ≤ (run_of rows reply s).steps)
read_sparse rows reply s h = (
  h.0,
  elim s.cancel_code as (λ (o : Option ℕ). len (unless_cancelled o s.writes empty) ≤ s.steps) [
    | None ↦ h.1
    | Some code ↦ let none : len (unless_cancelled (Some code) s.writes empty) ≡ 0 = len-empty key_cmp (Option (List ℕ)) in omega arith
  ],
)

pub sparse_run : (p : Program) (tables : Tables) (args : List ℕ) (rows : Rows) (r : Run) → run p tables args rows ≡ Some r → (length r.looks ≤ r.steps) × (len r.writes ≤ r.steps)
unfolding run
sparse_run p tables args rows r e =
    let at = run_ended rows (moment p tables (length p) (entry_state args rows)) r e in
    let h : MomentSparse (Ended at.0 at.1) = subst MomentSparse at.2 (moment_sparse p tables args rows (length p)) in
    subst (λ (q : Run). (length q.looks ≤ q.steps) × (len q.writes ≤ q.steps)) at.3 (read_sparse rows at.0 at.1 h)
