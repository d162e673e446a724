-- A run moment by moment, and what an open call depends on.
use Rattle.std.proofs.Common.{◌≡◌, ◌⊎◌, inl, inr, ℕ, zero, suc, ◌+◌, ◌-◌, ◌<◌, ◌≤◌, Bool, true, List, length, Option, Some, None, refl, sym, ap, subst, ◌∙◌, arith}
use Rattle.bpf_code.specs.Program.{Program}
use Rattle.schema.specs.Schema.{Tables}
use Rattle.schema.specs.declared.look.Look.{Look}
use Rattle.schema.specs.Rows.{Rows, Writes, AgreeOn, any_covers, after_writes}
use Rattle.schema.proofs.RowsLemmas.{after_writes-empty}
use Rattle.bpf_semantics.specs.State.{State, past, entry_state}
use Rattle.bpf_semantics.specs.Step.{Moment, Going, Ended, Stuck, step}
use Rattle.bpf_semantics.specs.Run.{moment, next_moment, Run, run, run_of, run_at}
use Rattle.bpf_semantics.specs.Agree.{looks_of}
use Rattle.bpf_semantics.proofs.StepLemmas.{just, execute_leads}
use Rattle.bpf_semantics.proofs.RunLemmas.{stuck_stays, ended_stays, exit_is, step_runs, going_runs, ended_runs, run_ended}
use Rattle.bpf_semantics.proofs.LookLemmas.{execute_grows}
use Rattle.bpf_semantics.proofs.EffectLemmas.{ended_keeps}
use Rattle.bpf_semantics.proofs.AgreeLemmas.{over}
use Rattle.bpf_semantics.proofs.TwinLemmas.{AreTogether, next_together, going_alike}

-- ---- a run goes on before its length, and has ended from then on

-- the count of steps that a moment shows
abbrev Counted : ℕ → Moment → Type 0
Counted k (Going s) = s.steps ≡ k
Counted k _ = Unit {0}

step_counted : (p : Program) (tables : Tables) (k : ℕ) (s : State) → s.steps ≡ k → Counted (suc k) (step p tables s)
step_counted p tables k s h =
    elim (step p tables s) as (λ m. step p tables s ≡ m → Counted (suc k) m) [
      | Going t ↦ λ e.
          let runs = step_runs p tables s (Going t) e (going_runs t) in
          let counts = (execute_leads tables runs.0 s t runs.2).counts in
          omega arith
      | Ended r t ↦ λ e. tt
      | Stuck ↦ λ e. tt
    ] refl

counted : (p : Program) (tables : Tables) (args : List ℕ) (rows : Rows) (k : ℕ) → Counted k (moment p tables k (entry_state args rows))
unfolding moment
counted p tables args rows zero = refl
counted p tables args rows (suc k) =
    elim (moment p tables k (entry_state args rows)) as (λ m. Counted k m → Counted (suc k) (next_moment (step p tables) m)) [
      | Going s ↦ λ h. step_counted p tables k s h
      | Ended r s ↦ λ h. tt
      | Stuck ↦ λ h. tt
    ] (counted p tables args rows k)

abbrev pub GoesOn : ℕ → Moment → Type 0
GoesOn k m = (s : State) × (m ≡ Going s) × (s.steps ≡ k)

apart : (r : ℕ) (s t : State) → Ended r s ≡ Going t → ⊥
apart r s t e = cc

-- what goes on at a moment went on before
went_on : (p : Program) (tables : Tables) (args : List ℕ) (rows : Rows) (j k : ℕ) (t : State) → j ≤ k → moment p tables k (entry_state args rows) ≡ Going t → GoesOn j (moment p tables j (entry_state args rows))
went_on p tables args rows j k t before e =
    let later : (k - j) + j ≡ k = omega arith in
    let there : moment p tables ((k - j) + j) (entry_state args rows) ≡ Going t = ap (λ (n : ℕ). moment p tables n (entry_state args rows)) later ∙ e in
    elim (moment p tables j (entry_state args rows)) as (λ m. moment p tables j (entry_state args rows) ≡ m → Counted j m → GoesOn j m) [
      | Going s ↦ λ is h. (s, refl, h)
      | Ended r s ↦ λ is h. absurd (apart r s t (sym (ended_stays p tables j (k - j) r (entry_state args rows) s is) ∙ there))
      | Stuck ↦ λ is h. absurd (going_runs t (sym there ∙ stuck_stays p tables j (k - j) (entry_state args rows) is))
    ] refl (counted p tables args rows j)

ended_one : (r q : ℕ) (s t : State) → Ended r s ≡ Ended q t → s ≡ t
ended_one r q s t e = cc

-- the moment of a run's end is that of its length
record EndsAt (p : Program) (tables : Tables) (args : List ℕ) (rows : Rows) (reply : ℕ) (s : State) : Type 0 where
  ends : moment p tables s.steps (entry_state args rows) ≡ Ended reply s
  before : (j : ℕ) → j < s.steps → GoesOn j (moment p tables j (entry_state args rows))

ends_here : (p : Program) (tables : Tables) (args : List ℕ) (rows : Rows) (k : ℕ) (u : State) (reply : ℕ) (s : State) → moment p tables k (entry_state args rows) ≡ Going u → step p tables u ≡ Ended reply s
    → EndsAt p tables args rows reply s
unfolding moment
ends_here p tables args rows k u reply s at e =
    let runs = step_runs p tables u (Ended reply s) e (ended_runs reply s) in
    let exit = exit_is tables runs.0 u reply s runs.2 in
    let count : u.steps ≡ k = subst (Counted k) at (counted p tables args rows k) in
    let steps : s.steps ≡ suc k = let more = ap (λ (v : State). v.steps) exit in omega arith in
    record {
      ends = ap (λ (n : ℕ). moment p tables n (entry_state args rows)) steps ∙ ap (next_moment (step p tables)) at ∙ e;
      before = λ j less. went_on p tables args rows j k u (omega arith) at;
    }

ends_at : (p : Program) (tables : Tables) (args : List ℕ) (rows : Rows) (k : ℕ) (reply : ℕ) (s : State) → moment p tables k (entry_state args rows) ≡ Ended reply s → EndsAt p tables args rows reply s
unfolding moment
ends_at p tables args rows zero reply s e = absurd cc
ends_at p tables args rows (suc k) reply s e =
    elim (moment p tables k (entry_state args rows)) as (λ m. moment p tables k (entry_state args rows) ≡ m → next_moment (step p tables) m ≡ Ended reply s → EndsAt p tables args rows reply s) [
      | Going u ↦ λ at h. ends_here p tables args rows k u reply s at h
      | Ended r u ↦ λ at h. ends_at p tables args rows k reply s (at ∙ h)
      | Stuck ↦ λ at h. absurd (ended_runs reply s (sym h))
    ] refl e

pub before_its_length : (p : Program) (tables : Tables) (args : List ℕ) (rows : Rows) (r : Run) (k : ℕ) → run p tables args rows ≡ just r → k < r.steps → GoesOn k (moment p tables k (entry_state args rows))
unfolding run
before_its_length p tables args rows r k e less =
    let at = run_ended rows (moment p tables (length p) (entry_state args rows)) r e in
    let ends = ends_at p tables args rows (length p) at.0 at.1 at.2 in
    let steps : at.1.steps ≡ r.steps = ap (λ (q : Run). q.steps) at.3 in
    ends.before k (omega arith)

pub from_its_length_on : (p : Program) (tables : Tables) (args : List ℕ) (rows : Rows) (r : Run) (k : ℕ) → run p tables args rows ≡ just r → r.steps ≤ k
    → (s : State) × (moment p tables k (entry_state args rows) ≡ Ended r.reply s) × (run_of rows r.reply s ≡ r)
unfolding run
from_its_length_on p tables args rows r k e more =
    let at = run_ended rows (moment p tables (length p) (entry_state args rows)) r e in
    let ends = ends_at p tables args rows (length p) at.0 at.1 at.2 in
    let steps : at.1.steps ≡ r.steps = ap (λ (q : Run). q.steps) at.3 in
    let reply : at.0 ≡ r.reply = ap (λ (q : Run). q.reply) at.3 in
    let later : (k - at.1.steps) + at.1.steps ≡ k = omega arith in
    let there : moment p tables k (entry_state args rows) ≡ Ended at.0 at.1 =
    ap (λ (n : ℕ). moment p tables n (entry_state args rows)) (sym later) ∙ ended_stays p tables at.1.steps (k - at.1.steps) at.0 (entry_state args rows) at.1 ends.ends in
    (at.1, there ∙ ap (λ (n : ℕ). Ended n at.1) reply, ap (λ (n : ℕ). run_of rows n at.1) (sym reply) ∙ at.3)

-- ---- what an open call depends on

stuck_apart : (s : State) → Stuck ≡ Going s → ⊥
stuck_apart s e = cc

same_looks : (m n : Rows) (a b : List Look) → a ≡ b → AgreeOn (any_covers a) m n → AgreeOn (any_covers b) m n
same_looks m n a b e h = subst (λ (l : List Look). AgreeOn (any_covers l) m n) e h

-- two maps that agree on what the later moment looked at agree on what the earlier one did
earlier_agree : (p : Program) (tables : Tables) (m n : Rows) (u : State) → ((step p tables u ≡ Stuck) → ⊥) → AgreeOn (any_covers (looks_of (step p tables u))) m n → AgreeOn (any_covers u.looks) m n
earlier_agree p tables m n u goes agree =
    elim (step p tables u) as (λ x. step p tables u ≡ x → (x ≡ Stuck → ⊥) → AgreeOn (any_covers (looks_of x)) m n → AgreeOn (any_covers u.looks) m n) [
      | Going t ↦ λ e g a.
          let runs = step_runs p tables u (Going t) e (going_runs t) in
          λ q inside. a q (execute_grows tables runs.0 u t runs.2 q inside)
      | Ended r t ↦ λ e g a.
          let runs = step_runs p tables u (Ended r t) e (ended_runs r t) in
          same_looks m n t.looks u.looks (ap (λ (v : State). v.looks) (sym (exit_is tables runs.0 u r t runs.2))) a
      | Stuck ↦ λ e g a. absurd (g refl)
    ] refl goes agree

together_so_far : (p : Program) (tables : Tables) (args : List ℕ) (m n : Rows) (k : ℕ) → (moment p tables k (entry_state args m) ≡ Stuck → ⊥) → AgreeOn (any_covers (looks_of (moment p tables k (entry_state args m)))) m n
    → AreTogether m n (moment p tables k (entry_state args m)) (moment p tables k (entry_state args n))
unfolding moment
together_so_far p tables args m n zero goes agree = record { same = refl; kept = sym (after_writes-empty m); kept_too = sym (after_writes-empty n) }
together_so_far p tables args m n (suc k) goes agree =
    elim (moment p tables k (entry_state args m)) as (λ x. (((x ≡ Stuck) → ⊥) → AgreeOn (any_covers (looks_of x)) m n → AreTogether m n x (moment p tables k (entry_state args n)))
    → (next_moment (step p tables) x ≡ Stuck → ⊥) → AgreeOn (any_covers (looks_of (next_moment (step p tables) x))) m n → AreTogether m n (next_moment (step p tables) x) (next_moment (step p tables) (moment p tables k (entry_state args n)))) [
      | Going u ↦ λ before g a. next_together m n p tables (Going u) (moment p tables k (entry_state args n)) (before (going_runs u) (earlier_agree p tables m n u g a)) a
      | Ended r u ↦ λ before g a. next_together m n p tables (Ended r u) (moment p tables k (entry_state args n)) (before (ended_runs r u) a) a
      | Stuck ↦ λ before g a. absurd (g refl)
    ] (together_so_far p tables args m n k) goes agree

pub open_call_goes : (p : Program) (tables : Tables) (args : List ℕ) (m n : Rows) (k : ℕ) (s : State) → moment p tables k (entry_state args m) ≡ Going s → AgreeOn (any_covers s.looks) m n
    → moment p tables k (entry_state args n) ≡ Going (record s { rows = after_writes s.writes n })
open_call_goes p tables args m n k s e agree =
    let looks = same_looks m n s.looks (looks_of (moment p tables k (entry_state args m))) (ap looks_of (sym e)) agree in
    let pair = together_so_far p tables args m n k (λ stuck. going_runs s (sym e ∙ stuck)) looks in
    going_alike m n s (moment p tables k (entry_state args n)) (subst (λ (x : Moment). AreTogether m n x (moment p tables k (entry_state args n))) e pair)

ended_pair : (m n : Rows) (reply : ℕ) (s : State) (b : Moment) → AreTogether m n (Ended reply s) b → ((q : ℕ) (v : State) → b ≡ Ended q v → v.rows ≡ after_writes v.writes n) → b ≡ Ended reply (over (after_writes s.writes n) s)
ended_pair m n reply s (Going v) h kept = absurd h
ended_pair m n reply s Stuck h kept = absurd h
ended_pair m n reply s (Ended q v) h kept =
    let writes : v.writes ≡ s.writes = ap (λ (x : State). x.writes) h.1 in
    let rows : v.rows ≡ after_writes s.writes n = kept q v refl ∙ ap (λ (w : Writes). after_writes w n) writes in
    ap (λ (x : ℕ). Ended x v) h.0 ∙ ap (λ (x : State). Ended reply x) (h.1 ∙ ap (λ (r : Rows). over r s) rows)

pub open_call_ends : (p : Program) (tables : Tables) (args : List ℕ) (m n : Rows) (k reply : ℕ) (s : State) → moment p tables k (entry_state args m) ≡ Ended reply s → AgreeOn (any_covers s.looks) m n
    → moment p tables k (entry_state args n) ≡ Ended reply (record s { rows = after_writes s.writes n })
open_call_ends p tables args m n k reply s e agree =
    let looks = same_looks m n s.looks (looks_of (moment p tables k (entry_state args m))) (ap looks_of (sym e)) agree in
    let pair = together_so_far p tables args m n k (λ stuck. ended_runs reply s (sym e ∙ stuck)) looks in
    ended_pair m n reply s (moment p tables k (entry_state args n)) (subst (λ (x : Moment). AreTogether m n x (moment p tables k (entry_state args n))) e pair)
    (λ q v is. ended_keeps n p tables k (entry_state args n) q v is (sym (after_writes-empty n)))
