-- The run of a call.
use Rattle.std.proofs.Common.{◌≡◌, ℕ, ◌≤◌, List, Option, Some, None, IsSome, All, refl, sym, ap, subst, ◌∙◌}
use Rattle.std.specs.Option.{IsSomeAnd}
use Rattle.schema.specs.Schema.{Tables}
use Rattle.schema.specs.Rows.{Rows, Writes, AreRows, after_writes}
use Rattle.schema.proofs.RowsLemmas.{after_writes-empty}
use Rattle.bpf_semantics.specs.Run.{Run, run}
use Rattle.bpf_semantics.specs.Path.{longest_path}
use Rattle.bpf_semantics.specs.Agree.{same_on, AreElsewhere, after_each}
use Rattle.bpf_semantics.proofs.TwinLemmas.{elsewhere_each}
use Rattle.bpf_semantics.proofs.EffectLemmas.{effect_kept, effect_cancelled}
use Rattle.log_model.specs.Log.{StoredProcedure, Catalogue, Call, by_number, idle, or_idle, run_of_procedure, run_of_call}
use Rattle.log_model.specs.Fit.{AreArguments, AreSafe, IsCallOf, FitsProcedures}

abbrev pub just : {X : Type 0} → X → Option X
just x = Some x

some_of : {X : Type 0} (P : X → Type 0) (o : Option X) → IsSomeAnd o P → (x : X) × (o ≡ just x) × P x
some_of P None h = absurd h
some_of P (Some x) h = (x, refl, h)

-- where there is a run, that of the call is it
pub is_run : (tables : Tables) (procedures : Catalogue) (call : Call) (rows : Rows) (p : StoredProcedure) (r : Run) → by_number procedures call.procedure ≡ Some p → run p.program tables call.args rows ≡ Some r → run_of_call tables procedures call rows ≡ r
unfolding run_of_call
is_run tables procedures call rows p r known e = ap (λ (o : Option StoredProcedure). or_idle rows (run_of_procedure tables o call.args rows)) known ∙ ap (or_idle rows) e

-- a safe call has one, which is short and leaves the schema's rows
pub record HasRun (tables : Tables) (procedures : Catalogue) (call : Call) (rows : Rows) (c : IsCallOf procedures call) : Type 0 where
  pub run : run c.procedure.program tables call.args rows ≡ Some (run_of_call tables procedures call rows)
  pub short : (run_of_call tables procedures call rows).steps ≤ longest_path c.procedure.program
  pub fits : AreRows tables (run_of_call tables procedures call rows).effect

pub has_run : (tables : Tables) (procedures : Catalogue) (call : Call) (rows : Rows) → AreSafe tables procedures → (c : IsCallOf procedures call) → AreRows tables rows → HasRun tables procedures call rows c
has_run tables procedures call rows safe c are =
    let (r, e, facts) = some_of (λ r. (r.steps ≤ longest_path c.procedure.program) × AreRows tables r.effect) (run c.procedure.program tables call.args rows)
    (safe call.procedure c.procedure c.known call.args rows c.arguments are) in
    let same : r ≡ run_of_call tables procedures call rows = sym (is_run tables procedures call rows c.procedure r c.known e) in
    record {
      run = e ∙ ap just same;
      short = subst (λ (x : Run). x.steps ≤ longest_path c.procedure.program) same facts.0;
      fits = subst (λ (x : Run). AreRows tables x.effect) same facts.1;
    }

-- ---- a call that fits the procedures: it is of one of them, or does nothing

same_procedure : (p q : StoredProcedure) → just p ≡ just q → p ≡ q
same_procedure p q e = cc

pub fits_of_call : (procedures : Catalogue) (call : Call) → IsCallOf procedures call → FitsProcedures procedures call
fits_of_call procedures call c p known = subst (λ (q : StoredProcedure). AreArguments q call.args) (same_procedure c.procedure p (sym c.known ∙ known)) c.arguments

is_idle : (tables : Tables) (procedures : Catalogue) (call : Call) (rows : Rows) → by_number procedures call.procedure ≡ None → run_of_call tables procedures call rows ≡ idle rows
unfolding run_of_call
is_idle tables procedures call rows none = ap (λ (o : Option StoredProcedure). or_idle rows (run_of_procedure tables o call.args rows)) none

-- what holds of both holds of such a call
by_procedure : (P : Type 0) (procedures : Catalogue) (call : Call) → FitsProcedures procedures call → (IsCallOf procedures call → P) → (by_number procedures call.procedure ≡ None → P) → P
by_procedure P procedures call fits known none = elim (by_number procedures call.procedure) as (λ (o : Option StoredProcedure). by_number procedures call.procedure ≡ o → P) [
  | None ↦ none
  | Some p ↦ λ e. known (record { procedure = p; known = e; arguments = fits p e })
] refl

-- writes elsewhere leave its run
pub same_run : (tables : Tables) (procedures : Catalogue) (call : Call) (rows : Rows) (later : List Writes) → AreSafe tables procedures → FitsProcedures procedures call → AreRows tables rows → All (AreElsewhere (run_of_call tables procedures call rows).looks) later
    → run_of_call tables procedures call (after_each later rows) ≡ same_on (after_each later rows) (run_of_call tables procedures call rows)
same_run tables procedures call rows later safe fits are apart =
    let after = after_each later rows in
    by_procedure (run_of_call tables procedures call after ≡ same_on after (run_of_call tables procedures call rows)) procedures call fits
    (λ c. is_run tables procedures call after c.procedure _ c.known
    (elsewhere_each c.procedure.program tables call.args rows (run_of_call tables procedures call rows) later (has_run tables procedures call rows safe c are).run apart))
    (λ none.
    is_idle tables procedures call after none
    ∙ sym (ap (same_on after) (is_idle tables procedures call rows none) ∙ ap (λ (effect : Rows). record (idle after) { effect = effect }) (after_writes-empty after)))

effect_of : (rows : Rows) (r : Run) (o : Option ℕ) → r.cancel_code ≡ o → (r.cancel_code ≡ None → r.effect ≡ after_writes r.writes rows) → (IsSome r.cancel_code → r.effect ≡ after_writes r.writes rows) → r.effect ≡ after_writes r.writes rows
effect_of rows r None e kept cancelled = kept e
effect_of rows r (Some code) e kept cancelled = cancelled (subst (λ (o : Option ℕ). IsSome o) (sym e) refl)

-- the effect of a run is that of its writes, cancelled or not
pub effect_is : (tables : Tables) (procedures : Catalogue) (call : Call) (rows : Rows) → AreSafe tables procedures → IsCallOf procedures call → AreRows tables rows → (run_of_call tables procedures call rows).effect ≡ after_writes (run_of_call tables procedures call rows).writes rows
effect_is tables procedures call rows safe c are =
    let e = (has_run tables procedures call rows safe c are).run in
    let r = run_of_call tables procedures call rows in
    effect_of rows r r.cancel_code refl
    (effect_kept c.procedure.program tables call.args rows r e)
    (λ some.
    let both = effect_cancelled c.procedure.program tables call.args rows r e some in
    both.0 ∙ sym (ap (λ (x : Writes). after_writes x rows) both.1 ∙ after_writes-empty rows))

pub effect_fits : (tables : Tables) (procedures : Catalogue) (call : Call) (rows : Rows) → AreSafe tables procedures → FitsProcedures procedures call → AreRows tables rows → AreRows tables (run_of_call tables procedures call rows).effect
effect_fits tables procedures call rows safe fits are =
    by_procedure (AreRows tables (run_of_call tables procedures call rows).effect) procedures call fits
    (λ c. (has_run tables procedures call rows safe c are).fits)
    (λ none. subst (λ (r : Run). AreRows tables r.effect) (sym (is_idle tables procedures call rows none)) are)
