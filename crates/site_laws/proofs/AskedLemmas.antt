-- A call that was submitted fits its fields, over the settings that sites have.
use Rattle.std.proofs.Common.{◌≡◌, ℕ, ◌^◌, ◌<◌, true, false, cond, List, [], ◌∷◌, ◌++◌, All, Option, Some, None, refl, sym, subst, arith, append_assoc, append-nil}
use Rattle.std.specs.Str.{bytes_eq}
use Rattle.std.proofs.lemmas.List.Elements.{All-head, All-push, All-tail}
use Rattle.bpf_code.specs.Program.{Program, IsProgram}
use Rattle.schema.specs.Schema.{Tables}
use Rattle.schema.specs.Rows.{Rows, AreRows}
use Rattle.bpf_semantics.specs.Fit.{IsRunOf}
use Rattle.bpf_semantics.specs.Run.{Run, run}
use Rattle.log_model.specs.Log.{StoredProcedure, Catalogue, Call, by_name, by_number, or_idle, run_of_call, run_of_procedure}
use Rattle.site_model.specs.Standing.{SiteSetting}
use Rattle.site_model.specs.Order.{Order}
use Rattle.site_laws.specs.Added.{AddsProcedure}
use Rattle.site_laws.specs.Orders.{FitsFields, IsBytes, IsOfBytes, procedures_behind}
use Rattle.site_laws.proofs.DecodingLemmas.{decoded_is_program}
use Rattle.site_laws.proofs.HeadFitLemmas.{named_procedure_fits}
use Rattle.site_laws.proofs.GrowingLemmas.{Added, Others, Told, by_next}
use Rattle.site_laws.proofs.OrderFitLemmas.{ChecksPass}

-- ---- the procedures behind an order fit

pub added_fits : (s : SiteSetting) (order : Order) (bytes : List ℕ) (p : StoredProcedure) → ChecksPass → IsBytes bytes → AddsProcedure s order bytes p → FitsFields p
added_fits s order bytes p passed are adds =
    let names = adds.names in
    let n = names.named in
    let decoded = ((passed s.setting.tables n.args_len n.bytes names.program).0 names.accepted).0 in
    subst FitsFields (sym names.is) (record {
      number = (named_procedure_fits bytes n are names.head).number;
      arguments = names.arguments;
      program = decoded_is_program n.bytes names.program decoded;
    })

module _ (s : SiteSetting) (told : Told) (added : Added) (others : Others) (passed : ChecksPass) where
  pub fit_from : (order more : Order) → IsOfBytes more → All FitsFields (procedures_behind s order) → All FitsFields (procedures_behind s (order ++ more))
  fit_from order [] are fit = subst (λ (o : Order). All FitsFields (procedures_behind s o)) (sym (append-nil order)) fit
  fit_from order (bytes ∷ more) are fit =
      subst (λ (o : Order). All FitsFields (procedures_behind s o)) (append_assoc order (bytes ∷ []) more)
      (fit_from (order ++ bytes ∷ []) more (All-tail IsBytes bytes more are)
      (by_next s told added others (All FitsFields) order bytes
      (λ p adds. All-push FitsFields (procedures_behind s order) p fit (added_fits s order bytes p passed (All-head IsBytes bytes more are) adds)) fit))

pub found_fits : (ps : Catalogue) (name : List ℕ) (p : StoredProcedure) → All FitsFields ps → by_name ps name ≡ Some p → FitsFields p
found_fits [] name p all e = absurd cc
found_fits (q ∷ ps) name p all e = elim (bytes_eq q.name name) as (λ b. cond b (Some q) (by_name ps name) ≡ Some p → FitsFields p) [
  | true ↦ λ h. subst FitsFields (let same : q ≡ p = cc in same) (All-head FitsFields q ps all)
  | false ↦ λ h. found_fits ps name p (All-tail FitsFields q ps all) h
] e

-- ---- the reply of a run

abbrev pub RunsFit : Type 0
RunsFit = (p : Program) (tables : Tables) (args : List ℕ) (rows : Rows) (r : Run) → IsProgram p → All (λ b. b < 256) args → AreRows tables rows → run p tables args rows ≡ Some r → IsRunOf tables r

pub reply_fits : (tables : Tables) (ps : Catalogue) (call : Call) (rows : Rows) (p : StoredProcedure) → RunsFit → by_number ps call.procedure ≡ Some p → IsProgram p.program → IsBytes call.args → AreRows tables rows → (run_of_call tables ps call rows).reply < 2 ^ 64
unfolding run_of_call
reply_fits tables ps call rows p fits known program args are =
    subst (λ (o : Option StoredProcedure). (or_idle rows (run_of_procedure tables o call.args rows)).reply < 2 ^ 64) (sym known)
    (by_run (run p.program tables call.args rows) refl)
  where
    by_run : (o : Option Run) → run p.program tables call.args rows ≡ o → (or_idle rows o).reply < 2 ^ 64
    by_run None e = omega arith
    by_run (Some r) e = (fits p.program tables call.args rows r program args are e).reply
