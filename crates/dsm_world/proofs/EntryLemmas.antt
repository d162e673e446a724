-- An open call that follows its run goes on doing so on a log that has grown.
use Rattle.std.proofs.Common.{◌≤◌, ◌++◌, length, sym, ap, subst, ◌∙◌}
use Rattle.schema.specs.Rows.{Rows, AreRows}
use Rattle.log_model.specs.Log.{Catalogue, Setting, Call, Log, by_number}
use Rattle.log_model.specs.Fit.{IsCall}
use Rattle.log_model.proofs.GrowthLemmas.{rows_grown, procedures_grown}
use Rattle.bpf_vm.specs.Run.{own_effects}
use Rattle.catalogue.specs.Catalogue.{accepted_of}
use Rattle.world_calls.specs.OpenCall.{call_of, HasCome, Follows}
use Rattle.world_calls.specs.declared.open_call.OpenCall.{OpenCall as OpenCallState}

abbrev call_grown : (w : Setting) (log more : Log) (call : Call) → call.snapshot ≤ length log → IsCall w log call → IsCall w (log ++ more) call
call_grown w log more call le is = record {
  procedure = is.procedure;
  known = ap (λ (ps : Catalogue). by_number ps call.procedure) (procedures_grown w log more call.snapshot le) ∙ is.known;
  arguments = is.arguments;
}

-- one follows its run on a log that has grown
pub follows_grown : {A : Type 0} (w : Setting) (log more : Log) (c : OpenCallState A) → c.snapshot ≤ length log → Follows w log c → Follows w (log ++ more) c
follows_grown w log more c le f =
    let same = sym (rows_grown w log more c.snapshot le) in
    record {
      is_call = call_grown w log more (call_of c) le f.is_call;
      accepted = f.accepted;
      rows = subst (λ (rows : Rows). AreRows w.tables rows) same f.rows;
      so_far = subst (λ (rows : Rows). HasCome (accepted_of w.tables f.is_call.procedure) c.args rows c.turns c.machine.last c.machine (own_effects c.own)) same f.so_far;
    }
