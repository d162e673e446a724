-- What is told of a call.
use Rattle.std.proofs.Common.{◌≡◌, ◌≢◌, ◌⊎◌, inl, inr, ℕ, zero, suc, ◌<◌, false, true, cond, nat_eq, is_some, List, [], ◌∷◌, Option, Some, None, option_map, slice_get, refl, sym, ap, subst, ◌∙◌, arith}
use Rattle.std.specs.List.{AllByRecursion}
use Rattle.bpf_semantics.specs.Run.{Run}
use Rattle.log_model.specs.declared.verdict.Verdict.{Verdict}
use Rattle.log_model.specs.declared.verdict.Verdict.TheVariants.{Commit, Conflict, Stale, Repeated, Taken}
use Rattle.log_model.specs.Log.{Setting, DoneRequest, done_under, reply_done, Call, Item, CallItem, Log, IsLog, verdict_of, run_in}
use Rattle.log_model.specs.Fit.{BeginsSafely, AreItems}
use Rattle.log_model.specs.Entries.{Entry, CallEntry, ExecutedCall, items_of, IsCarried, CarryRuns}
use Rattle.std.proofs.lemmas.Bool.Decides.{nat_tests}
use Rattle.log_model.specs.Verdicts.{IsRepeated}
use Rattle.dsm_model.specs.World.{numbered}
use Rattle.dsm_model.specs.Sound.{IsSerialReply, reply_of, request_of_item, told_by, told_reply}
use Rattle.log_model.proofs.CallLemmas.{serial_run}
use Rattle.log_model.proofs.RepetitionLemmas.{repeated_means}
use Rattle.dsm_model.proofs.ContentsLemmas.{item_there}

serial_reply : (w : Setting) (log : Log) (d : ℕ) (call : Call) → BeginsSafely w → IsLog log → AreItems w log → slice_get log d ≡ Some (CallItem call) → verdict_of w log (suc d) ≡ Some Commit → IsSerialReply w log (suc d) (run_in w log call).reply
serial_reply w log d call safe below items at verdict = record {
  before = d;
  place = refl;
  call = call;
  stands = at;
  serial = ap (λ (r : Run). r.reply) (serial_run w log d call safe below items at verdict);
}

pub committed_told : (w : Setting) (log : Log) (d : ℕ) (call : Call) → BeginsSafely w → IsLog log → AreItems w log → slice_get log d ≡ Some (CallItem call) → verdict_of w log (suc d) ≡ Some Commit
    → (reply : ℕ) × (told_reply w log (suc d) ≡ Some reply) × IsSerialReply w log (suc d) reply
committed_told w log d call safe below items at verdict = (
  (run_in w log call).reply,
  ap (told_by w log (suc d)) verdict ∙ ap (reply_of w log) at,
  serial_reply w log d call safe below items at verdict,
)

pub repeated_told : (w : Setting) (log : Log) (d : ℕ) (call : Call) (earlier : ℕ) → BeginsSafely w → IsLog log → AreItems w log → slice_get log d ≡ Some (CallItem call) → 0 < earlier → verdict_of w log (suc d) ≡ Some (Repeated earlier)
    → (reply : ℕ) × (told_reply w log (suc d) ≡ Some reply) × IsSerialReply w log earlier reply
repeated_told w log d call earlier safe below items at some verdict = by ((repeated_means w log d call earlier below at).0 verdict)
  where
    above : (n : ℕ) → 0 < n → nat_eq n 0 ≡ false
    above n lt = grind (arith, nat_tests)

    by : IsRepeated w log call earlier (suc d) → (reply : ℕ) × (told_reply w log (suc d) ≡ Some reply) × IsSerialReply w log earlier reply
    by (inl before) = absurd (let none = before.1 in omega arith)
    by (inr is) =
        let run = serial_run w log is.before is.first safe below items is.stands (ap (verdict_of w log) (sym is.place) ∙ is.committed) in (
          (run_in w log is.first).reply,
          ap (told_by w log (suc d)) verdict
              ∙ ap (λ b. cond b (reply_done w.beginning.requests (request_of_item (numbered log (suc d)))) (reply_of w log (numbered log earlier))) (above earlier some)
              ∙ ap (λ (n : ℕ). reply_of w log (numbered log n)) is.place ∙ ap (reply_of w log) is.stands,
          record { before = is.before; place = is.place; call = is.first; stands = is.stands; serial = ap (λ (r : Run). r.reply) run },
        )

pub done_told : (w : Setting) (log : Log) (d : ℕ) (call : Call) → IsLog log → slice_get log d ≡ Some (CallItem call) → verdict_of w log (suc d) ≡ Some (Repeated 0)
    → (before : DoneRequest) × (done_under w.beginning.requests call.request ≡ Some before) × (told_reply w log (suc d) ≡ Some before.reply)
done_told w log d call below at verdict = by ((repeated_means w log d call 0 below at).0 verdict)
  where
    some_of : (o : Option DoneRequest) → is_some o ≡ true → (x : DoneRequest) × (o ≡ Some x)
    some_of None e = absurd cc
    some_of (Some x) e = (x, refl)

    by : IsRepeated w log call 0 (suc d) → (before : DoneRequest) × (done_under w.beginning.requests call.request ≡ Some before) × (told_reply w log (suc d) ≡ Some before.reply)
    by (inl done) =
        let found = some_of (done_under w.beginning.requests call.request) done.0 in (
          found.0,
          found.1,
          ap (told_by w log (suc d)) verdict
              ∙ ap (λ (o : Option Item). reply_done w.beginning.requests (request_of_item o)) at
              ∙ ap (option_map (λ (x : DoneRequest). x.reply)) found.1,
        )
    by (inr is) = absurd (let none = is.place in omega arith)

untold_by : (w : Setting) (log : Log) (position : ℕ) (v : Option Verdict) → v ≢ Some Commit → ((earlier : ℕ) → v ≢ Some (Repeated earlier)) → told_by w log position v ≡ None
untold_by w log position None f g = refl
untold_by w log position (Some Commit) f g = absurd (f refl)
untold_by w log position (Some (Conflict n)) f g = refl
untold_by w log position (Some Stale) f g = refl
untold_by w log position (Some (Repeated n)) f g = absurd (g n refl)
untold_by w log position (Some (Taken n)) f g = refl

pub untold : (w : Setting) (log : Log) (position : ℕ) → verdict_of w log position ≢ Some Commit → ((earlier : ℕ) → verdict_of w log position ≢ Some (Repeated earlier)) → told_reply w log position ≡ None
untold w log position f g = untold_by w log position (verdict_of w log position) f g

-- ---- what an entry carries

carried_at : (w : Setting) (log : Log) (entries : List Entry) (d : ℕ) (e : Entry) → AllByRecursion (IsCarried w log) entries → slice_get entries d ≡ Some e → IsCarried w log e
carried_at w log [] d e all at = absurd cc
carried_at w log (x ∷ entries) zero e all at = subst (IsCarried w log) (let same : x ≡ e = cc in same) all.0
carried_at w log (x ∷ entries) (suc d) e all at = carried_at w log entries d e all.1 at

pub entry_carries : (w : Setting) (entries : List Entry) (position : ℕ) (e : ExecutedCall) → CarryRuns w entries → numbered entries position ≡ Some (CallEntry e) → e.reply ≡ (run_in w (items_of entries) e.call).reply
entry_carries w entries zero e runs at = absurd cc
entry_carries w entries (suc d) e runs at = (carried_at w (items_of entries) entries d (CallEntry e) runs at).reply

pub entry_reply : (w : Setting) (entries : List Entry) (position : ℕ) (e : ExecutedCall) → BeginsSafely w → IsLog (items_of entries) → AreItems w (items_of entries) → CarryRuns w entries
    → numbered entries position ≡ Some (CallEntry e) → verdict_of w (items_of entries) position ≡ Some Commit → IsSerialReply w (items_of entries) position e.reply
entry_reply w entries zero e safe below items runs at verdict = absurd cc
entry_reply w entries (suc d) e safe below items runs at verdict =
    subst (IsSerialReply w (items_of entries) (suc d)) (sym (entry_carries w entries (suc d) e runs at))
    (serial_reply w (items_of entries) d e.call safe below items (item_there entries d (CallEntry e) at) verdict)
