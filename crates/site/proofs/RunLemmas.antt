-- A call that runs to its end on the rows of its snapshot.
use Rattle.std.proofs.Common.{◌≡◌, ℕ, ◌≤◌, nat_lt, Bool, true, false, ◌&&◌, List, length, Some, sym, ap, subst, ◌∙◌, arith}
use Rattle.std.proofs.lemmas.Bool.Decides.{nat_tests}
use Rattle.std.proofs.lemmas.List.{length-map}
use Rattle.schema.specs.Rows.{Rows, AreRows}
use Rattle.log_model.specs.InstalledWrites.{map_after}
use Rattle.bpf_verify.specs.Flow.{Procedure}
use Rattle.bpf_vm.specs.declared.turn.Turn.{Turn}
use Rattle.bpf_vm.specs.declared.turn.Turn.TheVariants.{Exit, Stale}
use Rattle.log_model.specs.Log.{StoredProcedure, Setting, Call, Log, IsLog, by_number, procedures_after, rows_after}
use Rattle.log_model.specs.Entries.{Entry, item_of, items_of, certified_entries_of, installed_from}
use Rattle.log_model.specs.Fit.{BeginsSafely, AllFitLog}
use Rattle.log_model.specs.OpenCall.{OpenCall, makes_look}
use Rattle.catalogue.specs.Catalogue.{accepted_of}
use Rattle.replica.specs.Replica.{Replica, StandsFor, rows_kept}
use Rattle.world_calls.specs.OpenCall.{call_of, Follows, CanGoOn, IsTurn, AreTurns, further}
use Rattle.world_calls.specs.declared.open_call.OpenCall.{OpenCall as OpenCallState}
use Rattle.site_model.specs.Fit.{AreFitEntries}
use Rattle.site.specs.Run.{CanRun}

-- what the laws of lower crates say
abbrev pub RowsSuffice : Type 0
RowsSuffice = (w : Setting) (entries : List Entry) (position : ℕ) → AreFitEntries w entries → position ≤ length entries
    → map_after w.beginning.rows (installed_from 1 (certified_entries_of w.window w.beginning entries).certified) position ≡ rows_after w (items_of entries) position

abbrev pub RowsFit : Type 0
RowsFit = (w : Setting) (log : Log) (position : ℕ) → BeginsSafely w → IsLog log → AllFitLog w log → position ≤ length log → AreRows w.tables (rows_after w log position)

items_count : (xs : List Entry) → length (items_of xs) ≡ length xs
items_count xs = length-map xs item_of

-- the rows that the replica keeps of the snapshot are the log's
pub rows_held : RowsSuffice → (w : Setting) (entries : List Entry) (r : Replica) (accepted : Procedure) (call : Call) → CanRun w entries r accepted call → call.snapshot ≤ r.position → rows_kept r.window w.beginning entries call.snapshot ≡ rows_after w (items_of entries) call.snapshot
rows_held law w entries r accepted call can reached =
    let are = can.of_log in
    let position = can.stands.position in
    ap (λ (window : ℕ). rows_kept window w.beginning entries call.snapshot) (sym can.window)
    ∙ law w entries call.snapshot are (omega arith)

same_procedure : (p q : StoredProcedure) → Some p ≡ Some q → p ≡ q
same_procedure p q e = cc

module _ {A : Type 0} where
  abbrev pub FollowsAll : Procedure → Call → OpenCallState A → Type 0
  FollowsAll accepted call c = (w : Setting) (log : Log) (p : StoredProcedure) → by_number (procedures_after w log call.snapshot) call.procedure ≡ Some p → accepted ≡ accepted_of w.tables p → AreRows w.tables (rows_after w log call.snapshot) → Follows w log c

  pub follows : RowsFit → (w : Setting) (entries : List Entry) (r : Replica) (accepted : Procedure) (call : Call) (c : OpenCallState A) → CanRun w entries r accepted call → call.snapshot ≤ r.position → FollowsAll accepted call c → Follows w (items_of entries) c
  follows law w entries r accepted call c can reached all =
      let are = can.of_log in
      let position = can.stands.position in
      let count = items_count entries in
      all w (items_of entries) can.procedure can.known can.program (law w (items_of entries) call.snapshot are.begins are.log are.items (omega arith))

  pub can_go_on : RowsSuffice → RowsFit → (w : Setting) (entries : List Entry) (r : Replica) (accepted : Procedure) (call : Call) (c : OpenCallState A) (answers : Rows → Type 0) → CanRun w entries r accepted call → call.snapshot ≤ r.position
      → call_of c ≡ call → FollowsAll accepted call c → ((base : _) (es : List Entry) → StandsFor base r es → answers (rows_kept r.window base es call.snapshot)) → CanGoOn w (items_of entries) accepted answers c
  can_go_on suffice fit w entries r accepted call c answers can reached same all kept =
      let f = follows fit w entries r accepted call c can reached all in
      let here = ap (λ (x : Call). by_number (procedures_after w (items_of entries) x.snapshot) x.procedure) same in
      record {
        follows = f;
        program = can.program ∙ ap (accepted_of w.tables) (same_procedure can.procedure f.is_call.procedure (sym can.known ∙ sym here ∙ f.is_call.known));
        answers = subst answers (rows_held suffice w entries r accepted call can reached ∙ ap (λ (x : Call). rows_after w (items_of entries) x.snapshot) (sym same)) (kept w.beginning entries can.stands);
      }

never_both : (a b : Bool) → b ≡ false → (a && b) ≡ true → ⊥
never_both true b e f = cc
never_both false b e f = cc

-- where its rows are kept no turn is stale
pub never_stale : (w : Setting) (log : Log) (window behind : ℕ) (gone : Bool) (o after : OpenCall) → gone ≡ nat_lt window behind → behind ≤ window → IsTurn w log gone o Stale after → ⊥
never_stale w log window behind gone o after is le stale =
    let kept : nat_lt window behind ≡ false = grind (arith, nat_tests) in
    never_both (makes_look w log o) gone (is ∙ kept) stale

-- a turn that answers the end leaves the call what it is
pub call_stays : (w : Setting) (log : Log) (gone : Bool) (before : ℕ) (o after : OpenCall) (turn : Turn) (reply : ℕ) → turn ≡ Exit reply → AreTurns w log gone before o turn after → after.call ≡ o.call
call_stays w log gone before o after turn reply e are =
    ap (λ (x : OpenCall). x.call) (subst (λ (t : Turn). IsTurn w log gone (further before o) t after) e are.1).3
