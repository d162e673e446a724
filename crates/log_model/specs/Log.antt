-- The log: calls and additions of procedures in one total order. What becomes of each, and the database after each position
-- (Pedone, Guerraoui and Schiper 2003: each site certifies the calls in that order by one deterministic test; the test
-- itself, the window, the snapshots, the additions and the requests are this product's own).
use Rattle.std.specs.Prelude.{ℕ, zero, suc, ◌+◌, ◌-◌, ◌≤◌, ◌==◌, nat_le, Bool, true, false, is_some, ◌&&◌, if◌then◌else◌, List, [], ◌∷◌, ◌++◌, length, drop, find, slice_get, slice_index_or, Option, Some, None}
use Rattle.std.specs.Option.{option_map}
use Rattle.std.specs.List.{fold}
use Rattle.std.specs.FinMap.{empty}
use Rattle.std.specs.Str.{bytes_eq}
use Rattle.bpf_code.specs.Program.{Program}
use Rattle.schema.specs.Schema.{Tables}
use Rattle.schema.specs.declared.look.Look.{Look}
use Rattle.schema.specs.Rows.{Rows, Writes, shares_key}
use Rattle.bpf_semantics.specs.State.{entry_state}
use Rattle.bpf_semantics.specs.Step.{Moment, Stuck}
use Rattle.bpf_semantics.specs.Run.{Run, run, moment}
use Rattle.log_model.specs.declared.request.RequestId.{RequestId}
use Rattle.log_model.specs.declared.verdict.Identifier.TheVariants.{Name, Number}
use Rattle.log_model.specs.declared.verdict.Verdict.{Verdict}
use Rattle.log_model.specs.declared.verdict.Verdict.TheVariants.{Commit, Conflict, Stale, Repeated, Taken}

pub record StoredProcedure : Type 0 where
  pub name : List ℕ
  pub number : ℕ
  pub program : Program
  pub args_len : ℕ

-- in order of entry
abbrev pub Catalogue : Type 0
Catalogue = List StoredProcedure

abbrev pub by_number : Catalogue → ℕ → Option StoredProcedure
by_number catalogue number = find (λ p. p.number == number) catalogue

abbrev pub by_name : Catalogue → List ℕ → Option StoredProcedure
by_name catalogue name = find (λ p. bytes_eq p.name name) catalogue

-- a request that was done before the log, with the reply, the procedure's number and the arguments. A session that has done
-- nothing has one of sequence number 0, which no call carries
pub record DoneRequest : Type 0 where
  pub request : RequestId
  pub reply : ℕ
  pub procedure : ℕ
  pub args : List ℕ

-- what a database has before the log
pub record Beginning : Type 0 where
  pub rows : Rows
  pub procedures : Catalogue
  pub requests : List DoneRequest

-- what all replicas have in common at first
pub record Setting : Type 0 where
  pub tables : Tables
  pub beginning : Beginning
  pub window : ℕ

-- a call as it is ordered
pub record Call : Type 0 where
  pub number : ℕ  -- of the call among all that were begun, not its place in the log
  pub procedure : ℕ  -- its number
  pub args : List ℕ
  pub snapshot : ℕ  -- the position whose rows and procedures it read
  pub request : Option RequestId  -- where it carries one

-- both carry one, and it is the same
abbrev pub same_request : Option RequestId → Option RequestId → Bool
same_request None b = false
same_request (Some a) None = false
same_request (Some a) (Some b) = a.session == b.session && a.sequence == b.sequence

-- the first done request that is this one
abbrev pub done_under : List DoneRequest → Option RequestId → Option DoneRequest
done_under done request = find (λ d. same_request request (Some d.request)) done

abbrev pub was_done : List DoneRequest → Option RequestId → Bool
was_done done request = is_some (done_under done request)

abbrev pub reply_done : List DoneRequest → Option RequestId → Option ℕ
reply_done done request = option_map (λ d. d.reply) (done_under done request)

-- what is ordered: a call, or a procedure that is to be added
pub data Item : Type 0 where
  CallItem : Call → Item
  AdditionItem : StoredProcedure → Item

-- its place in the log is its position, from 1 on
abbrev pub Log : Type 0
Log = List Item

-- a call has a snapshot below its position, where so many come before it
abbrev pub IsPlaced : ℕ → Item → Type 0
IsPlaced before (CallItem call) = call.snapshot ≤ before
IsPlaced before (AdditionItem p) = Unit {0}

abbrev pub IsLogFrom : ℕ → Log → Type 0
IsLogFrom before [] = Unit {0}
IsLogFrom before (item ∷ later) = IsPlaced before item × IsLogFrom (suc before) later

abbrev pub IsLog : Log → Type 0
IsLog log = IsLogFrom 0 log

-- ---- the run of a call

abbrev pub idle : Rows → Run
idle rows = record { steps = 0; reply = 0; looks = []; writes = empty; cancel_code = None; effect = rows }

abbrev pub or_idle : Rows → Option Run → Run
or_idle rows (Some r) = r
or_idle rows None = idle rows

abbrev pub run_of_procedure : Tables → Option StoredProcedure → List ℕ → Rows → Option Run
run_of_procedure tables None args rows = None
run_of_procedure tables (Some p) args rows = run p.program tables args rows

-- the run of a call, of one of these procedures, on some rows. A call without a run does nothing: of an accepted procedure
-- each has one
unfoldable pub run_of_call : Tables → Catalogue → Call → Rows → Run
run_of_call tables procedures call rows = or_idle rows (run_of_procedure tables (by_number procedures call.procedure) call.args rows)

-- ---- verdicts

-- an item of the log afterwards: the request that it carried, what it wrote, and its verdict
pub record CertifiedItem : Type 0 where
  pub request : Option RequestId
  pub writes : Writes
  pub verdict : Verdict

abbrev pub is_commit : Verdict → Bool
is_commit Commit = true
is_commit _ = false

-- it committed, and wrote a key that was looked at
abbrev pub conflicts : List Look → CertifiedItem → Bool
conflicts looks c = is_commit c.verdict && shares_key looks c.writes

-- it committed, and carried this request
abbrev pub repeats : Option RequestId → CertifiedItem → Bool
repeats request c = is_commit c.verdict && same_request request c.request

-- the least position of one that passes a test; the first has this position
unfoldable pub first_position : (CertifiedItem → Bool) → ℕ → List CertifiedItem → Option ℕ
first_position test position [] = None
first_position test position (c ∷ later) = if test c then Some position else first_position test (position + 1) later

abbrev pub unless_repeated : Option ℕ → Verdict → Verdict
unless_repeated None verdict = verdict
unless_repeated (Some position) verdict = Repeated position

abbrev pub unless_conflict : Option ℕ → Verdict
unless_conflict None = Commit
unless_conflict (Some position) = Conflict position

-- the position at which this request was done: 0 before the log, else that of the committed call that carries it
abbrev pub done_at : List DoneRequest → List CertifiedItem → Option RequestId → Option ℕ
done_at done past request = if was_done done request then Some 0 else first_position (repeats request) 1 past

abbrev pub first_repeated : List DoneRequest → List CertifiedItem → Call → Option ℕ
first_repeated done past call = done_at done past call.request

-- the verdict on the next item, a call, by what is known of those before it. It is repeated, where its request was done, however
-- long ago. Else it is stale, where more than the window were ordered since its snapshot. Else it is in conflict with the least
-- since then that conflicts with its looks. Else it commits
unfoldable pub verdict_after : ℕ → List DoneRequest → List CertifiedItem → Call → List Look → Verdict
verdict_after window done past call looks =
    unless_repeated (first_repeated done past call)
    (if nat_le (length past - call.snapshot) window
    then unless_conflict (first_position (conflicts looks) (call.snapshot + 1) (drop call.snapshot past))
    else Stale)

-- the next item, a call, by its looks and writes
abbrev pub certified_call_after : ℕ → List DoneRequest → List CertifiedItem → Call → List Look → Writes → CertifiedItem
certified_call_after window done past call looks writes =
    record { request = call.request; writes = writes; verdict = verdict_after window done past call looks }

-- the verdict on an addition to these procedures
abbrev pub verdict_on_addition : Catalogue → StoredProcedure → Verdict
verdict_on_addition procedures p =
    if is_some (by_name procedures p.name) then Taken Name
    else if is_some (by_number procedures p.number) then Taken Number
    else Commit

-- it carries no request, and writes nothing
abbrev pub certified_addition : Catalogue → StoredProcedure → CertifiedItem
certified_addition procedures p = record { request = None; writes = empty; verdict = verdict_on_addition procedures p }

-- ---- the recursion on the log

-- what there is after a position
pub record Database : Type 0 where
  pub rows : Rows
  pub procedures : Catalogue

-- what the first so many items came to
pub record History : Type 0 where
  pub certified : List CertifiedItem  -- of each item
  pub databases : List Database  -- before the first item, and after each

abbrev pub first_database : Beginning → Database
first_database beginning = record { rows = beginning.rows; procedures = beginning.procedures }

abbrev pub start : Setting → History
start w = record { certified = []; databases = first_database w.beginning ∷ [] }

abbrev pub no_database : Database
no_database = record { rows = empty; procedures = [] }

-- past the end there is nothing
abbrev pub database_at : History → ℕ → Database
database_at h position = slice_index_or h.databases position no_database

abbrev pub database_now : History → Database
database_now h = database_at h (length h.certified)

abbrev pub with_certified : History → CertifiedItem → Database → History
with_certified h c database = record { certified = h.certified ++ c ∷ []; databases = h.databases ++ database ∷ [] }

abbrev pub if_commits : {X : Type 0} → Verdict → X → X → X
if_commits Commit then_this else_this = then_this
if_commits _ then_this else_this = else_this

-- the run of a call of the procedures of its snapshot, on some rows
abbrev pub run_at : Setting → History → Call → Rows → Run
run_at w h call rows = run_of_call w.tables (database_at h call.snapshot).procedures call rows

-- what becomes of the next item: a call ran on the rows of its snapshot
unfoldable pub certified_item : Setting → History → Item → CertifiedItem
certified_item w h (CallItem call) =
    let r = run_at w h call (database_at h call.snapshot).rows in
    certified_call_after w.window w.beginning.requests h.certified call r.looks r.writes
certified_item w h (AdditionItem p) = certified_addition (database_now h).procedures p

-- and the database after it, with this verdict: a call that commits runs once more, on the rows now; a procedure that is
-- added comes behind the others
unfoldable pub database_after_item : Setting → History → Item → Verdict → Database
database_after_item w h (CallItem call) v = record {
  rows = if_commits v (run_at w h call (database_now h).rows).effect (database_now h).rows;
  procedures = (database_now h).procedures;
}
database_after_item w h (AdditionItem p) v = record {
  rows = (database_now h).rows;
  procedures = if_commits v ((database_now h).procedures ++ p ∷ []) (database_now h).procedures;
}

abbrev pub with_item : Setting → History → Item → History
with_item w h item = with_certified h (certified_item w h item) (database_after_item w h item (certified_item w h item).verdict)

unfoldable pub history : Setting → Log → History
history w log = fold (with_item w) (start w) log

abbrev pub verdict_in : List CertifiedItem → ℕ → Option Verdict
verdict_in certified zero = None
verdict_in certified (suc k) = option_map (λ c. c.verdict) (slice_get certified k)

-- the verdict on the item at a position, from 1 on
abbrev pub verdict_of : Setting → Log → ℕ → Option Verdict
verdict_of w log position = verdict_in (history w log).certified position

-- the rows after a position: at 0 those of the beginning, past the end none
abbrev pub rows_after : Setting → Log → ℕ → Rows
rows_after w log position = (database_at (history w log) position).rows

-- the procedures after a position: at 0 those of the beginning, past the end none
abbrev pub procedures_after : Setting → Log → ℕ → Catalogue
procedures_after w log position = (database_at (history w log) position).procedures

-- the procedure of a call: of those of its snapshot
abbrev pub procedure_of : Setting → Log → Call → Option StoredProcedure
procedure_of w log call = by_number (procedures_after w log call.snapshot) call.procedure

-- the run of a call on some rows
abbrev pub run_on : Setting → Log → Call → Rows → Run
run_on w log call rows = run_of_call w.tables (procedures_after w log call.snapshot) call rows

-- the run of a call on the rows of its snapshot
abbrev pub run_in : Setting → Log → Call → Run
run_in w log call = run_on w log call (rows_after w log call.snapshot)

abbrev pub moment_of : Tables → Option StoredProcedure → List ℕ → Rows → ℕ → Moment
moment_of tables None args rows k = Stuck
moment_of tables (Some p) args rows k = moment p.program tables k (entry_state args rows)

-- where a call is after so many instructions, on the rows of its snapshot
unfoldable pub moment_at : Setting → Log → Call → ℕ → Moment
moment_at w log call k = moment_of w.tables (procedure_of w log call) call.args (rows_after w log call.snapshot) k
