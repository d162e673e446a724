-- What a site knows of the log for which it stands.
use Rattle.std.proofs.Common.{◌≡◌, ℕ, ◌-◌, ◌≤◌, ◌<◌, nat_le, nat_lt, nat_eq, Bool, true, false, not, cond, ◌&&◌, ◌||◌, List, [], ◌∷◌, length, Option, Some, None, is_some, option_map, refl, sym, ap, subst, ◌∙◌, arith}
use Rattle.std.proofs.lemmas.Bool.Decides.{nat_tests}
use Rattle.std.proofs.lemmas.List.{length-map}
use Rattle.std.specs.FinMap.{empty, get-empty, len, entries as map_entries}
use Rattle.std.specs.Str.{bytes_eq}
use Rattle.std.specs.Prelude.{Result, Ok, Err, IfOk}
use Rattle.schema.specs.Schema.{Tables, AreTables}
use Rattle.schema.specs.Rows.{AreWrites, Key, key_cmp}
use Rattle.log_model.specs.InstalledWrites.{map_after}
use Rattle.bpf_code.specs.Program.{IsProgram}
use Rattle.bpf_semantics.specs.Run.{Run}
use Rattle.bpf_verify.specs.Flow.{Procedure, IsAccepted}
use Rattle.catalogue.specs.Catalogue.{beginning_of, accepted_of}
use Rattle.catalogue.specs.Stored.{ListedProcedure, AreForTables, listed_by_number, stored, stored_procedures}
use Rattle.log_model.specs.Log.{Beginning, StoredProcedure, Catalogue, CertifiedItem, Setting, Call, Log, IsLog, by_number, done_at, history, procedure_of, procedures_after, rows_after, run_in}
use Rattle.log_model.specs.Fit.{BeginsSafely, IsSafe}
use Rattle.site_model.specs.Fit.{AreFitEntries}
use Rattle.log_model.specs.Name.{is_name}
use Rattle.log_entry.specs.declared.entry.Entry.TheVariants.{Addition}
use Rattle.log_entry.specs.Head.{Head, NamedProcedure, CallHead, AdditionHead, head_of}
use Rattle.log_model.specs.Entries.{Entry, ExecutedCall, CallEntry, AdditionEntry, item_of, items_of, CarriesRun, CarryRuns, certified_entries_of, installed_from}
use Rattle.log_entry.specs.Bytes.{entry_bytes}
use Rattle.replica.specs.Replica.{StandsFor, StandsIn, rows_kept}
use Rattle.site_model.specs.Standing as model
use Rattle.site_model.specs.declared.cause.NothingCause.{NothingCause}
use Rattle.site_model.specs.declared.cause.NothingCause.TheVariants as cause
use Rattle.site_model.specs.Sessions.{Sessions, session_cause, session_opened}
use Rattle.site_model.specs.Standing.{SiteSetting, standing, standing_of_head, addition_standing, IsDecided, OpensSession, IsNothing, call_standing, request_standing, unless_opened, executed, is_decided, is_true, run_standing, takes_arguments, writes_something}
use Rattle.site.specs.Run.{CanRun}
use Rattle.site.specs.declared.standing.Standing.{Standing}
use Rattle.site.specs.Standing.{CanBeTaken, IsStanding}
use Rattle.site.specs.Replica.{SiteReplica, setting_of, since_of, KnowsSince, StandsForLog}

-- what the laws of lower crates say
abbrev pub VerdictsSuffice : Type 0
VerdictsSuffice = (w : Setting) (entries : List Entry) → IsLog (items_of entries) → CarryRuns w entries → (certified_entries_of w.window w.beginning entries).certified ≡ (history w (items_of entries)).certified

abbrev pub ProceduresSuffice : Type 0
ProceduresSuffice = (w : Setting) (entries : List Entry) → IsLog (items_of entries) → CarryRuns w entries → (certified_entries_of w.window w.beginning entries).procedures ≡ procedures_after w (items_of entries) (length entries)

-- ---- repeated and stale calls

pub log_long : (s : SiteReplica) (entries : List Entry) → StandsForLog s entries → length (items_of entries) ≡ s.replica.position
log_long s entries stands = length-map entries item_of ∙ sym stands.stands.delivered.position

behind : (a b : ℕ) → not (nat_le a b) ≡ nat_lt b a
behind a b = elim (nat_lt b a) as (λ t. nat_lt b a ≡ t → not (nat_le a b) ≡ t) [ true ↦ λ e. grind (arith, nat_tests) | false ↦ λ e. grind (arith, nat_tests) ] refl

pub decided : (s : SiteReplica) (entries : List Entry) (call : Call) (repeated : Option ℕ) (late : Bool) → VerdictsSuffice → StandsForLog s entries
    → repeated ≡ done_at (beginning_of s.catalogue).requests (certified_entries_of s.replica.window (beginning_of s.catalogue) entries).certified call.request
    → late ≡ nat_lt s.replica.window (s.replica.position - call.snapshot)
    → (is_some repeated || late) ≡ is_decided (setting_of s).setting (items_of entries) call
decided s entries call repeated late law stands first is =
    let w = (setting_of s).setting in
    let same = first ∙ ap (λ (past : List CertifiedItem). done_at w.beginning.requests past call.request) (law w entries stands.of_log.log stands.of_log.runs) in
    let long = ap (λ n. nat_lt w.window (n - call.snapshot)) (sym (log_long s entries stands)) in
    (λ i. is_some (same i) || (is ∙ long ∙ sym (behind (length (items_of entries) - call.snapshot) w.window)) i)

-- ---- procedures

same_tables : (tables : Tables) (p : Procedure) → p.tables ≡ tables → p ≡ record { program = p.program; tables = tables; args_len = p.args_len }
same_tables tables p e = ap (λ (ts : Tables). record { program = p.program; tables = ts; args_len = p.args_len }) e

-- what is listed under a number is the program of the procedure that the model finds
pub listed_stored : (tables : Tables) (held : List ListedProcedure) (number : ℕ) → AreForTables tables held → option_map (λ (l : ListedProcedure). l.accepted) (listed_by_number held number) ≡ option_map (accepted_of tables) (by_number (stored_procedures held) number)
listed_stored tables [] number are = refl
listed_stored tables (l ∷ held) number are = elim (nat_eq l.number number) as (λ b. option_map (λ (x : ListedProcedure). x.accepted) (cond b (Some l) (listed_by_number held number)) ≡ option_map (accepted_of tables) (cond b (Some (stored l)) (by_number (stored_procedures held) number))) [
  | true ↦ ap Some (same_tables tables l.accepted are.0)
  | false ↦ listed_stored tables held number are.1
]

pub held_procedures : (s : SiteReplica) (entries : List Entry) → ProceduresSuffice → StandsForLog s entries → stored_procedures s.replica.procedures ≡ procedures_after (setting_of s).setting (items_of entries) (length (items_of entries))
held_procedures s entries law stands =
    stands.stands.delivered.procedures
    ∙ law (setting_of s).setting entries stands.of_log.log stands.of_log.runs
    ∙ ap (λ n. procedures_after (setting_of s).setting (items_of entries) n) (sym (length-map entries item_of))

pub found_at : (s : SiteReplica) (entries : List Entry) (number position : ℕ) (found : Option Procedure) → ProceduresSuffice → StandsForLog s entries → position ≤ s.replica.position → since_of s.additions number ≤ position
    → found ≡ option_map (λ (l : ListedProcedure). l.accepted) (listed_by_number s.replica.procedures number)
    → found ≡ option_map (accepted_of s.catalogue.tables) (by_number (procedures_after (setting_of s).setting (items_of entries) position) number)
found_at s entries number position found law stands reached from is =
    let long = log_long s entries stands in
    is
    ∙ listed_stored s.catalogue.tables s.replica.procedures number stands.stands.procedures
    ∙ ap (λ (ps : Catalogue). option_map (accepted_of s.catalogue.tables) (by_number ps number)) (held_procedures s entries law stands)
    ∙ ap (option_map (accepted_of s.catalogue.tables)) (sym (stands.since.from number position from (omega arith)))

pub none_before : (s : SiteReplica) (entries : List Entry) (number position : ℕ) → StandsForLog s entries → position < since_of s.additions number
    → None ≡ option_map (accepted_of s.catalogue.tables) (by_number (procedures_after (setting_of s).setting (items_of entries) position) number)
none_before s entries number position stands lt = ap (option_map (accepted_of s.catalogue.tables)) (sym (stands.since.before number position lt))

-- ---- by a run

pub not_true : (w : Setting) (log : Log) (call : Call) (bytes : List ℕ) → writes_something (run_in w log call) ≡ false → is_true w log call bytes ≡ false
not_true w log call bytes e = ap (λ b. b && bytes_eq bytes (entry_bytes (CallEntry (executed w log call)))) e

pub cancelled_writes_nothing : (r : Run) (code : ℕ) → r.cancel_code ≡ Some code → writes_something r ≡ false
cancelled_writes_nothing r code e = ap (λ (o : Option ℕ). not (is_some o) && not (nat_eq (len r.writes) 0)) e

nothing : (b : Bool) (n : ℕ) → n ≡ 0 → (b && not (nat_eq n 0)) ≡ false
nothing true n e = ap (λ k. not (nat_eq k 0)) e
nothing false n e = refl

pub read_writes_nothing : (r : Run) → len r.writes ≡ 0 → writes_something r ≡ false
read_writes_nothing r e = nothing (not (is_some r.cancel_code)) (len r.writes) e

some_written : (n : ℕ) → (n ≡ 0 → ⊥) → not (nat_eq n 0) ≡ true
some_written n other = elim (nat_eq n 0) as (λ b. nat_eq n 0 ≡ b → not b ≡ true) [ true ↦ λ e. absurd (other (grind (arith, nat_tests))) | false ↦ λ _. refl ] refl

pub wrote_something : (r : Run) → r.cancel_code ≡ None → (len r.writes ≡ 0 → ⊥) → writes_something r ≡ true
wrote_something r none some = (λ i. not (is_some (none i)) && some_written (len r.writes) some i)

-- an entry that carries the run of a call is that call's
pub is_executed : (w : Setting) (log : Log) (call : Call) (e : ExecutedCall) → e.call ≡ call → CarriesRun w log e → executed w log call ≡ e
is_executed w log call e same carries =
    let of : executed w log e.call ≡ e = (λ i. record { call = e.call; looks = sym carries.looks i; writes = sym carries.writes i; reply = sym carries.reply i }) in
    ap (executed w log) (sym same) ∙ of

pub is_true_where : (w : Setting) (log : Log) (call : Call) (bytes : List ℕ) (e : ExecutedCall) (b : Bool) → writes_something (run_in w log call) ≡ true → executed w log call ≡ e → b ≡ bytes_eq bytes (entry_bytes (CallEntry e)) → is_true w log call bytes ≡ b
is_true_where w log call bytes e b some same is =
    ap (λ t. t && bytes_eq bytes (entry_bytes (CallEntry (executed w log call)))) some
    ∙ ap (λ (x : ExecutedCall). bytes_eq bytes (entry_bytes (CallEntry x))) same ∙ sym is

-- ---- a call, test by test

module _ (s : SiteReplica) (entries : List Entry) (call : Call) (bytes : List ℕ) (position : ℕ) (stands : StandsForLog s entries) (here : position ≡ s.replica.position) where
  abbrev w : Setting
  w = (setting_of s).setting

  abbrev log : Log
  log = items_of entries

  abbrev of_call : model.Standing
  of_call = call_standing (setting_of s) s.sessions log call bytes

  -- behind the test of its snapshot, and behind that of what is known of its request
  abbrev by_request : Option NothingCause → model.Standing
  by_request o = request_standing w log call bytes o

  module _ (reached : call.snapshot ≤ position) where
    early : not (nat_le call.snapshot (length log)) ≡ false
    early = let long = log_long s entries stands in grind (arith, nat_tests)

    pub at_session : (o : Option NothingCause) → session_cause s.origin s.sessions call.request ≡ o → of_call ≡ by_request o
    at_session o e = (λ i. cond (early i) (IsNothing cause.Snapshot) (by_request (e i)))

    module _ (inside : session_cause s.origin s.sessions call.request ≡ None) where
      by_tests : (d : Bool) → is_decided w log call ≡ d → of_call ≡ cond d (IsDecided call) (cond (not (takes_arguments (procedure_of w log call) call.args)) (IsNothing cause.Procedure) (run_standing w log call bytes))
      by_tests d e = at_session None inside ∙ ap (λ b. cond b (IsDecided call) (cond (not (takes_arguments (procedure_of w log call) call.args)) (IsNothing cause.Procedure) (run_standing w log call bytes))) e

      pub at_decided : is_decided w log call ≡ true → of_call ≡ IsDecided call
      at_decided d = by_tests true d

      pub at_procedure : is_decided w log call ≡ false → takes_arguments (procedure_of w log call) call.args ≡ false → of_call ≡ IsNothing cause.Procedure
      at_procedure d t = by_tests false d ∙ ap (λ b. cond (not b) (IsNothing cause.Procedure) (run_standing w log call bytes)) t

      pub at_run : is_decided w log call ≡ false → takes_arguments (procedure_of w log call) call.args ≡ true → of_call ≡ run_standing w log call bytes
      at_run d t = by_tests false d ∙ ap (λ b. cond (not b) (IsNothing cause.Procedure) (run_standing w log call bytes)) t

pub none_found : (tables : Tables) (o : Option StoredProcedure) (args : List ℕ) → None ≡ option_map (accepted_of tables) o → takes_arguments o args ≡ false
none_found tables None args e = refl
none_found tables (Some p) args e = absurd cc

pub takes_by : (tables : Tables) (accepted : Procedure) (o : Option StoredProcedure) (args : List ℕ) → Some accepted ≡ option_map (accepted_of tables) o → takes_arguments o args ≡ nat_eq accepted.args_len (length args)
takes_by tables accepted None args e = absurd cc
takes_by tables accepted (Some p) args e = ap (λ (q : Procedure). nat_eq q.args_len (length args)) (sym (same accepted (accepted_of tables p) e))
  where
    same : (a b : Procedure) → Some a ≡ Some b → a ≡ b
    same a b e = cc

found_one : (tables : Tables) (accepted : Procedure) (o : Option StoredProcedure) → Some accepted ≡ option_map (accepted_of tables) o → (p : StoredProcedure) × (o ≡ Some p) × (accepted ≡ accepted_of tables p)
found_one tables accepted None e = absurd cc
found_one tables accepted (Some p) e = (p, refl, same accepted (accepted_of tables p) e)
  where
    same : (a b : Procedure) → Some a ≡ Some b → a ≡ b
    same a b e = cc

pub can_run : (s : SiteReplica) (entries : List Entry) (accepted : Procedure) (call : Call) → StandsForLog s entries → Some accepted ≡ option_map (accepted_of s.catalogue.tables) (procedure_of (setting_of s).setting (items_of entries) call) → CanRun (setting_of s).setting entries s.replica accepted call
can_run s entries accepted call stands is =
    let (p, known, program) = found_one s.catalogue.tables accepted (procedure_of (setting_of s).setting (items_of entries) call) is in
    record { stands = stands.stands.delivered; window = refl; of_log = stands.of_log; procedure = p; known = known; program = program }

-- ---- any bytes

-- bytes that open no session
pub stands_by : (s : SiteSetting) (known : Sessions) (log : Log) (bytes : List ℕ) (h : Option Head) → session_opened s.origin known.opened bytes ≡ None → head_of bytes ≡ h → standing s known log bytes ≡ standing_of_head s known log bytes h
unfolding standing
stands_by s known log bytes h none e = (λ i. unless_opened (none i) (standing_of_head s known log bytes (e i)))

pub stands_opened : (s : SiteSetting) (known : Sessions) (log : Log) (bytes : List ℕ) (session : ℕ) → session_opened s.origin known.opened bytes ≡ Some session → standing s known log bytes ≡ OpensSession session
unfolding standing
stands_opened s known log bytes session e = ap (λ (o : Option ℕ). unless_opened o (standing_of_head s known log bytes (head_of bytes))) e

abbrev pub AcceptedAreSafe : Type 0
AcceptedAreSafe = (tables : Tables) (p : StoredProcedure) → IsProgram p.program → AreTables tables → IsAccepted (record { program = p.program; tables = tables; args_len = p.args_len }) → IsSafe tables p

nothing_written : (tables : Tables) → AreWrites tables empty
nothing_written tables k write e = absurd (let bad : None ≡ Some write = sym (get-empty key_cmp k) ∙ e in cc)

pub addition_taken : {A : Type 0} (tables : Tables) (added : ListedProcedure) → AcceptedAreSafe → AreTables tables → is_name added.name ≡ true → added.accepted.tables ≡ tables → IsProgram added.accepted.program → IsAccepted added.accepted
    → CanBeTaken {A = A} tables (Addition added)
addition_taken tables added law are named for_tables program is = record {
  writes = nothing_written tables;
  named = named;
  for_tables = for_tables;
  safe = λ p same.
      subst (IsSafe tables) (one (stored added) p same)
      (law tables (stored added) program are (subst (λ (ts : Tables). IsAccepted (record { program = added.accepted.program; tables = ts; args_len = added.accepted.args_len })) for_tables is));
}
  where
    one : (p q : StoredProcedure) → AdditionEntry p ≡ AdditionEntry q → p ≡ q
    one p q e = cc

module _ {A E : Type 0} (s : SiteReplica) (bytes : List ℕ) (none : session_opened (setting_of s).origin s.sessions.opened bytes ≡ None) where
  abbrev AnswersStanding : Result (Standing A) E → Type 0
  AnswersStanding r = IfOk r (λ st. (entries : List Entry) → StandsForLog s entries → IsStanding (standing (setting_of s) s.sessions (items_of entries) bytes) st)

  pub call_is : (call : Call) (reply : ℕ) (r : Result (Standing A) E) → head_of bytes ≡ Some (CallHead call reply) → IfOk r (λ st. (entries : List Entry) → StandsForLog s entries → IsStanding (call_standing (setting_of s) s.sessions (items_of entries) call bytes) st) → AnswersStanding r
  call_is call reply (Ok st) head h = λ entries stands. subst (λ (m : model.Standing). IsStanding m st) (sym (stands_by (setting_of s) s.sessions (items_of entries) bytes (Some (CallHead call reply)) none head)) (h entries stands)
  call_is call reply (Err e) head h = tt

  pub addition_is : (p : NamedProcedure) (r : Result (Standing A) E) → head_of bytes ≡ Some (AdditionHead p) → IfOk r (λ st. IsStanding (addition_standing (setting_of s) p) st) → AnswersStanding r
  addition_is p (Ok st) head h = λ entries stands. subst (λ (m : model.Standing). IsStanding m st) (sym (stands_by (setting_of s) s.sessions (items_of entries) bytes (Some (AdditionHead p)) none head)) h
  addition_is p (Err e) head h = tt

-- ---- at first, and the rows

first_since : (w : Setting) → KnowsSince w [] []
first_since w = record {
  reached = λ number. omega arith;
  from = λ number position since le. ap (λ (n : ℕ). by_number (procedures_after w [] n) number) (let e : position ≡ 0 = omega arith in e);
  before = λ number position lt. absurd (omega arith);
}

pub stands_at_first : (s : SiteReplica) → s.replies ≡ [] → s.additions ≡ [] → s.replica.stopped ≡ false → StandsIn (setting_of s).setting s.replica [] → BeginsSafely (setting_of s).setting → StandsForLog s []
stands_at_first s replies additions running stands safe = record {
  running = running;
  stands = stands;
  of_log = record { begins = safe; log = tt; items = tt; runs = tt };
  replies = replies;
  since = subst (λ (xs : List (ℕ × ℕ)). KnowsSince (setting_of s).setting [] xs) (sym additions) (first_since (setting_of s).setting);
}

abbrev pub RowsSuffice : Type 0
RowsSuffice = (w : Setting) (entries : List Entry) (position : ℕ) → AreFitEntries w entries → position ≤ length entries
    → map_after w.beginning.rows (installed_from 1 (certified_entries_of w.window w.beginning entries).certified) position ≡ rows_after w (items_of entries) position

-- what a replica lists is the log's rows
pub rows_listed : {R E : Type 0} (s : SiteReplica) (items : R → List (Key × List ℕ)) (r : Result R E) → RowsSuffice
    → IfOk r (λ list. (base : Beginning) (entries : List Entry) → StandsFor base s.replica entries → items list ≡ map_entries (rows_kept s.replica.window base entries s.replica.position))
    → IfOk r (λ list. (entries : List Entry) → StandsForLog s entries → items list ≡ map_entries (rows_after (setting_of s).setting (items_of entries) (length entries)))
rows_listed s items (Err e) law h = tt
rows_listed s items (Ok list) law h = λ entries stands.
    let w = (setting_of s).setting in
    let are = stands.of_log in
    h (beginning_of s.catalogue) entries stands.stands.delivered
    ∙ ap (λ (n : ℕ). map_entries (rows_kept w.window w.beginning entries n)) stands.stands.delivered.position
    ∙ ap map_entries (law w entries (length entries) are (omega arith))
