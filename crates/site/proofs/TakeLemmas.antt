-- What stands at the next position follows the entries for which a site stands.
use Rattle.std.proofs.Common.{◌≡◌, ℕ, ◌+◌, ◌<◌, List, [], ◌∷◌, ◌++◌, length, All, Some, None, refl, sym, ap, subst, ◌∙◌, Option, Bool, true, false, cond, not, ◌&&◌, nat_le}
use Rattle.std.specs.FinMap.{empty, get-empty}
use Rattle.std.specs.Prelude.{Result, Ok, Err, IfOk, OnOk}
use Rattle.schema.specs.Schema.{Tables}
use Rattle.schema.specs.Rows.{AreWrites, key_cmp}
use Rattle.log_model.specs.declared.request.RequestId.{RequestId}
use Rattle.log_model.specs.Log.{StoredProcedure, Call as OrderedCall, Log, IsPlaced, procedure_of, verdict_of}
use Rattle.log_model.specs.Fit.{IsSafe, FitsLog}
use Rattle.log_model.specs.Entries.{Entry, ExecutedCall, CallEntry, AdditionEntry, item_of, items_of, IsCarried}
use Rattle.log_entry.specs.declared.entry.Entry.{Entry as LogEntry}
use Rattle.log_entry.specs.declared.entry.Entry.TheVariants.{Call, Addition}
use Rattle.log_model.specs.Name.{is_name}
use Rattle.log_entry.specs.Head.{NamedProcedure, Head, CallHead, AdditionHead, head_of}
use Rattle.program_checks.specs.ProgramCheck.{ProgramCheck, Passed, Failed}
use Rattle.program_checks.specs.Check.{check_of}
use Rattle.schema.specs.declared.limits.TheConstants.{MAX_ARGUMENTS}
use Rattle.log_entry.specs.Kind.{entry_of}
use Rattle.site_model.specs.declared.cause.NothingCause.{NothingCause}
use Rattle.site_model.specs.declared.cause.NothingCause.TheVariants as cause
use Rattle.site_model.specs.Standing.{SiteSetting, Standing, StandsAs, IsDecided, OpensSession, IsNothing, executed, is_decided, is_true, takes_arguments, checked_standing, request_standing, standing_of_head, standing, unless_opened}
use Rattle.site_model.specs.declared.outcome.EntryOutcome.{EntryOutcome}
use Rattle.site_model.specs.declared.outcome.EntryOutcome.TheVariants as outcome
use Rattle.site_model.specs.Order.{committed_outcome, next_entry, entry_standing, outcome_behind, outcome_by, outcome_of, Order, order_entries, replies_to, reply_to, request_in, with_bytes}
use Rattle.site.specs.Replica.{SiteReplica, StandsForLog, StandsForOrder, setting_of}
use Rattle.site.specs.declared.standing.Standing.TheVariants as Code
use Rattle.site.specs.Standing.{CanBeTaken, IsStanding}
use Rattle.site.specs.Taking.{AreAlike, Follows, request_carried}
use Rattle.site_model.specs.Order.{next_outcome, sessions_after}
use Rattle.site_model.specs.Sessions.{Sessions, session_cause, session_opened, sessions_with}
use Rattle.site.proofs.SiteLemmas.{log_long}

-- what the law of orders says
abbrev pub ArePlaced : Type 0
ArePlaced = (s : SiteSetting) (known : Sessions) (entries : List Entry) (bytes : List ℕ) → IsPlaced (length entries) (item_of (next_entry s known entries bytes))

abbrev pub AreCarried : Type 0
AreCarried = (s : SiteSetting) (known : Sessions) (entries : List Entry) (bytes : List ℕ) → IsCarried s.setting (items_of entries) (next_entry s known entries bytes)

abbrev pub FitLogs : Type 0
FitLogs = (s : SiteSetting) (known : Sessions) (entries : List Entry) (bytes : List ℕ) → All (λ b. b < 256) bytes → ((p : StoredProcedure) → standing s known (items_of entries) bytes ≡ StandsAs (AdditionEntry p) → IsSafe s.setting.tables p) → FitsLog s.setting (items_of entries) (item_of (next_entry s known entries bytes))

alike_itself : (e : Entry) → AreAlike e e
alike_itself (CallEntry e) = (refl, refl, refl, refl, refl)
alike_itself (AdditionEntry p) = refl

same_addition : (e d : Entry) → StandsAs e ≡ StandsAs d → e ≡ d
same_addition e d is = cc

abbrev pub none_executed : ℕ → Option RequestId → ExecutedCall
none_executed snapshot request = record {
  call = record { number = 0; procedure = 0; args = []; snapshot = snapshot; request = request };
  looks = [];
  writes = empty;
  reply = 0;
}

module _ {A : Type 0} (placed : ArePlaced) (carried : AreCarried) (fit : FitLogs) (s : SiteReplica) (entries : List Entry) (bytes : List ℕ) (are : All (λ b. b < 256) bytes) (stands : StandsForLog s entries) (entry : LogEntry A) where
  pub follows_true : (e : Entry) → standing (setting_of s) s.sessions (items_of entries) bytes ≡ StandsAs e → e ≡ entry_of entry → CanBeTaken s.catalogue.tables entry → Follows s entries (next_entry (setting_of s) s.sessions entries bytes) entry
  follows_true e is same taken = record {
    stands = stands;
    alike = subst (λ (x : Entry). AreAlike x (entry_of entry)) (sym (ap (entry_standing (setting_of s).setting (items_of entries)) is ∙ same)) (alike_itself (entry_of entry));
    placed = placed (setting_of s) s.sessions entries bytes;
    fits = fit (setting_of s) s.sessions entries bytes are (λ p addition. taken.safe p (sym same ∙ same_addition e (AdditionEntry p) (sym is ∙ addition)));
    carried = carried (setting_of s) s.sessions entries bytes;
    taken = taken;
  }

none_taken : {A : Type 0} (tables : Tables) (entry : LogEntry A) (snapshot : ℕ) (request : Option RequestId) → entry_of entry ≡ CallEntry (none_executed snapshot request) → CanBeTaken tables entry
none_taken tables (Call e) snapshot request is = record {
  writes = subst (λ (x : ExecutedCall). AreWrites tables x.writes) (sym (one e (none_executed snapshot request) is)) (λ k write f. absurd (let bad : None ≡ Some write = sym (get-empty key_cmp k) ∙ f in cc));
  named = tt;
  for_tables = tt;
  safe = λ p same. absurd cc;
}
  where
    one : (a b : ExecutedCall) → CallEntry a ≡ CallEntry b → a ≡ b
    one a b e = cc
none_taken tables (Addition p) snapshot request is = absurd cc

module _ {A : Type 0} (placed : ArePlaced) (carried : AreCarried) (fit : FitLogs) (s : SiteReplica) (entries : List Entry) (bytes : List ℕ) (are : All (λ b. b < 256) bytes) (stands : StandsForLog s entries) (entry : LogEntry A) where
  pub follows_none : (st : Standing) (snapshot : ℕ) (request : Option RequestId) → standing (setting_of s) s.sessions (items_of entries) bytes ≡ st → entry_of entry ≡ CallEntry (none_executed snapshot request)
      → AreAlike (entry_standing (setting_of s).setting (items_of entries) st) (CallEntry (none_executed snapshot request)) → ((e : Entry) → st ≡ StandsAs e → ⊥) → Follows s entries (next_entry (setting_of s) s.sessions entries bytes) entry
  follows_none st snapshot request is entry_is alike other = record {
    stands = stands;
    alike =
        subst (λ (x : Entry). AreAlike x (entry_of entry)) (sym (ap (entry_standing (setting_of s).setting (items_of entries)) is))
        (subst (λ (d : Entry). AreAlike (entry_standing (setting_of s).setting (items_of entries) st) d) (sym entry_is) alike);
    placed = placed (setting_of s) s.sessions entries bytes;
    fits = fit (setting_of s) s.sessions entries bytes are (λ p addition. absurd (other (AdditionEntry p) (sym is ∙ addition)));
    carried = carried (setting_of s) s.sessions entries bytes;
    taken = none_taken s.catalogue.tables entry snapshot request entry_is;
  }

-- ---- by what stands there

pub stands_true : {A : Type 0} (st : Standing) (entry : LogEntry A) → IsStanding st (Code.StandsAs entry) → (e : Entry) × (st ≡ StandsAs e) × (e ≡ entry_of entry)
stands_true (StandsAs e) entry is = (e, refl, is)
stands_true (IsDecided call) entry is = absurd is
stands_true (OpensSession session) entry is = absurd is
stands_true (IsNothing c) entry is = absurd is

pub stands_decided : (A : Type 0) (st : Standing) (snapshot : ℕ) (request : Option RequestId) → IsStanding {A = A} st (Code.Decided snapshot request) → (call : OrderedCall) × (st ≡ IsDecided call) × (call.snapshot ≡ snapshot) × (call.request ≡ request)
stands_decided A (IsDecided call) snapshot request is = (call, refl, is.0, is.1)
stands_decided A (StandsAs e) snapshot request is = absurd is
stands_decided A (OpensSession session) snapshot request is = absurd is
stands_decided A (IsNothing c) snapshot request is = absurd is

pub stands_nothing : (A : Type 0) (st : Standing) (cause : NothingCause) → IsStanding {A = A} st (Code.Nothing cause) → st ≡ IsNothing cause
stands_nothing A (IsNothing c) cause is = ap IsNothing is
stands_nothing A (IsDecided call) cause is = absurd is
stands_nothing A (StandsAs e) cause is = absurd is
stands_nothing A (OpensSession session) cause is = absurd is

pub stands_opening : (A : Type 0) (st : Standing) (session : ℕ) → IsStanding {A = A} st (Code.Opens session) → st ≡ OpensSession session
stands_opening A (OpensSession a) session is = ap OpensSession is
stands_opening A (StandsAs e) session is = absurd is
stands_opening A (IsDecided call) session is = absurd is
stands_opening A (IsNothing c) session is = absurd is

-- ---- the request of what stands there is that of the bytes

abbrev HasRequest : Option RequestId → Standing → Type 0
HasRequest request (StandsAs e) = request_carried e ≡ request
HasRequest request (IsDecided call) = call.request ≡ request
HasRequest request (OpensSession session) = Unit {0}
HasRequest request (IsNothing cause) = Unit {0}

either : (request : Option RequestId) (b : Bool) (x y : Standing) → HasRequest request x → HasRequest request y → HasRequest request (cond b x y)
either request true x y h k = h
either request false x y h k = k

checked_has : (p : NamedProcedure) (check : ProgramCheck) → HasRequest None (checked_standing p check)
checked_has p (Passed program) = refl
checked_has p (Failed fault) = tt

request_has : (s : SiteSetting) (log : Log) (call : OrderedCall) (bytes : List ℕ) (o : Option NothingCause) → HasRequest call.request (request_standing s.setting log call bytes o)
request_has s log call bytes (Some why) = tt
request_has s log call bytes None =
    either call.request (is_decided s.setting log call) (IsDecided call) _ refl
    (either call.request (not (takes_arguments (procedure_of s.setting log call) call.args)) (IsNothing cause.Procedure) _ tt
    (either call.request (is_true s.setting log call bytes) (StandsAs (CallEntry (executed s.setting log call))) (IsNothing cause.Untrue) refl tt))

has_request : (s : SiteSetting) (known : Sessions) (log : Log) (bytes : List ℕ) (head : Option Head) → HasRequest (request_in head) (standing_of_head s known log bytes head)
has_request s known log bytes None = tt
has_request s known log bytes (Some (CallHead call reply)) =
    either call.request (not (nat_le call.snapshot (length log))) (IsNothing cause.Snapshot) _ tt
    (request_has s log call bytes (session_cause s.origin known call.request))
has_request s known log bytes (Some (AdditionHead p)) =
    either None (s.takes_additions && (is_name p.name && nat_le p.args_len MAX_ARGUMENTS)) _ (IsNothing cause.Addition)
    (checked_has p (check_of s.setting.tables p.args_len p.bytes)) tt

standing_has : (s : SiteSetting) (known : Sessions) (log : Log) (bytes : List ℕ) → HasRequest (request_in (head_of bytes)) (standing s known log bytes)
unfolding standing
standing_has s known log bytes = by_opening (session_opened s.origin known.opened bytes)
  where
    by_opening : (o : Option ℕ) → HasRequest (request_in (head_of bytes)) (unless_opened o (standing_of_head s known log bytes (head_of bytes)))
    by_opening (Some session) = tt
    by_opening None = has_request s known log bytes (head_of bytes)

-- an entry of these bytes is in the log
abbrev IsSomething : Standing → Type 0
IsSomething (StandsAs e) = Unit {0}
IsSomething (IsDecided call) = Unit {0}
IsSomething (OpensSession session) = ⊥
IsSomething (IsNothing cause) = ⊥

-- so the next entry carries it, unless it is nothing
next_request : (s : SiteSetting) (known : Sessions) (entries : List Entry) (bytes : List ℕ) (st : Standing) → standing s known (items_of entries) bytes ≡ st → IsSomething st
    → request_carried (next_entry s known entries bytes) ≡ request_in (head_of bytes)
next_request s known entries bytes st is something =
    ap (λ (x : Standing). request_carried (entry_standing s.setting (items_of entries) x)) is
    ∙ by st something (subst (HasRequest (request_in (head_of bytes))) is (standing_has s known (items_of entries) bytes))
  where
    by : (x : Standing) → IsSomething x → HasRequest (request_in (head_of bytes)) x → request_carried (entry_standing s.setting (items_of entries) x) ≡ request_in (head_of bytes)
    by (StandsAs e) something has = has
    by (IsDecided call) something has = has
    by (OpensSession session) something has = absurd something
    by (IsNothing cause) something has = absurd something

-- the replies to the request of the next entry
abbrev replies_of_next : SiteReplica → List Entry → List ℕ → ℕ → ℕ
replies_of_next r entries bytes = reply_to (setting_of r).setting (with_bytes (setting_of r) r.sessions entries bytes) (request_carried (next_entry (setting_of r) r.sessions entries bytes))

outcome_at : (r : SiteReplica) (entries : List Entry) (bytes : List ℕ) (st : Standing) → standing (setting_of r) r.sessions (items_of entries) bytes ≡ st → IsSomething st
    → outcome_behind (setting_of r) r.sessions entries bytes ≡ outcome_of (replies_of_next r entries bytes) st (verdict_of (setting_of r).setting (items_of (with_bytes (setting_of r) r.sessions entries bytes)) (length entries + 1))
outcome_at r entries bytes st is something =
    let all = with_bytes (setting_of r) r.sessions entries bytes in
    let verdict = verdict_of (setting_of r).setting (items_of all) (length entries + 1) in
    ap (λ (x : Standing). outcome_of (replies_to (setting_of r) all bytes) x verdict) is
    ∙ ap (λ (request : Option RequestId). outcome_of (reply_to (setting_of r).setting all request) st verdict) (sym (next_request (setting_of r) r.sessions entries bytes st is something))

-- what taking an entry in says of its outcome
abbrev pub TakesFor : {A : Type 0} → SiteReplica → LogEntry A → EntryOutcome → EntryOutcome → Type 0
TakesFor r entry committed o = (entries : List Entry) (e : Entry) → Follows r entries e entry
    → o ≡ outcome_by (reply_to (setting_of r).setting (entries ++ e ∷ []) (request_carried e)) committed (verdict_of (setting_of r).setting (items_of (entries ++ e ∷ [])) (length entries + 1))

module _ {A : Type 0} (placed : ArePlaced) (carried : AreCarried) (fit : FitLogs) (r : SiteReplica) (entries : List Entry) (bytes : List ℕ) (are : All (λ b. b < 256) bytes) (stands : StandsForLog r entries) (entry : LogEntry A) where
  pub true_follows : IsStanding (standing (setting_of r) r.sessions (items_of entries) bytes) (Code.StandsAs entry) → CanBeTaken r.catalogue.tables entry → Follows r entries (next_entry (setting_of r) r.sessions entries bytes) entry
  true_follows is taken =
      let (e, at, same) = stands_true (standing (setting_of r) r.sessions (items_of entries) bytes) entry is in
      follows_true placed carried fit r entries bytes are stands entry e at same taken

  pub true_outcome : (committed o : EntryOutcome) → IsStanding (standing (setting_of r) r.sessions (items_of entries) bytes) (Code.StandsAs entry) → CanBeTaken r.catalogue.tables entry → committed ≡ committed_outcome (entry_of entry) → TakesFor r entry committed o → o ≡ outcome_behind (setting_of r) r.sessions entries bytes
  true_outcome committed o is taken by_entry takes =
      let (e, at, same) = stands_true (standing (setting_of r) r.sessions (items_of entries) bytes) entry is in
      takes entries (next_entry (setting_of r) r.sessions entries bytes) (true_follows is taken)
      ∙ ap (λ (x : EntryOutcome). outcome_by (replies_of_next r entries bytes) x (verdict_of (setting_of r).setting (items_of (with_bytes (setting_of r) r.sessions entries bytes)) (length entries + 1))) (by_entry ∙ ap committed_outcome (sym same))
      ∙ sym (outcome_at r entries bytes (StandsAs e) at tt)

  pub decided_follows : (snapshot : ℕ) (request : Option RequestId) → IsStanding {A = A} (standing (setting_of r) r.sessions (items_of entries) bytes) (Code.Decided snapshot request) → entry_of entry ≡ CallEntry (none_executed snapshot request) → Follows r entries (next_entry (setting_of r) r.sessions entries bytes) entry
  decided_follows snapshot request is entry_is =
      let (call, at, same, carries) = stands_decided A (standing (setting_of r) r.sessions (items_of entries) bytes) snapshot request is in
      follows_none placed carried fit r entries bytes are stands entry (IsDecided call) snapshot request at entry_is (carries, same, refl, refl, refl) (λ e bad. absurd cc)

  pub decided_outcome : (snapshot : ℕ) (request : Option RequestId) (o : EntryOutcome) → IsStanding {A = A} (standing (setting_of r) r.sessions (items_of entries) bytes) (Code.Decided snapshot request) → entry_of entry ≡ CallEntry (none_executed snapshot request) → TakesFor r entry outcome.Stale o → o ≡ outcome_behind (setting_of r) r.sessions entries bytes
  decided_outcome snapshot request o is entry_is takes =
      let (call, at, same, carries) = stands_decided A (standing (setting_of r) r.sessions (items_of entries) bytes) snapshot request is in
      takes entries (next_entry (setting_of r) r.sessions entries bytes) (decided_follows snapshot request is entry_is) ∙ sym (outcome_at r entries bytes (IsDecided call) at tt)

  pub nothing_follows : (cause : NothingCause) (position : ℕ) → IsStanding {A = A} (standing (setting_of r) r.sessions (items_of entries) bytes) (Code.Nothing cause) → position ≡ r.replica.position → entry_of entry ≡ CallEntry (none_executed position None) → Follows r entries (next_entry (setting_of r) r.sessions entries bytes) entry
  nothing_follows cause position is here entry_is =
      follows_none placed carried fit r entries bytes are stands entry (IsNothing cause) position None (stands_nothing A (standing (setting_of r) r.sessions (items_of entries) bytes) cause is) entry_is
      (refl, log_long r entries stands ∙ sym here, refl, refl, refl) (λ e bad. absurd cc)

  pub opening_follows : (session position : ℕ) → IsStanding {A = A} (standing (setting_of r) r.sessions (items_of entries) bytes) (Code.Opens session) → position ≡ r.replica.position → entry_of entry ≡ CallEntry (none_executed position None) → Follows r entries (next_entry (setting_of r) r.sessions entries bytes) entry
  opening_follows session position is here entry_is =
      follows_none placed carried fit r entries bytes are stands entry (OpensSession session) position None (stands_opening A (standing (setting_of r) r.sessions (items_of entries) bytes) session is) entry_is
      (refl, log_long r entries stands ∙ sym here, refl, refl, refl) (λ e bad. absurd cc)

pub if_ok : {T E : Type 0} (P Q : T → Type 0) (r : Result T E) → IfOk r P → ((x : T) → P x → Q x) → IfOk r Q
if_ok P Q (Ok x) p f = f x p
if_ok P Q (Err e) p f = tt

pub on_ok : {T E : Type 0} (P Q : Type 0) (r : Result T E) → OnOk r P → (P → Q) → OnOk r Q
on_ok P Q (Ok x) p f = f p
on_ok P Q (Err e) p f = tt

-- ---- in words of an order

abbrev pub OrdersNext : Type 0
OrdersNext = (s : SiteSetting) (order : Order) (bytes : List ℕ) → order_entries s (order ++ bytes ∷ []) ≡ with_bytes s (sessions_after s order) (order_entries s order) bytes

abbrev pub SessionsNext : Type 0
SessionsNext = (s : SiteSetting) (order : Order) (bytes : List ℕ) → sessions_after s (order ++ bytes ∷ []) ≡ sessions_with (sessions_after s order) bytes (next_outcome s order bytes)

-- what becomes of the bytes by what a site knows of sessions
pub outcome_is_next : (old : SiteReplica) (order : Order) (bytes : List ℕ) (o : EntryOutcome) → StandsForOrder old order
    → o ≡ outcome_behind (setting_of old) old.sessions (order_entries (setting_of old) order) bytes → o ≡ next_outcome (setting_of old) order bytes
outcome_is_next old order bytes o before is = is ∙ ap (λ (k : Sessions). outcome_behind (setting_of old) k (order_entries (setting_of old) order) bytes) before.sessions

-- the site behind one more byte string, which knows what that has done
pub order_taken : (old taken new : SiteReplica) (order : Order) (bytes : List ℕ) (o : EntryOutcome) → OrdersNext → SessionsNext → setting_of taken ≡ setting_of old
    → StandsForLog taken (with_bytes (setting_of old) old.sessions (order_entries (setting_of old) order) bytes) → taken.sessions ≡ old.sessions
    → o ≡ outcome_behind (setting_of old) old.sessions (order_entries (setting_of old) order) bytes
    → new ≡ record taken { sessions = sessions_with taken.sessions bytes o } → StandsForOrder old order → StandsForOrder new (order ++ bytes ∷ [])
order_taken old taken new order bytes o next sessions_next setting stands kept outcome is before =
    subst (λ (x : SiteReplica). StandsForOrder x (order ++ bytes ∷ [])) (sym is)
    (record {
      log = noted (subst (λ (s : SiteSetting). StandsForLog taken (order_entries s (order ++ bytes ∷ []))) (sym setting)
          (subst (StandsForLog taken) (ap (λ (k : Sessions). with_bytes (setting_of old) k (order_entries (setting_of old) order) bytes) before.sessions ∙ sym (next (setting_of old) order bytes)) stands));
      sessions =
          ap (λ (k : Sessions). sessions_with k bytes o) (kept ∙ before.sessions)
          ∙ ap (sessions_with (sessions_after (setting_of old) order) bytes) (outcome_is_next old order bytes o before outcome)
          ∙ sym (sessions_next (setting_of old) order bytes)
          ∙ ap (λ (s : SiteSetting). sessions_after s (order ++ bytes ∷ [])) (sym setting);
    })
  where
    noted : {entries : List Entry} {known : Sessions} → StandsForLog taken entries → StandsForLog (record taken { sessions = known }) entries
    noted stands = record {
      running = stands.running;
      stands = stands.stands;
      of_log = stands.of_log;
      replies = stands.replies;
      since = stands.since;
    }
