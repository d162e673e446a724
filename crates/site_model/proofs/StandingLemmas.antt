-- What stands at the next position, by cases.
use Rattle.std.proofs.Common.{◌≡◌, ℕ, suc, ◌+◌, ◌≤◌, ◌<◌, ◌^◌, ◌==◌, nat_le, nat_lt, nat_eq, Bool, true, false, not, cond, ◌&&◌, List, [], ◌∷◌, length, drop, Option, Some, None, All, refl, sym, ap, subst, ◌∙◌, arith}
use Rattle.std.proofs.lemmas.Bool.Decides.{nat_tests}
use Rattle.std.proofs.lemmas.List.Elements.{All-take, All-drop, All-tail}
use Rattle.schema.specs.declared.limits.TheConstants.{MAX_ARGUMENTS}
use Rattle.schema.specs.Rows.{Rows}
use Rattle.bpf_semantics.specs.Run.{Run}
use Rattle.log_model.specs.declared.request.RequestId.{RequestId}
use Rattle.log_model.specs.Log.{StoredProcedure, Catalogue, Setting, Call, Log, IsPlaced, by_number, idle, or_idle, run_of_procedure, procedure_of, procedures_after, rows_after, run_in, run_of_call}
use Rattle.log_model.specs.Fit.{AreArguments, FitsProcedures, IsSafe, FitsLog}
use Rattle.log_model.specs.Entries.{CallEntry, AdditionEntry, item_of, IsCarried}
use Rattle.log_model.specs.Name.{is_name}
use Rattle.program_checks.specs.ProgramCheck.{Passed, Failed}
use Rattle.program_checks.specs.Check.{check_of}
use Rattle.log_model.specs.OpenRequest.{has_zero}
use Rattle.log_entry.specs.Head.{Head, CallHead, AdditionHead, NamedProcedure, part, field, request_of, call_of, call_head, procedure_of as named_procedure_of, addition_head, head_of}
use Rattle.site_model.specs.declared.cause.NothingCause.{NothingCause}
use Rattle.site_model.specs.declared.cause.NothingCause.TheVariants as cause
use Rattle.site_model.specs.declared.origin.Origin.{Origin}
use Rattle.site_model.specs.Sessions.{Sessions, is_opening, session_cause, session_opened}
use Rattle.site_model.specs.Standing.{SiteSetting, Standing, StandsAs, IsDecided, OpensSession, IsNothing, executed, is_decided, takes_arguments, is_true, request_standing, call_standing, checked_standing, addition_standing, standing_of_head, standing, unless_opened}
use Rattle.site_model.specs.Order.{greater, unused_number, call_of_none, entry_of_none, entry_standing}

-- ---- a call of no procedure does nothing

above : (a b : ℕ) → (a ≤ greater a b) × (b ≤ greater a b)
above a b = elim (nat_le a b) as (λ t. nat_le a b ≡ t → (a ≤ cond t b a) × (b ≤ cond t b a)) [
  | true ↦ λ le. ((grind (arith, nat_tests)), (omega arith))
  | false ↦ λ gt. ((omega arith), (grind (arith, nat_tests)))
] refl

none_above : (procedures : Catalogue) (number : ℕ) → unused_number procedures ≤ number → by_number procedures number ≡ None
none_above [] number le = refl
none_above (p ∷ procedures) number le =
    let both = above (suc p.number) (unused_number procedures) in
    let first = both.0 in
    let later = both.1 in
    let other : nat_eq p.number number ≡ false = grind (arith, nat_tests) in
    ap (λ b. cond b (Some p) (by_number procedures number)) other ∙ none_above procedures number (omega arith)

pub none_unused : (procedures : Catalogue) → by_number procedures (unused_number procedures) ≡ None
none_unused procedures = none_above procedures (unused_number procedures) (omega arith)

fits_none : (procedures : Catalogue) (snapshot : ℕ) (request : Option RequestId) → FitsProcedures procedures (call_of_none procedures snapshot request)
fits_none procedures snapshot request p known = absurd (let none = none_unused procedures in cc)

idle_where_none : (w : Setting) (procedures : Catalogue) (call : Call) (rows : Rows) → by_number procedures call.procedure ≡ None → run_of_call w.tables procedures call rows ≡ idle rows
unfolding run_of_call
idle_where_none w procedures call rows none = ap (λ (o : Option StoredProcedure). or_idle rows (run_of_procedure w.tables o call.args rows)) none

pub runs_none : (w : Setting) (log : Log) (snapshot : ℕ) (request : Option RequestId) → run_in w log (call_of_none (procedures_after w log snapshot) snapshot request) ≡ idle (rows_after w log snapshot)
runs_none w log snapshot request =
    idle_where_none w (procedures_after w log snapshot) (call_of_none (procedures_after w log snapshot) snapshot request) (rows_after w log snapshot) (none_unused (procedures_after w log snapshot))

carried_none : (w : Setting) (log : Log) (snapshot : ℕ) (request : Option RequestId) → IsCarried w log (entry_of_none (procedures_after w log snapshot) snapshot request)
carried_none w log snapshot request =
    let same = sym (runs_none w log snapshot request) in
    record {
      looks = ap (λ (r : Run). r.looks) same;
      writes = ap (λ (r : Run). r.writes) same;
      reply = ap (λ (r : Run). r.reply) same;
    }

-- ---- cases

-- where a call stands its snapshot is before its position, nothing is against it for its session's sake, and it is of a
-- procedure of its snapshot
pub record StandsWell (s : SiteSetting) (known : Sessions) (log : Log) (call : Call) (bytes : List ℕ) : Type 0 where
  pub recent : call.snapshot ≤ length log
  pub in_session : session_cause s.origin known call.request ≡ None
  pub undecided : is_decided s.setting log call ≡ false
  pub takes : takes_arguments (procedure_of s.setting log call) call.args ≡ true
  pub true_to : is_true s.setting log call bytes ≡ true

module _ (P : Standing → Type 0) (s : SiteSetting) (known : Sessions) (log : Log) (call : Call) (bytes : List ℕ)
    (nothing : (c : NothingCause) → P (IsNothing c))
    (decided : call.snapshot ≤ length log → session_cause s.origin known call.request ≡ None → is_decided s.setting log call ≡ true → P (IsDecided call))
    (stands : StandsWell s known log call bytes → P (StandsAs (CallEntry (executed s.setting log call)))) where
  abbrev w : Setting
  w = s.setting

  -- behind both tests of what is known
  by_tests : call.snapshot ≤ length log → session_cause s.origin known call.request ≡ None
      → (d : Bool) → is_decided w log call ≡ d → (t : Bool) → takes_arguments (procedure_of w log call) call.args ≡ t → (r : Bool) → is_true w log call bytes ≡ r
      → P (cond d (IsDecided call) (cond (not t) (IsNothing cause.Procedure) (cond r (StandsAs (CallEntry (executed w log call))) (IsNothing cause.Untrue))))
  by_tests recent inside true d t et r er = decided recent inside d
  by_tests recent inside false d false et r er = nothing cause.Procedure
  by_tests recent inside false d true et false er = nothing cause.Untrue
  by_tests recent inside false d true et true er =
      stands (record { recent = recent; in_session = inside; undecided = d; takes = et; true_to = er })

  by_session : call.snapshot ≤ length log → (o : Option NothingCause) → session_cause s.origin known call.request ≡ o → P (request_standing w log call bytes o)
  by_session recent (Some why) e = nothing why
  by_session recent None e =
      by_tests recent e (is_decided w log call) refl (takes_arguments (procedure_of w log call) call.args) refl (is_true w log call bytes) refl

  pub call_cases : P (call_standing s known log call bytes)
  call_cases = by_snapshot (nat_le call.snapshot (length log)) refl
    where
      by_snapshot : (b : Bool) → nat_le call.snapshot (length log) ≡ b → P (cond (not b) (IsNothing cause.Snapshot) (request_standing w log call bytes (session_cause s.origin known call.request)))
      by_snapshot false e = nothing cause.Snapshot
      by_snapshot true e = by_session (grind (arith, nat_tests)) (session_cause s.origin known call.request) refl

pub addition_cases : (P : Standing → Type 0) (s : SiteSetting) (p : NamedProcedure)
    → ((c : NothingCause) → P (IsNothing c))
    → ((q : StoredProcedure) → addition_standing s p ≡ StandsAs (AdditionEntry q) → P (StandsAs (AdditionEntry q)))
    → P (addition_standing s p)
addition_cases P s p nothing stands =
    elim (s.takes_additions && (is_name p.name && nat_le p.args_len MAX_ARGUMENTS)) as (λ b. (s.takes_additions && (is_name p.name && nat_le p.args_len MAX_ARGUMENTS)) ≡ b → P (cond b (checked_standing p (check_of s.setting.tables p.args_len p.bytes)) (IsNothing cause.Addition))) [
      | false ↦ λ _. nothing cause.Addition
      | true ↦ λ may.
          elim (check_of s.setting.tables p.args_len p.bytes) as (λ c. check_of s.setting.tables p.args_len p.bytes ≡ c → P (checked_standing p c)) [
            | Failed fault ↦ λ _. nothing cause.Addition
            | Passed program ↦ λ passed.
                stands (record { name = p.name; number = p.number; program = program; args_len = p.args_len })
                (ap (λ b. cond b (checked_standing p (check_of s.setting.tables p.args_len p.bytes)) (IsNothing cause.Addition)) may ∙ ap (checked_standing p) passed)
          ] refl
    ] refl

module _ (P : Standing → Type 0) (s : SiteSetting) (known : Sessions) (log : Log) (bytes : List ℕ)
    (nothing : (c : NothingCause) → P (IsNothing c))
    (opens : (session : ℕ) → session_opened s.origin known.opened bytes ≡ Some session → P (OpensSession session))
    (call : (call : Call) (reply : ℕ) → head_of bytes ≡ Some (CallHead call reply) → P (call_standing s known log call bytes))
    (addition : (p : NamedProcedure) → head_of bytes ≡ Some (AdditionHead p) → P (addition_standing s p)) where
  by_head : (h : Option Head) → head_of bytes ≡ h → P (standing_of_head s known log bytes h)
  by_head None e = nothing cause.Unreadable
  by_head (Some (CallHead c reply)) e = call c reply e
  by_head (Some (AdditionHead p)) e = addition p e

  pub standing_cases : P (standing s known log bytes)
  unfolding standing
  standing_cases = by_opening (session_opened s.origin known.opened bytes) refl
    where
      by_opening : (o : Option ℕ) → session_opened s.origin known.opened bytes ≡ o → P (unless_opened o (standing_of_head s known log bytes (head_of bytes)))
      by_opening (Some session) e = opens session e
      by_opening None e = by_head (head_of bytes) refl

-- bytes that open a session are neither a call nor an addition
pub opening_has_no_head : (bytes : List ℕ) → is_opening bytes ≡ true → head_of bytes ≡ None
unfolding head_of
opening_has_no_head [] e = absurd cc
opening_has_no_head (kind ∷ []) e = absurd cc
opening_has_no_head (kind ∷ mark ∷ more) e = by_kind (kind == 0) refl
  where
    by_kind : (b : Bool) → (kind == 0) ≡ b → head_of (kind ∷ mark ∷ more) ≡ None
    by_kind false z = absurd (let bad : false ≡ true = ap (λ (b : Bool). b && ((mark == 2) && (length more == 16))) (sym z) ∙ e in cc)
    by_kind true z =
        let is : kind ≡ 0 = grind (arith, nat_tests) in
        ap (λ (k : ℕ). head_of (k ∷ mark ∷ more)) is

opened_is_opening : (o : Option Origin) (opened : ℕ) (bytes : List ℕ) (session : ℕ) → session_opened o opened bytes ≡ Some session → is_opening bytes ≡ true
opened_is_opening None opened bytes session e = absurd cc
opened_is_opening (Some origin) opened bytes session e = by_test (is_opening bytes) refl
  where
    by_test : (b : Bool) → is_opening bytes ≡ b → is_opening bytes ≡ true
    by_test true z = z
    by_test false z = absurd (let none : None ≡ Some session = ap (λ (b : Bool). cond (b && nat_lt (origin.sessions + opened + 1) (2 ^ 32)) (Some (origin.sessions + opened + 1)) None) (sym z) ∙ e in cc)

-- bytes with a head open no session
pub head_opens_none : (o : Option Origin) (opened : ℕ) (bytes : List ℕ) (h : Head) → head_of bytes ≡ Some h → session_opened o opened bytes ≡ None
head_opens_none o opened bytes h head = by_opening (session_opened o opened bytes) refl
  where
    by_opening : (found : Option ℕ) → session_opened o opened bytes ≡ found → session_opened o opened bytes ≡ None
    by_opening None e = e
    by_opening (Some session) e = absurd (let none = opening_has_no_head bytes (opened_is_opening o opened bytes session e) in cc)

pub stands_by_head : (s : SiteSetting) (known : Sessions) (log : Log) (bytes : List ℕ) (h : Head) → head_of bytes ≡ Some h → standing s known log bytes ≡ standing_of_head s known log bytes (Some h)
unfolding standing
stands_by_head s known log bytes h e =
    ap (λ (o : Option ℕ). unless_opened o (standing_of_head s known log bytes (head_of bytes))) (head_opens_none s.origin known.opened bytes h e)
    ∙ ap (standing_of_head s known log bytes) e

pub stands_as_call : (s : SiteSetting) (known : Sessions) (log : Log) (bytes : List ℕ) (call : Call) (reply : ℕ) → head_of bytes ≡ Some (CallHead call reply) → standing s known log bytes ≡ call_standing s known log call bytes
stands_as_call s known log bytes call reply e = stands_by_head s known log bytes (CallHead call reply) e

pub stands_as_addition : (s : SiteSetting) (known : Sessions) (log : Log) (bytes : List ℕ) (p : NamedProcedure) → head_of bytes ≡ Some (AdditionHead p) → standing s known log bytes ≡ addition_standing s p
stands_as_addition s known log bytes p e = stands_by_head s known log bytes (AdditionHead p) e

-- ---- what stands is placed, carries its run, and fits the log

abbrev Placed : SiteSetting → Log → ℕ → Standing → Type 0
Placed s log n st = IsPlaced n (item_of (entry_standing s.setting log st))

pub placed : (s : SiteSetting) (known : Sessions) (log : Log) (bytes : List ℕ) (n : ℕ) → length log ≡ n → IsPlaced n (item_of (entry_standing s.setting log (standing s known log bytes)))
placed s known log bytes n count = standing_cases (Placed s log n) s known log bytes nothing (λ _ _. omega arith)
    (λ call reply _. call_cases (Placed s log n) s known log call bytes nothing (λ recent _ _. omega arith) (λ well. let recent = well.recent in omega arith))
    (λ p _. addition_cases (Placed s log n) s p nothing (λ q _. tt))
  where
    nothing : (c : NothingCause) → Placed s log n (IsNothing c)
    nothing c = omega arith

abbrev Carried : SiteSetting → Log → Standing → Type 0
Carried s log st = IsCarried s.setting log (entry_standing s.setting log st)

pub carried : (s : SiteSetting) (known : Sessions) (log : Log) (bytes : List ℕ) → IsCarried s.setting log (entry_standing s.setting log (standing s known log bytes))
carried s known log bytes = standing_cases (Carried s log) s known log bytes nothing (λ _ _. carried_none s.setting log (length log) None)
    (λ call reply _. call_cases (Carried s log) s known log call bytes nothing (λ _ _ _. carried_none s.setting log call.snapshot call.request) (λ _. record { looks = refl; writes = refl; reply = refl }))
    (λ p _. addition_cases (Carried s log) s p nothing (λ q _. tt))
  where
    nothing : (c : NothingCause) → Carried s log (IsNothing c)
    nothing c = carried_none s.setting log (length log) None

-- a call that some bytes name has bytes for arguments
part_bytes : (from count : ℕ) (bytes : List ℕ) → All (λ b. b < 256) bytes → All (λ b. b < 256) (part from count bytes)
part_bytes from count bytes are = All-take (λ b. b < 256) count (drop from bytes) (All-drop (λ b. b < 256) from bytes are)

head_args : (b : Bool) (call : Call) (reply : ℕ) (c : Call) (r : ℕ) → cond b (Some (CallHead call reply)) None ≡ Some (CallHead c r) → c.args ≡ call.args
head_args true call reply c r e = cc
head_args false call reply c r e = absurd cc

no_call : (b : Bool) (p : NamedProcedure) (c : Call) (r : ℕ) → cond b (Some (AdditionHead p)) None ≡ Some (CallHead c r) → ⊥
no_call true p c r e = cc
no_call false p c r e = cc

pub args_bytes : (bytes : List ℕ) (call : Call) (reply : ℕ) → All (λ b. b < 256) bytes → head_of bytes ≡ Some (CallHead call reply) → All (λ b. b < 256) call.args
unfolding head_of
args_bytes [] call reply are e = absurd cc
args_bytes (kind ∷ fields) call reply are e =
    elim (kind == 1) as (λ t. cond t (call_head (field 14 2 fields) fields) (cond (kind == 2) (addition_head (field 4 1 fields) (field (5 + field 4 1 fields) 4 fields) fields) None) ≡ Some (CallHead call reply) → All (λ b. b < 256) call.args) [
      | true ↦ λ h.
          let same = head_args (nat_le (28 + field 14 2 fields) (length fields) && not (has_zero (request_of fields))) (call_of (field 14 2 fields) fields) (field (20 + field 14 2 fields) 8 fields) call reply h in
          subst (λ args. All (λ b. b < 256) args) (sym same) (part_bytes 16 (field 14 2 fields) fields (All-tail (λ b. b < 256) kind fields are))
      | false ↦ λ h. elim (kind == 2) as (λ t. cond t (addition_head (field 4 1 fields) (field (5 + field 4 1 fields) 4 fields) fields) None ≡ Some (CallHead call reply) → All (λ b. b < 256) call.args) [
        | true ↦ λ g. absurd (no_call (9 + field 4 1 fields + field (5 + field 4 1 fields) 4 fields == length fields) (named_procedure_of (field 4 1 fields) (field (5 + field 4 1 fields) 4 fields) fields) call reply g)
        | false ↦ λ g. absurd cc
      ] h
    ] e

takes : (o : Option StoredProcedure) (args : List ℕ) (p : StoredProcedure) → o ≡ Some p → takes_arguments o args ≡ true → All (λ b. b < 256) args → AreArguments p args
takes None args p e t are = absurd cc
takes (Some q) args p e t are =
    let same : q ≡ p = cc in
    let count : length args ≡ q.args_len = grind (arith, nat_tests) in
    record { count = count ∙ ap (λ (x : StoredProcedure). x.args_len) same; each_byte = are }

abbrev IsItemOf : SiteSetting → Log → Standing → Type 0
IsItemOf s log st = FitsLog s.setting log (item_of (entry_standing s.setting log st))

pub item : (s : SiteSetting) (known : Sessions) (log : Log) (bytes : List ℕ) → All (λ b. b < 256) bytes → ((p : StoredProcedure) → standing s known log bytes ≡ StandsAs (AdditionEntry p) → IsSafe s.setting.tables p)
    → FitsLog s.setting log (item_of (entry_standing s.setting log (standing s known log bytes)))
item s known log bytes are safe = standing_cases (IsItemOf s log) s known log bytes nothing
    (λ _ _. fits_none (procedures_after s.setting log (length log)) (length log) None)
    (λ call reply head. call_cases (IsItemOf s log) s known log call bytes nothing
    (λ _ _ _. fits_none (procedures_after s.setting log call.snapshot) call.snapshot call.request)
    (λ well p known. takes (procedure_of s.setting log call) call.args p known well.takes (args_bytes bytes call reply are head)))
    (λ p head. addition_cases (IsItemOf s log) s p nothing (λ q e. safe q (stands_as_addition s known log bytes p head ∙ e)))
  where
    nothing : (c : NothingCause) → IsItemOf s log (IsNothing c)
    nothing c = fits_none (procedures_after s.setting log (length log)) (length log) None
