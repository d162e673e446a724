-- What stands at the next position of an order: an entry that is what its run gives, a call of which nothing but request
-- and snapshot count, a session that is opened, or nothing (this product's own rules).
use Rattle.std.specs.Prelude.{ℕ, ◌-◌, ◌==◌, nat_le, Bool, false, not, is_some, ◌&&◌, ◌||◌, if◌then◌else◌, List, length, Option, Some, None}
use Rattle.std.specs.FinMap.{len}
use Rattle.std.specs.Str.{bytes_eq}
use Rattle.schema.specs.declared.limits.TheConstants.{MAX_ARGUMENTS}
use Rattle.bpf_semantics.specs.Run.{Run}
use Rattle.log_model.specs.Log.{StoredProcedure, Setting, Call, Log, first_repeated, history, procedure_of, run_in}
use Rattle.log_model.specs.Entries.{ExecutedCall, Entry, CallEntry, AdditionEntry}
use Rattle.log_model.specs.Name.{is_name}
use Rattle.log_entry.specs.Bytes.{entry_bytes}
use Rattle.log_entry.specs.Head.{NamedProcedure, Head, CallHead, AdditionHead, head_of}
use Rattle.program_checks.specs.ProgramCheck.{ProgramCheck, Passed, Failed}
use Rattle.program_checks.specs.Check.{check_of}
use Rattle.site_model.specs.declared.cause.NothingCause.{NothingCause}
use Rattle.site_model.specs.declared.cause.NothingCause.TheVariants as cause
use Rattle.site_model.specs.declared.origin.Origin.{Origin}
use Rattle.site_model.specs.Sessions.{Sessions, session_cause, session_opened}

-- what all sites of an order have in common
pub record SiteSetting : Type 0 where
  pub setting : Setting
  pub table_list : List (ℕ × ℕ)  -- the tables with their widths, in the order in which they were told
  pub takes_additions : Bool
  pub origin : Option Origin  -- of an order that opens sessions

pub data Standing : Type 0 where
  StandsAs : Entry → Standing
  IsDecided : Call → Standing  -- it is repeated or stale, whatever is told of its run
  OpensSession : ℕ → Standing
  IsNothing : NothingCause → Standing

-- ---- calls

-- a call with what its run on the rows of its snapshot looks at, writes and replies
abbrev pub executed : Setting → Log → Call → ExecutedCall
executed w log call = record {
  call = call;
  looks = (run_in w log call).looks;
  writes = (run_in w log call).writes;
  reply = (run_in w log call).reply;
}

-- its request was done, or more items than the window were ordered since its snapshot
abbrev pub is_decided : Setting → Log → Call → Bool
is_decided w log call =
    is_some (first_repeated w.beginning.requests (history w log).certified call) || not (nat_le (length log - call.snapshot) w.window)

abbrev pub takes_arguments : Option StoredProcedure → List ℕ → Bool
takes_arguments None args = false
takes_arguments (Some p) args = p.args_len == length args

-- it isn't cancelled, and wrote something
abbrev pub writes_something : Run → Bool
writes_something r = not (is_some r.cancel_code) && not (len r.writes == 0)

abbrev pub is_true : Setting → Log → Call → List ℕ → Bool
is_true w log call bytes =
    writes_something (run_in w log call) && bytes_eq bytes (entry_bytes (CallEntry (executed w log call)))

-- by its run
abbrev pub run_standing : Setting → Log → Call → List ℕ → Standing
run_standing w log call bytes =
    if is_true w log call bytes then StandsAs (CallEntry (executed w log call)) else IsNothing cause.Untrue

-- by what is known of its request
abbrev pub request_standing : Setting → Log → Call → List ℕ → Option NothingCause → Standing
request_standing w log call bytes (Some why) = IsNothing why
request_standing w log call bytes None =
    if is_decided w log call then IsDecided call
    else if not (takes_arguments (procedure_of w log call) call.args) then IsNothing cause.Procedure
    else run_standing w log call bytes

abbrev pub call_standing : SiteSetting → Sessions → Log → Call → List ℕ → Standing
call_standing s known log call bytes =
    if not (nat_le call.snapshot (length log)) then IsNothing cause.Snapshot
    else request_standing s.setting log call bytes (session_cause s.origin known call.request)

-- ---- additions

abbrev pub checked_standing : NamedProcedure → ProgramCheck → Standing
checked_standing p (Passed program) =
    StandsAs (AdditionEntry (record { name = p.name; number = p.number; program = program; args_len = p.args_len }))
checked_standing p (Failed fault) = IsNothing cause.Addition

abbrev pub addition_standing : SiteSetting → NamedProcedure → Standing
addition_standing s p =
    if s.takes_additions && (is_name p.name && nat_le p.args_len MAX_ARGUMENTS)
    then checked_standing p (check_of s.setting.tables p.args_len p.bytes) else IsNothing cause.Addition

-- ---- any bytes

abbrev pub standing_of_head : SiteSetting → Sessions → Log → List ℕ → Option Head → Standing
standing_of_head s known log bytes None = IsNothing cause.Unreadable
standing_of_head s known log bytes (Some (CallHead call reply)) = call_standing s known log call bytes
standing_of_head s known log bytes (Some (AdditionHead p)) = addition_standing s p

abbrev pub unless_opened : Option ℕ → Standing → Standing
unless_opened (Some session) standing = OpensSession session
unless_opened None standing = standing

-- what these bytes are behind a log, by what is known of sessions
unfoldable pub standing : SiteSetting → Sessions → Log → List ℕ → Standing
standing s known log bytes =
    unless_opened (session_opened s.origin known.opened bytes) (standing_of_head s known log bytes (head_of bytes))
