-- The bytes of an entry (this product's own form): fields one behind the other, numbers least byte first. A length or a
-- count is cut to the bytes that it has.
use Rattle.std.specs.Prelude.{ℕ, ◌%◌, ◌^◌, List, [], ◌∷◌, ◌++◌, map, length, Option, Some, None}
use Rattle.std.specs.List.{concat}
use Rattle.std.specs.FinMap.{entries, len}
use Rattle.byteorder.specs.Endian.{little_bytes}
use Rattle.schema.specs.declared.look.Look.{Look}
use Rattle.schema.specs.Rows.{Key, Writes}
use Rattle.bpf_bytes.specs.Spelling.{spelling}
use Rattle.log_model.specs.declared.request.RequestId.{RequestId}
use Rattle.log_model.specs.Log.{StoredProcedure}
use Rattle.log_model.specs.Entries.{ExecutedCall, Entry, CallEntry, AdditionEntry}

abbrev pub count_bytes : ℕ → List ℕ
count_bytes n = little_bytes 2 (n % 2 ^ 16)

-- number of the call and of its procedure, arguments, snapshot, reply
abbrev pub head_bytes : ExecutedCall → List ℕ
head_bytes e =
    little_bytes 4 e.call.number ++ little_bytes 2 e.call.procedure ++ count_bytes (length e.call.args) ++ e.call.args
    ++ little_bytes 4 e.call.snapshot ++ little_bytes 8 e.reply

-- table, least key, greatest key
abbrev pub look_bytes : Look → List ℕ
look_bytes look = look.table ∷ little_bytes 8 look.lo ++ little_bytes 8 look.hi

abbrev pub looks_bytes : List Look → List ℕ
looks_bytes looks = count_bytes (length looks) ++ concat (map look_bytes looks)

-- 1 and the row; 0 where it was removed
abbrev pub row_bytes : Option (List ℕ) → List ℕ
row_bytes None = 0 ∷ []
row_bytes (Some row) = 1 ∷ row

-- table, key, row
abbrev pub write_bytes : Key × Option (List ℕ) → List ℕ
write_bytes write = write.0.0 ∷ little_bytes 8 write.0.1 ++ row_bytes write.1

-- in the order of tables and keys
abbrev pub writes_bytes : Writes → List ℕ
writes_bytes writes = count_bytes (len writes) ++ concat (map write_bytes (entries writes))

-- session and number of a request: 0 and 0 where there is none
abbrev pub session_of : Option RequestId → ℕ
session_of None = 0
session_of (Some request) = request.session

abbrev pub sequence_of : Option RequestId → ℕ
sequence_of None = 0
sequence_of (Some request) = request.sequence

abbrev pub request_bytes : Option RequestId → List ℕ
request_bytes request = little_bytes 4 (session_of request) ++ little_bytes 4 (sequence_of request)

abbrev pub executed_bytes : ExecutedCall → List ℕ
executed_bytes e = head_bytes e ++ looks_bytes e.looks ++ writes_bytes e.writes

abbrev pub call_bytes : ExecutedCall → List ℕ
call_bytes e = 1 ∷ request_bytes e.call.request ++ executed_bytes e

-- number, how many bytes the arguments have, the name, and the program
abbrev pub addition_bytes : StoredProcedure → List ℕ
addition_bytes p =
    2 ∷ little_bytes 2 p.number ++ little_bytes 2 p.args_len ++ little_bytes 1 (length p.name % 2 ^ 8) ++ p.name
    ++ little_bytes 4 (length (spelling p.program) % 2 ^ 32) ++ spelling p.program

-- 1 and a call, or 2 and an addition
abbrev pub entry_bytes : Entry → List ℕ
entry_bytes (CallEntry e) = call_bytes e
entry_bytes (AdditionEntry p) = addition_bytes p
