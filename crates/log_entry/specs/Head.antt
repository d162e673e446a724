-- What the bytes of an entry name: a call, whatever its run did, or a whole addition (this product's own form). Numbers
-- stand least byte first.
use Rattle.std.specs.Prelude.{ℕ, ◌+◌, ◌==◌, nat_le, not, ◌&&◌, if◌then◌else◌, List, [], ◌∷◌, length, take, drop, Option, Some, None}
use Rattle.byteorder.specs.Endian.{little_number}
use Rattle.log_model.specs.declared.request.RequestId.{RequestId}
use Rattle.log_model.specs.Log.{Call}
use Rattle.log_model.specs.OpenRequest.{given_request, has_zero}

-- a procedure that is to be added; its bytes may be no program
pub record NamedProcedure : Type 0 where
  pub number : ℕ
  pub args_len : ℕ
  pub name : List ℕ
  pub bytes : List ℕ

pub data Head : Type 0 where
  CallHead : Call → ℕ → Head  -- the call, and its reply
  AdditionHead : NamedProcedure → Head

-- so many bytes from one on, and their number
abbrev pub part : ℕ → ℕ → List ℕ → List ℕ
part from count bytes = take count (drop from bytes)

abbrev pub field : ℕ → ℕ → List ℕ → ℕ
field from count bytes = little_number count (part from count bytes)

abbrev pub request_of : List ℕ → Option RequestId
request_of fields = given_request (field 0 4 fields) (field 4 4 fields)

abbrev pub call_of : ℕ → List ℕ → Call
call_of args_len fields = record {
  number = field 8 4 fields;
  procedure = field 12 2 fields;
  args = part 16 args_len fields;
  snapshot = field (16 + args_len) 4 fields;
  request = request_of fields;
}

-- session 4 and sequence 4, both 0 or neither; number of the call 4, procedure 2, length of the arguments 2 and these,
-- snapshot 4, reply 8. Any bytes may stand behind it
abbrev pub call_head : ℕ → List ℕ → Option Head
call_head args_len fields =
    if nat_le (28 + args_len) (length fields) && not (has_zero (request_of fields))
    then Some (CallHead (call_of args_len fields) (field (20 + args_len) 8 fields)) else None

abbrev pub procedure_of : ℕ → ℕ → List ℕ → NamedProcedure
procedure_of name_len program_len fields = record {
  number = field 0 2 fields;
  args_len = field 2 2 fields;
  name = part 5 name_len fields;
  bytes = part (9 + name_len) program_len fields;
}

-- number 2, arguments' length 2, length of the name 1 and the name, length of the program 4 and the program; and nothing
-- behind it
abbrev pub addition_head : ℕ → ℕ → List ℕ → Option Head
addition_head name_len program_len fields =
    if 9 + name_len + program_len == length fields then Some (AdditionHead (procedure_of name_len program_len fields)) else None

-- 1 and a call, or 2 and an addition; else nothing
unfoldable pub head_of : List ℕ → Option Head
head_of [] = None
head_of (kind ∷ fields) =
    if kind == 1 then call_head (field 14 2 fields) fields
    else if kind == 2 then addition_head (field 4 1 fields) (field (5 + field 4 1 fields) 4 fields) fields
    else None
