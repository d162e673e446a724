-- What a line says, by what its fields say.
use Rattle.std.specs.Prelude.{ℕ, nat_le, not, if◌then◌else◌, List, [], ◌∷◌, length, Option, Some, None, Result, Ok, Err}
use Rattle.std.specs.Str.{bytes_eq}
use Rattle.schema.specs.declared.limits.TheConstants.{MAX_ARGUMENTS}
use Rattle.script.specs.declared.fault.LineFault.{LineFault}
use Rattle.script.specs.declared.fault.LineFault.TheVariants as fault
use Rattle.script.specs.declared.procedure_fields.ProcedureFields.{ProcedureFields}
use Rattle.script.specs.declared.request_fields.RequestFields.{RequestFields}
use Rattle.script.specs.Text.{is_readable, is_skipped, fields_of, number_of, count_of, u16_of, u32_of, u64_of, bytes_of_hex}

-- the word that is spelled so, where a table has one
abbrev pub word_spelled : {W : Type 0} → List (List ℕ × W) → List ℕ → Option W
word_spelled [] text = None
word_spelled ((spelling, word) ∷ more) text = if bytes_eq text spelling then Some word else word_spelled more text

-- ---- fields

-- what is made of the values of fields; a fault where a field has none
abbrev pub one : {X R : Type 0} → (X → R) → Option X → Result R LineFault
one make (Some x) = Ok (make x)
one make _ = Err fault.Field

abbrev pub two : {X Y R : Type 0} → (X → Y → R) → Option X → Option Y → Result R LineFault
two make (Some x) (Some y) = Ok (make x y)
two make _ _ = Err fault.Field

abbrev pub three : {X Y Z R : Type 0} → (X → Y → Z → R) → Option X → Option Y → Option Z → Result R LineFault
three make (Some x) (Some y) (Some z) = Ok (make x y z)
three make _ _ _ = Err fault.Field

abbrev pub four : {X Y Z V R : Type 0} → (X → Y → Z → V → R) → Option X → Option Y → Option Z → Option V → Result R LineFault
four make (Some x) (Some y) (Some z) (Some v) = Ok (make x y z v)
four make _ _ _ _ = Err fault.Field

abbrev pub five : {X Y Z V W R : Type 0} → (X → Y → Z → V → W → R) → Option X → Option Y → Option Z → Option V → Option W → Result R LineFault
five make (Some x) (Some y) (Some z) (Some v) (Some w) = Ok (make x y z v w)
five make _ _ _ _ _ = Err fault.Field

-- as many bytes as a call's arguments may be
abbrev pub few_bytes : Option (List ℕ) → Option (List ℕ)
few_bytes (Some bytes) = if nat_le (length bytes) MAX_ARGUMENTS then Some bytes else None
few_bytes None = None

-- the fields of a request that was done: its session, its number, the reply, and the number of the procedure and the arguments
abbrev pub request_said : List ℕ → List ℕ → List ℕ → List ℕ → List ℕ → Result (RequestFields (List ℕ)) LineFault
request_said session sequence reply procedure args =
    five (λ s q v n bytes. record { session = s; sequence = q; reply = v; procedure = n; args = bytes })
    (count_of session) (u32_of sequence) (u64_of reply) (u16_of procedure) (few_bytes (bytes_of_hex args))

-- the fields of a procedure: its name, its number, the length of its arguments and its program
abbrev pub procedure_said : List ℕ → List ℕ → List ℕ → List ℕ → Result (ProcedureFields (List ℕ)) LineFault
procedure_said name number args_len program =
    three (λ n len bytes. record { name = name; number = n; args_len = len; program = bytes })
    (u16_of number) (number_of 0 MAX_ARGUMENTS args_len) (bytes_of_hex program)

-- ---- a line

-- what is made of what is said, where nothing is at fault
abbrev pub made_of : {X Y : Type 0} → (X → Y) → Result X LineFault → Result Y LineFault
made_of make (Ok x) = Ok (make x)
made_of make (Err fault) = Err fault

-- what a word says of the fields behind it, where the first of some fields is a word
abbrev pub said_by_word : {W X : Type 0} → (W → List (List ℕ) → Result X LineFault) → Option W → List (List ℕ) → Result X LineFault
said_by_word said (Some word) fields = said word fields
said_by_word said None fields = Err fault.Word

-- what fields say, by their first
abbrev pub fields_say : {W X : Type 0} → (List ℕ → Option W) → (W → List (List ℕ) → Result X LineFault) → List (List ℕ)
    → Result X LineFault
fields_say word_of said [] = Err fault.Word
fields_say word_of said (first ∷ fields) = said_by_word said (word_of first) fields

-- the fields of a line that may have so many bytes; none of an empty line or a comment
abbrev pub fields_said : ℕ → List ℕ → Result (Option (List (List ℕ))) LineFault
fields_said most line =
    if not (is_readable most line) then Err fault.Bytes
    else if is_skipped line then Ok None
    else Ok (Some (fields_of line))

-- by what fields say: nothing where there are none
abbrev pub said_by_fields : {X : Type 0} → (List (List ℕ) → Result X LineFault) → Result (Option (List (List ℕ))) LineFault
    → Result (Option X) LineFault
said_by_fields say (Ok (Some fields)) = made_of Some (say fields)
said_by_fields say (Ok None) = Ok None
said_by_fields say (Err fault) = Err fault

-- what a line says that may have so many bytes, or nothing; or the first of its faults
unfoldable pub says : {X : Type 0} → (List (List ℕ) → Result X LineFault) → ℕ → List ℕ → Result (Option X) LineFault
says say most line = said_by_fields say (fields_said most line)
