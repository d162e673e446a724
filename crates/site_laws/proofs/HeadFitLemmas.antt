-- What byte strings name fits the fields that it was read from.
use Rattle.std.proofs.Common.{◌≡◌, ℕ, ◌+◌, ◌^◌, ◌==◌, ◌<◌, ◌≤◌, Bool, true, false, not, ◌&&◌, ◌||◌, cond, nat_le, List, [], ◌∷◌, length, drop, Some, None, refl, subst, arith}
use Rattle.std.proofs.lemmas.Bool.Decides.{nat_tests}
use Rattle.std.proofs.lemmas.List.Elements.{All-drop, All-tail, All-take}
use Rattle.byteorder.specs.Endian.{little_from}
use Rattle.log_model.specs.declared.request.RequestId.{RequestId}
use Rattle.log_model.specs.Log.{Call}
use Rattle.log_model.specs.OpenRequest.{given_request, has_zero}
use Rattle.log_entry.specs.Head.{AdditionHead, CallHead, Head, NamedProcedure, addition_head, call_head, call_of, field, head_of, part, procedure_of, request_of}
use Rattle.site_laws.specs.Orders.{IsBytes}
use Rattle.site_laws.proofs.SpelledLemmas.{index_byte}

two_bytes : (xs : List ℕ) → IsBytes xs → little_from 0 2 xs < 2 ^ 16
two_bytes xs are =
    let low = index_byte xs 0 are in
    let high = index_byte xs 1 are in
    omega arith

four_bytes : (xs : List ℕ) → IsBytes xs → little_from 0 4 xs < 2 ^ 32
four_bytes xs are =
    let a = index_byte xs 0 are in
    let b = index_byte xs 1 are in
    let c = index_byte xs 2 are in
    let d = index_byte xs 3 are in
    omega arith

bytes_of_part : (from count : ℕ) (bytes : List ℕ) → IsBytes bytes → IsBytes (part from count bytes)
bytes_of_part from count bytes are = All-take (λ b. b < 256) count (drop from bytes) (All-drop (λ b. b < 256) from bytes are)

-- what a request's numbers and a procedure's number have to be
pub record FitsCall (call : Call) : Type 0 where
  pub procedure : call.procedure < 2 ^ 16
  pub session : (request : RequestId) → call.request ≡ Some request → request.session < 2 ^ 32
  pub sequence : (request : RequestId) → call.request ≡ Some request → request.sequence < 2 ^ 32

-- what a procedure's number and program have to be
pub record FitsNamed (n : NamedProcedure) : Type 0 where
  pub number : n.number < 2 ^ 16
  pub bytes : IsBytes n.bytes

abbrev FitsHead : Head → Type 0
FitsHead (CallHead call told) = FitsCall call
FitsHead (AdditionHead n) = FitsNamed n

given_fits : (session sequence : ℕ) (request : RequestId) → session < 2 ^ 32 → sequence < 2 ^ 32 → given_request session sequence ≡ Some request → (request.session < 2 ^ 32) × (request.sequence < 2 ^ 32)
given_fits session sequence request few least = by_test (session == 0 && sequence == 0)
  where
    by_test : (b : Bool) → cond b None (Some (record { session = session; sequence = sequence })) ≡ Some request → (request.session < 2 ^ 32) × (request.sequence < 2 ^ 32)
    by_test true e = absurd cc
    by_test false e =
        let given : RequestId = record { session = session; sequence = sequence } in
        subst (λ (r : RequestId). (r.session < 2 ^ 32) × (r.sequence < 2 ^ 32)) (let same : given ≡ request = cc in same) (few, least)

call_fits : (args_len : ℕ) (fields : List ℕ) → IsBytes fields → FitsCall (call_of args_len fields)
call_fits args_len fields are =
    let session = four_bytes (part 0 4 fields) (bytes_of_part 0 4 fields are) in
    let sequence = four_bytes (part 4 4 fields) (bytes_of_part 4 4 fields are) in record {
      procedure = two_bytes (part 12 2 fields) (bytes_of_part 12 2 fields are);
      session = λ request e. (given_fits (field 0 4 fields) (field 4 4 fields) request session sequence e).0;
      sequence = λ request e. (given_fits (field 0 4 fields) (field 4 4 fields) request session sequence e).1;
    }

by_test : (b : Bool) (h g : Head) → FitsHead g → cond b (Some g) None ≡ Some h → FitsHead h
by_test true h g fits e = subst FitsHead (let same : g ≡ h = cc in same) fits
by_test false h g fits e = absurd cc

head_fits : (bytes : List ℕ) (h : Head) → IsBytes bytes → head_of bytes ≡ Some h → FitsHead h
unfolding head_of
head_fits [] h are e = absurd cc
head_fits (kind ∷ fields) h are e = by_kind (kind == 1) (kind == 2) e
  where
    rest : IsBytes fields
    rest = All-tail (λ b. b < 256) kind fields are

    by_kind : (a b : Bool) → cond a (call_head (field 14 2 fields) fields) (cond b (addition_head (field 4 1 fields) (field (5 + field 4 1 fields) 4 fields) fields) None) ≡ Some h → FitsHead h
    by_kind true b e =
        by_test (nat_le (28 + field 14 2 fields) (length fields) && not (has_zero (request_of fields))) h (CallHead (call_of (field 14 2 fields) fields) (field (20 + field 14 2 fields) 8 fields))
        (call_fits (field 14 2 fields) fields rest) e
    by_kind false true e =
        by_test (9 + field 4 1 fields + field (5 + field 4 1 fields) 4 fields == length fields) h (AdditionHead (procedure_of (field 4 1 fields) (field (5 + field 4 1 fields) 4 fields) fields))
        (record {
          number = two_bytes (part 0 2 fields) (bytes_of_part 0 2 fields rest);
          bytes = bytes_of_part (9 + field 4 1 fields) (field (5 + field 4 1 fields) 4 fields) fields rest;
        }) e
    by_kind false false e = absurd cc

pub named_call_fits : (bytes : List ℕ) (call : Call) (told : ℕ) → IsBytes bytes → head_of bytes ≡ Some (CallHead call told) → FitsCall call
named_call_fits bytes call told are e = head_fits bytes (CallHead call told) are e

pub named_procedure_fits : (bytes : List ℕ) (n : NamedProcedure) → IsBytes bytes → head_of bytes ≡ Some (AdditionHead n) → FitsNamed n
named_procedure_fits bytes n are e = head_fits bytes (AdditionHead n) are e

-- a request has a session above 0
pub session_above : (request : RequestId) → has_zero (Some request) ≡ false → 1 ≤ request.session
session_above request e = by_session (request.session == 0) refl e
  where
    by_session : (b : Bool) → (request.session == 0) ≡ b → (b || (request.sequence == 0)) ≡ false → 1 ≤ request.session
    by_session true is e = absurd cc
    by_session false is e = let some : (request.session ≡ 0 → ⊥) = grind (arith, nat_tests) in omega (arith, some)
