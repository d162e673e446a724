-- The fields of entries' bytes.
use Rattle.std.proofs.Common.{◌≡◌, ℕ, ◌+◌, ◌<◌, ◌≤◌, ◌^◌, ◌%◌, ◌==◌, nat_le, nat_eq, Bool, true, false, not, ◌&&◌, ◌||◌, if◌then◌else◌, List, [], ◌∷◌, ◌++◌, length, take, drop, Option, Some, None, refl, sym, ◌∙◌, ap, arith}
use Rattle.std.proofs.lemmas.Bool.{and_from}
use Rattle.std.proofs.lemmas.Bool.Decides.{nat_tests}
use Rattle.std.proofs.lemmas.List.{append_assoc, append-nil, length-append}
use Rattle.std.proofs.Math.Seq.{drop-append-add, take-append_seam}
use Rattle.byteorder.specs.Endian.{little_bytes, little_number}
use Rattle.byteorder.specs.Numbers.{length-bytes_low_first, little_number-reads_back}
use Rattle.bpf_bytes.specs.Spelling.{spelling}
use Rattle.log_model.specs.declared.request.RequestId.{RequestId}
use Rattle.log_model.specs.Log.{Call, StoredProcedure}
use Rattle.log_model.specs.OpenRequest.{given_request, has_zero}
use Rattle.log_model.specs.Entries.{ExecutedCall, CallEntry, AdditionEntry}
use Rattle.log_entry.specs.Bytes.{entry_bytes, session_of, sequence_of, executed_bytes, head_bytes, looks_bytes, writes_bytes}
use Rattle.log_entry.specs.Head.{CallHead, AdditionHead, part, field, request_of, call_of, call_head, procedure_of, addition_head, head_of}
use Rattle.log_entry.specs.Fit.{CallFitsFields, AdditionFitsFields, named_procedure}

-- what stands in front, and behind
part_first : (xs ys : List ℕ) (count : ℕ) → length xs ≡ count → part 0 count (xs ++ ys) ≡ xs
part_first xs ys count long = ap (λ n. take n (xs ++ ys)) (sym long) ∙ take-append_seam xs ys

part_after : (xs ys : List ℕ) (from rest count : ℕ) → from ≡ length xs + rest → part from count (xs ++ ys) ≡ part rest count ys
part_after xs ys from rest count at = ap (λ n. take count (drop n (xs ++ ys))) at ∙ ap (take count) (drop-append-add xs ys rest)

field_first : (count n : ℕ) (ys : List ℕ) → n < 256 ^ count → field 0 count (little_bytes count n ++ ys) ≡ n
field_first count n ys lt =
    ap (little_number count) (part_first (little_bytes count n) ys count (length-bytes_low_first 0 count n) ∙ sym (append-nil (little_bytes count n)))
    ∙ little_number-reads_back count n [] lt

-- behind a number of so many bytes
part_past : (bytes n : ℕ) (ys : List ℕ) (from rest count : ℕ) → from ≡ bytes + rest → part from count (little_bytes bytes n ++ ys) ≡ part rest count ys
part_past bytes n ys from rest count at = part_after (little_bytes bytes n) ys from rest count (omega (arith, at, length-bytes_low_first 0 bytes n))

field_past : (bytes n : ℕ) (ys : List ℕ) (from rest count : ℕ) → from ≡ bytes + rest → field from count (little_bytes bytes n ++ ys) ≡ field rest count ys
field_past bytes n ys from rest count at = ap (little_number count) (part_past bytes n ys from rest count at)

of_number : (count k : ℕ) (ys : List ℕ) → length (little_bytes count k ++ ys) ≡ count + length ys
of_number count k ys = omega (arith, length-append (little_bytes count k) ys, length-bytes_low_first 0 count k)

chosen : {A : Type 0} (b : Bool) (x y : A) → b ≡ true → (if b then x else y) ≡ x
chosen true x y e = refl
chosen false x y e = absurd cc

at_most : (m n : ℕ) → m ≤ n → nat_le m n ≡ true
at_most m n le = grind (arith, nat_tests)

same_length : (m n : ℕ) → m ≡ n → nat_eq m n ≡ true
same_length m n e = grind (arith, nat_tests)

six : (a b c d e f t : List ℕ) → (a ++ b ++ c ++ d ++ e ++ f) ++ t ≡ a ++ (b ++ (c ++ (d ++ (e ++ (f ++ t)))))
six a b c d e f t =
    append_assoc (a ++ b ++ c ++ d ++ e) f t ∙ append_assoc (a ++ b ++ c ++ d) e (f ++ t) ∙ append_assoc (a ++ b ++ c) d (e ++ (f ++ t))
    ∙ append_assoc (a ++ b) c (d ++ (e ++ (f ++ t))) ∙ append_assoc a b (c ++ (d ++ (e ++ (f ++ t))))

-- ---- a call

given : (r : RequestId) → nat_eq r.session 0 ≡ false → given_request r.session r.sequence ≡ Some r
given r e = ap (λ (b : Bool). if b && r.sequence == 0 then None else Some r) e

given_back : (r : Option RequestId) → has_zero r ≡ false → given_request (session_of r) (sequence_of r) ≡ r
given_back None whole = refl
given_back (Some r) whole = given r (by (nat_eq r.session 0) refl)
  where
    by : (b : Bool) → nat_eq r.session 0 ≡ b → b ≡ false
    by false e = refl
    by true e = absurd (let bad : true ≡ false = sym (ap (λ (c : Bool). c || nat_eq r.sequence 0) e) ∙ whole in cc)

abbrev call_fields : Call → ℕ → List ℕ → List ℕ
call_fields call reply rest =
    little_bytes 4 (session_of call.request) ++ (little_bytes 4 (sequence_of call.request) ++ (little_bytes 4 call.number ++ (little_bytes 2 call.procedure
    ++ (little_bytes 2 (length call.args % 2 ^ 16) ++ (call.args ++ (little_bytes 4 call.snapshot ++ (little_bytes 8 reply ++ rest)))))))

entry_fields : (e : ExecutedCall) → entry_bytes (CallEntry e) ≡ 1 ∷ call_fields e.call e.reply (looks_bytes e.looks ++ writes_bytes e.writes)
entry_fields e =
    let rest = looks_bytes e.looks ++ writes_bytes e.writes in
    ap (λ (l : List ℕ). 1 ∷ l) (
    append_assoc (little_bytes 4 (session_of e.call.request)) (little_bytes 4 (sequence_of e.call.request)) (executed_bytes e)
    ∙ ap (λ l. little_bytes 4 (session_of e.call.request) ++ (little_bytes 4 (sequence_of e.call.request) ++ l)) (
    append_assoc (head_bytes e) (looks_bytes e.looks) (writes_bytes e.writes)
    ∙ six (little_bytes 4 e.call.number) (little_bytes 2 e.call.procedure) (little_bytes 2 (length e.call.args % 2 ^ 16)) e.call.args (little_bytes 4 e.call.snapshot) (little_bytes 8 e.reply) rest))

pub call_is_named : (e : ExecutedCall) → CallFitsFields e → head_of (entry_bytes (CallEntry e)) ≡ Some (CallHead e.call e.reply)
unfolding head_of
call_is_named e fits =
    ap head_of (entry_fields e) ∙ ap (λ n. call_head n fields) args_len
    ∙ chosen (nat_le (28 + n) (length fields) && not (has_zero (request_of fields))) (Some (CallHead (call_of n fields) (field (20 + n) 8 fields))) None
    (and_from _ _ (at_most (28 + n) (length fields) (omega (arith, long))) (ap (λ (r : Option RequestId). not (has_zero r)) request ∙ ap not fits.whole))
    ∙ (λ i. Some (CallHead (call i) (reply i)))
  where
    n : ℕ
    n = length e.call.args

    rest : List ℕ
    rest = looks_bytes e.looks ++ writes_bytes e.writes

    fields : List ℕ
    fields = call_fields e.call e.reply rest

    behind_snapshot : List ℕ
    behind_snapshot = little_bytes 8 e.reply ++ rest

    behind_args : List ℕ
    behind_args = little_bytes 4 e.call.snapshot ++ behind_snapshot

    behind_length : List ℕ
    behind_length = e.call.args ++ behind_args

    behind_procedure : List ℕ
    behind_procedure = little_bytes 2 (n % 2 ^ 16) ++ behind_length

    behind_number : List ℕ
    behind_number = little_bytes 2 e.call.procedure ++ behind_procedure

    behind_request : List ℕ
    behind_request = little_bytes 4 e.call.number ++ behind_number

    behind_session : List ℕ
    behind_session = little_bytes 4 (sequence_of e.call.request) ++ behind_request

    past_request : (from other count : ℕ) → from ≡ 8 + other → part from count fields ≡ part other count behind_request
    past_request from other count at =
        part_past 4 (session_of e.call.request) behind_session from (4 + other) count (omega (arith, at))
        ∙ part_past 4 (sequence_of e.call.request) behind_request (4 + other) other count refl

    past_number : (from other count : ℕ) → from ≡ 12 + other → part from count fields ≡ part other count behind_number
    past_number from other count at = past_request from (4 + other) count (omega (arith, at)) ∙ part_past 4 e.call.number behind_number (4 + other) other count refl

    past_procedure : (from other count : ℕ) → from ≡ 14 + other → part from count fields ≡ part other count behind_procedure
    past_procedure from other count at = past_number from (2 + other) count (omega (arith, at)) ∙ part_past 2 e.call.procedure behind_procedure (2 + other) other count refl

    past_length : (from other count : ℕ) → from ≡ 16 + other → part from count fields ≡ part other count behind_length
    past_length from other count at = past_procedure from (2 + other) count (omega (arith, at)) ∙ part_past 2 (n % 2 ^ 16) behind_length (2 + other) other count refl

    past_args : (from other count : ℕ) → from ≡ 16 + n + other → part from count fields ≡ part other count behind_args
    past_args from other count at = past_length from (n + other) count (omega (arith, at)) ∙ part_after e.call.args behind_args (n + other) other count refl

    small : n % 2 ^ 16 ≡ n
    small = omega (arith, fits.args)

    args_len : field 14 2 fields ≡ n
    args_len = ap (little_number 2) (past_procedure 14 0 2 refl) ∙ field_first 2 (n % 2 ^ 16) behind_length (omega arith) ∙ small

    session : field 0 4 fields ≡ session_of e.call.request
    session = field_first 4 (session_of e.call.request) behind_session fits.session

    sequence : field 4 4 fields ≡ sequence_of e.call.request
    sequence = field_past 4 (session_of e.call.request) behind_session 4 0 4 refl ∙ field_first 4 (sequence_of e.call.request) behind_request fits.sequence

    request : request_of fields ≡ e.call.request
    request = (λ i. given_request (session i) (sequence i)) ∙ given_back e.call.request fits.whole

    call : call_of n fields ≡ e.call
    call = λ i. record {
      number = (ap (little_number 4) (past_request 8 0 4 refl) ∙ field_first 4 e.call.number behind_number fits.number) i;
      procedure = (ap (little_number 2) (past_number 12 0 2 refl) ∙ field_first 2 e.call.procedure behind_procedure fits.procedure) i;
      args = (past_length 16 0 n refl ∙ part_first e.call.args behind_args n refl) i;
      snapshot = (ap (little_number 4) (past_args (16 + n) 0 4 (omega arith)) ∙ field_first 4 e.call.snapshot behind_snapshot fits.snapshot) i;
      request = request i;
    }

    reply : field (20 + n) 8 fields ≡ e.reply
    reply =
        ap (little_number 8) (past_args (20 + n) 4 8 (omega arith) ∙ part_past 4 e.call.snapshot behind_snapshot 4 0 8 refl)
        ∙ field_first 8 e.reply rest fits.reply

    long : length fields ≡ 28 + n + length rest
    long = omega (
      arith,
      of_number 4 (session_of e.call.request) behind_session,
      of_number 4 (sequence_of e.call.request) behind_request,
      of_number 4 e.call.number behind_number,
      of_number 2 e.call.procedure behind_procedure,
      of_number 2 (n % 2 ^ 16) behind_length,
      length-append e.call.args behind_args,
      of_number 4 e.call.snapshot behind_snapshot,
      of_number 8 e.reply rest,
    )

-- ---- an addition

abbrev addition_fields : StoredProcedure → List ℕ
addition_fields p =
    little_bytes 2 p.number ++ (little_bytes 2 p.args_len ++ (little_bytes 1 (length p.name % 2 ^ 8) ++ (p.name
    ++ (little_bytes 4 (length (spelling p.program) % 2 ^ 32) ++ spelling p.program))))

entry_of_addition : (p : StoredProcedure) → entry_bytes (AdditionEntry p) ≡ 2 ∷ addition_fields p
entry_of_addition p =
    ap (λ (l : List ℕ). 2 ∷ l) (five (little_bytes 2 p.number) (little_bytes 2 p.args_len) (little_bytes 1 (length p.name % 2 ^ 8)) p.name (little_bytes 4 (length (spelling p.program) % 2 ^ 32)) (spelling p.program))
  where
    five : (a b c d e t : List ℕ) → a ++ b ++ c ++ d ++ e ++ t ≡ a ++ (b ++ (c ++ (d ++ (e ++ t))))
    five a b c d e t = append_assoc (a ++ b ++ c ++ d) e t ∙ append_assoc (a ++ b ++ c) d (e ++ t) ∙ append_assoc (a ++ b) c (d ++ (e ++ t)) ∙ append_assoc a b (c ++ (d ++ (e ++ t)))

pub addition_is_named : (p : StoredProcedure) → AdditionFitsFields p → head_of (entry_bytes (AdditionEntry p)) ≡ Some (AdditionHead (named_procedure p))
unfolding head_of
addition_is_named p fits =
    ap head_of (entry_of_addition p)
    ∙ (λ i. addition_head (name_len i) (field (5 + name_len i) 4 fields) fields)
    ∙ ap (λ k. addition_head n k fields) program_len
    ∙ chosen (9 + n + m == length fields) (Some (AdditionHead (procedure_of n m fields))) None (same_length (9 + n + m) (length fields) (sym long))
    ∙ (λ i. Some (AdditionHead (procedure i)))
  where
    n : ℕ
    n = length p.name

    program : List ℕ
    program = spelling p.program

    m : ℕ
    m = length program

    fields : List ℕ
    fields = addition_fields p

    behind_name : List ℕ
    behind_name = little_bytes 4 (m % 2 ^ 32) ++ program

    behind_length : List ℕ
    behind_length = p.name ++ behind_name

    behind_args : List ℕ
    behind_args = little_bytes 1 (n % 2 ^ 8) ++ behind_length

    behind_number : List ℕ
    behind_number = little_bytes 2 p.args_len ++ behind_args

    past_args : (from other count : ℕ) → from ≡ 4 + other → part from count fields ≡ part other count behind_args
    past_args from other count at =
        part_past 2 p.number behind_number from (2 + other) count (omega (arith, at)) ∙ part_past 2 p.args_len behind_args (2 + other) other count refl

    past_length : (from other count : ℕ) → from ≡ 5 + other → part from count fields ≡ part other count behind_length
    past_length from other count at = past_args from (1 + other) count (omega (arith, at)) ∙ part_past 1 (n % 2 ^ 8) behind_length (1 + other) other count refl

    past_name : (from other count : ℕ) → from ≡ 5 + n + other → part from count fields ≡ part other count behind_name
    past_name from other count at = past_length from (n + other) count (omega (arith, at)) ∙ part_after p.name behind_name (n + other) other count refl

    name_len : field 4 1 fields ≡ n
    name_len = ap (little_number 1) (past_args 4 0 1 refl) ∙ field_first 1 (n % 2 ^ 8) behind_length (omega arith) ∙ omega (arith, fits.name)

    program_len : field (5 + n) 4 fields ≡ m
    program_len = ap (little_number 4) (past_name (5 + n) 0 4 (omega arith)) ∙ field_first 4 (m % 2 ^ 32) program (omega arith) ∙ omega (arith, fits.program)

    procedure : procedure_of n m fields ≡ named_procedure p
    procedure = λ i. record {
      number = field_first 2 p.number behind_number fits.number i;
      args_len = (field_past 2 p.number behind_number 2 0 2 refl ∙ field_first 2 p.args_len behind_args fits.args_len) i;
      name = (past_length 5 0 n refl ∙ part_first p.name behind_name n refl) i;
      bytes = (past_name (9 + n) 4 m (omega arith) ∙ part_past 4 (m % 2 ^ 32) program 4 0 m refl ∙ ap (part 0 m) (sym (append-nil program)) ∙ part_first program [] m refl) i;
    }

    long : length fields ≡ 9 + n + m
    long = omega (
      arith,
      of_number 2 p.number behind_number,
      of_number 2 p.args_len behind_args,
      of_number 1 (n % 2 ^ 8) behind_length,
      length-append p.name behind_name,
      of_number 4 (m % 2 ^ 32) program,
    )
