-- Orders that lines of a site's input lead to: their strings are bytes, and there was room for each.
use Rattle.std.proofs.Common.{◌≡◌, ℕ, ◌+◌, ◌-◌, ◌<◌, ◌^◌, ◌==◌, Bool, true, false, ◌||◌, List, [], ◌∷◌, ◌++◌, length, Option, Some, None, Result, Ok, Err, refl, sym, ap, subst, ◌∙◌, inl, inr, arith}
use Rattle.std.specs.Prelude.{if◌then◌else◌}
use Rattle.std.proofs.lemmas.Bool.{cases_lt}
use Rattle.std.proofs.lemmas.Bool.Decides.{nat_tests}
use Rattle.std.proofs.lemmas.List.{length-append}
use Rattle.std.proofs.lemmas.List.Elements.{All-push}
use Rattle.script.specs.declared.fault.LineFault.{LineFault}
use Rattle.script.specs.Line.{fields_say, procedure_said, said_by_fields, said_by_word, says}
use Rattle.script.specs.Line as line
use Rattle.script.specs.Text.{bytes_of_hex, u32_of}
use Rattle.site_model.specs.declared.origin.Origin.{Origin}
use Rattle.site_model.specs.Standing.{SiteSetting}
use Rattle.site_model.specs.Order.{Order}
use Rattle.site_laws.specs.Orders.{IsBytes, IsOfBytes}
use Rattle.site_service.specs.declared.entry.TheConstants.{MAX_POSITION, MAX_STRINGS}
use Rattle.site_service.specs.declared.input.TheConstants.{MAX_SITE_LINE}
use Rattle.site_service.specs.declared.line.SiteLine.TheVariants.{Call, Add, Entry, Rows, Scan as ScanLine, Dump, Position}
use Rattle.site_service.specs.declared.word.Word.{Word}
use Rattle.site_service.specs.declared.word.Word.TheVariants as word
use Rattle.site_service.specs.Answering.{order_after}
use Rattle.site_service.specs.LineAnswers.{is_full, order_behind, strings_before}
use Rattle.site_service.specs.Lines.{SiteRequest, line_says, request_behind, scan_of, word_of}
use Rattle.site_service.specs.Taken.{HasRoom}
use Rattle.site_service.proofs.SayLemmas.{bytes_fit, made_from, one_from, three_from}

-- ---- the bytes of a line

abbrev FitsLine : SiteRequest → Type 0
FitsLine (Entry bytes) = IsBytes bytes
FitsLine (Call name args session sequence) = Unit {0}
FitsLine (Add p) = Unit {0}
FitsLine Rows = Unit {0}
FitsLine (ScanLine scan) = Unit {0}
FitsLine Dump = Unit {0}
FitsLine Position = Unit {0}

plain : (x y : SiteRequest) → FitsLine x → ◌≡◌ {A = Result SiteRequest LineFault} (Ok x) (Ok y) → FitsLine y
plain x y fits e = subst FitsLine (let same : x ≡ y = cc in same) fits

request_fits : (w : Word) (fields : List (List ℕ)) (x : SiteRequest) → request_behind w fields ≡ Ok x → FitsLine x
unfolding request_behind
request_fits word.Call (name ∷ args ∷ session ∷ sequence ∷ []) x e =
    let (a, s, q, is_args, is_session, is_sequence, same) = three_from (Call name) (bytes_of_hex args) (u32_of session) (u32_of sequence) x e in
    subst FitsLine (sym same) tt
request_fits word.Add (name ∷ number ∷ args_len ∷ program ∷ []) x e =
    let (p, made, same) = made_from Add (procedure_said name number args_len program) x e in
    subst FitsLine (sym same) tt
request_fits word.Entry (field ∷ []) x e =
    let (bytes, is, same) = one_from Entry (bytes_of_hex field) x e in
    subst FitsLine (sym same) (bytes_fit field bytes is)
request_fits word.Rows [] x e = plain Rows x tt e
request_fits word.Scan (table ∷ lo ∷ hi ∷ most ∷ []) x e =
    let (scan, made, same) = made_from ScanLine (scan_of table lo hi most) x e in
    subst FitsLine (sym same) tt
request_fits word.Dump [] x e = plain Dump x tt e
request_fits word.Position [] x e = plain Position x tt e
request_fits _ _ x e = absurd cc

fields_fit : (fields : List (List ℕ)) (x : SiteRequest) → fields_say word_of request_behind fields ≡ Ok x → FitsLine x
fields_fit [] x e = absurd cc
fields_fit (first ∷ fields) x e = by_word (word_of first) e
  where
    by_word : (o : Option Word) → said_by_word request_behind o fields ≡ Ok x → FitsLine x
    by_word None e = absurd cc
    by_word (Some w) e = request_fits w fields x e

line_fits : (l : List ℕ) (x : SiteRequest) → line_says l ≡ Ok (Some x) → FitsLine x
unfolding says
line_fits l x = by_fields (line.fields_said MAX_SITE_LINE l)
  where
    by_fields : (r : Result (Option (List (List ℕ))) LineFault) → said_by_fields (fields_say word_of request_behind) r ≡ Ok (Some x) → FitsLine x
    by_fields (Err fault) e = absurd cc
    by_fields (Ok None) e = absurd (let same : None ≡ Some x = cc in cc)
    by_fields (Ok (Some fields)) e =
        let (y, said, same) = made_from Some (fields_say word_of request_behind fields) (Some x) e in
        subst FitsLine (let back : x ≡ y = cc in sym back) (fields_fit fields y said)

-- ---- orders behind lines

pub record IsTaken (s : SiteSetting) (order : Order) : Type 0 where
  pub bytes : IsOfBytes order
  pub room : HasRoom s order

room_more : (s : SiteSetting) (order : Order) (bytes : List ℕ) → is_full s (length order) ≡ false → HasRoom s order → HasRoom s (order ++ bytes ∷ [])
room_more s order bytes here room count within = elim (cases_lt count (length order)) [
  | inl below ↦ room count below
  | inr past ↦ let same : length order ≡ count = omega (arith, within, past, length-append order (bytes ∷ [])) in ap (is_full s) (sym same) ∙ here
]

taken_next : (s : SiteSetting) (order : Order) (l : List ℕ) → IsTaken s order → IsTaken s (order_behind s order (line_says l))
taken_next s order l taken = by_line (line_says l) refl
  where
    by_full : (bytes : List ℕ) → IsBytes bytes → (b : Bool) → is_full s (length order) ≡ b → IsTaken s (if b then order else order ++ bytes ∷ [])
    by_full bytes are true full = taken
    by_full bytes are false full = record { bytes = All-push IsBytes order bytes taken.bytes are; room = room_more s order bytes full taken.room }

    by_line : (r : Result (Option SiteRequest) LineFault) → line_says l ≡ r → IsTaken s (order_behind s order r)
    by_line (Err fault) is = taken
    by_line (Ok None) is = taken
    by_line (Ok (Some (Call name args session sequence))) is = taken
    by_line (Ok (Some (Add p))) is = taken
    by_line (Ok (Some (Entry bytes))) is = by_full bytes (line_fits l (Entry bytes) is) (is_full s (length order)) refl
    by_line (Ok (Some Rows)) is = taken
    by_line (Ok (Some (ScanLine scan))) is = taken
    by_line (Ok (Some Dump)) is = taken
    by_line (Ok (Some Position)) is = taken

-- what lines lead to was taken
pub taken_after : (s : SiteSetting) (order : Order) (lines : List (List ℕ)) → IsTaken s order → IsTaken s (order_after s order lines)
taken_after s order [] taken = taken
taken_after s order (l ∷ lines) taken = taken_after s (order_behind s order (line_says l)) lines (taken_next s order l taken)

-- nothing was taken yet
pub none_taken : (s : SiteSetting) → IsTaken s []
none_taken s = record { bytes = λ k d within. absurd (omega arith); room = λ count within. absurd (omega arith) }

-- ---- the number of strings

or_true : (b : Bool) → (b || true) ≡ true
or_true true = refl
or_true false = refl

pub strings_fit : (s : SiteSetting) (order : Order) (origin : Origin) → s.origin ≡ Some origin → origin.strings < 2 ^ 64 → HasRoom s order → origin.strings + length order < 2 ^ 64
strings_fit s order origin has few room = elim (cases_lt MAX_STRINGS (origin.strings + length order)) [
  | inl over ↦
      let count = MAX_STRINGS - origin.strings in
      let within : count < length order = omega (arith, over, few) in
      let last : (origin.strings + count == MAX_STRINGS) ≡ true = let sum : origin.strings + count ≡ MAX_STRINGS = omega (arith, few) in grind (arith, nat_tests) in
      let full : is_full s count ≡ true =
      ap (λ (o : Option Origin). (count == MAX_POSITION) || (strings_before o + count == MAX_STRINGS)) has ∙ ap (λ (b : Bool). (count == MAX_POSITION) || b) last ∙ or_true (count == MAX_POSITION) in
      absurd (let bad : true ≡ false = sym full ∙ room count within in cc)
  | inr fits ↦ omega (arith, fits)
]
