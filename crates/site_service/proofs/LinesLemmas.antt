-- A site that has answered some of the lines of its input.
use Rattle.std.proofs.Common.{◌≡◌, ℕ, ◌+◌, Bool, List, [], ◌∷◌, ◌++◌, length, Option, Some, None, Result, Ok, Err, refl, sym, ap, subst, ◌∙◌, append_assoc, arith, length-append}
use Rattle.std.proofs.lemmas.List.{append-nil}
use Rattle.std.specs.Io.KnownBytes.{Appends}
use Rattle.byte_output.specs.Writes.{AppendsBeginning}
use Rattle.byte_output.proofs.WritesLemmas.{Appends-then, AppendsBeginning-then, AppendsBeginning-more}
use Rattle.byte_output.specs.declared.output_sink.OutputSink.{OutputSink}
use Rattle.byte_output.specs.Taken.{HasTakenMore, nothing_more, taken_together}
use Rattle.script.specs.declared.fault.LineFault.TheVariants.{Bytes}
use Rattle.script.specs.declared.cause.FaultCause.TheVariants.{NoMemory}
use Rattle.script.specs.declared.stop.Stop.{Stop}
use Rattle.script.specs.declared.stop.Stop.TheVariants.{Fault, Input, Output}
use Rattle.site_service.specs.declared.input.NextLine.TheVariants as next
use Rattle.site_service.specs.declared.input.TheConstants.{MAX_SITE_LINE}
use Rattle.site_service.specs.InputLines.{IsNextLine, whole_lines}
use Rattle.site_service.specs.LineAnswers.{IsLineAnswer, order_behind}
use Rattle.site_report.specs.Answers.{fault_line}
use Rattle.script.proofs.LineLemmas.{says-too_long}
use Rattle.script.specs.Line.{fields_say}
use Rattle.site_service.specs.Lines.{line_says, request_behind, word_of}
use Rattle.site_model.specs.Standing.{SiteSetting}
use Rattle.site_model.specs.Order.{Order}
use Rattle.site.specs.Replica.{SiteReplica, StandsForOrder}
use Rattle.site_service.specs.declared.lines.Progress.{Progress}
use Rattle.site_service.specs.Answering.{AnswersSome, AreAnswers, ComesTo, GivesLines, IsNoText, LeavesAnswers, LeavesLines, order_after}
use Rattle.site_service.proofs.AnswersLemmas.{nothing_answered, answered_behind, first_answered, order_after_more, can_answer_lines}

pub at_start : (s : SiteSetting) (order : Order) (bytes : List ℕ) (left : Option (List ℕ)) (IsPutOut : List ℕ → Type 0) (site : SiteReplica) (number : ℕ)
    → left ≡ Some bytes → IsPutOut [] → StandsForOrder site order → ComesTo s order bytes left number IsPutOut site number
at_start s order bytes left IsPutOut site number known nothing stands = record {
  lines = [];
  rest = bytes;
  known = known;
  split = refl;
  counted = omega arith;
  text = [];
  answers = nothing_answered s order;
  put_out = nothing;
  stands = stands;
}

-- some lines are answered, in one way, and then some more, in another
module _ (s : SiteSetting) (order : Order) (bytes : List ℕ) (left : Option (List ℕ)) (first : ℕ) (IsPutOut IsPutOutBehind IsPutOutInAll IsBegun IsBegunInAll : List ℕ → Type 0)
    (site : SiteReplica) (number : ℕ) (so_far : ComesTo s order bytes left first IsPutOut site number)
    (together : (t u : List ℕ) → IsPutOut t → IsPutOutBehind u → IsPutOutInAll (t ++ u)) (begun : (t u : List ℕ) → IsPutOut t → IsBegun u → IsBegunInAll (t ++ u)) where
  abbrev behind : Order
  behind = order_after s order so_far.lines

  in_all : (lines others : List (List ℕ)) → whole_lines so_far.rest ≡ lines ++ others → whole_lines bytes ≡ (so_far.lines ++ lines) ++ others
  in_all lines others split = so_far.split ∙ ap (λ (t : List (List ℕ)). so_far.lines ++ t) split ∙ sym (append_assoc so_far.lines lines others)

  some_more : (count : ℕ) → AnswersSome s behind so_far.rest count IsPutOutBehind → AnswersSome s order bytes (length so_far.lines + count) IsPutOutInAll
  some_more count more = record {
    lines = so_far.lines ++ more.lines;
    others = more.others;
    split = in_all more.lines more.others more.split;
    counted = length-append so_far.lines more.lines ∙ ap (λ n. length so_far.lines + n) more.counted;
    text = so_far.text ++ more.text;
    answers = answered_behind s order so_far.lines more.lines so_far.text more.text so_far.answers more.answers;
    put_out = together so_far.text more.text so_far.put_out more.put_out;
  }

  all_more : (text : List ℕ) → AreAnswers s behind (whole_lines so_far.rest) text → AreAnswers s order (whole_lines bytes) (so_far.text ++ text)
  all_more text answers = subst (λ ls. AreAnswers s order ls (so_far.text ++ text)) (sym so_far.split)
      (answered_behind s order so_far.lines (whole_lines so_far.rest) so_far.text text so_far.answers answers)

  pub onward : (now : Option (List ℕ)) (next : SiteReplica) (count : ℕ) → ComesTo s behind so_far.rest now number IsPutOutBehind next count
      → ComesTo s order bytes now first IsPutOutInAll next count
  onward now next count more = record {
    lines = so_far.lines ++ more.lines;
    rest = more.rest;
    known = more.known;
    split = in_all more.lines (whole_lines more.rest) more.split;
    counted = omega (arith, length-append so_far.lines more.lines, so_far.counted, more.counted);
    text = so_far.text ++ more.text;
    answers = answered_behind s order so_far.lines more.lines so_far.text more.text so_far.answers more.answers;
    put_out = together so_far.text more.text so_far.put_out more.put_out;
    stands = subst (StandsForOrder next) (sym (order_after_more s order so_far.lines more.lines)) more.stands;
  }

  pub goes_by : {A : Type 0} (now : Option (List ℕ)) (result : Result (Option (Progress A)) Stop) → GivesLines s behind so_far.rest now number IsPutOutBehind IsBegun result
      → GivesLines s order bytes now first IsPutOutInAll IsBegunInAll result
  goes_by now (Ok (Some progress)) more = onward now progress.site progress.number more
  goes_by now (Ok None) (text, answers, put_out) = (so_far.text ++ text, all_more text answers, together so_far.text text so_far.put_out put_out)
  goes_by now (Err (Fault fault)) (memory, before, counted, more) =
      (memory, length so_far.lines + before, omega (arith, counted, so_far.counted), some_more before more)
  goes_by now (Err (Input error)) (count, more) = (length so_far.lines + count, some_more count more)
  goes_by now (Err (Output error)) (text, answers, some) = (so_far.text ++ text, all_more text answers, begun so_far.text text so_far.put_out some)

-- it has come so far, and no further
pub so_far_answered : (s : SiteSetting) (order : Order) (bytes : List ℕ) (left : Option (List ℕ)) (first : ℕ) (IsPutOut : List ℕ → Type 0) (site : SiteReplica) (number : ℕ)
    → (so_far : ComesTo s order bytes left first IsPutOut site number) → AnswersSome s order bytes (length so_far.lines) IsPutOut
so_far_answered s order bytes left first IsPutOut site number so_far = record {
  lines = so_far.lines;
  others = whole_lines so_far.rest;
  split = so_far.split;
  counted = refl;
  text = so_far.text;
  answers = so_far.answers;
  put_out = so_far.put_out;
}

-- what was put out in one way was put out in another
module _ (s : SiteSetting) (order : Order) (bytes : List ℕ) (left : Option (List ℕ)) (first : ℕ) (IsPutOut IsPutOutSo IsBegun : List ℕ → Type 0) (so : (t : List ℕ) → IsPutOut t → IsPutOutSo t) where
  some_so : (count : ℕ) → AnswersSome s order bytes count IsPutOut → AnswersSome s order bytes count IsPutOutSo
  some_so count some = record {
    lines = some.lines;
    others = some.others;
    split = some.split;
    counted = some.counted;
    text = some.text;
    answers = some.answers;
    put_out = so some.text some.put_out;
  }

  pub gives_so : {A : Type 0} (result : Result (Option (Progress A)) Stop) → GivesLines s order bytes left first IsPutOut IsNoText result → GivesLines s order bytes left first IsPutOutSo IsBegun result
  gives_so (Ok (Some progress)) comes = record {
    lines = comes.lines;
    rest = comes.rest;
    known = comes.known;
    split = comes.split;
    counted = comes.counted;
    text = comes.text;
    answers = comes.answers;
    put_out = so comes.text comes.put_out;
    stands = comes.stands;
  }
  gives_so (Ok None) (text, answers, put_out) = (text, answers, so text put_out)
  gives_so (Err (Fault fault)) (memory, before, counted, some) = (memory, before, counted, some_so before some)
  gives_so (Err (Input error)) (count, some) = (count, some_so count some)
  gives_so (Err (Output error)) (text, answers, none) = absurd none

-- a beginning of it was, which is one of the answers to all lines
module _ (s : SiteSetting) (order : Order) (bytes : List ℕ) (left : Option (List ℕ)) (first : ℕ) (IsPutOut IsBegun : List ℕ → Type 0) (begins : (t u : List ℕ) → IsPutOut t → IsBegun (t ++ u)) where
  begun_of : (lines others : List (List ℕ)) (text : List ℕ) → whole_lines bytes ≡ lines ++ others → AreAnswers s order lines text → IsPutOut text
      → (all : List ℕ) × AreAnswers s order (whole_lines bytes) all × IsBegun all
  begun_of lines others text split answers put_out =
      let rest = can_answer_lines s (order_after s order lines) others in (
        text ++ rest.0,
        subst (λ ls. AreAnswers s order ls (text ++ rest.0)) (sym split) (answered_behind s order lines others text rest.0 answers rest.1),
        begins text rest.0 put_out,
      )

  pub begun_by : {A : Type 0} (result : Result (Option (Progress A)) Stop) → GivesLines s order bytes left first IsPutOut IsNoText result
      → (all : List ℕ) × AreAnswers s order (whole_lines bytes) all × IsBegun all
  begun_by (Ok (Some progress)) comes = begun_of comes.lines (whole_lines comes.rest) comes.text comes.split comes.answers comes.put_out
  begun_by (Ok None) (text, answers, put_out) = begun_of (whole_lines bytes) [] text (sym (append-nil (whole_lines bytes))) answers put_out
  begun_by (Err (Fault fault)) (memory, before, counted, some) = begun_of some.lines some.others some.text some.split some.answers some.put_out
  begun_by (Err (Input error)) (count, some) = begun_of some.lines some.others some.text some.split some.answers some.put_out
  begun_by (Err (Output error)) (text, answers, none) = absurd none

-- ---- what outputs and sinks take

begins_behind : (old mid new : Option (List ℕ)) (text more : List ℕ) → Appends old mid text → AppendsBeginning mid new more → AppendsBeginning old new (text ++ more)
begins_behind old mid new text more wrote begun =
    subst (λ (t : List ℕ). AppendsBeginning old new (text ++ t)) (append-nil more) (AppendsBeginning-then old mid new text more [] wrote begun)

pub nothing_taken : {W : Type 0} (contents : W → Option (List ℕ)) (a b : OutputSink W) → b ≡ a → HasTakenMore contents a b []
nothing_taken {W = W} contents a b same = subst (λ (t : OutputSink W). HasTakenMore contents a t []) (sym same) (nothing_more contents a)

-- by what the output has at the end
pub wrote : (start new left : Option (List ℕ)) (text : List ℕ) → new ≡ left → Appends start left text → Appends start new text
wrote start new left text same given = subst (λ (t : Option (List ℕ)). Appends start t text) (sym same) given

pub wrote_some : (start new left : Option (List ℕ)) (text more : List ℕ) → new ≡ left → AppendsBeginning start left text → AppendsBeginning start new (text ++ more)
wrote_some start new left text more same given = subst (λ (t : Option (List ℕ)). AppendsBeginning start t (text ++ more)) (sym same) (AppendsBeginning-more start left text more given)

-- more is appended to a sink
pub appended_onto : {W A : Type 0} (contents : W → Option (List ℕ)) (a b c : OutputSink W) (s t : SiteSetting) (order : Order) (bytes : List ℕ) (left now : Option (List ℕ)) (first number : ℕ) (site : SiteReplica)
    → (so_far : ComesTo s order bytes left first (HasTakenMore contents a b) site number) (result : Result (Option (Progress A)) Stop) → t ≡ s
    → GivesLines t (order_after s order so_far.lines) so_far.rest now number (HasTakenMore contents b c) IsNoText result → GivesLines s order bytes now first (HasTakenMore contents a c) IsNoText result
appended_onto contents a b c s t order bytes left now first number site so_far result same given =
    goes_by s order bytes left first (HasTakenMore contents a b) (HasTakenMore contents b c) (HasTakenMore contents a c) IsNoText IsNoText site number so_far (taken_together contents a b c) (λ t u put_out none. none)
    now result (subst (λ (u : SiteSetting). GivesLines u (order_after s order so_far.lines) so_far.rest now number (HasTakenMore contents b c) IsNoText result) same given)

-- more is written
pub written_onto : {A : Type 0} (old mid new : Option (List ℕ)) (s t : SiteSetting) (order : Order) (bytes : List ℕ) (left now : Option (List ℕ)) (first number : ℕ) (site : SiteReplica)
    → (so_far : ComesTo s order bytes left first (Appends old mid) site number) (result : Result (Option (Progress A)) Stop) → t ≡ s
    → LeavesLines t (order_after s order so_far.lines) so_far.rest now number mid new result → LeavesLines s order bytes now first old new result
written_onto old mid new s t order bytes left now first number site so_far result same given =
    goes_by s order bytes left first (Appends old mid) (Appends mid new) (Appends old new) (AppendsBeginning mid new) (AppendsBeginning old new) site number so_far (λ t u wrote more. Appends-then old mid new t u wrote more)
    (λ t u wrote more. begins_behind old mid new t u wrote more)
    now result (subst (λ (u : SiteSetting). LeavesLines u (order_after s order so_far.lines) so_far.rest now number mid new result) same given)

pub leaves_err : (A : Type 0) (s : SiteSetting) (bytes : List ℕ) (left old new : Option (List ℕ)) (stop : Stop) → LeavesLines {A = A} s [] bytes left 1 old new (Err stop) → LeavesAnswers {T = Unit {0}} s bytes old new (Err stop)
leaves_err A s bytes left old new (Fault fault) given = given
leaves_err A s bytes left old new (Input error) given = given
leaves_err A s bytes left old new (Output error) given = given

-- ---- the next line, by what it is

module _ (s : SiteSetting) (order : Order) (bytes : List ℕ) (left : Option (List ℕ)) (number : ℕ) (IsPutOut : List ℕ → Type 0) where
  one : (line rest text : List ℕ) (next_site : SiteReplica) → left ≡ Some rest → whole_lines bytes ≡ line ∷ whole_lines rest → IsLineAnswer s order (line_says line) text
      → IsPutOut text → StandsForOrder next_site (order_behind s order (line_says line)) → ComesTo s order bytes left number IsPutOut next_site (number + 1)
  one line rest text next_site known split answer put_out stands = record {
    lines = line ∷ [];
    rest = rest;
    known = known;
    split = split;
    counted = omega arith;
    text = text;
    answers = subst (AreAnswers s order (line ∷ [])) (append-nil text) (first_answered s order line [] text [] answer (nothing_answered s _));
    put_out = put_out;
    stands = stands;
  }

  pub line_goes : (line shown text : List ℕ) (next_site : SiteReplica) (is_followed : Bool) → IsNextLine bytes left line (next.Line is_followed) → shown ≡ line
      → IsLineAnswer s order (line_says shown) text → IsPutOut text → StandsForOrder next_site (order_behind s order (line_says shown)) → ComesTo s order bytes left number IsPutOut next_site (number + 1)
  line_goes line shown text next_site is_followed (rest, known, split, short, more) same answer put_out stands =
      let says : line_says shown ≡ line_says line = ap line_says same in
      one line rest text next_site known split (subst (λ t. IsLineAnswer s order t text) says answer) put_out (subst (λ t. StandsForOrder next_site (order_behind s order t)) says stands)

  pub long_goes : (line : List ℕ) (site : SiteReplica) → IsNextLine bytes left line next.TooLong → IsPutOut (fault_line Bytes) → StandsForOrder site order
      → ComesTo s order bytes left number IsPutOut site (number + 1)
  long_goes line site (long, rest, known, split, is) put_out stands =
      let says : line_says long ≡ Err Bytes = says-too_long (fields_say word_of request_behind) MAX_SITE_LINE long is in
      one long rest (fault_line Bytes) site known split (subst (λ t. IsLineAnswer s order t (fault_line Bytes)) (sym says) refl) put_out
      (subst (λ t. StandsForOrder site (order_behind s order t)) (sym says) stands)

  none_answered : IsPutOut [] → AnswersSome s order bytes 0 IsPutOut
  none_answered nothing = record {
    lines = [];
    others = whole_lines bytes;
    split = refl;
    counted = refl;
    text = [];
    answers = nothing_answered s order;
    put_out = nothing;
  }

  pub input_fails : IsPutOut [] → (count : ℕ) × AnswersSome s order bytes count IsPutOut
  input_fails nothing = (0, none_answered nothing)

  pub wants : (A : Type 0) (IsBegun : List ℕ → Type 0) (stop : Stop) → stop ≡ Fault (record { line = number; cause = NoMemory }) → IsPutOut [] → GivesLines {A = A} s order bytes left number IsPutOut IsBegun (Err stop)
  wants A IsBegun stop is nothing = subst (λ (t : Stop). GivesLines {A = A} s order bytes left number IsPutOut IsBegun (Err t)) (sym is) (refl, 0, omega arith, none_answered nothing)
