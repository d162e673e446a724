-- A script as far as a loop over its lines has come.
use Rattle.std.proofs.Common.{◌≡◌, inl, inr, ℕ, ◌+◌, List, [], ◌∷◌, ◌++◌, length, Option, Some, Result, Ok, Err, IfErr, refl, sym, ap, subst, ◌∙◌, append_assoc}
use Rattle.std.proofs.lemmas.List.{append-nil, length-append}
use Rattle.byte_output.specs.declared.paged.PagedOutput.{PagedOutput}
use Rattle.byte_output.specs.Pending.{Passes}
use Rattle.byte_output.proofs.PendingLemmas.{Passes-then}
use Rattle.script.specs.declared.fault.LineFault.TheVariants.{Bytes}
use Rattle.script.specs.Text.{lines_of}
use Rattle.script.specs.Script.{line_says}
use Rattle.script.specs.declared.cause.FaultCause.TheVariants.{Line, NoMemory}
use Rattle.script.specs.declared.cause.ScriptFault.{ScriptFault}
use Rattle.script_replay.specs.declared.stage.Stage as code
use Rattle.script.specs.declared.stop.Stop.{Stop}
use Rattle.script.specs.declared.stop.Stop.TheVariants.{Fault, Input, Output}
use Rattle.script_replay.specs.Stage.{Stage, first_stage, effect_of}
use Rattle.script_replay.specs.Replay.{Ending, Finished, Faulty, Prints}
use Rattle.script_replay.specs.Doing.{stage_of, PrintsFrom, GivesBeginning, GivesUpTo, GivesEffect, StopsBy, GivesUpToWant, GivesReplay}
use Rattle.script_replay.specs.Acting.{PassesBeginning}
use Rattle.script_replay.proofs.PassesLemmas.{Passes-nothing, PassesBeginning-front, PassesBeginning-then}
use Rattle.script_replay.proofs.ReplayLemmas.{can_print, nothing_left, prints_line}

-- the lines before this number were read, and print by themselves what was given; and whatever some lines print from here on, so
-- much in front of it is a print of those that were read and these
pub record SoFar (W : Type 0) (contents : W → Option (List ℕ)) (now : Stage) (number : ℕ) (lines left : List (List ℕ)) (old new : PagedOutput W) : Type 0 where
  pub read : List (List ℕ)
  pub is : lines ≡ read ++ left
  pub count : length read + 1 ≡ number
  pub done : List ℕ
  pub passed : Passes contents old new done
  pub back : (next : List (List ℕ)) (text : List ℕ) (ending : Ending) → Prints now number next text ending → Prints first_stage 1 (read ++ next) (done ++ text) ending

pub from_start : {W : Type 0} (contents : W → Option (List ℕ)) (lines : List (List ℕ)) (page : PagedOutput W) → SoFar W contents first_stage 1 lines lines page page
from_start contents lines page = record { read = []; is = refl; count = refl; done = []; passed = Passes-nothing contents page; back = λ next text ending p. p }

back_to : {W : Type 0} (contents : W → Option (List ℕ)) (now : Stage) (number : ℕ) (lines left : List (List ℕ)) (old new : PagedOutput W) (so_far : SoFar W contents now number lines left old new) (text : List ℕ) (ending : Ending)
    → Prints now number left text ending → Prints first_stage 1 lines (so_far.done ++ text) ending
back_to contents now number lines left old new so_far text ending p =
    subst (λ (ls : List (List ℕ)). Prints first_stage 1 ls (so_far.done ++ text) ending) (sym so_far.is) (so_far.back left text ending p)

-- the lines that were read, by themselves
finished_so_far : {W : Type 0} (contents : W → Option (List ℕ)) (now : Stage) (number : ℕ) (lines left : List (List ℕ)) (old new : PagedOutput W) (so_far : SoFar W contents now number lines left old new)
    → Prints first_stage 1 so_far.read so_far.done Finished
finished_so_far contents now number lines left old new so_far =
    subst (λ (ls : List (List ℕ)). Prints first_stage 1 ls so_far.done Finished) (append-nil so_far.read)
    (subst (λ (t : List ℕ). Prints first_stage 1 (so_far.read ++ []) t Finished) (append-nil so_far.done) (so_far.back [] [] Finished (nothing_left now number)))

-- a beginning of the whole, in front of a beginning of what is left
begun : {W : Type 0} (contents : W → Option (List ℕ)) (now : Stage) (number : ℕ) (lines left : List (List ℕ)) (old mid new : PagedOutput W) → SoFar W contents now number lines left old mid
    → GivesBeginning contents mid new (Prints now number left) → GivesBeginning contents old new (Prints first_stage 1 lines)
begun contents now number lines left old mid new so_far (text, ending, prints, passes) =
    (so_far.done ++ text, ending, back_to contents now number lines left old mid so_far text ending prints, PassesBeginning-then contents old mid new so_far.done text so_far.passed passes)

stopped : {W : Type 0} (contents : W → Option (List ℕ)) (now : Stage) (number : ℕ) (lines left : List (List ℕ)) (old mid new : PagedOutput W) (stop : Stop) → SoFar W contents now number lines left old mid
    → GivesUpTo contents mid new (Prints now number left) stop → GivesUpTo contents old new (Prints first_stage 1 lines) stop
stopped contents now number lines left old mid new (Fault fault) so_far (inl (memory, h)) = inl (memory, begun contents now number lines left old mid new so_far h)
stopped contents now number lines left old mid new (Fault fault) so_far (inr (text, prints, passes)) =
    inr (so_far.done ++ text, back_to contents now number lines left old mid so_far text (Faulty fault) prints, Passes-then contents old mid new so_far.done text so_far.passed passes)
stopped contents now number lines left old mid new (Input error) so_far h = begun contents now number lines left old mid new so_far h
stopped contents now number lines left old mid new (Output error) so_far h = begun contents now number lines left old mid new so_far h

-- it stops here, with no more given
pub stops_here : {W : Type 0} (contents : W → Option (List ℕ)) (now : Stage) (number : ℕ) (lines left : List (List ℕ)) (old new : PagedOutput W) → SoFar W contents now number lines left old new
    → GivesBeginning contents old new (Prints first_stage 1 lines)
stops_here contents now number lines left old new so_far =
    let rest = can_print now number left in
    begun contents now number lines left old new new so_far (rest.0, rest.1, rest.2, PassesBeginning-front contents new new [] rest.0 (Passes-nothing contents new))

-- no line is left
pub ends_here : {W : Type 0} (contents : W → Option (List ℕ)) (now : Stage) (number : ℕ) (lines left : List (List ℕ)) (old new : PagedOutput W) → SoFar W contents now number lines left old new → left ≡ []
    → (text : List ℕ) × Prints first_stage 1 lines text Finished × Passes contents old new text
ends_here contents now number lines left old new so_far e = (
  so_far.done ++ [],
  back_to contents now number lines left old new so_far [] Finished (subst (λ (ls : List (List ℕ)). Prints now number ls [] Finished) (sym e) (nothing_left now number)),
  Passes-then contents old new new so_far.done [] so_far.passed (Passes-nothing contents new),
)

-- the next line is at fault for its bytes
pub ends_at_bytes : {W : Type 0} (contents : W → Option (List ℕ)) (now : Stage) (number : ℕ) (lines left more : List (List ℕ)) (line : List ℕ) (old new : PagedOutput W) (stop : Stop) → SoFar W contents now number lines left old new
    → left ≡ line ∷ more → line_says line ≡ Err Bytes → stop ≡ Fault (record { line = number; cause = Line Bytes }) → GivesUpTo contents old new (Prints first_stage 1 lines) stop
ends_at_bytes contents now number lines left more line old new stop so_far e says is =
    let fault : ScriptFault = record { line = number; cause = Line Bytes } in
    let p : Prints now number (line ∷ more) [] (Faulty fault) = prints_line now number line more [] (Faulty fault)
    (subst (λ said. PrintsFrom number (effect_of now said) more [] (Faulty fault)) (sym says) (refl, refl)) in
    subst (GivesUpTo contents old new (Prints first_stage 1 lines)) (sym is)
    (stopped contents now number lines left old new new (Fault fault) so_far
    (inr ([], subst (λ (ls : List (List ℕ)). Prints now number ls [] (Faulty fault)) (sym e) p, Passes-nothing contents new)))

-- the next line was done
pub line_goes_on : {A W : Type 0} (contents : W → Option (List ℕ)) (now : Stage) (next : code.Stage A) (number : ℕ) (lines left more : List (List ℕ)) (line : List ℕ) (old mid new : PagedOutput W)
    → SoFar W contents now number lines left old mid → left ≡ line ∷ more → GivesEffect contents number (effect_of now (line_says line)) mid new (Ok next)
    → SoFar W contents (stage_of next) (number + 1) lines more old new
line_goes_on contents now next number lines left more line old mid new so_far e (here, passes, on) = record {
  read = so_far.read ++ line ∷ [];
  is = so_far.is ∙ ap (λ (ls : List (List ℕ)). so_far.read ++ ls) e ∙ sym (append_assoc so_far.read (line ∷ []) more);
  count = ap (λ (k : ℕ). k + 1) (length-append so_far.read (line ∷ []) ∙ so_far.count);
  done = so_far.done ++ here;
  passed = Passes-then contents old mid new so_far.done here so_far.passed passes;
  back = λ left text ending p.
      subst (λ (ls : List (List ℕ)). Prints first_stage 1 ls ((so_far.done ++ here) ++ text) ending) (sym (append_assoc so_far.read (line ∷ []) left))
      (subst (λ (t : List ℕ). Prints first_stage 1 (so_far.read ++ line ∷ left) t ending) (sym (append_assoc so_far.done here text))
      (so_far.back (line ∷ left) (here ++ text) ending (prints_line now number line left (here ++ text) ending (on left text ending p))));
}

-- what may be printed from a line on is what its effect and then the lines behind it may print
stopped_at_line : {W : Type 0} (contents : W → Option (List ℕ)) (now : Stage) (number : ℕ) (line : List ℕ) (left more : List (List ℕ)) (old new : PagedOutput W) (stop : Stop) → left ≡ line ∷ more
    → GivesUpTo contents old new (PrintsFrom number (effect_of now (line_says line)) more) stop → GivesUpTo contents old new (Prints now number left) stop
stopped_at_line contents now number line left more old new stop e h =
    subst (λ (ls : List (List ℕ)). GivesUpTo contents old new (Prints now number ls) stop) (sym e) (by_cases stop h)
  where
    by_cases : (s : Stop) → GivesUpTo contents old new (PrintsFrom number (effect_of now (line_says line)) more) s → GivesUpTo contents old new (Prints now number (line ∷ more)) s
    by_cases (Fault fault) (inl (memory, (text, ending, prints, passes))) = inl (memory, (text, ending, prints_line now number line more text ending prints, passes))
    by_cases (Fault fault) (inr (text, prints, passes)) = inr (text, prints_line now number line more text (Faulty fault) prints, passes)
    by_cases (Input error) (text, ending, prints, passes) = (text, ending, prints_line now number line more text ending prints, passes)
    by_cases (Output error) (text, ending, prints, passes) = (text, ending, prints_line now number line more text ending prints, passes)

-- the next line stopped the script
pub line_stops : {W : Type 0} (contents : W → Option (List ℕ)) (now : Stage) (number : ℕ) (lines left more : List (List ℕ)) (line : List ℕ) (old mid new : PagedOutput W) (stop : Stop)
    → SoFar W contents now number lines left old mid → left ≡ line ∷ more → GivesEffect {A = ℕ} contents number (effect_of now (line_says line)) mid new (Err stop)
    → GivesUpTo contents old new (Prints first_stage 1 lines) stop
line_stops contents now number lines left more line old mid new stop so_far e done =
    stopped contents now number lines left old mid new stop so_far (stopped_at_line contents now number line left more mid new stop e (done more))

-- it stopped with what a `?` returns
pub replayed_by : {T W : Type 0} (contents : W → Option (List ℕ)) (old new : PagedOutput W) (P : List ℕ → Ending → Type 0) (result : Result T Stop) (passed stop : Stop) → result ≡ Err passed → passed ≡ stop
    → GivesUpTo contents old new P stop → GivesReplay contents old new P result
replayed_by contents old new P (Ok t) passed stop e same h = absurd cc
replayed_by contents old new P (Err given) passed stop e same h = let is : stop ≡ given = cc in subst (GivesUpTo contents old new P) is h

-- the first of the lines is the one that was read
pub first_line : (bytes rest read line : List ℕ) → lines_of bytes ≡ read ∷ lines_of rest → line ≡ read → lines_of bytes ≡ line ∷ lines_of rest
first_line bytes rest read line e is = e ∙ ap (λ (l : List ℕ). l ∷ lines_of rest) (sym is)

-- ---- where memory was wanting

beginning_of : {W : Type 0} (contents : W → Option (List ℕ)) (old new : PagedOutput W) (P : List ℕ → Ending → Type 0) (fault : ScriptFault) → GivesUpTo contents old new P (Fault fault) → GivesBeginning contents old new P
beginning_of contents old new P fault (inl (memory, h)) = h
beginning_of contents old new P fault (inr (text, prints, passes)) =
    (text, Faulty fault, prints, subst (PassesBeginning contents old new) (append-nil text) (PassesBeginning-front contents old new text [] passes))

-- no line was read
pub wants_first : {W : Type 0} (contents : W → Option (List ℕ)) (bytes : List ℕ) (left : Option (List ℕ)) (page : PagedOutput W) (stop : Stop) → stop ≡ Fault (record { line = 0; cause = NoMemory }) → left ≡ Some bytes
    → GivesUpToWant contents bytes left page page stop
wants_first contents bytes left page stop is read =
    subst (GivesUpToWant contents bytes left page page) (sym is) (λ w. inl (record { zero = refl; read = read; given = Passes-nothing contents page }))

-- a line at fault for its bytes wants no memory
pub wants_none : {W : Type 0} (contents : W → Option (List ℕ)) (bytes : List ℕ) (left : Option (List ℕ)) (old new : PagedOutput W) (number : ℕ) (stop : Stop) → stop ≡ Fault (record { line = number; cause = Line Bytes })
    → GivesUpToWant contents bytes left old new stop
wants_none contents bytes left old new number stop is = subst (GivesUpToWant contents bytes left old new) (sym is) (λ w. absurd cc)

-- the next line stopped the script
pub line_wants : {W : Type 0} (contents : W → Option (List ℕ)) (now : Stage) (number : ℕ) (bytes rest : List ℕ) (remaining : Option (List ℕ)) (left : List (List ℕ)) (line : List ℕ) (old mid new : PagedOutput W) (stop : Stop)
    → SoFar W contents now number (lines_of bytes) left old mid → left ≡ line ∷ lines_of rest → remaining ≡ Some rest → StopsBy contents number mid new stop
    → GivesEffect {A = ℕ} contents number (effect_of now (line_says line)) mid new (Err stop) → GivesUpToWant contents bytes remaining old new stop
line_wants contents now number bytes rest remaining left line old mid new (Fault fault) so_far e read (same, here, passes) given = λ w.
    let begun = beginning_of contents mid new (PrintsFrom number (effect_of now (line_says line)) []) fault (given []) in
    inr (record {
      lines = record {
        before = so_far.read;
        line = line;
        rest = rest;
        read = read;
        lines = so_far.is ∙ ap (λ (ls : List (List ℕ)). so_far.read ++ ls) e;
        count = so_far.count ∙ sym same;
        done = so_far.done;
        printed = finished_so_far contents now number (lines_of bytes) left old mid so_far;
        text = so_far.done ++ begun.0;
        ending = begun.1;
        prints = so_far.back (line ∷ []) begun.0 begun.1 (prints_line now number line [] begun.0 begun.1 begun.2);
      };
      here = here;
      given = Passes-then contents old mid new so_far.done here so_far.passed passes;
      beginning = PassesBeginning-then contents old mid new so_far.done begun.0 so_far.passed begun.3;
    })
line_wants contents now number bytes rest remaining left line old mid new (Input error) so_far e read by given = tt
line_wants contents now number bytes rest remaining left line old mid new (Output error) so_far e read by given = tt

-- it stopped with what a `?` returns
pub wanted_by : {T W : Type 0} (contents : W → Option (List ℕ)) (bytes : List ℕ) (left : Option (List ℕ)) (old new : PagedOutput W) (result : Result T Stop) (passed stop : Stop) → result ≡ Err passed → passed ≡ stop
    → GivesUpToWant contents bytes left old new stop → IfErr result (GivesUpToWant contents bytes left old new)
wanted_by contents bytes left old new (Ok t) passed stop e same h = tt
wanted_by contents bytes left old new (Err given) passed stop e same h = let is : stop ≡ given = cc in subst (GivesUpToWant contents bytes left old new) is h
