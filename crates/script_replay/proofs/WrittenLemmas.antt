-- What is written at the end of a script, and what is said of it.
use Rattle.std.proofs.Common.{◌≡◌, ◌⊎◌, inl, inr, ℕ, true, List, [], Option, Result, Ok, Err, IfErr, ◌++◌, refl, sym, ap, subst, ◌∙◌}
use Rattle.std.proofs.lemmas.List.{append-nil}
use Rattle.std.specs.Io.KnownBytes.{Appends}
use Rattle.byte_output.specs.declared.paged.PagedOutput.{PagedOutput}
use Rattle.byte_output.specs.Pending.{output_of, pending_of, Passes}
use Rattle.byte_output.specs.Writes.{AppendsBeginning}
use Rattle.byte_output.proofs.PendingLemmas.{Writes-finished}
use Rattle.script.specs.Telling.{FAILED, SaysEnd, SaysStream, fault_line, status_of_cause}
use Rattle.script.specs.declared.cause.FaultCause.{FaultCause}
use Rattle.script.specs.declared.cause.FaultCause.TheVariants.{Line, Place, Table, Program, Refused, Procedure, NoMemory, Row, Request, Session}
use Rattle.script.proofs.TellingLemmas.{memory_or_not}
use Rattle.script_replay.specs.Acting.{PassesBeginning}
use Rattle.script.specs.declared.stop.Stop.{Stop}
use Rattle.script.specs.declared.stop.Stop.TheVariants.{Fault, Input, Output}
use Rattle.script_replay.specs.Replay.{Ending, Finished, Faulty}
use Rattle.script_replay.specs.Leaving.{Leaves, StopsAt, StopsAtLine, StopsBeforeLines, memory_line}
use Rattle.script_replay.specs.Doing.{GivesBeginning, GivesReplay, GivesNoLines, GivesUpToLine, GivesUpToWant, WritesUpToWant, has_output_failed, WritesBeginning, WritesReplay}
use Rattle.script_replay.proofs.PassesLemmas.{Appends-nothing, PassesBeginning-front, PassesBeginning-finished, PassesBeginning-lost}

-- ---- what was given is written

module _ {W : Type 0} (contents : W → Option (List ℕ)) (a b : PagedOutput W) (old : W) (P : List ℕ → Ending → Type 0) (same : (output_of a).now ≡ old) (none : pending_of a ≡ []) where
  whole : (new : Option (List ℕ)) (text : List ℕ) → Passes contents a b text → Appends (contents (output_of b).now) new (pending_of b) → Appends (contents old) new text
  whole new text passes q = Writes-finished {T = ℕ} {E = ℕ} contents a b old new new text (Ok 0) refl same none passes q

  -- whatever was given, it is a beginning
  begun_of : {T : Type 0} (ended : Result T Stop) → GivesReplay contents a b P ended → GivesBeginning contents a b P
  begun_of (Ok t) (text, prints, passes) = (text, Finished, prints, subst (PassesBeginning contents a b) (append-nil text) (PassesBeginning-front contents a b text [] passes))
  begun_of (Err (Fault fault)) (inl (memory, h)) = h
  begun_of (Err (Fault fault)) (inr (text, prints, passes)) = (text, Faulty fault, prints, subst (PassesBeginning contents a b) (append-nil text) (PassesBeginning-front contents a b text [] passes))
  begun_of (Err (Input error)) h = h
  begun_of (Err (Output error)) h = h

  -- the output failed: what was pending is lost
  pub lost : {T : Type 0} (ended : Result T Stop) (new : Option (List ℕ)) → new ≡ contents (output_of b).now → has_output_failed ended ≡ true → GivesReplay contents a b P ended → WritesReplay (contents old) new P ended
  lost (Ok t) new is e h = absurd cc
  lost (Err (Fault fault)) new is e h = absurd cc
  lost (Err (Input error)) new is e h = absurd cc
  lost (Err (Output error)) new is e (text, ending, prints, passes) =
      (text, ending, prints, subst (λ (t : Option (List ℕ)). AppendsBeginning (contents old) t text) (sym is) (PassesBeginning-lost contents a b old text same none passes))

  finished_begun : (new : Option (List ℕ)) → AppendsBeginning (contents (output_of b).now) new (pending_of b) → GivesBeginning contents a b P → WritesBeginning (contents old) new P
  finished_begun new q (text, ending, prints, passes) = (text, ending, prints, PassesBeginning-finished contents a b old new text same none passes q)

  beginning : (new : Option (List ℕ)) → Appends (contents (output_of b).now) new (pending_of b) → AppendsBeginning (contents (output_of b).now) new (pending_of b)
  beginning new q = (pending_of b, [], sym (append-nil (pending_of b)), q)

  put_out : {T : Type 0} (ended : Result T Stop) (new : Option (List ℕ)) → Appends (contents (output_of b).now) new (pending_of b) → GivesReplay contents a b P ended → WritesReplay (contents old) new P ended
  put_out (Ok t) new q (text, prints, passes) = (text, prints, whole new text passes q)
  put_out (Err (Fault fault)) new q (inl (memory, h)) = inl (memory, finished_begun new (beginning new q) h)
  put_out (Err (Fault fault)) new q (inr (text, prints, passes)) = inr (text, prints, whole new text passes q)
  put_out (Err (Input error)) new q h = finished_begun new (beginning new q) h
  put_out (Err (Output error)) new q h = finished_begun new (beginning new q) h

  -- what was pending was put out
  pub finished : {T : Type 0} (ended : Result T Stop) (new left : Option (List ℕ)) → new ≡ left → Appends (contents (output_of b).now) left (pending_of b) → GivesReplay contents a b P ended → WritesReplay (contents old) new P ended
  finished ended new left is q h = subst (λ (t : Option (List ℕ)). WritesReplay (contents old) t P ended) (sym is) (put_out ended left q h)

  -- or that failed
  pub unfinished : {T : Type 0} (ended : Result T Stop) (new left : Option (List ℕ)) → new ≡ left → AppendsBeginning (contents (output_of b).now) left (pending_of b) → GivesReplay contents a b P ended
      → WritesBeginning (contents old) new P
  unfinished ended new left is q h = subst (λ (t : Option (List ℕ)). WritesBeginning (contents old) t P) (sym is) (finished_begun left q (begun_of ended h))

  -- where memory was wanting, and what was pending was put out
  up_to_line : (bytes : List ℕ) (left new : Option (List ℕ)) (n : ℕ) → Appends (contents (output_of b).now) new (pending_of b) → GivesUpToLine contents bytes left a b n → StopsAtLine bytes left (contents old) new n
  up_to_line bytes left new n q h = record {
    lines = h.lines;
    here = h.here;
    written = whole new (h.lines.done ++ h.here) h.given q;
    beginning = PassesBeginning-finished contents a b old new h.lines.text same none h.beginning (beginning new q);
  }

  no_lines : (bytes : List ℕ) (left new : Option (List ℕ)) (n : ℕ) → Appends (contents (output_of b).now) new (pending_of b) → GivesNoLines contents bytes left a b n → StopsBeforeLines bytes left (contents old) new n
  no_lines bytes left new n q h = record { zero = h.zero; read = h.read; written = whole new [] h.given q }

  at_line : (bytes : List ℕ) (left new : Option (List ℕ)) (n : ℕ) → Appends (contents (output_of b).now) new (pending_of b) → GivesNoLines contents bytes left a b n ⊎ GivesUpToLine contents bytes left a b n → StopsAt bytes left (contents old) new n
  at_line bytes left new n q (inl h) = inl (no_lines bytes left new n q h)
  at_line bytes left new n q (inr h) = inr (up_to_line bytes left new n q h)

  pub wants_put_out : {T : Type 0} (bytes : List ℕ) (left new now : Option (List ℕ)) (ended : Result T Stop) → new ≡ now → Appends (contents (output_of b).now) now (pending_of b) → IfErr ended (GivesUpToWant contents bytes left a b)
      → IfErr ended (WritesUpToWant bytes left (contents old) new)
  wants_put_out bytes left new now (Ok t) is q h = tt
  wants_put_out bytes left new now (Err (Fault fault)) is q h = λ w.
      at_line bytes left new fault.line (subst (λ (t : Option (List ℕ)). Appends (contents (output_of b).now) t (pending_of b)) (sym is) q) (h w)
  wants_put_out bytes left new now (Err (Input error)) is q h = tt
  wants_put_out bytes left new now (Err (Output error)) is q h = tt

-- an output that failed wants no memory
pub wants_of_failed : {T : Type 0} (bytes : List ℕ) (left old new : Option (List ℕ)) (ended : Result T Stop) → has_output_failed ended ≡ true → IfErr ended (WritesUpToWant bytes left old new)
wants_of_failed bytes left old new (Ok t) e = tt
wants_of_failed bytes left old new (Err (Fault fault)) e = absurd cc
wants_of_failed bytes left old new (Err (Input error)) e = absurd cc
wants_of_failed bytes left old new (Err (Output error)) e = tt

-- ---- what is said of it

AppendsBeginning-all : (a b : Option (List ℕ)) (text : List ℕ) → Appends a b text → AppendsBeginning a b text
AppendsBeginning-all a b text p = (text, [], sym (append-nil text), p)

-- a text and an ending of which it is told
abbrev pub SomeTold : Option (List ℕ) → Option (List ℕ) → Option (List ℕ) → Option (List ℕ) → ℕ → (List ℕ → Ending → Type 0) → Type 0
SomeTold old new old_faults new_faults status P = (text : List ℕ) × (ending : Ending) × P text ending × Leaves old new old_faults new_faults status text ending

failed : (old new old_faults new_faults : Option (List ℕ)) (status : ℕ) (P : List ℕ → Ending → Type 0) → status ≡ FAILED → WritesBeginning old new P → SomeTold old new old_faults new_faults status P
failed old new old_faults new_faults status P e (text, ending, prints, q) = (text, ending, prints, inl (e, q))

-- nothing is said at the end
pub told_finished : (old new faults : Option (List ℕ)) (P : List ℕ → Ending → Type 0) → (text : List ℕ) × P text Finished × Appends old new text → SomeTold old new faults faults 0 P
told_finished old new faults P (text, prints, q) = (text, Finished, prints, inr (refl, q, ([], [], refl, Appends-nothing faults)))

pub told_stopped : (old new old_faults new_faults : Option (List ℕ)) (P : List ℕ → Ending → Type 0) (stop : Stop) (status : ℕ) → WritesReplay {T = ℕ} old new P (Err stop) → SaysEnd old_faults new_faults stop status
    → SomeTold old new old_faults new_faults status P
told_stopped old new old_faults new_faults P (Fault fault) status (inl (memory, h)) (e, said) =
    failed old new old_faults new_faults status P (e ∙ ap status_of_cause memory) h
told_stopped old new old_faults new_faults P (Fault fault) status (inr (text, prints, q)) (e, said) = by_cases (memory_or_not fault.cause status e)
  where
    by_cases : (status ≡ FAILED) ⊎ (status ≡ 1) → SomeTold old new old_faults new_faults status P
    by_cases (inl f) = (text, Faulty fault, prints, inl (f, AppendsBeginning-all old new text q))
    by_cases (inr f) = (text, Faulty fault, prints, inr (f, q, said))
told_stopped old new old_faults new_faults P (Input error) status h (e, said) = failed old new old_faults new_faults status P e h
told_stopped old new old_faults new_faults P (Output error) status h (e, said) = failed old new old_faults new_faults status P e h

-- ---- where something failed

wants : (cause : FaultCause) → status_of_cause cause ≡ FAILED → cause ≡ NoMemory
wants (Line fault) e = absurd cc
wants Place e = absurd cc
wants (Table fault) e = absurd cc
wants (Program fault) e = absurd cc
wants (Refused refusal) e = absurd cc
wants (Procedure fault) e = absurd cc
wants NoMemory e = refl
wants (Row fault) e = absurd cc
wants (Request fault) e = absurd cc
wants Session e = absurd cc

-- the line at which memory was wanting is told, or what a stream says
pub told_failed : (bytes : List ℕ) (left old new old_faults new_faults : Option (List ℕ)) (stop : Stop) (status : ℕ) → WritesUpToWant bytes left old new stop → SaysEnd old_faults new_faults stop status → status ≡ FAILED
    → SaysStream old_faults new_faults ⊎ ((number : ℕ) × StopsAt bytes left old new number × AppendsBeginning old_faults new_faults (memory_line number))
told_failed bytes left old new old_faults new_faults (Fault fault) status h (e, said) failed =
    let w = wants fault.cause (sym e ∙ failed) in
    inr (fault.line, h w, subst (λ (cause : FaultCause). AppendsBeginning old_faults new_faults (fault_line (record { line = fault.line; cause = cause }))) w said)
told_failed bytes left old new old_faults new_faults (Input error) status h (e, said) failed = inl said
told_failed bytes left old new old_faults new_faults (Output error) status h (e, said) failed = inl said
