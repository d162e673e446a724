-- How a site ends.
use Rattle.std.proofs.Common.{◌≡◌, ◌⊎◌, inl, inr, ℕ, List, [], ◌++◌, Option, Result, Ok, Err, IfOk, IfErr, refl, sym, ap, subst, arith, ◌∙◌}
use Rattle.byte_output.specs.Writes.{AppendsBeginning}
use Rattle.byte_output.proofs.TakenLemmas.{Appends-nothing}
use Rattle.script.specs.declared.cause.FaultCause.{FaultCause}
use Rattle.script.specs.declared.cause.FaultCause.TheVariants.{NoMemory}
use Rattle.script.specs.declared.cause.ScriptFault.{ScriptFault}
use Rattle.script.specs.declared.stop.Stop.{Stop}
use Rattle.script.specs.declared.stop.Stop.TheVariants.{Fault, Input, Output}
use Rattle.script.specs.Said.{IsStopOf}
use Rattle.script.specs.Telling.{FAILED, SaysEnd, fault_line, status_of_cause}
use Rattle.script.proofs.TellingLemmas.{memory_or_not}
use Rattle.site_service.specs.InputLines.{whole_lines}
use Rattle.site_model.specs.Standing.{SiteSetting}
use Rattle.site_service.specs.Answering.{AnswersFirst, AreAnswers, LeavesAnswers, order_after}
use Rattle.site_service.specs.Leaving.{Leaves, LeavesEnd, LeavesUpTo, StopsAtSettings, TellsFailure, TellsFault}
use Rattle.site_service.proofs.AnswersLemmas.{nothing_answered, answered_behind, can_answer_lines}

-- ---- before the first line

none_of : (s : SiteSetting) (bytes : List ℕ) (now : Option (List ℕ)) → AnswersFirst s bytes now now 0
none_of s bytes now = record {
  lines = [];
  others = whole_lines bytes;
  split = refl;
  counted = refl;
  text = [];
  answers = nothing_answered s [];
  put_out = Appends-nothing now;
}

pub wants_first : (IsUntouched : Type 0) (count : ℕ) (s : SiteSetting) (bytes : List ℕ) (now : Option (List ℕ)) (stop : Stop) → IsUntouched → stop ≡ Fault (record { line = 0; cause = NoMemory }) → LeavesUpTo IsUntouched count s bytes now now stop
wants_first IsUntouched count s bytes now stop untouched is = subst (LeavesUpTo IsUntouched count s bytes now now) (sym is) (refl, inl (untouched, omega arith, none_of s bytes now))

-- ---- by the settings

-- they couldn't be read, though they hold
pub unread : {T : Type 0} (IsUntouched : Type 0) (count : ℕ) (s : SiteSetting) (bytes : List ℕ) (now : Option (List ℕ)) (said : Result SiteSetting ScriptFault) (stop : Stop) (result : Result T Stop)
    → IsUntouched → said ≡ Ok s → IsStopOf said count stop → result ≡ Err stop → LeavesEnd IsUntouched count s bytes now now result
unread {T = T} U count s bytes now said (Fault fault) result untouched holds (inl (memory, within)) is = rw is (memory, inl (untouched, within, none_of s bytes now))
unread {T = T} U count s bytes now said (Fault fault) result untouched holds (inr faulty) is = absurd cc
unread {T = T} U count s bytes now said (Input error) result untouched holds why is = rw is (0, none_of s bytes now)
unread {T = T} U count s bytes now said (Output error) result untouched holds why is = absurd why

-- they are at fault
pub refused : {T : Type 0} (count : ℕ) (said : Result SiteSetting ScriptFault) (fault : ScriptFault) (stop : Stop) (result : Result T Stop)
    → said ≡ Err fault → IsStopOf said count stop → result ≡ Err stop → StopsAtSettings fault result
refused {T = T} count said fault (Fault f) result faulty (inl (memory, within)) is = rw is (inl memory)
refused {T = T} count said fault (Fault f) result faulty (inr e) is = rw is (inr cc)
refused {T = T} count said fault (Input error) result faulty why is = rw is tt
refused {T = T} count said fault (Output error) result faulty why is = absurd why

-- ---- the lines

pub by_lines : {T : Type 0} (IsUntouched : Type 0) (count : ℕ) (s t : SiteSetting) (bytes : List ℕ) (old new : Option (List ℕ)) (result : Result T Stop) → s ≡ t → LeavesAnswers s bytes old new result → LeavesEnd IsUntouched count t bytes old new result
by_lines U count s t bytes old new (Ok x) same h = subst (λ u. LeavesEnd {T = ℕ} U count u bytes old new (Ok 0)) same h
by_lines U count s t bytes old new (Err (Fault fault)) same (memory, before, counted, first) =
    subst (λ u. LeavesEnd {T = ℕ} U count u bytes old new (Err (Fault fault))) same (memory, inr (before, counted, first))
by_lines U count s t bytes old new (Err (Input error)) same h = subst (λ u. LeavesEnd {T = ℕ} U count u bytes old new (Err (Input error))) same h
by_lines U count s t bytes old new (Err (Output error)) same h = subst (λ u. LeavesEnd {T = ℕ} U count u bytes old new (Err (Output error))) same h

-- ---- what is told

pub if_ok : {X E : Type 0} (r : Result X E) (P : X → Type 0) → ((x : X) → r ≡ Ok x → P x) → IfOk r P
if_ok (Ok x) P h = h x refl
if_ok (Err e) P h = tt

pub if_err : {X E : Type 0} (r : Result X E) (P : E → Type 0) → ((e : E) → r ≡ Err e → P e) → IfErr r P
if_err (Ok x) P h = tt
if_err (Err e) P h = h e refl

pub tells_fault : (old_faults new_faults : Option (List ℕ)) (fault : ScriptFault) (stop : Stop) (status : ℕ) → StopsAtSettings {T = ℕ} fault (Err stop) → SaysEnd old_faults new_faults stop status
    → TellsFault old_faults new_faults status fault
tells_fault old_faults new_faults fault (Fault f) status (inl memory) (e, said) = inr (e ∙ ap status_of_cause memory)
tells_fault old_faults new_faults fault (Fault f) status (inr same) (e, said) = by_cases (memory_or_not f.cause status e)
  where
    by_cases : (status ≡ FAILED) ⊎ (status ≡ 1) → TellsFault old_faults new_faults status fault
    by_cases (inl failed) = inr failed
    by_cases (inr one) = inl (one, subst (λ (x : ScriptFault). AppendsBeginning old_faults new_faults (fault_line x)) same said)
tells_fault old_faults new_faults fault (Input error) status h (e, said) = inr e
tells_fault old_faults new_faults fault (Output error) status h (e, said) = absurd h

pub leaves_whole : (IsUntouched : Type 0) (count : ℕ) (s : SiteSetting) (bytes : List ℕ) (old new : Option (List ℕ)) → LeavesEnd {T = ℕ} IsUntouched count s bytes old new (Ok 0) → Leaves s bytes old new 0
leaves_whole U count s bytes old new (text, answers, written) = (text, answers, inl (refl, written))

-- the answers to the first of the lines are a beginning of those to all
first_begin : (s : SiteSetting) (bytes : List ℕ) (old new : Option (List ℕ)) (status count : ℕ) → status ≡ FAILED → AnswersFirst s bytes old new count → Leaves s bytes old new status
first_begin s bytes old new status count failed first =
    let rest = can_answer_lines s (order_after s [] first.lines) first.others in (
      first.text ++ rest.0,
      subst (λ ls. AreAnswers s [] ls (first.text ++ rest.0)) (sym first.split)
          (answered_behind s [] first.lines first.others first.text rest.0 first.answers rest.1),
      inr (failed, (first.text, rest.0, refl, first.put_out)),
    )

pub leaves_some : (IsUntouched : Type 0) (setting_lines : ℕ) (s : SiteSetting) (bytes : List ℕ) (old new old_faults new_faults : Option (List ℕ)) (stop : Stop) (status : ℕ) → LeavesUpTo IsUntouched setting_lines s bytes old new stop → SaysEnd old_faults new_faults stop status
    → Leaves s bytes old new status
leaves_some U setting_lines s bytes old new old_faults new_faults (Fault fault) status (memory, inl (untouched, within, first)) (e, said) = first_begin s bytes old new status 0 (e ∙ ap status_of_cause memory) first
leaves_some U setting_lines s bytes old new old_faults new_faults (Fault fault) status (memory, inr (before, counted, first)) (e, said) = first_begin s bytes old new status before (e ∙ ap status_of_cause memory) first
leaves_some U setting_lines s bytes old new old_faults new_faults (Input error) status (count, first) (e, said) = first_begin s bytes old new status count e first
leaves_some U setting_lines s bytes old new old_faults new_faults (Output error) status (text, answers, wrote) (e, said) = (text, answers, inr (e, wrote))

pub tells_failure : (IsUntouched : Type 0) (setting_lines : ℕ) (s : SiteSetting) (bytes : List ℕ) (old new old_faults new_faults : Option (List ℕ)) (stop : Stop) (status : ℕ) → LeavesUpTo IsUntouched setting_lines s bytes old new stop → SaysEnd old_faults new_faults stop status
    → TellsFailure IsUntouched setting_lines s bytes old new old_faults new_faults
tells_failure U setting_lines s bytes old new old_faults new_faults (Fault fault) status (memory, wants) (e, said) =
    inr (fault.line, wants, subst (λ (cause : FaultCause). AppendsBeginning old_faults new_faults (fault_line (record { line = fault.line; cause = cause }))) memory said)
tells_failure U setting_lines s bytes old new old_faults new_faults (Input error) status h (e, said) = inl said
tells_failure U setting_lines s bytes old new old_faults new_faults (Output error) status h (e, said) = inl said
