-- Turns of a call, as many as a program has slots, come to its end.
use Rattle.std.proofs.Common.{◌≡◌, ℕ, zero, suc, ◌+◌, ◌<◌, ◌≤◌, ◌==◌, Bool, true, false, cond, List, [], ◌∷◌, length, slice_get, Option, Some, None, inl, inr, refl, sym, ap, subst, ◌∙◌, arith}
use Rattle.std.proofs.lemmas.Bool.{cases_lt}
use Rattle.std.specs.Prelude.{option_map}
use Rattle.std.specs.List.{AllByRecursion}
use Rattle.bpf_code.specs.Program.{Program, max_slots}
use Rattle.bpf_semantics.specs.Path.{longest_path, instructions}
use Rattle.dsm_model.specs.declared.outcome.Outcome.{Outcome}
use Rattle.dsm_model.specs.declared.outcome.Outcome.TheVariants.{More}
use Rattle.log_model.specs.Log.{StoredProcedure, Catalogue, Setting, Log, IsLog, by_number, procedures_after, run_in, moment_at}
use Rattle.log_model.specs.Entries.{items_of}
use Rattle.dsm_model.specs.World.{World, Replica as Progress, Step, Turn, IsStep, numbered, open_call, with_open_call}
use Rattle.log_model.specs.OpenCall.{OpenCall}
use Rattle.dsm_model.specs.Sound.{IsGiven, IsSound, IsWorld}
use Rattle.catalogue.specs.Stored.{ListedProcedure, stored, stored_procedures, WasAccepted, AreStored}
use Rattle.replica.specs.Replica.{Replica}
use Rattle.dsm_world.specs.System.{SystemWorld, setting_of, world_of, progress_of, KeepsDelivered}
use Rattle.world_calls.proofs.CallLemmas.{instructions-le}
use Rattle.dsm_world.proofs.Numbered.{numbered_map, numbered_set}
use Rattle.script.specs.declared.statements.Action.TheVariants as action
use Rattle.script_replay.specs.Printed.{step_text}
use Rattle.script_replay.specs.Actions.{Later, Repeats, Does, is_more, last_line}

-- ---- programs are short

-- a listed procedure that is found has a program of no more slots than one may have
found_short : (number : ℕ) (listed : List ListedProcedure) (p : StoredProcedure)
    → AllByRecursion (λ l. WasAccepted l.accepted) listed → by_number (stored_procedures listed) number ≡ Some p → length p.program ≤ max_slots
found_short number [] p all found = absurd cc
found_short number (l ∷ listed) p all found = by (l.number == number) found (found_short number listed p all.1)
  where
    by : (b : Bool) → cond b (Some (stored l)) (by_number (stored_procedures listed) number) ≡ Some p
        → (by_number (stored_procedures listed) number ≡ Some p → length p.program ≤ max_slots) → length p.program ≤ max_slots
    by true h rest = let same : stored l ≡ p = cc in subst (λ (q : StoredProcedure). length q.program ≤ max_slots) same all.0.program.not_long
    by false h rest = rest h

-- the procedures that replicas have at their positions
abbrev pub ShortPrograms : Setting → World → Type 0
ShortPrograms w world = (r number : ℕ) (replica : Progress) (p : StoredProcedure) → numbered world.replicas r ≡ Some replica
    → by_number (procedures_after w world.log replica.position) number ≡ Some p → longest_path p.program ≤ max_slots

-- what the law of stored procedures says of replicas
abbrev pub AllStored : List Replica → Type 0
AllStored replicas = (k : ℕ) (r : Replica) → slice_get replicas k ≡ Some r → AreStored r.procedures

known : {X Y : Type 0} (f : X → Y) (o : Option X) (y : Y) → Some y ≡ option_map f o → (x : X) × (o ≡ Some x) × (y ≡ f x)
known f None y e = absurd cc
known f (Some x) y e = (x, refl, cc)

stored_numbered : (replicas : List Replica) (n : ℕ) (r : Replica) → AllStored replicas → numbered replicas n ≡ Some r → AreStored r.procedures
stored_numbered replicas zero r all at = absurd cc
stored_numbered replicas (suc k) r all at = all k r at

pub short_programs : (s : SystemWorld) → AllStored s.replicas
    → ((n : ℕ) (r : Replica) → numbered s.replicas n ≡ Some r → KeepsDelivered s r)
    → ((p : Program) → longest_path p ≤ instructions p) → ShortPrograms (setting_of s) (world_of s)
short_programs s all keeps short n number replica p at found =
    let held = known progress_of (numbered s.replicas n) replica (sym at ∙ numbered_map progress_of s.replicas n) in
    let r = held.0 in
    let w = setting_of s in
    let log = items_of s.entries in
    let position : replica.position ≡ r.position = ap (λ (q : Progress). q.position) held.2 in
    let among : by_number (stored_procedures r.procedures) number ≡ Some p =
    ap (λ (ps : Catalogue). by_number ps number) ((keeps n r held.1).procedures ∙ ap (procedures_after w log) (sym position)) ∙ found in
    let slots = found_short number r.procedures p (stored_numbered s.replicas n r all held.1).accepted among in
    let path = short p.program in
    let few = instructions-le p.program in
    omega arith

-- ---- a turn after which there is more

abbrev further : OpenCall → OpenCall
further o = record { replica = o.replica; call = o.call; turns = o.turns + 1 }

-- the call had a next instruction, and is that much further
abbrev pub WentOn : Setting → World → ℕ → World → Type 0
WentOn w before c after = (o : OpenCall) × (open_call before c ≡ Some o) × (o.turns + 1 < (run_in w before.log o.call).steps)
    × (after ≡ with_open_call before c (Some (further o)))

-- what is known of turns
pub record TurnLaws (w : Setting) : Type 0 where
  pub keeps : (before : World) (step : Step) (outcome : Outcome) (after : World)
      → IsGiven w step outcome → IsStep w before step outcome after → IsWorld w before → IsWorld w after
  pub sound : (world : World) (c : ℕ) (o : OpenCall) → IsWorld w world → open_call world c ≡ Some o → IsSound w world.log o
  pub more : (before : World) (c : ℕ) (after : World) → IsStep w before (Turn c) More after → WentOn w before c after
  pub kept : (log : Log) (earlier later number : ℕ) (p : StoredProcedure) → IsLog log → earlier ≤ later → later ≤ length log
      → by_number (procedures_after w log earlier) number ≡ Some p → by_number (procedures_after w log later) number ≡ Some p

still_open : (w : Setting) (before : World) (c : ℕ) (after : World) (on : WentOn w before c after)
    → open_call after c ≡ Some (further on.0)
still_open w before c after on = ap (λ (v : World). open_call v c) on.3 ∙ numbered_set before.calls c on.0 (further on.0) on.1

one_open : (slot : Option OpenCall) (o p : OpenCall) → slot ≡ Some o → slot ≡ Some p → p ≡ o
one_open slot o p e f = cc

-- where the call is open, it has run so many instructions
abbrev HasRun : World → ℕ → ℕ → Type 0
HasRun world c k = (o : OpenCall) → open_call world c ≡ Some o → k ≤ o.turns

has_run_more : (w : Setting) (before : World) (c : ℕ) (after : World) (k : ℕ)
    → WentOn w before c after → HasRun before c k → HasRun after c (suc k)
has_run_more w before c after k on has o e =
    let same = one_open (open_call after c) (further on.0) o (still_open w before c after on) e in
    let turns : o.turns ≡ on.0.turns + 1 = ap (λ (p : OpenCall). p.turns) same in
    let least = has on.0 on.1 in
    omega arith

-- before its end a call has run fewer instructions than the longest path has
within_path : (w : Setting) (log : Log) (o : OpenCall) (sound : IsSound w log o)
    → o.turns < (run_in w log o.call).steps → o.turns < longest_path sound.is_call.procedure.program
within_path w log o sound more = elim sound.so_far [
  | inl goes ↦ elim (cases_lt o.turns (longest_path sound.is_call.procedure.program)) [
    | inl lt ↦ lt
    | inr ge ↦
        let within = sound.within in
        let same : o.turns ≡ longest_path sound.is_call.procedure.program = omega arith in
        let here = goes.1 in
        let ends = ap (λ (k : ℕ). moment_at w log o.call k) same ∙ sound.ends in
        absurd cc
  ]
  | inr ended ↦ let at = ended.2 in absurd (omega arith)
]

-- a world in which a call is further has the same replicas and the same log
short_on : (w : Setting) (before : World) (c : ℕ) (after : World) → ShortPrograms w before → WentOn w before c after → ShortPrograms w after
short_on w before c after short on = subst (ShortPrograms w) (sym on.3) short

fewer_than_slots : (w : Setting) → TurnLaws w → (before : World) (c : ℕ) (after : World)
    → IsWorld w after → ShortPrograms w after → (on : WentOn w before c after) → on.0.turns + 1 < max_slots
fewer_than_slots w laws before c after is short on =
    let log : before.log ≡ after.log = sym (ap (λ (v : World). v.log) on.3) in
    let sound = laws.sound after c (further on.0) is (still_open w before c after on) in
    let more = subst (λ (l : Log). on.0.turns + 1 < (run_in w l on.0.call).steps) log on.2 in
    let path = within_path w after.log (further on.0) sound more in
    let here = is.open_calls c (further on.0) (still_open w before c after on) in
    let found = laws.kept after.log on.0.call.snapshot here.replica.position on.0.call.procedure sound.is_call.procedure
    is.log here.begun (is.positions on.0.replica here.replica here.stands) sound.is_call.known in
    let few = short on.0.replica on.0.call.procedure here.replica sound.is_call.procedure here.stands found in
    omega arith

-- ---- turns, as long as there is more

-- the last line is that of an outcome other than that there is more
abbrev Ends : Setting → ℕ → World → List (List ℕ) → Type 0
Ends w c after lines = (outcome : Outcome) × (is_more outcome ≡ false) × (last_line lines ≡ step_text w after.log (Turn c) outcome)

more_is : (outcome : Outcome) → is_more outcome ≡ true → outcome ≡ More
more_is More e = refl
more_is _ e = absurd cc

ends_here : (w : Setting) (c : ℕ) (outcome : Outcome) (between after : World) (lines rest : List (List ℕ)) → is_more outcome ≡ false
    → lines ≡ step_text w between.log (Turn c) outcome ∷ rest → (rest ≡ []) × (between ≡ after) → Ends w c after lines
ends_here w c outcome between after lines rest ends is last = (
  outcome,
  ends,
  ap (λ (ls : List (List ℕ)). last_line ls) is
      ∙ ap (λ (ls : List (List ℕ)). last_line (step_text w between.log (Turn c) outcome ∷ ls)) last.0
      ∙ ap (λ (v : World). step_text w v.log (Turn c) outcome) last.1,
)

ends_later : (w : Setting) (c : ℕ) (after : World) (line next : List ℕ) (lines rest later : List (List ℕ))
    → lines ≡ line ∷ rest → rest ≡ next ∷ later → Ends w c after rest → Ends w c after lines
ends_later w c after line next lines rest later is follows ends = (
  ends.0,
  ends.1,
  ap (λ (ls : List (List ℕ)). last_line ls) is
      ∙ ap (λ (ls : List (List ℕ)). last_line (line ∷ ls)) follows
      ∙ sym (ap (λ (ls : List (List ℕ)). last_line ls) follows)
      ∙ ends.2,
)

went_on : (w : Setting) → TurnLaws w → (before : World) (c : ℕ) (outcome : Outcome) (after : World) → is_more outcome ≡ true
    → IsStep w before (Turn c) outcome after → WentOn w before c after
went_on w laws before c outcome after goes step =
    laws.more before c after (subst (λ (o : Outcome). IsStep w before (Turn c) o after) (more_is outcome goes) step)

-- what follows an outcome after which so many turns are left
abbrev Follows : Setting → ℕ → ℕ → Bool → List (List ℕ) → World → World → Type 0
Follows w c left goes rest between after = Later goes (Repeats w (Turn c) is_more left between rest after) rest between after

-- so many turns are left and so many were taken, together as many as a program has slots
turns_end : (w : Setting) → TurnLaws w → (c left k : ℕ) (before after : World) (lines : List (List ℕ))
    → IsWorld w before → ShortPrograms w before → HasRun before c k → suc left + k ≡ max_slots
    → Repeats w (Turn c) is_more (suc left) before lines after → Ends w c after lines
unfolding Repeats
turns_end w laws c zero k before after lines is short has count r =
    elim (is_more r.0) as (λ b. is_more r.0 ≡ b → Follows w c zero b r.1 r.2 after → Ends w c after lines) [
      | false ↦ λ ends last. ends_here w c r.0 r.2 after lines r.1 ends r.3 last
      | true ↦ λ goes more.
          let on = went_on w laws before c r.0 r.2 goes r.4 in
          let between = laws.keeps before (Turn c) r.0 r.2 tt r.4 is in
          let fewer = fewer_than_slots w laws before c r.2 between (short_on w before c r.2 short on) on in
          let least = has on.0 on.1 in
          absurd (omega arith)
    ] refl r.5
turns_end w laws c (suc left) k before after lines is short has count r =
    elim (is_more r.0) as (λ b. is_more r.0 ≡ b → Follows w c (suc left) b r.1 r.2 after → Ends w c after lines) [
      | false ↦ λ ends last. ends_here w c r.0 r.2 after lines r.1 ends r.3 last
      | true ↦ λ goes more.
          let on = went_on w laws before c r.0 r.2 goes r.4 in
          let between = laws.keeps before (Turn c) r.0 r.2 tt r.4 is in
          let run = has_run_more w before c r.2 k on has in
          let taken : suc left + suc k ≡ max_slots = omega arith in
          let line = step_text w r.2.log (Turn c) r.0 in
          let next = step_text w more.2.log (Turn c) more.0 in
          ends_later w c after line next lines r.1 more.1 r.3 more.3
          (turns_end w laws c left (suc k) r.2 after r.1 between (short_on w before c r.2 short on) run taken more)
    ] refl r.5

-- ---- an execution

pub execution_ends : (w : Setting) → TurnLaws w → (before : World) (call : ℕ) (text : List ℕ) (after : World) → IsWorld w before → ShortPrograms w before
    → Does w before (action.Exec call) text after
    → (outcome : Outcome) × (is_more outcome ≡ false) × (text ≡ step_text w after.log (Turn call) outcome)
unfolding Does
execution_ends w laws before call text after is short done =
    let ends = turns_end w laws call 4095 0 before after done.0 is short (λ o e. omega arith) refl done.1 in
    (ends.0, ends.1, done.2 ∙ ends.2)
