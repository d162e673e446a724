-- Turns, and plain instructions between them, one after another.
use Rattle.std.proofs.Common.{◌≡◌, ◌≢◌, inl, inr, ℕ, zero, suc, ◌+◌, ◌-◌, ◌<◌, ◌≤◌, Bool, List, [], ◌∷◌, ◌++◌, length, refl, sym, ◌∙◌, ap, subst, arith}
use Rattle.std.proofs.lemmas.Bool.{cases_lt}
use Rattle.std.proofs.lemmas.List.{length-append}
use Rattle.bpf_code.specs.Program.{Program}
use Rattle.schema.specs.Schema.{Tables}
use Rattle.schema.specs.declared.look.Look.{Look}
use Rattle.schema.specs.Rows.{Rows}
use Rattle.bpf_semantics.specs.State.{State, entry_state}
use Rattle.bpf_semantics.specs.Step.{Going, Ended, Stuck, step}
use Rattle.bpf_semantics.specs.Run.{moment, next_moment}
use Rattle.bpf_semantics.proofs.LookLemmas.{moment-add, execute_looks}
use Rattle.bpf_semantics.proofs.RunLemmas.{step_runs, going_runs}
use Rattle.bpf_verify.specs.Flow.{Procedure}
use Rattle.vm_state.specs.Plain.{IsNeverStuck, CanRunOn, SameEffects, Reaches}
use Rattle.bpf_vm.specs.declared.turn.Turn.TheVariants.{More}
use Rattle.bpf_vm.specs.Turns.{MachineState}
use Rattle.acceptance.specs.Description.{Suits}
use Rattle.bpf_vm.specs.Run.{Effects, effects_of, HasRun, IsNotStale, NoneIsStale, AfterTurn}
use Rattle.bpf_vm.proofs.Following.{next_is}

-- ---- plain instructions

-- the moments from a state of a run on are the run's
pub later : (p : Program) (tables : Tables) (k j : ℕ) (e s : State) → moment p tables k e ≡ Going s → moment p tables (j + k) e ≡ moment p tables j s
later p tables k j e s at = moment-add p tables j k e ∙ ap (next_moment (moment p tables j)) at

pub never_stuck : (p : Procedure) (args : List ℕ) (rows : Rows) (k : ℕ) (s : State) → moment p.program p.tables k (entry_state args rows) ≡ Going s
    → ((j : ℕ) → moment p.program p.tables j (entry_state args rows) ≢ Stuck) → IsNeverStuck p.program p.tables s
never_stuck p args rows k s at never j stuck = never (j + k) (later p.program p.tables k j (entry_state args rows) s at ∙ stuck)

same_done : (s t : State) → SameEffects s t → effects_of s ≡ effects_of t
same_done s t same =
    ap (λ l. record { looks = l; writes = s.writes; cancel_code = s.cancel_code }) (sym same.looks)
    ∙ ap (λ w. record { looks = t.looks; writes = w; cancel_code = s.cancel_code }) (sym same.writes)
    ∙ ap (λ c. record { looks = t.looks; writes = t.writes; cancel_code = c }) (sym same.code)

-- where words are reached from those of a machine on a run, a machine that has them is on that run
pub reached : (p : Procedure) (args : List ℕ) (rows : Rows) (k count : ℕ) (m n : MachineState) (effects : Effects) → (h : HasRun p args rows k m effects) → Reaches p.program p.tables h.here.state count n.words → n.last ≡ m.last
    → HasRun p args rows (k + count) n effects
reached p args rows k count m n effects h (t, at, held, same) last =
    let order : k + count ≡ count + k = omega arith in
    record {
      here = record {
        sound = h.here.sound;
        state = t;
        at = ap (λ (j : ℕ). moment p.program p.tables j (entry_state args rows)) order ∙ later p.program p.tables k count (entry_state args rows) h.here.state h.here.at ∙ at;
        held = held;
        done = h.here.done ∙ same_done h.here.state t same;
      };
      going = last ∙ h.going;
    }

-- ---- looks

going_same : (s t : State) → Going s ≡ Going t → s ≡ t
going_same s t e = cc

longer_by : (xs : List Look) (x : Look) (ys : List Look) → ys ≡ xs ++ x ∷ [] → length xs ≤ length ys
longer_by xs x ys e = let count = ap (λ (l : List Look). length l) e ∙ length-append xs (x ∷ []) in omega arith

-- what was looked at stays
step_longer : (p : Program) (tables : Tables) (s t : State) → step p tables s ≡ Going t → length s.looks ≤ length t.looks
step_longer p tables s t e =
    let runs = step_runs p tables s (Going t) e (going_runs t) in
    elim (execute_looks tables runs.0 s t runs.2) [
      | inl same ↦ let count = ap (λ (l : List Look). length l) same in omega arith
      | inr more ↦ longer_by s.looks more.0 t.looks more.2
    ]

moment_longer : (p : Program) (tables : Tables) (k : ℕ) (s t : State) → moment p tables k s ≡ Going t → length s.looks ≤ length t.looks
unfolding moment
moment_longer p tables zero s t e = let same = ap (λ (x : State). length x.looks) (going_same s t e) in omega arith
moment_longer p tables (suc k) s t e =
    elim (moment p tables k s) as (λ m. moment p tables k s ≡ m → next_moment (step p tables) m ≡ Going t → length s.looks ≤ length t.looks) [
      | Going u ↦ λ is goes.
          let first = moment_longer p tables k s u is in
          let last = step_longer p tables u t goes in
          omega (arith, first, last)
      | Ended reply u ↦ λ is goes. absurd cc
      | Stuck ↦ λ is goes. absurd cc
    ] refl e

-- between two moments with the same looks none was due
looks_between : (p : Program) (tables : Tables) (i rest : ℕ) (s u v t : State) → moment p tables i s ≡ Going u → step p tables u ≡ Going v → moment p tables (rest + (i + 1)) s ≡ Going t → t.looks ≡ s.looks
    → length u.looks < length v.looks → ⊥
looks_between p tables i rest s u v t here goes there same more =
    let first = moment_longer p tables i s u here in
    let next = next_is p tables i s u here ∙ goes in
    let last = moment_longer p tables rest v t (sym (later p tables (i + 1) rest s v next) ∙ there) in
    let count = ap (λ (l : List Look). length l) same in
    absurd (omega (arith, first, last, more, count))

pub none_is_stale : (p : Procedure) (args : List ℕ) (rows : Rows) (gone : Bool) (k count : ℕ) (s t : State) → moment p.program p.tables k (entry_state args rows) ≡ Going s → moment p.program p.tables count s ≡ Going t → t.looks ≡ s.looks
    → NoneIsStale p args rows gone k count
none_is_stale p args rows gone k count s t at there same j from to u here (v, goes, looks) =
    let i = j - k in
    let rest = count - (i + 1) in
    let split : i + k ≡ j = omega (arith, from) in
    let all : rest + (i + 1) ≡ count = omega (arith, from, to) in
    let e = entry_state args rows in
    let reached_here = sym (later p.program p.tables k i e s at) ∙ ap (λ (n : ℕ). moment p.program p.tables n e) split ∙ here in
    looks_between p.program p.tables i rest s u v t reached_here goes (ap (λ (n : ℕ). moment p.program p.tables n s) all ∙ there) same looks.1

pub can_run_on : (p : Procedure) (args : List ℕ) (rows : Rows) (k : ℕ) (m : MachineState) (effects : Effects) → HasRun p args rows k m effects
    → ((j : ℕ) → moment p.program p.tables j (entry_state args rows) ≢ Stuck) → CanRunOn p.program m.words
can_run_on p args rows k m effects h never = (p.tables, h.here.state, h.here.held, never_stuck p args rows k h.here.state h.here.at never)

-- ---- one after another

-- on each run on which it was it is so many instructions further, of which none was stale
abbrev pub IsFurther : Procedure → (Rows → Type 0) → Bool → ℕ → MachineState → Effects → MachineState → Effects → Type 0
IsFurther p answers_from gone n m effects m' effects' = (args : List ℕ) (rows : Rows) (k : ℕ) → Suits p args rows → answers_from rows → HasRun p args rows k m effects
    → HasRun p args rows (k + n) m' effects' × NoneIsStale p args rows gone k n

none_further : (p : Procedure) (args : List ℕ) (rows : Rows) (gone : Bool) (k : ℕ) → NoneIsStale p args rows gone k 0
none_further p args rows gone k j from to = absurd (omega (arith, from, to))

one_further : (p : Procedure) (args : List ℕ) (rows : Rows) (gone : Bool) (k : ℕ) → IsNotStale p args rows gone k → NoneIsStale p args rows gone k 1
one_further p args rows gone k fresh j from to =
    let same : k ≡ j = omega (arith, from, to) in
    subst (λ (i : ℕ). IsNotStale p args rows gone i) same fresh

pub none_of_both : (p : Procedure) (args : List ℕ) (rows : Rows) (gone : Bool) (k n more : ℕ) → NoneIsStale p args rows gone k n → NoneIsStale p args rows gone (k + n) more → NoneIsStale p args rows gone k (n + more)
none_of_both p args rows gone k n more first then j from to = elim (cases_lt j (k + n)) [
  | inl lt ↦ first j from lt
  | inr ge ↦ then j ge (omega (arith, to))
]

pub further_first : (p : Procedure) (answers_from : Rows → Type 0) (gone : Bool) (m : MachineState) (effects : Effects) → IsFurther p answers_from gone 0 m effects m effects
further_first p answers_from gone m effects args rows k suits answers h =
    let same : k ≡ k + 0 = omega arith in
    (subst (λ (i : ℕ). HasRun p args rows i m effects) same h, none_further p args rows gone k)

pub both_further : (p : Procedure) (answers_from : Rows → Type 0) (gone : Bool) (n more : ℕ) (m m' m'' : MachineState) (effects effects' effects'' : Effects) → IsFurther p answers_from gone n m effects m' effects'
    → IsFurther p answers_from gone more m' effects' m'' effects'' → IsFurther p answers_from gone (n + more) m effects m'' effects''
both_further p answers_from gone n more m m' m'' effects effects' effects'' first then args rows k suits answers h =
    let there = first args rows k suits answers h in
    let end = then args rows (k + n) suits answers there.0 in
    let all : (k + n) + more ≡ k + (n + more) = omega arith in
    (subst (λ (i : ℕ). HasRun p args rows i m'' effects'') all end.0, none_of_both p args rows gone k n more there.1 end.1)

pub plain_further : (p : Procedure) (answers_from : Rows → Type 0) (gone : Bool) (n : ℕ) (m m' : MachineState) (effects : Effects)
    → ((args : List ℕ) (rows : Rows) (k : ℕ) → Suits p args rows → HasRun p args rows k m effects → HasRun p args rows (k + n) m' effects × ((gone : Bool) → NoneIsStale p args rows gone k n)) → IsFurther p answers_from gone n m effects m' effects
plain_further p answers_from gone n m m' effects goes args rows k suits answers h =
    let there = goes args rows k suits h in
    (there.0, there.1 gone)

pub turn_further : (p : Procedure) (answers_from : Rows → Type 0) (gone : Bool) (m m' : MachineState) (effects effects' : Effects)
    → ((args : List ℕ) (rows : Rows) (k : ℕ) → Suits p args rows → answers_from rows → HasRun p args rows k m effects → AfterTurn p args rows gone k More m' effects') → IsFurther p answers_from gone 1 m effects m' effects'
turn_further p answers_from gone m m' effects effects' goes args rows k suits answers h =
    let after = goes args rows k suits answers h in
    (after.0, one_further p args rows gone k after.1)
