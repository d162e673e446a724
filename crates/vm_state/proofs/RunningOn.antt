-- Steps along a run of plain instructions.
use Rattle.std.proofs.Common.{◌≡◌, ◌≢◌, ◌<◌, ◌+◌, ℕ, ℤ, pos, zero, suc, length, List, Option, Some, None, slice_get, get_or, refl, inl, inr, sym, ◌∙◌, ap, subst, arith}
use Rattle.std.proofs.lemmas.Bool.{cases_lt}
use Rattle.std.proofs.lemmas.Option.{slice_get_past, slice_get-get_or}
use Rattle.std.specs.Option.{option_map, IfSome, IfNone}
use Rattle.bpf_code.specs.declared.instruction.Instruction.{Instruction}
use Rattle.bpf_code.specs.declared.instruction.Instruction.TheVariants.{Call, Exit, LongJump}
use Rattle.bpf_code.specs.Program.{Program, instruction_at}
use Rattle.schema.specs.Schema.{Tables}
use Rattle.bpf_semantics.specs.State.{State}
use Rattle.bpf_semantics.specs.Step.{Moment, Going, Ended, Stuck, or_stuck, execute, step}
use Rattle.bpf_semantics.specs.Run.{moment, next_moment}
use Rattle.bpf_code.specs.declared.instruction.Register.TheVariants.{R0}
use Rattle.flat_code.specs.declared.kind.Kind.TheVariants as kind
use Rattle.flat_code.specs.declared.instruction.FlatInstruction.{FlatInstruction}
use Rattle.flat_code.specs.Flat.{instruction_of, LaidOut}
use Rattle.vm_state.specs.Words.{Words, Holds, HoldsNext, CanRun}
use Rattle.vm_state.specs.Access.{at_slot, HoldsAfter, GoesOn, RunsOn}
use Rattle.vm_state.specs.Plain.{IsPlain, IsStop, IsNeverStuck, CanRunOn, SameEffects, Reaches}
use Rattle.vm_state.proofs.Leaving.{execute_leaves, itself}

-- what an index past the end would give
abbrev pub no_instruction : FlatInstruction
no_instruction = record { kind = kind.Add64Immediate; dst = R0; src = R0; offset = pos 0; immediate = 0 }

pub held_here : (s : State) (m : Words) (at : ℕ) → at ≡ m.slot → Holds s m → Holds s (at_slot at m)
held_here s m at is h = record {
  slot = is ∙ h.slot;
  registers = h.registers;
  eleven = h.eleven;
  stack = h.stack;
  bytes = h.bytes;
  args = h.args;
}

pub can_run_here : (i : Instruction) (m : Words) (at : ℕ) → at ≡ m.slot → CanRun i m → CanRun i (at_slot at m)
can_run_here i m at is (tables, s, h, runs) = (tables, s, held_here s m at is h, runs)

-- ---- moments

one_is : (p : Program) (tables : Tables) (s : State) → moment p tables 1 s ≡ step p tables s
unfolding moment
one_is p tables s = refl

next_is : (p : Program) (tables : Tables) (k : ℕ) (s t : State) → moment p tables k s ≡ Going t → moment p tables (suc k) s ≡ step p tables t
unfolding moment
next_is p tables k s t e = ap (next_moment (step p tables)) e

shift : (p : Program) (tables : Tables) (s t : State) (k : ℕ) → step p tables s ≡ Going t → moment p tables (suc k) s ≡ moment p tables k t
unfolding moment
shift p tables s t zero e = e
shift p tables s t (suc k) e = ap (next_moment (step p tables)) (shift p tables s t k e)

none_is : (p : Program) (tables : Tables) (s : State) → instruction_at p s.slot ≡ None → step p tables s ≡ Stuck
unfolding step or_stuck
none_is p tables s e = rw e

step_is : (p : Program) (tables : Tables) (s : State) (i : Instruction) → instruction_at p s.slot ≡ Some i → step p tables s ≡ execute tables i s
unfolding step or_stuck
step_is p tables s i e = rw e

never_now : (p : Program) (tables : Tables) (s : State) → IsNeverStuck p tables s → step p tables s ≢ Stuck
never_now p tables s never stuck = never 1 (one_is p tables s ∙ stuck)

never_next : (p : Program) (tables : Tables) (s t : State) → step p tables s ≡ Going t → IsNeverStuck p tables s → IsNeverStuck p tables t
never_next p tables s t e never = λ k stuck. never (suc k) (shift p tables s t k e ∙ stuck)

-- ---- the operation at a slot

some_of : (o : Option Instruction) → (o ≡ None → ⊥) → (i : Instruction) × (o ≡ Some i)
some_of None h = absurd (h refl)
some_of (Some i) h = (i, refl)

there_is : (p : Program) (m : Words) → CanRunOn p m → (i : Instruction) × (instruction_at p m.slot ≡ Some i)
there_is p m (tables, s, h, never) =
    some_of (instruction_at p m.slot) (λ none. never_now p tables s never (none_is p tables s (subst (λ (k : ℕ). instruction_at p k ≡ None) h.slot none)))

slot_inside : (p : Program) (slot : ℕ) (i : Instruction) → instruction_at p slot ≡ Some i → slot < length p
slot_inside p slot i e = elim (cases_lt slot (length p)) [
  | inl h ↦ h
  | inr h ↦ let none : instruction_at p slot ≡ None = rw (slice_get_past p slot h) in absurd cc
]

pub inside : (p : Program) (layout : List FlatInstruction) (at : ℕ) (m : Words) → LaidOut p layout → CanRunOn p (at_slot at m) → at < length layout
inside p layout at m laid can =
    let (i, e) = there_is p (at_slot at m) can in
    let short = slot_inside p at i e in
    let long = laid.long in
    omega (arith, short, long)

same_instruction : (o : Option FlatInstruction) (x : FlatInstruction) (i : Instruction) → o ≡ Some x → option_map instruction_of o ≡ Some i → Some i ≡ Some (instruction_of x)
same_instruction o x i e is = sym is ∙ ap (λ (y : Option FlatInstruction). option_map instruction_of y) e

pub the_instruction : (p : Program) (layout : List FlatInstruction) (at : ℕ) (m : Words) (d : FlatInstruction) → LaidOut p layout → CanRunOn p (at_slot at m)
    → instruction_at p at ≡ Some (instruction_of (get_or layout at d))
the_instruction p layout at m d laid can =
    let (i, e) = there_is p (at_slot at m) can in
    e ∙ same_instruction (slice_get layout at) (get_or layout at d) i (slice_get-get_or layout at d (inside p layout at m laid can)) (laid.each at i e)

pub can_run : (p : Program) (at : ℕ) (m : Words) (i : Instruction) → CanRunOn p (at_slot at m) → instruction_at p at ≡ Some i → CanRun i (at_slot at m)
can_run p at m i (tables, s, h, never) e =
    let here : instruction_at p s.slot ≡ Some i = subst (λ (k : ℕ). instruction_at p k ≡ Some i) h.slot e in
    (tables, s, h, λ stuck. never_now p tables s never (step_is p tables s i here ∙ stuck))

-- ---- one operation further

goes : (x : Moment) (n : Words) → x ≢ Stuck → HoldsNext x n → (t : State) × (x ≡ Going t) × Holds t n
goes (Going t) n moves next = (t, refl, next)
goes (Ended reply t) n moves next = absurd next
goes Stuck n moves next = absurd (moves refl)

-- the step, as the instruction's and as the program's
record Leads (p : Program) (tables : Tables) (i : Instruction) (s : State) (n : Words) : Type 0 where
  to : State
  executes : execute tables i s ≡ Going to
  steps : step p tables s ≡ Going to
  held : Holds to n

leads : (p : Program) (tables : Tables) (at : ℕ) (m n : Words) (i : Instruction) (s : State) → instruction_at p at ≡ Some i → Holds s (at_slot at m) → step p tables s ≢ Stuck
    → HoldsNext (execute tables i s) n → Leads p tables i s n
leads p tables at m n i s e h moves next =
    let here : instruction_at p s.slot ≡ Some i = subst (λ (k : ℕ). instruction_at p k ≡ Some i) h.slot e in
    let is = step_is p tables s i here in
    let (t, g, k) = goes (execute tables i s) n (λ stuck. moves (is ∙ stuck)) next in
    record { to = t; executes = g; steps = is ∙ g; held = k }

pub can_further : (p : Program) (at to : ℕ) (m n : Words) (i : Instruction) → instruction_at p at ≡ Some i → HoldsAfter i at m to n
    → CanRunOn p (at_slot at m) → CanRunOn p (at_slot to n)
can_further p at to m n i e next (tables, s, h, never) =
    let l = leads p tables at m (at_slot to n) i s e h (never_now p tables s never) (next tables s h) in
    (tables, l.to, l.held, never_next p tables s l.to l.steps never)

no_call : (i : Instruction) → IsPlain i → (n : ℤ) → i ≢ Call n
no_call i plain n e = subst IsPlain e plain

both : (s t u : State) → SameEffects s t → SameEffects t u → SameEffects s u
both s t u a b = record { looks = b.looks ∙ a.looks; writes = b.writes ∙ a.writes; rows = b.rows ∙ a.rows; code = b.code ∙ a.code }

pub reaches_further : (p : Program) (at to : ℕ) (m n : Words) (i : Instruction) → instruction_at p at ≡ Some i → HoldsAfter i at m to n → IsPlain i
    → (tables : Tables) (s : State) (k : ℕ) → IsNeverStuck p tables s → Reaches p tables s k (at_slot at m) → Reaches p tables s (k + 1) (at_slot to n)
reaches_further p at to m n i e next plain tables s k never (t, there, h, same) =
    let moves : step p tables t ≢ Stuck = λ stuck. never (suc k) (next_is p tables k s t there ∙ stuck) in
    let l = leads p tables at m (at_slot to n) i t e h moves (next tables t h) in
    let one : k + 1 ≡ suc k = omega arith in
    (l.to, ap (λ (j : ℕ). moment p tables j s) one ∙ next_is p tables k s t there ∙ l.steps, l.held, both s t l.to same (execute_leaves tables i t l.to (no_call i plain) l.executes))

runs_on : (p : Program) (at to : ℕ) (m n : Words) (i : Instruction) → instruction_at p at ≡ Some i → CanRunOn p (at_slot at m) → GoesOn i at m to n → RunsOn p at m to n
runs_on p at to m n i e can goes = record {
  further = goes.further;
  can = can_further p at to m n i e goes.held can;
  reaches = λ tables s k never. reaches_further p at to m n i e goes.held goes.plain tables s k never;
}

pub runs_on_if_some : (p : Program) (at : ℕ) (m n : Words) (i : Instruction) (o : Option ℕ) → instruction_at p at ≡ Some i → CanRunOn p (at_slot at m) → IfSome o (λ to. GoesOn i at m to n)
    → IfSome o (λ to. RunsOn p at m to n)
runs_on_if_some p at m n i None e can goes = tt
runs_on_if_some p at m n i (Some to) e can goes = runs_on p at to m n i e can goes

pub stops_if_none : (p : Program) (at : ℕ) (i : Instruction) (o : Option ℕ) → instruction_at p at ≡ Some i → IfNone o (IsPlain i → ⊥) → IfNone o (IsStop (instruction_at p at))
stops_if_none p at i None e stops = subst IsStop (sym e) stops
stops_if_none p at i (Some to) e stops = tt

pub first_reached : (p : Program) (tables : Tables) (s : State) (m : Words) → Holds s m → Reaches p tables s 0 m
unfolding moment
first_reached p tables s m h = (s, refl, h, itself s)

pub can_here : (p : Program) (m : Words) (at : ℕ) → at ≡ m.slot → CanRunOn p m → CanRunOn p (at_slot at m)
can_here p m at is (tables, s, h, never) = (tables, s, held_here s m at is h, never)

pub plain_is : (i : Instruction) → ((n : ℤ) → i ≢ Call n) → i ≢ Exit → ((d : ℤ) → i ≢ LongJump d) → IsPlain i
plain_is (Call n) no_call no_exit no_long = absurd (no_call n refl)
plain_is Exit no_call no_exit no_long = absurd (no_exit refl)
plain_is (LongJump d) no_call no_exit no_long = absurd (no_long d refl)
plain_is _ no_call no_exit no_long = tt
