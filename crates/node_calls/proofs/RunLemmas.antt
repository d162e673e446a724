-- A call that runs: it can go on, what a turn leaves, and where it looks at nothing.
use Rattle.std.proofs.Common.{◌≡◌, ℕ, ◌+◌, ◌≤◌, ◌<◌, ℤ, Bool, true, false, List, length, Option, Some, None, option_map, refl, sym, ap, subst, ◌∙◌, arith}
use Rattle.bpf_code.specs.declared.instruction.Instruction.{Instruction}
use Rattle.bpf_code.specs.declared.instruction.Instruction.TheVariants.{LoadWide, Load, StoreImmediate, StoreRegister, Arithmetic, Negate, MoveSignExtended, End, Jump, LongJump, Branch, Call as CallInstruction, Exit as ExitInstruction}
use Rattle.bpf_code.specs.Program.{Program, instruction_at}
use Rattle.schema.specs.Schema.{Tables}
use Rattle.schema.specs.Rows.{Rows, AreRows}
use Rattle.schema.specs.declared.look.Look.{Look}
use Rattle.schema.specs.Helper.{helper_of}
use Rattle.schema.specs.declared.helper.Helper.{Helper}
use Rattle.schema.specs.declared.helper.Helper.TheVariants.{RowGet, RowPut, RowDelete, RangeCount, RangeNext, Cancel}
use Rattle.bpf_semantics.specs.State.{State, past}
use Rattle.bpf_semantics.specs.Step.{Moment, Going, step}
use Rattle.bpf_semantics.specs.Helpers.{state_after_call}
use Rattle.bpf_semantics.proofs.RunLemmas.{step_runs, going_runs}
use Rattle.bpf_verify.specs.Flow.{Procedure}
use Rattle.bpf_vm.specs.declared.turn.Turn.{Turn}
use Rattle.bpf_vm.specs.declared.turn.Turn.TheVariants.{More, Exit, Stale, NoMemory}
use Rattle.log_model.specs.Log.{Setting, Call, Log, IsLog, StoredProcedure, by_number, procedures_after, procedure_of, rows_after, moment_at}
use Rattle.log_model.specs.Fit.{BeginsSafely, AreItems}
use Rattle.log_entry.specs.declared.entry.Entry.{Entry as LogEntry}
use Rattle.log_model.specs.OpenCall.{OpenCall, is_row_helper, calls_row_helper, at_row_helper}
use Rattle.catalogue.specs.Catalogue.{accepted_of}
use Rattle.replica.specs.Replica.{entries_of}
use Rattle.replica.proofs.EntryLemmas.{items_count}
use Rattle.locked_replica.proofs.EntryLemmas.{entries_count}
use Rattle.locked_replica.specs.Begun.{BegunState, IsBegun, procedure_now}
use Rattle.world_calls.specs.OpenCall.{Follows, CanGoOn, IsTurn, further, stays_open, looks_at_gone, open_call_of, call_of}
use Rattle.world_calls.specs.declared.open_call.OpenCall.{OpenCall as OpenCallState}
use Rattle.world_calls.proofs.TurnLemmas.{moment_is, step_from, looks_at_kept}
use Rattle.world_calls.proofs.CallLemmas.{NeverStuck, HaveRuns, going, has_call_run}
use Rattle.node_calls.specs.Running.{log_seen, IsUnderWay}

abbrev just : {X : Type 0} → X → Option X
just x = Some x

-- ---- the program

some_is : {X : Type 0} (x y : X) → just x ≡ just y → x ≡ y
some_is x y e = cc

abbrev HasProgram : Setting → Procedure → Option StoredProcedure → Type 0
HasProgram w accepted o = (p : StoredProcedure) × (o ≡ just p) × (accepted ≡ accepted_of w.tables p)

has_program : (w : Setting) (accepted : Procedure) (o : Option StoredProcedure) → just accepted ≡ option_map (accepted_of w.tables) o → HasProgram w accepted o
has_program w accepted None e = absurd cc
has_program w accepted (Some p) e = (p, refl, some_is accepted (accepted_of w.tables p) e)

-- what the law of rows says
abbrev pub RowsFit : Type 0
RowsFit = (w : Setting) (log : Log) (position : ℕ) → BeginsSafely w → IsLog log → AreItems w log → position ≤ length log → AreRows w.tables (rows_after w log position)

pub same_call : (w : Setting) (log : Log) (gone : Bool) (o : OpenCall) (turn : Turn) (after : OpenCall) → IsTurn w log gone o turn after → stays_open turn ≡ true → after.call ≡ o.call
same_call w log gone o More after t stays = ap (λ (x : OpenCall). x.call) t.2
same_call w log gone o (Exit reply) after t stays = ap (λ (x : OpenCall). x.call) t.3
same_call w log gone o Stale after t stays = absurd cc
same_call w log gone o NoMemory after t stays = absurd cc

module _ {A : Type 0} where
  seen_count : (entries : List (LogEntry A)) → length (log_seen entries) ≡ length entries
  seen_count entries = items_count (entries_of entries) ∙ entries_count entries

  -- ---- it can go on

  own_program : (w : Setting) (b : BegunState A) (c : OpenCallState A) → IsBegun w b → (u : IsUnderWay w b c) → b.accepted ≡ accepted_of w.tables u.follows.is_call.procedure
  own_program w b c begun u =
      let p = has_program w b.accepted (procedure_now w b.entries b.procedure) begun.program in
      let log = log_seen b.entries in
      let same : procedure_of w log (call_of c) ≡ procedure_now w b.entries b.procedure =
      ap (λ (n : ℕ). by_number (procedures_after w log n) c.procedure) u.snapshot
      ∙ ap (by_number (procedures_after w log (length b.entries))) u.procedure in
      let q = u.follows.is_call in
      p.2 ∙ ap (accepted_of w.tables) (some_is p.0 q.procedure (sym p.1 ∙ sym same ∙ q.known))

  pub can_go_on : (w : Setting) (answers_from : Rows → Type 0) (b : BegunState A) (c : OpenCallState A) (accepted : Procedure) (seen : List (LogEntry A)) → IsBegun w b → IsUnderWay w b c → accepted ≡ b.accepted → seen ≡ b.entries → answers_from (rows_after w (log_seen seen) (length seen))
      → CanGoOn w (log_seen b.entries) accepted answers_from c
  can_go_on w answers_from b c accepted seen begun u is own answers = record {
    follows = u.follows;
    program = is ∙ own_program w b c begun u;
    answers = subst (λ (n : ℕ). answers_from (rows_after w (log_seen b.entries) n)) (sym u.snapshot)
        (subst (λ (xs : List (LogEntry A)). answers_from (rows_after w (log_seen xs) (length xs))) own answers);
  }

  -- ---- a call that begins

  -- what a call that begins follows
  abbrev pub FollowsFrom : Procedure → ℕ → ℕ → OpenCallState A → Type 0
  FollowsFrom accepted procedure snapshot c = (w : Setting) (log : Log) (p : StoredProcedure) → by_number (procedures_after w log snapshot) procedure ≡ Some p → accepted ≡ accepted_of w.tables p → AreRows w.tables (rows_after w log snapshot) → Follows w log c

  pub begun_under_way : (fit : RowsFit) (w : Setting) (b : BegunState A) (c : OpenCallState A) (procedure snapshot : ℕ) (accepted : Procedure) → IsBegun w b → procedure ≡ b.procedure → snapshot ≡ length b.entries → accepted ≡ b.accepted → c.procedure ≡ procedure → c.snapshot ≡ snapshot
      → FollowsFrom accepted procedure snapshot c → IsUnderWay w b c
  begun_under_way fit w b c procedure snapshot accepted begun own at is procedure_is snapshot_is follows =
      let log = log_seen b.entries in
      let are = begun.entries in
      let p = has_program w b.accepted (procedure_now w b.entries b.procedure) begun.program in
      let count = seen_count b.entries in
      let found : by_number (procedures_after w log snapshot) procedure ≡ just p.0 =
      ap (λ (n : ℕ). by_number (procedures_after w log n) procedure) at ∙ ap (by_number (procedures_after w log (length b.entries))) own ∙ p.1 in
      record {
        follows = follows w log p.0 found (is ∙ p.2) (fit w log snapshot are.begins are.log are.items (omega arith));
        procedure = procedure_is ∙ own;
        snapshot = snapshot_is ∙ at;
      }

  -- ---- what a turn leaves

  pub goes_on : (w : Setting) (gone : Bool) (answers_from : Rows → Type 0) (b : BegunState A) (accepted : Procedure) (old new : OpenCallState A) (turn : Turn) → IsUnderWay w b old → IsTurn w (log_seen b.entries) gone (open_call_of old) turn (open_call_of new) → new.machine.last ≡ turn
      → (stays_open turn ≡ true → CanGoOn w (log_seen b.entries) accepted answers_from new) → stays_open new.machine.last ≡ true → IsUnderWay w b new
  goes_on w gone answers_from b accepted old new turn u t last can stays =
      let stay : stays_open turn ≡ true = ap stays_open (sym last) ∙ stays in
      let same = same_call w (log_seen b.entries) gone (open_call_of old) turn (open_call_of new) t stay in
      record {
        follows = (can stay).follows;
        procedure = ap (λ (call : Call). call.procedure) same ∙ u.procedure;
        snapshot = ap (λ (call : Call). call.snapshot) same ∙ u.snapshot;
      }

  -- after so many turns that answer that there is more
  pub plain_goes_on : (w : Setting) (b : BegunState A) (old new : OpenCallState A) (count : ℕ) → IsUnderWay w b old → open_call_of new ≡ further count (open_call_of old) → Follows w (log_seen b.entries) new → IsUnderWay w b new
  plain_goes_on w b old new count u same follows = record {
    follows = follows;
    procedure = ap (λ (o : OpenCall). o.call.procedure) same ∙ u.procedure;
    snapshot = ap (λ (o : OpenCall). o.call.snapshot) same ∙ u.snapshot;
  }

  -- ---- the next instruction

  -- the moment at which it is
  pub helper_next : (w : Setting) (b : BegunState A) (c : OpenCallState A) → IsBegun w b → IsUnderWay w b c → c.machine.last ≡ More
      → at_row_helper (procedure_of w (log_seen b.entries) (call_of c)) (moment_at w (log_seen b.entries) (call_of c) c.turns) ≡ calls_row_helper (instruction_at b.accepted.program c.machine.words.slot)
  helper_next w b c begun u ready =
      let log = log_seen b.entries in
      let f = u.follows in
      let p = f.is_call.procedure in
      let run = going w log c f ready in
      let now = moment_is w log (call_of c) p c.turns f.is_call.known ∙ run.here.at in
      ap (λ (o : Option StoredProcedure). at_row_helper o (moment_at w log (call_of c) c.turns)) f.is_call.known
      ∙ ap (λ (m : Moment). at_row_helper (just p) m) now
      ∙ ap (λ (n : ℕ). calls_row_helper (instruction_at p.program n)) (sym run.here.held.slot)
      ∙ ap (λ (q : Procedure). calls_row_helper (instruction_at q.program c.machine.words.slot)) (sym (own_program w b c begun u))

-- ---- an instruction that calls no row helper looks at nothing

-- what laws of steps say
abbrev pub LeadsOn : Type 0
LeadsOn = (p : Program) (tables : Tables) (s t : State) (n : ℤ) → instruction_at p s.slot ≡ Some (CallInstruction n) → step p tables s ≡ Going t
    → (h : Helper) × (u : State) × (helper_of n ≡ Some h) × (state_after_call tables h s ≡ Some u) × (t ≡ past 1 u)

abbrev pub OthersLookAtNothing : Type 0
OthersLookAtNothing = (p : Program) (tables : Tables) (s t : State) (i : Instruction) → instruction_at p s.slot ≡ Some i → ((n : ℤ) → i ≡ CallInstruction n → ⊥) → step p tables s ≡ Going t → t.looks ≡ s.looks

abbrev pub CancelsLookAtNothing : Type 0
CancelsLookAtNothing = (tables : Tables) (s t : State) → state_after_call tables Cancel s ≡ Some t → t.looks ≡ s.looks

module _ (calls : LeadsOn) (others : OthersLookAtNothing) (cancels : CancelsLookAtNothing) where
  called : (tables : Tables) (h : Helper) (s u t : State) → is_row_helper (just h) ≡ false → state_after_call tables h s ≡ just u → t ≡ past 1 u → t.looks ≡ s.looks
  called tables RowGet s u t h e is = absurd cc
  called tables RowPut s u t h e is = absurd cc
  called tables RowDelete s u t h e is = absurd cc
  called tables RangeCount s u t h e is = absurd cc
  called tables RangeNext s u t h e is = absurd cc
  called tables Cancel s u t h e is = ap (λ (x : State). x.looks) is ∙ cancels tables s u e

  quiet_by : (p : Program) (tables : Tables) (s t : State) (i : Option Instruction) → instruction_at p s.slot ≡ i → calls_row_helper i ≡ false → step p tables s ≡ Going t → ((i : Instruction) × (instruction_at p s.slot ≡ just i)) → t.looks ≡ s.looks
  quiet_by p tables s t None e h is some = absurd (let one = some.1 in cc)
  quiet_by p tables s t (Some (CallInstruction n)) e h is some =
      let c = calls p tables s t n e is in
      called tables c.0 s c.1 t (ap is_row_helper (sym c.2) ∙ h) c.3 c.4
  quiet_by p tables s t (Some (LoadWide a b)) e h is some = others p tables s t (LoadWide a b) e (λ n x. cc) is
  quiet_by p tables s t (Some (Load a b c d)) e h is some = others p tables s t (Load a b c d) e (λ n x. cc) is
  quiet_by p tables s t (Some (StoreImmediate a b c d)) e h is some = others p tables s t (StoreImmediate a b c d) e (λ n x. cc) is
  quiet_by p tables s t (Some (StoreRegister a b c d)) e h is some = others p tables s t (StoreRegister a b c d) e (λ n x. cc) is
  quiet_by p tables s t (Some (Arithmetic a b c d)) e h is some = others p tables s t (Arithmetic a b c d) e (λ n x. cc) is
  quiet_by p tables s t (Some (Negate a b)) e h is some = others p tables s t (Negate a b) e (λ n x. cc) is
  quiet_by p tables s t (Some (MoveSignExtended a b c)) e h is some = others p tables s t (MoveSignExtended a b c) e (λ n x. cc) is
  quiet_by p tables s t (Some (End a b c)) e h is some = others p tables s t (End a b c) e (λ n x. cc) is
  quiet_by p tables s t (Some (Jump a)) e h is some = others p tables s t (Jump a) e (λ n x. cc) is
  quiet_by p tables s t (Some (LongJump a)) e h is some = others p tables s t (LongJump a) e (λ n x. cc) is
  quiet_by p tables s t (Some (Branch a b c d f)) e h is some = others p tables s t (Branch a b c d f) e (λ n x. cc) is
  quiet_by p tables s t (Some ExitInstruction) e h is some = others p tables s t ExitInstruction e (λ n x. cc) is

  -- ---- a turn without rows

  quiet : (p : Program) (tables : Tables) (s t : State) → calls_row_helper (instruction_at p s.slot) ≡ false → step p tables s ≡ Going t → t.looks ≡ s.looks
  quiet p tables s t h is =
      let runs = step_runs p tables s (Going t) is (going_runs t) in
      quiet_by p tables s t (instruction_at p s.slot) refl h is (runs.0, runs.1)

  no_more : (s t : State) → t.looks ≡ s.looks → length s.looks < length t.looks → ⊥
  no_more s t e lt = let count = ap (λ (l : List Look). length l) e in absurd (omega arith)

  apart : (b : Bool) → b ≡ true → b ≡ false → ⊥
  apart true e h = cc
  apart false e h = cc

  module _ {A : Type 0} (never : NeverStuck) (have : HaveRuns) (w : Setting) (b : BegunState A) (c : OpenCallState A) where
    looks_at_nothing : (u : IsUnderWay w b c) → c.machine.last ≡ More → at_row_helper (procedure_of w (log_seen b.entries) (call_of c)) (moment_at w (log_seen b.entries) (call_of c) c.turns) ≡ false
        → looks_at_gone w (log_seen b.entries) true (open_call_of c) ≡ false
    looks_at_nothing u ready alone =
        let log = log_seen b.entries in
        let o = open_call_of c in
        let f = u.follows in
        let p = f.is_call.procedure in
        let known = f.is_call.known in
        let run = going w log c f ready in
        let s = run.here.state in
        let now = moment_is w log (call_of c) p c.turns known ∙ run.here.at in
        let r = has_call_run w log c f never have in
        let next = moment_at w log (call_of c) (c.turns + 1) in
        let other : calls_row_helper (instruction_at p.program s.slot) ≡ false =
        sym (ap (λ (q : Option StoredProcedure). at_row_helper q (moment_at w log (call_of c) c.turns)) known ∙ ap (λ (m : Moment). at_row_helper (just p) m) now) ∙ alone in
        looks_at_kept w log o p true s next known now (step_from w log o p s next r now refl)
        (λ stuck. r.not_stuck (sym (moment_is w log (call_of c) p (c.turns + 1) known) ∙ stuck))
        (λ stale. no_more s stale.0 (quiet p.program w.tables s stale.0 other stale.1) stale.2.1)

    pub stays_alone : (turn : Turn) (after : OpenCall) → (u : IsUnderWay w b c) → c.machine.last ≡ More → at_row_helper (procedure_of w (log_seen b.entries) (call_of c)) (moment_at w (log_seen b.entries) (call_of c) c.turns) ≡ false
        → IsTurn w (log_seen b.entries) true (open_call_of c) turn after → stays_open turn ≡ true
    stays_alone More after u ready alone t = refl
    stays_alone (Exit reply) after u ready alone t = refl
    stays_alone Stale after u ready alone t = absurd (apart (looks_at_gone w (log_seen b.entries) true (open_call_of c)) t (looks_at_nothing u ready alone))
    stays_alone NoMemory after u ready alone t = absurd (apart (at_row_helper (procedure_of w (log_seen b.entries) (call_of c)) (moment_at w (log_seen b.entries) (call_of c) c.turns)) t.1 alone)
