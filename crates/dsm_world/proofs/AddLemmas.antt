-- Additions: what they answer by the definitions, and that all still fits together.
use Rattle.std.proofs.Common.{◌≡◌, inl, inr, ℕ, suc, ◌+◌, ◌≤◌, ◌<◌, Bool, true, false, not, cond, List, [], ◌∷◌, ◌++◌, length, map, nat_le, nat_lt, Option, Some, refl, sym, ap, subst, ◌∙◌, arith}
use Rattle.std.specs.List.{AllByRecursion}
use Rattle.std.specs.FinMap.{empty, get-empty}
use Rattle.bpf_code.specs.Program.{Program}
use Rattle.schema.specs.Schema.{Tables}
use Rattle.schema.specs.Rows.{AreWrites}
use Rattle.bpf_verify.specs.Flow.{Procedure}
use Rattle.catalogue.specs.Stored.{ListedProcedure, stored}
use Rattle.log_model.specs.Log.{StoredProcedure, Setting, Log, AdditionItem}
use Rattle.log_model.specs.Fit.{IsSafe}
use Rattle.log_model.specs.Name.{is_name}
use Rattle.log_model.specs.Entries.{AdditionEntry, items_of}
use Rattle.log_entry.specs.declared.entry.Entry.{Entry as LogEntry}
use Rattle.log_entry.specs.declared.entry.Entry.TheVariants.{Call as LogCall, Addition as LogAddition}
use Rattle.log_entry.specs.Kind.{entry_of}
use Rattle.program_checks.specs.declared.fault.ProgramFault.{ProgramFault}
use Rattle.program_checks.specs.declared.fault.AdditionFault.{AdditionFault}
use Rattle.program_checks.specs.declared.fault.AdditionFault.TheVariants as fault
use Rattle.program_checks.specs.Fault.{IsAdditionFault}
use Rattle.schema.specs.declared.or_no_memory.OrNoMemory.TheVariants.{Fault}
use Rattle.dsm_model.specs.declared.outcome.StepRefusal.TheVariants.{NoMemory, TooManyCalls, ArgumentsLimit, ProgramRefused, NameShape}
use Rattle.dsm_model.specs.declared.outcome.Outcome.TheVariants.{Added, Refused}
use Rattle.dsm_model.specs.World.{World, Add, max_calls, call_count, addition_count, with_added, refusal_of_addition, after_add_checked, after_step, after_refused_memory, after_step_without_memory, IsStep}
use Rattle.program_checks.specs.ProgramCheck.{ProgramCheck, Passed, Failed}
use Rattle.dsm_model.specs.Sound.{IsWorld}
use Rattle.replica.specs.Replica.{IsForTables, IsNamed, entries_of, writes_in}
use Rattle.world_calls.specs.OpenCall.{Follows}
use Rattle.world_calls.specs.declared.open_call.OpenCall.{OpenCall as OpenCallState}
use Rattle.dsm_world.specs.System.{SystemWorld, setting_of, progress_of, world_of}
use Rattle.dsm_world.specs.Together.{IsTogether}
use Rattle.dsm_world.proofs.StepLemmas.{Done, yes, no, is_le, not_le, is_lt, not_lt}
use Rattle.replica.proofs.EntryLemmas.{OneMore, items_append, items_count, all_snoc, entries_snoc}
use Rattle.dsm_world.proofs.EntryLemmas.{follows_grown}
use Rattle.dsm_world.proofs.CallLemmas.{append_map, open_facts, replica_grown, with_entry}

-- ---- what a step answers

pub add_too_many : (w : Setting) (world : World) (name : List ℕ) (number args_len : ℕ) (checked : ProgramCheck) → max_calls ≤ call_count world → IsStep w world (Add name number args_len checked) (Refused TooManyCalls) world
unfolding after_step
add_too_many w world name number args_len checked many = inl (yes (nat_le max_calls (call_count world)) _ _ (is_le max_calls (call_count world) many))

pub add_long : (w : Setting) (world : World) (name : List ℕ) (number args_len : ℕ) (checked : ProgramCheck) → call_count world < max_calls → 256 < args_len → IsStep w world (Add name number args_len checked) (Refused ArgumentsLimit) world
unfolding after_step
add_long w world name number args_len checked few long = inl (no (nat_le max_calls (call_count world)) _ _ (not_le max_calls (call_count world) few) ∙ yes (nat_lt 256 args_len) _ _ (is_lt 256 args_len long))

adds_checked : (w : Setting) (world : World) (name : List ℕ) (number args_len : ℕ) (checked : ProgramCheck) → call_count world < max_calls → args_len ≤ 256 → after_step w world (Add name number args_len checked) ≡ after_add_checked world name number args_len checked
unfolding after_step
adds_checked w world name number args_len checked few short = no (nat_le max_calls (call_count world)) _ _ (not_le max_calls (call_count world) few) ∙ no (nat_lt 256 args_len) _ _ (not_lt 256 args_len short)

add_failed : (w : Setting) (world : World) (name : List ℕ) (number args_len : ℕ) (checked : ProgramCheck) (fault : ProgramFault) → call_count world < max_calls → args_len ≤ 256 → checked ≡ Failed fault
    → IsStep w world (Add name number args_len checked) (Refused (ProgramRefused fault)) world
add_failed w world name number args_len checked fault few short failed = inl (adds_checked w world name number args_len checked few short ∙ ap (after_add_checked world name number args_len) failed)

adds_passed : (w : Setting) (world : World) (name : List ℕ) (number args_len : ℕ) (checked : ProgramCheck) (program : Program) → call_count world < max_calls → args_len ≤ 256 → checked ≡ Passed program
    → after_step w world (Add name number args_len checked)
    ≡ cond (not (is_name name)) (Refused NameShape, world) (Added (length world.log + 1), with_added world (record { name = name; number = number; program = program; args_len = args_len }))
adds_passed w world name number args_len checked program few short passed = adds_checked w world name number args_len checked few short ∙ ap (after_add_checked world name number args_len) passed

add_no_name : (w : Setting) (world : World) (name : List ℕ) (number args_len : ℕ) (checked : ProgramCheck) (program : Program) → call_count world < max_calls → args_len ≤ 256 → checked ≡ Passed program → is_name name ≡ false
    → IsStep w world (Add name number args_len checked) (Refused NameShape) world
add_no_name w world name number args_len checked program few short passed shape = inl (adds_passed w world name number args_len checked program few short passed ∙ yes (not (is_name name)) _ _ (ap not shape))

pub add_faulty : (w : Setting) (world : World) (name : List ℕ) (number args_len : ℕ) (checked : ProgramCheck) (fault : AdditionFault) → call_count world < max_calls → args_len ≤ 256 → IsAdditionFault name checked (Fault fault)
    → IsStep w world (Add name number args_len checked) (Refused (refusal_of_addition fault)) world
add_faulty w world name number args_len checked (fault.Program fault) few short failed = add_failed w world name number args_len checked fault few short failed
add_faulty w world name number args_len checked fault.Name few short ((program, passed), shape) = add_no_name w world name number args_len checked program few short passed shape

pub add_new : (w : Setting) (world : World) (name : List ℕ) (number args_len : ℕ) (checked : ProgramCheck) (program : Program) → call_count world < max_calls → args_len ≤ 256 → checked ≡ Passed program → is_name name ≡ true
    → IsStep w world (Add name number args_len checked) (Added (length world.log + 1)) (with_added world (record { name = name; number = number; program = program; args_len = args_len }))
add_new w world name number args_len checked program few short passed shape = inl (adds_passed w world name number args_len checked program few short passed ∙ no (not (is_name name)) _ _ (ap not shape))

-- whatever its program and its name are
pub add_without_memory : (w : Setting) (world : World) (name : List ℕ) (number args_len : ℕ) (checked : ProgramCheck) → call_count world < max_calls → args_len ≤ 256 → IsStep w world (Add name number args_len checked) (Refused NoMemory) world
unfolding after_step_without_memory
add_without_memory w world name number args_len checked few short = inr (ap (λ (d : Done). after_refused_memory world (Add name number args_len checked) d.0) (adds_checked w world name number args_len checked few short) ∙ by checked)
  where
    wanted : Done → Option Done
    wanted d = after_refused_memory world (Add name number args_len checked) d.0

    named : (p : StoredProcedure) (b : Bool) → wanted (cond (not b) (Refused NameShape, world) (Added (length world.log + 1), with_added world p)) ≡ Some (Refused NoMemory, world)
    named p true = refl
    named p false = refl

    by : (c : ProgramCheck) → wanted (after_add_checked world name number args_len c) ≡ Some (Refused NoMemory, world)
    by (Failed fault) = refl
    by (Passed program) = named (record { name = name; number = number; program = program; args_len = args_len }) (is_name name)

-- ---- one addition more

abbrev pub added_procedure : List ℕ → ℕ → Procedure → StoredProcedure
added_procedure name number accepted = record { name = name; number = number; program = accepted.program; args_len = accepted.args_len }

pub added : (s : SystemWorld) (name : List ℕ) (number args_len : ℕ) (checked : ProgramCheck) (program : Program) → call_count (world_of s) < max_calls → args_len ≤ 256 → checked ≡ Passed program → is_name name ≡ true
    → IsStep (setting_of s) (world_of s) (Add name number args_len checked) (Added (length s.entries + 1)) (world_of (with_entry s (AdditionEntry (record { name = name; number = number; program = program; args_len = args_len }))))
added s name number args_len checked program few short passed shape =
    let p : StoredProcedure = record { name = name; number = number; program = program; args_len = args_len } in
    let leaves = ap (λ (l : Log). record { log = l; replicas = map progress_of s.replicas; calls = s.calls }) (sym (items_append s.entries (AdditionEntry p ∷ []))) in
    subst (λ (x : World). IsStep (setting_of s) (world_of s) (Add name number args_len checked) (Added (length s.entries + 1)) x) leaves
    (subst (λ (n : ℕ). IsStep (setting_of s) (world_of s) (Add name number args_len checked) (Added (n + 1)) (with_added (world_of s) p)) (items_count s.entries)
    (add_new (setting_of s) (world_of s) name number args_len checked program few short passed shape))

-- nothing is written by it
no_writes : (tables : Tables) → AreWrites tables empty
no_writes tables k write e = absurd (let none = get-empty _ k in let bad = sym none ∙ e in cc)

pub addition_entered : {A : Type 0} (s : SystemWorld) (slots : List (Option (OpenCallState A))) (p : StoredProcedure) → OneMore → IsTogether s slots → IsSafe s.catalogue.tables p → is_name p.name ≡ true
    → IsWorld (setting_of s) (world_of (with_entry s (AdditionEntry p))) → IsTogether (with_entry s (AdditionEntry p)) slots
addition_entered s slots p one h safe shape world =
    let w = setting_of s in
    let log = items_append s.entries (AdditionEntry p ∷ []) in
    record {
      entries = entries_snoc one w s.entries (AdditionEntry p) h.entries safe tt tt;
      writes = all_snoc (λ x. AreWrites s.catalogue.tables (writes_in x)) s.entries (AdditionEntry p) h.writes (no_writes s.catalogue.tables);
      named = all_snoc IsNamed s.entries (AdditionEntry p) h.named shape;
      world = world;
      replicas = λ j r at. replica_grown s slots j r (AdditionEntry p) h at;
      calls = h.calls;
      open_calls = λ j d at.
          let facts = open_facts s slots (j + 1) j d h refl at in
          let near = facts.begun in
          let far = facts.reached in
          let count = items_count s.entries in
          subst (λ (l : Log). Follows w l d) (sym log) (follows_grown w (items_of s.entries) (AdditionItem p ∷ []) d (omega arith) facts.follows);
    }

-- ---- in code

pub entered_in_code : {A : Type 0} (xs ys : List (LogEntry A)) (l : ListedProcedure) → ys ≡ xs ++ LogAddition l ∷ [] → entries_of ys ≡ entries_of xs ++ AdditionEntry (stored l) ∷ []
entered_in_code xs ys l e = ap entries_of e ∙ append_map entry_of xs (LogAddition l)

pub addition_for : {A : Type 0} (tables : Tables) (xs ys : List (LogEntry A)) (l : ListedProcedure) → ys ≡ xs ++ LogAddition l ∷ [] → l.accepted.tables ≡ tables → AllByRecursion (IsForTables tables) xs → AllByRecursion (IsForTables tables) ys
addition_for tables xs ys l e own all = subst (AllByRecursion (IsForTables tables)) (sym e) (all_snoc (IsForTables tables) xs (LogAddition l) all own)

counted : {A : Type 0} (xs : List (LogEntry A)) (l : ListedProcedure) → addition_count (items_of (entries_of (xs ++ LogAddition l ∷ []))) ≡ suc (addition_count (items_of (entries_of xs)))
counted [] l = refl
counted (LogCall x ∷ xs) l = counted xs l
counted (LogAddition p ∷ xs) l = ap (λ (n : ℕ). 1 + n) (counted xs l) ∙ next (addition_count (items_of (entries_of xs)))
  where
    next : (n : ℕ) → 1 + suc n ≡ suc (1 + n)
    next n = omega arith

pub one_addition_more : {A : Type 0} (xs ys : List (LogEntry A)) (l : ListedProcedure) → ys ≡ xs ++ LogAddition l ∷ [] → addition_count (items_of (entries_of ys)) ≡ suc (addition_count (items_of (entries_of xs)))
one_addition_more xs ys l e = ap (λ (zs : List (LogEntry _)). addition_count (items_of (entries_of zs))) e ∙ counted xs l
