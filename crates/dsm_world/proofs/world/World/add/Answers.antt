use Rattle.std.proofs.Common.{◌≡◌, ◌+◌, length, refl, sym, ap, subst, ◌∙◌, arith}
use Rattle.schema.specs.Schema.{Tables}
use Rattle.std.specs.List.{AllByRecursion}
use Rattle.dsm_model.specs.World.{addition_count}
use Rattle.log_model.specs.Entries.{items_of}
use Rattle.replica.specs.Replica.{IsForTables}
use Rattle.dsm_world.proofs.ReplicaLemmas.{entries_are_few}
use Rattle.catalogue.specs.Stored.{ListedProcedure, stored}
use Rattle.log_model.specs.Log.{StoredProcedure}
use Rattle.log_model.specs.Name.{is_name}
use Rattle.log_model.specs.Entries.{AdditionEntry}
use Rattle.schema.specs.declared.or_no_memory.OrNoMemory.TheVariants.{Fault}
use Rattle.program_checks.specs.Fault.{IsAdditionFault}
use Rattle.log_entry.specs.Kind.{entry_of}
use Rattle.dsm_model.specs.declared.outcome.StepRefusal.{StepRefusal}
use Rattle.dsm_model.specs.declared.outcome.StepRefusal.TheVariants.{NoMemory}
use Rattle.dsm_model.specs.declared.outcome.Outcome.TheVariants.{Added, Refused}
use Rattle.dsm_model.specs.World.{Add, IsStep}
use Rattle.program_checks.specs.ProgramCheck.{ProgramCheck}
use Rattle.dsm_model.specs.Sound.{IsGiven, IsWorld}
use Rattle.program_checks.specs.Check.{check_of}
use Rattle.program_checks.proofs.CheckLemmas.{accepted_for}
use Rattle.replica.specs.Replica.{entries_of}
use Rattle.dsm_world.specs.System.{setting_of, world_of}
use Rattle.dsm_world.specs.Together.{IsTogether}
use Rattle.dsm_world.specs.Fields.{system_of, call_slots}
use Rattle.dsm_world.proofs.CallLemmas.{calls_counted, map_count, with_entries, with_entry, few_calls}
use Rattle.dsm_world.proofs.AddLemmas.{add_too_many, add_long, add_faulty, add_without_memory, added, addition_entered, entered_in_code, addition_for, one_addition_more}
use Rattle.dsm_world.proofs.FieldLemmas.{step_kept}
use Rattle.dsm_world.proofs.world.World.add.Goals as goal

pub returns-then-len-self-ge-MAX_CALLS-clause-step : goal.returns-then-len-self-ge-MAX_CALLS-clause-step
returns-then-len-self-ge-MAX_CALLS-clause-step g c =
    rw (← c.self.view_is) (
    let s = system_of c.self.inside in
    let many = c.if-len-self-ge-MAX_CALLS.true in
    let calls = c.len.ensures in
    let counted = calls_counted c.self.inside c.self.invariant in
    add_too_many (setting_of s) (world_of s) c.args.name.now c.args.number c.args.args_len (check_of s.catalogue.tables c.args.args_len c.args.bytes.now) (omega arith)
    )

pub returns-then-args_len-gt-MAX_ARGUMENTS-clause-step : goal.returns-then-args_len-gt-MAX_ARGUMENTS-clause-step
returns-then-args_len-gt-MAX_ARGUMENTS-clause-step g c =
    rw (← c.self.view_is) (
    let s = system_of c.self.inside in
    let few = few_calls c.self.inside c.len.result c.self.invariant c.len.ensures c.if-len-self-ge-MAX_CALLS.false in
    add_long (setting_of s) (world_of s) c.args.name.now c.args.number c.args.args_len (check_of s.catalogue.tables c.args.args_len c.args.bytes.now) few c.if-args_len-gt-MAX_ARGUMENTS.true
    )

-- there is room for an addition, and its arguments are in range
pub returns-in-Err-NoMemory-clause-step : goal.returns-in-Err-NoMemory-clause-step
returns-in-Err-NoMemory-clause-step g c =
    rw (← c.self.view_is) (
    let s = system_of c.self.inside in
    let few = few_calls c.self.inside c.len.result c.self.invariant c.len.ensures c.if-len-self-ge-MAX_CALLS.false in
    let long = c.if-args_len-gt-MAX_ARGUMENTS.false in
    add_without_memory (setting_of s) (world_of s) c.args.name.now c.args.number c.args.args_len (check_of s.catalogue.tables c.args.args_len c.args.bytes.now) few (omega arith)
    )

pub returns-in-Err-Fault-clause-step : goal.returns-in-Err-Fault-clause-step
returns-in-Err-Fault-clause-step g c =
    rw (← c.self.view_is) (
    let s = system_of c.self.inside in
    let few = few_calls c.self.inside c.len.result c.self.invariant c.len.ensures c.if-len-self-ge-MAX_CALLS.false in
    let long = c.if-args_len-gt-MAX_ARGUMENTS.false in
    let faulty = subst (λ (t : Tables). IsAdditionFault c.args.name.now (check_of t c.args.args_len c.args.bytes.now) (Fault c.in-Err-Fault.fault)) c.schema.ensures.tables
    (subst (IsAdditionFault c.args.name.now (check_of c.schema.result.now c.args.args_len c.args.bytes.now)) c.in-Err-Fault.field-0-is c.in-Err-Fault.ensures.refused) in
    subst (λ (refusal : StepRefusal). IsStep (setting_of s) (world_of s) (Add c.args.name.now c.args.number c.args.args_len (check_of s.catalogue.tables c.args.args_len c.args.bytes.now)) (Refused refusal) (world_of s)) (sym c.from.ensures)
    (add_faulty (setting_of s) (world_of s) c.args.name.now c.args.number c.args.args_len (check_of s.catalogue.tables c.args.args_len c.args.bytes.now) c.in-Err-Fault.fault few (omega arith) faulty)
    )

pub returns-in_default-clause-step : goal.returns-in_default-clause-step
returns-in_default-clause-step g c =
    rw (← c.self.view_is) (
    let s = system_of c.self.inside in
    let few = few_calls c.self.inside c.len.result c.self.invariant c.len.ensures c.if-len-self-ge-MAX_CALLS.false in
    let long = c.if-args_len-gt-MAX_ARGUMENTS.false in
    let step = Add c.args.name.now c.args.number c.args.args_len (check_of s.catalogue.tables c.args.args_len c.args.bytes.now) in
    subst (λ xs. IsStep (setting_of s) (world_of s) step (Refused NoMemory) (world_of (with_entries s (entries_of xs)))) (sym c.in_default.ensures.unchanged)
    (add_without_memory (setting_of s) (world_of s) c.args.name.now c.args.number c.args.args_len (check_of s.catalogue.tables c.args.args_len c.args.bytes.now) few (omega arith))
    )

pub returns-clause-step : goal.returns-clause-step
returns-clause-step g c =
    rw (← c.self.view_is) (
    let s = system_of c.self.inside in
    let l : ListedProcedure = c.in-Ok.added in
    let few = few_calls c.self.inside c.len.result c.self.invariant c.len.ensures c.if-len-self-ge-MAX_CALLS.false in
    let long = c.if-args_len-gt-MAX_ARGUMENTS.false in
    let step = Add c.args.name.now c.args.number c.args.args_len (check_of s.catalogue.tables c.args.args_len c.args.bytes.now) in
    let entered = entered_in_code c.self.inside.entries.items c.append.new.entries.items l c.in-Ok-append.ensures.appended in
    let same = map_count entry_of c.self.inside.entries.items in
    let len = c.len-2.ensures in
    let count : length s.entries + 1 ≡ c.len-2.result + 1 = omega arith in
    subst (λ xs. IsStep (setting_of s) (world_of s) step (Added (c.len-2.result + 1)) (world_of (with_entries s xs))) (sym entered)
    (subst (λ n. IsStep (setting_of s) (world_of s) step (Added n) (world_of (with_entry s (AdditionEntry (stored l))))) count
    (subst (λ (q : StoredProcedure). IsStep (setting_of s) (world_of s) step (Added (length s.entries + 1)) (world_of (with_entry s (AdditionEntry q))))
    (λ i. record { name = sym c.in-Ok.ensures.named.0 i; number = sym c.in-Ok.ensures.named.1 i; program = l.accepted.program; args_len = sym c.in-Ok.ensures.given.1 i })
    (added s c.args.name.now c.args.number c.args.args_len (check_of s.catalogue.tables c.args.args_len c.args.bytes.now) l.accepted.program few (omega arith)
    (ap (λ (t : Tables). check_of t c.args.args_len c.args.bytes.now) (sym c.schema.ensures.tables) ∙ c.in-Ok.ensures.passed) (ap is_name (sym c.in-Ok.ensures.named.0) ∙ c.in-Ok.ensures.shape))))
    )

pub returns-clause-given : goal.returns-clause-given
returns-clause-given g c =
    rw (← c.self.view_is) (
    let s = system_of c.self.inside in
    let tables = s.catalogue.tables in
    let p = c.in-Ok.added.accepted in
    let own = c.in-Ok.ensures.given.0 ∙ c.schema.ensures.tables in
    subst (λ (k : ProgramCheck). IsGiven (setting_of s) (Add c.args.name.now c.args.number c.args.args_len k) (Added (c.len-2.result + 1)))
    (sym (ap (λ (t : Tables). check_of t c.args.args_len c.args.bytes.now) (sym c.schema.ensures.tables) ∙ c.in-Ok.ensures.passed))
    (c.accepted_procedures_are_safe.ensures tables (record { name = c.args.name.now; number = c.args.number; program = p.program; args_len = c.args.args_len }) c.in-Ok.ensures.accepted.0 c.each_catalogue_is_consistent.ensures.tables
    (accepted_for p tables c.args.args_len own c.in-Ok.ensures.given.1 c.in-Ok.ensures.accepted.1))
    )

pub invariant_of-self-2 : goal.invariant_of-self-2
invariant_of-self-2 g c =
    let s = system_of c.self.inside in
    let slots = call_slots c.self.inside in
    let tables = s.catalogue.tables in
    let l : ListedProcedure = c.in-Ok.added in
    let p = l.accepted in
    let own = c.in-Ok.ensures.given.0 ∙ c.schema.ensures.tables in
    let e = c.in-Ok-append.ensures.appended in
    let entered = entered_in_code c.self.inside.entries.items c.append.new.entries.items l e in
    let world = step_kept s c.args.self.now _ _ _ c.self.view_is (c.steps_keep_a_world.ensures.step (setting_of c.args.self.now)) (returns-clause-given g c) (returns-clause-step g c) c.self.invariant.together.world in
    let safe = c.accepted_procedures_are_safe.ensures tables (stored l) c.in-Ok.ensures.accepted.0 c.each_catalogue_is_consistent.ensures.tables (accepted_for p tables p.args_len own refl c.in-Ok.ensures.accepted.1) in
    record {
      together = subst (λ xs. IsTogether (with_entries s xs) slots) (sym entered)
          (addition_entered s slots (stored l) c.one_more_entry_carries_its_run.ensures c.self.invariant.together safe c.in-Ok.ensures.shape
          (subst (λ xs. IsWorld (setting_of s) (world_of (with_entries s xs))) entered world));
      for_tables = addition_for tables c.self.inside.entries.items c.append.new.entries.items l e own c.self.invariant.for_tables;
      additions = (let more = one_addition_more c.self.inside.entries.items c.append.new.entries.items l e in let were = c.self.invariant.additions in omega arith);
    }

-- nothing was appended, and all is as it was
pub invariant_of-self : goal.invariant_of-self
invariant_of-self g c =
    let s = system_of c.self.inside in
    let same = sym c.in_default.ensures.unchanged in
    record {
      together = subst (λ xs. IsTogether (with_entries s (entries_of xs)) (call_slots c.self.inside)) same c.self.invariant.together;
      for_tables = subst (λ xs. AllByRecursion (IsForTables s.catalogue.tables) xs) same c.self.invariant.for_tables;
      additions = c.self.invariant.additions ∙ ap (λ xs. addition_count (items_of (entries_of xs))) same;
    }

pub overflow_cast-position : goal.overflow_cast-position
overflow_cast-position g c =
    let few = entries_are_few (system_of c.self.inside) (call_slots c.self.inside) c.self.invariant.together in
    let count = map_count entry_of c.self.inside.entries.items in
    let len = c.len-2.ensures in
    omega arith

pub overflow_add-position : goal.overflow_add-position
overflow_add-position g c =
    let few = entries_are_few (system_of c.self.inside) (call_slots c.self.inside) c.self.invariant.together in
    let count = map_count entry_of c.self.inside.entries.items in
    let len = c.len-2.ensures in
    omega arith
