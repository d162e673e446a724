-- Steps of a call: what they answer by the definitions, and that all still fits together.
use Rattle.std.proofs.Common.{◌≡◌, ◌≢◌, ◌⊎◌, get_or, ℕ, zero, suc, ◌+◌, ◌-◌, ◌<◌, ◌≤◌, Bool, cond, List, [], ◌∷◌, ◌++◌, length, map, take, drop, slice_get, slice_set, vec_len, nat_lt, Option, Some, None, Ok, option_map, refl, sym, ap, subst, ◌∙◌, arith, inl, inr}
use Rattle.std.specs.FinMap.{len}
use Rattle.schema.specs.Rows.{Rows, AreWrites}
use Rattle.log_model.specs.InstalledWrites.{map_after}
use Rattle.replica.specs.Replica.{Replica, StandsFor, FollowsLog, IsForTables, IsNamed, entries_of, rows_kept, writes_in}
use Rattle.bpf_vm.specs.declared.turn.Turn.{Turn as TurnAnswer}
use Rattle.bpf_vm.specs.declared.turn.Turn.TheVariants as answer
use Rattle.dsm_model.specs.declared.outcome.StepRefusal.TheVariants.{NoReplica, NoProcedure, ArgumentsLength, NoCall, NotAtExit, NothingToDeliver, ReplicaStopped, LogFull, TooManyCalls, ArgumentsLimit, ProgramRefused, NameShape, ZeroInRequest}
use Rattle.dsm_model.specs.declared.outcome.StepRefusal.TheVariants as step_refusal
use Rattle.dsm_model.specs.declared.outcome.Outcome.{Outcome}
use Rattle.dsm_model.specs.declared.outcome.Outcome.TheVariants.{Begun, More, Exit, Stale, NoMemory, Ordered, Read, Cancelled, Delivered, Rebuilt, Added, Refused}
use Rattle.log_model.specs.declared.request.RequestId.{RequestId}
use Rattle.log_model.specs.Log.{Beginning, StoredProcedure, Catalogue, Setting, Call, CallItem, Log, IsLog, by_number, procedures_after, rows_after, run_in}
use Rattle.log_model.specs.Fit.{BeginsSafely, AreItems, IsCall}
use Rattle.log_model.specs.Entries.{ExecutedCall, Entry, CallEntry, items_of, CarryRuns, CarriesRun, certified_entries_of, installed_from}
use Rattle.log_model.proofs.GrowthLemmas.{rows_grown, procedure_stays}
use Rattle.catalogue.specs.Stored.{ListedProcedure, listed_by_number}
use Rattle.std.specs.List.{AllByRecursion}
use Rattle.schema.specs.Schema.{Tables}
use Rattle.log_entry.specs.declared.entry.Entry.{Entry as LogEntry}
use Rattle.log_entry.specs.declared.entry.Entry.TheVariants.{Call as LogCall, Addition as LogAddition}
use Rattle.dsm_model.specs.World as model
use Rattle.dsm_model.specs.World.{World, Begin, Order, numbered, with_numbered, flatten, open_call, with_open_call, without_call, with_ordered, with_begun, new_call, position_of, max_calls, addition_count, call_count, IsStep}
use Rattle.log_model.specs.OpenCall.{OpenCall}
use Rattle.log_model.specs.Admission.{admission}
use Rattle.dsm_model.specs.Sound.{IsWorld}
use Rattle.bpf_verify.specs.Flow.{Procedure}
use Rattle.catalogue.specs.Catalogue.{beginning_of, accepted_of}
use Rattle.world_calls.specs.OpenCall.{call_of, open_call_of, Follows, CanGoOn, IsTurn, AreTurns, stays_open, IsReplyOf}
use Rattle.world_calls.specs.declared.open_call.OpenCall.{OpenCall as OpenCallState}
use Rattle.dsm_world.specs.System.{SystemWorld, setting_of, progress_of, world_of}
use Rattle.dsm_world.specs.Execution.{IsExecution}
use Rattle.dsm_world.specs.Turned.{outcome_of, IsAppended}
use Rattle.dsm_world.specs.declared.world.World.TheInside.{Inside}
use Rattle.dsm_world.specs.Together.{IsReplicaOf, IsTogether, open_calls_of}
use Rattle.dsm_world.specs.Fields.{IsConsistent, call_slots, system_of}
use Rattle.dsm_world.proofs.Numbered.{get_lt, get_map, set_map, set_same, set_twice, get_set, get_snoc, numbered_map, numbered_at, with_numbered_at}
use Rattle.dsm_world.proofs.StepLemmas.{is_gone, execution_on, order_early, order_cancelled, order_read, order_full, order_new, order_without_memory, begin_new}
use Rattle.replica.proofs.EntryLemmas.{OneMore, take_first, take_drop, take_count, items_append, items_count, all_snoc, entries_taken, entries_snoc}
use Rattle.dsm_world.proofs.EntryLemmas.{follows_grown}
use Rattle.dsm_world.proofs.ReplicaLemmas.{ProceduresFollow, log_count, get_is, same_item, known, found_at, in_procedures}

-- what the law of entries says of rows
abbrev pub EntriesGiveRows : Type 0
EntriesGiveRows = (w : Setting) (entries : List Entry) (position : ℕ) → BeginsSafely w → IsLog (items_of entries) → AreItems w (items_of entries) → CarryRuns w entries → position ≤ length entries
    → map_after w.beginning.rows (installed_from 1 (certified_entries_of w.window w.beginning entries).certified) position ≡ rows_after w (items_of entries) position

pub some_is : {X : Type 0} (a b : X) → Some a ≡ Some b → a ≡ b
some_is a b e = cc

-- ---- calls in their places

abbrev pub with_slots : {A : Type 0} → SystemWorld → List (Option (OpenCallState A)) → SystemWorld
with_slots s slots = record { catalogue = s.catalogue; window = s.window; entries = s.entries; replicas = s.replicas; calls = open_calls_of slots }

flat_map : {A : Type 0} (x : Option (Option (OpenCallState A))) → flatten (option_map (λ (slot : Option (OpenCallState A)). option_map open_call_of slot) x) ≡ option_map open_call_of (flatten x)
flat_map None = refl
flat_map (Some x) = refl

pub call_is : {A : Type 0} (s : SystemWorld) (slots : List (Option (OpenCallState A))) (n : ℕ) → s.calls ≡ open_calls_of slots → open_call (world_of s) n ≡ option_map open_call_of (flatten (numbered slots n))
call_is s slots n e =
    ap (λ (calls : List (Option OpenCall)). flatten (numbered calls n)) e
    ∙ ap flatten (numbered_map (λ (slot : Option (OpenCallState _)). option_map open_call_of slot) slots n)
    ∙ flat_map (numbered slots n)

pub no_call : {A : Type 0} (s : SystemWorld) (slots : List (Option (OpenCallState A))) (n : ℕ) → s.calls ≡ open_calls_of slots → flatten (numbered slots n) ≡ None → open_call (world_of s) n ≡ None
no_call s slots n e none = call_is s slots n e ∙ ap (λ (x : Option (OpenCallState _)). option_map open_call_of x) none

pub call_at : {A : Type 0} (s : SystemWorld) (slots : List (Option (OpenCallState A))) (n k : ℕ) (c : OpenCallState A) → s.calls ≡ open_calls_of slots → n ≡ k + 1 → slice_get slots k ≡ Some (Some c) → open_call (world_of s) n ≡ Some (open_call_of c)
call_at s slots n k c e place at = call_is s slots n e ∙ ap (λ (x : Option (Option (OpenCallState _))). option_map open_call_of (flatten x)) (numbered_at slots n k place ∙ at)

pub slot_set : {A : Type 0} (s : SystemWorld) (slots : List (Option (OpenCallState A))) (n k : ℕ) (x : Option (OpenCallState A)) → s.calls ≡ open_calls_of slots → n ≡ k + 1 → with_open_call (world_of s) n (option_map open_call_of x) ≡ world_of (with_slots s (slice_set slots k x))
slot_set s slots n k x e place =
    ap (λ (calls : List (Option OpenCall)). record { log = items_of s.entries; replicas = map progress_of s.replicas; calls = calls })
    (ap (λ (calls : List (Option OpenCall)). with_numbered calls n (option_map open_call_of x)) e
    ∙ with_numbered_at (open_calls_of slots) n k (option_map open_call_of x) place
    ∙ sym (set_map (λ (slot : Option (OpenCallState _)). option_map open_call_of slot) slots k x))

-- other calls of which each that is open follows its run
pub calls_changed : {A : Type 0} (s : SystemWorld) (slots new : List (Option (OpenCallState A))) → IsTogether s slots → ((j : ℕ) (c : OpenCallState A) → slice_get new j ≡ Some (Some c) → Follows (setting_of s) (items_of s.entries) c)
    → IsWorld (setting_of s) (world_of (with_slots s new)) → IsTogether (with_slots s new) new
calls_changed s slots new h follow world = record {
  entries = h.entries;
  writes = h.writes;
  named = h.named;
  world = world;
  replicas = h.replicas;
  calls = refl;
  open_calls = follow;
}

pub slot_changed : {A : Type 0} (s : SystemWorld) (slots : List (Option (OpenCallState A))) (k : ℕ) (x : Option (OpenCallState A)) → IsTogether s slots → ((c : OpenCallState A) → x ≡ Some c → Follows (setting_of s) (items_of s.entries) c)
    → IsWorld (setting_of s) (world_of (with_slots s (slice_set slots k x))) → IsTogether (with_slots s (slice_set slots k x)) (slice_set slots k x)
slot_changed s slots k x h follows = calls_changed s slots (slice_set slots k x) h (λ j c e. elim (get_set slots k j x) [
  | inl same ↦ h.open_calls j c (sym same ∙ e)
  | inr now ↦ follows c (some_is x (Some c) (sym now.1 ∙ e))
])

-- ---- what is known of an open call

pub record OpenFacts {A : Type 0} (s : SystemWorld) (n : ℕ) (c : OpenCallState A) : Type 0 where
  pub j : ℕ
  pub place : c.replica ≡ j + 1
  pub r : Replica
  pub stands : slice_get s.replicas j ≡ Some r
  pub is : IsReplicaOf s.catalogue s.window s.entries r
  pub begun : c.snapshot ≤ r.position
  pub reached : r.position ≤ length s.entries
  pub follows : Follows (setting_of s) (items_of s.entries) c
  pub is_open : open_call (world_of s) n ≡ Some (open_call_of c)
  pub gone : is_gone (setting_of s) (world_of s) (open_call_of c) ≡ nat_lt r.window (r.position - c.snapshot)

got_map : {X Y : Type 0} (f : X → Y) (xs : List X) (n : ℕ) (y : Y) → numbered (map f xs) n ≡ Some y → (j : ℕ) × (x : X) × (n ≡ j + 1) × (slice_get xs j ≡ Some x) × (f x ≡ y)
got_map f xs zero y e = absurd cc
got_map f xs (suc j) y e = go (slice_get xs j) refl
  where
    go : (o : Option _) → slice_get xs j ≡ o → (j' : ℕ) × (x : _) × (suc j ≡ j' + 1) × (slice_get xs j' ≡ Some x) × (f x ≡ y)
    go None at = absurd (let bad = sym (get_map f xs j ∙ ap (option_map f) at) ∙ e in cc)
    go (Some x) at = (j, x, omega arith, at, some_is (f x) y (sym (get_map f xs j ∙ ap (option_map f) at) ∙ e))

pub open_facts : {A : Type 0} (s : SystemWorld) (slots : List (Option (OpenCallState A))) (n k : ℕ) (c : OpenCallState A) → IsTogether s slots → n ≡ k + 1 → slice_get slots k ≡ Some (Some c) → OpenFacts s n c
open_facts s slots n k c h place at =
    let is_open = call_at s slots n k c h.calls place at in
    let known = h.world.open_calls n (open_call_of c) is_open in
    let found = got_map progress_of s.replicas c.replica known.replica known.stands in
    let r = found.1 in
    let position : r.position ≡ known.replica.position = ap (λ (x : model.Replica). x.position) found.4 in
    let begun = known.begun in
    let reached = h.world.positions c.replica known.replica known.stands in
    let count = log_count s in
    let is = h.replicas found.0 r found.3 in
    record {
      j = found.0;
      place = found.2;
      r = r;
      stands = found.3;
      is = is;
      begun = omega arith;
      reached = omega arith;
      follows = h.open_calls k c at;
      is_open = is_open;
      gone = ap (λ (x : Option model.Replica). nat_lt s.window (position_of x - c.snapshot)) known.stands ∙ ap (λ p. nat_lt s.window (p - c.snapshot)) (sym position) ∙ ap (λ w. nat_lt w (r.position - c.snapshot)) (sym is.stands.window);
    }

-- the rows that its replica keeps of its snapshot
pub rows_held : {A : Type 0} (s : SystemWorld) (slots : List (Option (OpenCallState A))) (r : Replica) (position : ℕ) → EntriesGiveRows → IsTogether s slots → IsReplicaOf s.catalogue s.window s.entries r → r.position ≤ length s.entries → position ≤ r.position
    → rows_kept r.window (beginning_of s.catalogue) (take r.position s.entries) position ≡ rows_after (setting_of s) (items_of s.entries) position
rows_held s slots r position law h is reached within =
    let w = setting_of s in
    let past = take r.position s.entries in
    let more = drop r.position s.entries in
    let are = entries_taken w s.entries r.position h.entries in
    let count = take_count s.entries r.position reached in
    let calls = items_count past in
    ap (λ window. rows_kept window (beginning_of s.catalogue) past position) is.stands.window
    ∙ law w past position are.begins are.log are.items are.runs (omega arith)
    ∙ sym (ap (λ (log : Log). rows_after w log position) (ap items_of (sym (take_drop s.entries r.position)) ∙ items_append past more) ∙ rows_grown w (items_of past) (items_of more) position (omega arith))

-- ---- Turn

pub turned : {A : Type 0} (s : SystemWorld) (slots : List (Option (OpenCallState A))) (n k : ℕ) (c new : OpenCallState A) (before : ℕ) (turn : TurnAnswer) (left : Option (OpenCallState A)) → IsTogether s slots → n ≡ k + 1 → (f : OpenFacts s n c)
    → AreTurns (setting_of s) (items_of s.entries) (nat_lt f.r.window (f.r.position - c.snapshot)) before (open_call_of c) turn (open_call_of new) → option_map open_call_of left ≡ cond (stays_open turn) (Some (open_call_of new)) None
    → IsExecution (setting_of s) (world_of s) n before (outcome_of turn) (world_of (with_slots s (slice_set slots k left)))
turned s slots n k c new before turn left h place f is leaves =
    subst (λ (x : World). IsExecution (setting_of s) (world_of s) n before (outcome_of turn) x)
    (ap (with_open_call (world_of s) n) (sym leaves) ∙ slot_set s slots n k left h.calls place)
    (execution_on (setting_of s) (world_of s) n (open_call_of c) (open_call_of new) before turn f.is_open
    (subst (λ (gone : Bool). AreTurns (setting_of s) (items_of s.entries) gone before (open_call_of c) turn (open_call_of new)) (sym f.gone) is))

-- ---- Order

pub put_back : {A : Type 0} (slots : List (Option (OpenCallState A))) (k : ℕ) (c : OpenCallState A) → slice_get slots k ≡ Some (Some c) → slice_set (slice_set slots k None) k (Some c) ≡ slots
put_back slots k c at = set_twice slots k None (Some c) ∙ set_same slots k (Some c) at

pub early : {A : Type 0} (s : SystemWorld) (n : ℕ) (c : OpenCallState A) → (f : OpenFacts s n c) → IsReplyOf (setting_of s) (items_of s.entries) (open_call_of c) None → IsStep (setting_of s) (world_of s) (Order n) (Refused NotAtExit) (world_of s)
early s n c f before = order_early (setting_of s) (world_of s) n (open_call_of c) f.is_open before

abbrev at_end : {A : Type 0} → SystemWorld → OpenCallState A → Type 0
at_end s c = c.turns ≡ (run_in (setting_of s) (items_of s.entries) (call_of c)).steps

taken_world : {A : Type 0} (s : SystemWorld) (slots : List (Option (OpenCallState A))) (n k : ℕ) → IsTogether s slots → n ≡ k + 1 → without_call (world_of s) n ≡ world_of (with_slots s (slice_set slots k None))
taken_world s slots n k h place = slot_set s slots n k None h.calls place

pub cancelled : {A : Type 0} (s : SystemWorld) (slots : List (Option (OpenCallState A))) (n k : ℕ) (c : OpenCallState A) (snapshot code : ℕ) → IsTogether s slots → n ≡ k + 1 → (f : OpenFacts s n c) → c.turns ≡ (run_in (setting_of s) (items_of s.entries) (call_of c)).steps
    → ((run_in (setting_of s) (items_of s.entries) (call_of c)).cancel_code ≡ Some code) × (snapshot ≡ c.snapshot) → IsStep (setting_of s) (world_of s) (Order n) (Cancelled snapshot code) (world_of (with_slots s (slice_set slots k None)))
cancelled s slots n k c snapshot code h place f end (is, at) =
    subst (λ (x : World). IsStep (setting_of s) (world_of s) (Order n) (Cancelled snapshot code) x) (taken_world s slots n k h place)
    (subst (λ (m : ℕ). IsStep (setting_of s) (world_of s) (Order n) (Cancelled m code) (without_call (world_of s) n)) (sym at)
    (order_cancelled (setting_of s) (world_of s) n (open_call_of c) code f.is_open end is))

pub read : {A : Type 0} (s : SystemWorld) (slots : List (Option (OpenCallState A))) (n k : ℕ) (c : OpenCallState A) (snapshot reply : ℕ) → IsTogether s slots → n ≡ k + 1 → (f : OpenFacts s n c) → c.turns ≡ (run_in (setting_of s) (items_of s.entries) (call_of c)).steps
    → (run_in (setting_of s) (items_of s.entries) (call_of c)).cancel_code ≡ None → len (run_in (setting_of s) (items_of s.entries) (call_of c)).writes ≡ 0 → snapshot ≡ c.snapshot → reply ≡ (run_in (setting_of s) (items_of s.entries) (call_of c)).reply
    → IsStep (setting_of s) (world_of s) (Order n) (Read snapshot reply) (world_of (with_slots s (slice_set slots k None)))
read s slots n k c snapshot reply h place f end kept nothing at replied =
    subst (λ (x : World). IsStep (setting_of s) (world_of s) (Order n) (Read snapshot reply) x) (taken_world s slots n k h place)
    (subst (λ (m : ℕ). IsStep (setting_of s) (world_of s) (Order n) (Read m reply) (without_call (world_of s) n)) (sym at)
    (subst (λ (m : ℕ). IsStep (setting_of s) (world_of s) (Order n) (Read c.snapshot m) (without_call (world_of s) n)) (sym replied)
    (order_read (setting_of s) (world_of s) n (open_call_of c) f.is_open end kept nothing)))

-- what is known of a call that is to be appended
pub record IsToAppend {A : Type 0} (s : SystemWorld) (c : OpenCallState A) (e : ExecutedCall) : Type 0 where
  pub end : c.turns ≡ (run_in (setting_of s) (items_of s.entries) (call_of c)).steps
  pub kept : (run_in (setting_of s) (items_of s.entries) (call_of c)).cancel_code ≡ None
  pub some : len (run_in (setting_of s) (items_of s.entries) (call_of c)).writes ≢ 0
  pub call : e.call ≡ call_of c
  pub carries : CarriesRun (setting_of s) (items_of s.entries) e
  pub fits : AreWrites s.catalogue.tables e.writes

pub full : {A : Type 0} (s : SystemWorld) (slots : List (Option (OpenCallState A))) (n k : ℕ) (c : OpenCallState A) (e : ExecutedCall) → IsTogether s slots → n ≡ k + 1 → (f : OpenFacts s n c) → IsToAppend s c e → max_calls ≤ length s.entries
    → IsStep (setting_of s) (world_of s) (Order n) (Refused LogFull) (world_of (with_slots s (slice_set slots k None)))
full s slots n k c e h place f a many =
    subst (λ (x : World). IsStep (setting_of s) (world_of s) (Order n) (Refused LogFull) x) (taken_world s slots n k h place)
    (order_full (setting_of s) (world_of s) n (open_call_of c) f.is_open a.end a.kept a.some (let count = log_count s in omega arith))

pub unappended : {A : Type 0} (s : SystemWorld) (slots : List (Option (OpenCallState A))) (n k : ℕ) (c : OpenCallState A) (e : ExecutedCall) → IsTogether s slots → n ≡ k + 1 → (f : OpenFacts s n c) → IsToAppend s c e → length s.entries < max_calls
    → IsStep (setting_of s) (world_of s) (Order n) (Refused step_refusal.NoMemory) (world_of (with_slots s (slice_set slots k None)))
unappended s slots n k c e h place f a few =
    subst (λ (x : World). IsStep (setting_of s) (world_of s) (Order n) (Refused step_refusal.NoMemory) x) (taken_world s slots n k h place)
    (order_without_memory (setting_of s) (world_of s) n (open_call_of c) f.is_open a.end a.kept a.some (let count = log_count s in omega arith))

abbrev pub with_entry : SystemWorld → Entry → SystemWorld
with_entry s e = record { catalogue = s.catalogue; window = s.window; entries = s.entries ++ e ∷ []; replicas = s.replicas; calls = s.calls }

pub appended : {A : Type 0} (s : SystemWorld) (slots : List (Option (OpenCallState A))) (n k : ℕ) (c : OpenCallState A) (e : ExecutedCall) (position : ℕ) → IsTogether s slots → n ≡ k + 1 → (f : OpenFacts s n c) → IsToAppend s c e → length s.entries < max_calls → position ≡ length s.entries + 1
    → IsStep (setting_of s) (world_of s) (Order n) (Ordered position) (world_of (with_entry (with_slots s (slice_set slots k None)) (CallEntry e)))
appended s slots n k c e position h place f a few is =
    let count = log_count s in
    let number : length (world_of s).log + 1 ≡ position = omega arith in
    let calls = ap (λ (x : World). x.calls) (taken_world s slots n k h place) in
    let log : (world_of s).log ++ CallItem (call_of c) ∷ [] ≡ items_of (s.entries ++ CallEntry e ∷ []) = ap (λ (x : Call). items_of s.entries ++ CallItem x ∷ []) (sym a.call) ∙ sym (items_append s.entries (CallEntry e ∷ [])) in
    let leaves : with_ordered (world_of s) n (call_of c) ≡ world_of (with_entry (with_slots s (slice_set slots k None)) (CallEntry e)) =
    ap (λ (l : Log). record { log = l; replicas = map progress_of s.replicas; calls = (without_call (world_of s) n).calls }) log
    ∙ ap (λ (x : List (Option OpenCall)). record { log = items_of (s.entries ++ CallEntry e ∷ []); replicas = map progress_of s.replicas; calls = x }) calls in
    subst (λ (x : World). IsStep (setting_of s) (world_of s) (Order n) (Ordered position) x) leaves
    (subst (λ (m : ℕ). IsStep (setting_of s) (world_of s) (Order n) (Ordered m) (with_ordered (world_of s) n (call_of c))) number
    (order_new (setting_of s) (world_of s) n (open_call_of c) f.is_open a.end a.kept a.some (omega arith)))

-- a replica has delivered a beginning of more entries too
pub replica_grown : {A : Type 0} (s : SystemWorld) (slots : List (Option (OpenCallState A))) (j : ℕ) (r : Replica) (e : Entry) → IsTogether s slots → slice_get s.replicas j ≡ Some r → IsReplicaOf s.catalogue s.window (s.entries ++ e ∷ []) r
replica_grown s slots j r e h at =
    let is = h.replicas j r at in
    let far = h.world.positions (j + 1) (progress_of r) (numbered_at (map progress_of s.replicas) (j + 1) j refl ∙ get_map progress_of s.replicas j ∙ ap (option_map progress_of) at) in
    let count = log_count s in
    subst (FollowsLog (setting_of s) r) (sym (take_first s.entries (e ∷ []) r.position (omega arith))) is

pub entry_entered : {A : Type 0} (s : SystemWorld) (slots : List (Option (OpenCallState A))) (n k : ℕ) (c : OpenCallState A) (e : ExecutedCall) → OneMore → IsTogether s slots → n ≡ k + 1 → (f : OpenFacts s n c) → IsToAppend s c e
    → IsWorld (setting_of s) (world_of (with_entry (with_slots s (slice_set slots k None)) (CallEntry e))) → IsTogether (with_entry (with_slots s (slice_set slots k None)) (CallEntry e)) (slice_set slots k None)
entry_entered s slots n k c e one h place f a world =
    let w = setting_of s in
    let begun = f.begun in
    let reached = f.reached in
    let count = log_count s in
    let snapshot : e.call.snapshot ≡ c.snapshot = ap (λ (x : Call). x.snapshot) a.call in
    let is_call = subst (λ (x : Call). IsCall w (items_of s.entries) x) (sym a.call) f.follows.is_call in
    let log = items_append s.entries (CallEntry e ∷ []) in
    record {
      entries = entries_snoc one w s.entries (CallEntry e) h.entries is_call (omega arith) a.carries;
      writes = all_snoc (λ x. AreWrites s.catalogue.tables (writes_in x)) s.entries (CallEntry e) h.writes a.fits;
      named = all_snoc IsNamed s.entries (CallEntry e) h.named tt;
      world = world;
      replicas = λ j r at. replica_grown s slots j r (CallEntry e) h at;
      calls = refl;
      open_calls = λ j d at. elim (get_set slots k j None) [
        | inl same ↦
            let there = sym same ∙ at in
            let facts = open_facts s slots (j + 1) j d h refl there in
            let near = facts.begun in
            let far = facts.reached in
            subst (λ (l : Log). Follows w l d) (sym log) (follows_grown w (items_of s.entries) (CallItem e.call ∷ []) d (omega arith) facts.follows)
        | inr now ↦ absurd (let bad = sym now.1 ∙ at in cc)
      ];
    }

-- ---- Begin

pub append_map : {X Y : Type 0} (f : X → Y) (xs : List X) (x : X) → map f (xs ++ x ∷ []) ≡ map f xs ++ f x ∷ []
append_map f [] x = refl
append_map f (y ∷ xs) x = ap (λ ys. f y ∷ ys) (append_map f xs x)

pub map_count : {X Y : Type 0} (f : X → Y) (xs : List X) → length (map f xs) ≡ length xs
map_count f [] = refl
map_count f (x ∷ xs) = ap suc (map_count f xs)

pub calls_are : {A : Type 0} (s : SystemWorld) (slots : List (Option (OpenCallState A))) → IsTogether s slots → length s.calls ≡ length slots
calls_are s slots h = ap (λ (x : List (Option OpenCall)). length x) h.calls ∙ map_count (λ (slot : Option (OpenCallState _)). option_map open_call_of slot) slots

-- how many calls and additions a world has had, in code
pub calls_counted : {A : Type 0} (h : Inside A) → IsConsistent h → call_count (world_of (system_of h)) ≡ length h.calls.items + h.additions
calls_counted h is =
    let slots = map_count (λ slot. option_map (λ b. b.value) slot) h.calls.items in
    let calls = calls_are (system_of h) (call_slots h) is.together in
    let additions = is.additions in
    omega arith

pub few_calls : {A : Type 0} (h : Inside A) (n : ℕ) → IsConsistent h → n ≡ vec_len h.calls → n + h.additions < max_calls → call_count (world_of (system_of h)) < max_calls
few_calls h n is count few = let counted = calls_counted h is in let items = h.calls.ok.0 in omega arith

pub begins : {A : Type 0} (s : SystemWorld) (slots : List (Option (OpenCallState A))) (r k p : ℕ) (args : List ℕ) (request : Option RequestId) (old : Replica) (q : StoredProcedure) (c : OpenCallState A) (number : ℕ) → IsTogether s slots → r ≡ k + 1 → slice_get s.replicas k ≡ Some old → admission args request (by_number (procedures_after (setting_of s) (world_of s).log old.position) p) ≡ Ok q
    → call_count (world_of s) < max_calls → number ≡ length slots + 1 → open_call_of c ≡ record { replica = r; call = record { number = number; procedure = p; args = args; snapshot = old.position; request = request }; turns = 0 }
    → IsStep (setting_of s) (world_of s) (Begin r p args request) (Begun number old.position) (world_of (with_slots s (slots ++ Some c ∷ [])))
begins s slots r k p args request old q c number h place at admitted few is same =
    let count = calls_are s slots h in
    let n : length s.calls + 1 ≡ number = omega arith in
    let entered : s.calls ++ Some (record { replica = r; call = new_call (world_of s) p args request old.position; turns = 0 }) ∷ [] ≡ open_calls_of (slots ++ Some c ∷ []) =
    ap (λ (m : ℕ). s.calls ++ Some (record { replica = r; call = record { number = m; procedure = p; args = args; snapshot = old.position; request = request }; turns = 0 }) ∷ []) n
    ∙ ap (λ (o : OpenCall). s.calls ++ Some o ∷ []) (sym same) ∙ ap (λ (calls : List (Option OpenCall)). calls ++ Some (open_call_of c) ∷ []) h.calls ∙ sym (append_map (λ (slot : Option (OpenCallState _)). option_map open_call_of slot) slots (Some c)) in
    let leaves = ap (λ (calls : List (Option OpenCall)). record { log = items_of s.entries; replicas = map progress_of s.replicas; calls = calls }) entered in
    subst (λ (x : World). IsStep (setting_of s) (world_of s) (Begin r p args request) (Begun number old.position) x) leaves
    (subst (λ (m : ℕ). IsStep (setting_of s) (world_of s) (Begin r p args request) (Begun m old.position) (with_begun (world_of s) r (new_call (world_of s) p args request old.position))) n
    (begin_new (setting_of s) (world_of s) r p args request (progress_of old) q (numbered_at (map progress_of s.replicas) r k place ∙ get_map progress_of s.replicas k ∙ ap (option_map progress_of) at) admitted few))

pub call_entered : {A : Type 0} (s : SystemWorld) (slots : List (Option (OpenCallState A))) (c : OpenCallState A) → IsTogether s slots → Follows (setting_of s) (items_of s.entries) c → IsWorld (setting_of s) (world_of (with_slots s (slots ++ Some c ∷ []))) → IsTogether (with_slots s (slots ++ Some c ∷ [])) (slots ++ Some c ∷ [])
call_entered s slots c h follows = calls_changed s slots (slots ++ Some c ∷ []) h (λ j d e. elim (get_snoc slots (Some c) j (Some d) e) [
  | inl there ↦ h.open_calls j d there
  | inr now ↦ subst (λ x. Follows (setting_of s) (items_of s.entries) x) (some_is c d now) follows
])

-- ---- at a replica's store

pub call_replica : {A : Type 0} (s : SystemWorld) (n : ℕ) (c : OpenCallState A) (f : OpenFacts s n c) (k : ℕ) (r : Replica) → k ≡ c.replica - 1 → k < length s.replicas → r ≡ get_or s.replicas k r → r ≡ f.r
call_replica s n c f k r is lt e =
    let place = f.place in
    let same : k ≡ f.j = omega arith in
    same_item s.replicas k r f.r (get_is s.replicas k r lt e) (ap (slice_get s.replicas) same ∙ f.stands)

-- its procedure is among those of its replica today
pub procedure_there : {A : Type 0} {slots : List (Option (OpenCallState A))} (s : SystemWorld) (n : ℕ) (c : OpenCallState A) (f : OpenFacts s n c) → IsTogether s slots → by_number (procedures_after (setting_of s) (world_of s).log f.r.position) c.procedure ≡ Some f.follows.is_call.procedure
procedure_there s n c f h =
    let count = log_count s in
    let reached = f.reached in
    procedure_stays (setting_of s) (items_of s.entries) c.snapshot f.r.position c.procedure f.follows.is_call.procedure h.entries.log f.begun (omega arith) f.follows.is_call.known

pub can_go_on : {A : Type 0} (s : SystemWorld) (slots : List (Option (OpenCallState A))) (n : ℕ) (c : OpenCallState A) (f : OpenFacts s n c) (accepted : Procedure) (answers_from : Rows → Type 0) → EntriesGiveRows → ProceduresFollow → IsTogether s slots
    → Some accepted ≡ option_map (λ l. l.accepted) (listed_by_number f.r.procedures c.procedure) → ((base : Beginning) (entries : List Entry) → StandsFor base f.r entries → answers_from (rows_kept f.r.window base entries c.snapshot))
    → CanGoOn (setting_of s) (items_of s.entries) accepted answers_from c
can_go_on s slots n c f accepted answers_from law follow h e answers =
    let p = known (accepted_of s.catalogue.tables) (by_number (procedures_after (setting_of s) (world_of s).log f.r.position) c.procedure) accepted (e ∙ found_at s slots f.j c.procedure f.r follow h f.stands) in
    record {
      follows = f.follows;
      program = p.2 ∙ ap (accepted_of s.catalogue.tables) (some_is p.0 f.follows.is_call.procedure (sym p.1 ∙ procedure_there s n c f h));
      answers = subst answers_from (rows_held s slots f.r c.snapshot law h f.is f.reached f.begun) (answers (beginning_of s.catalogue) (take f.r.position s.entries) f.is.stands.delivered);
    }

pub set_count : {X : Type 0} (xs : List X) (k : ℕ) (x : X) → length (slice_set xs k x) ≡ length xs
set_count [] k x = refl
set_count (y ∷ xs) zero x = refl
set_count (y ∷ xs) (suc k) x = ap suc (set_count xs k x)

-- ---- Order, by what became of the entry

abbrev pub with_entries : SystemWorld → List Entry → SystemWorld
with_entries s entries = record { catalogue = s.catalogue; window = s.window; entries = entries; replicas = s.replicas; calls = s.calls }

pub append_steps : {A : Type 0} (s : SystemWorld) (slots : List (Option (OpenCallState A))) (n k : ℕ) (c : OpenCallState A) (e : ExecutedCall) (outcome : Outcome) (new : List Entry) → IsTogether s slots → n ≡ k + 1 → (f : OpenFacts s n c) → IsToAppend s c e → IsAppended s.entries (CallEntry e) outcome new
    → IsStep (setting_of s) (world_of s) (Order n) outcome (world_of (with_entries (with_slots s (slice_set slots k None)) new))
append_steps s slots n k c e (Ordered position) new h place f a is =
    subst (λ (xs : List Entry). IsStep (setting_of s) (world_of s) (Order n) (Ordered position) (world_of (with_entries (with_slots s (slice_set slots k None)) xs))) (sym is.2) (appended s slots n k c e position h place f a is.0 is.1)
append_steps s slots n k c e (Refused LogFull) new h place f a is =
    subst (λ (xs : List Entry). IsStep (setting_of s) (world_of s) (Order n) (Refused LogFull) (world_of (with_entries (with_slots s (slice_set slots k None)) xs))) (sym is.1) (full s slots n k c e h place f a is.0)
append_steps s slots n k c e (Refused step_refusal.NoMemory) new h place f a is =
    subst (λ (xs : List Entry). IsStep (setting_of s) (world_of s) (Order n) (Refused step_refusal.NoMemory) (world_of (with_entries (with_slots s (slice_set slots k None)) xs))) (sym is.1) (unappended s slots n k c e h place f a is.0)
append_steps s slots n k c e (Refused NoReplica) new h place f a is = absurd is
append_steps s slots n k c e (Refused NoProcedure) new h place f a is = absurd is
append_steps s slots n k c e (Refused ArgumentsLength) new h place f a is = absurd is
append_steps s slots n k c e (Refused NoCall) new h place f a is = absurd is
append_steps s slots n k c e (Refused NotAtExit) new h place f a is = absurd is
append_steps s slots n k c e (Refused NothingToDeliver) new h place f a is = absurd is
append_steps s slots n k c e (Refused ReplicaStopped) new h place f a is = absurd is
append_steps s slots n k c e (Refused TooManyCalls) new h place f a is = absurd is
append_steps s slots n k c e (Begun x y) new h place f a is = absurd is
append_steps s slots n k c e More new h place f a is = absurd is
append_steps s slots n k c e (Exit x) new h place f a is = absurd is
append_steps s slots n k c e Stale new h place f a is = absurd is
append_steps s slots n k c e NoMemory new h place f a is = absurd is
append_steps s slots n k c e (Read x y) new h place f a is = absurd is
append_steps s slots n k c e (Cancelled x y) new h place f a is = absurd is
append_steps s slots n k c e (Delivered x y) new h place f a is = absurd is
append_steps s slots n k c e (Rebuilt x) new h place f a is = absurd is
append_steps s slots n k c e (Refused ArgumentsLimit) new h place f a is = absurd is
append_steps s slots n k c e (Refused (ProgramRefused fault)) new h place f a is = absurd is
append_steps s slots n k c e (Refused NameShape) new h place f a is = absurd is
append_steps s slots n k c e (Refused ZeroInRequest) new h place f a is = absurd is
append_steps s slots n k c e (Added x) new h place f a is = absurd is

-- the entries afterwards
left_by : (s : SystemWorld) (e : ExecutedCall) (outcome : Outcome) (new : List Entry) → IsAppended s.entries (CallEntry e) outcome new → (new ≡ s.entries) ⊎ (new ≡ s.entries ++ CallEntry e ∷ [])
left_by s e (Ordered position) new is = inr is.2
left_by s e (Refused LogFull) new is = inl is.1
left_by s e (Refused step_refusal.NoMemory) new is = inl is.1
left_by s e (Refused NoReplica) new is = absurd is
left_by s e (Refused NoProcedure) new is = absurd is
left_by s e (Refused ArgumentsLength) new is = absurd is
left_by s e (Refused NoCall) new is = absurd is
left_by s e (Refused NotAtExit) new is = absurd is
left_by s e (Refused NothingToDeliver) new is = absurd is
left_by s e (Refused ReplicaStopped) new is = absurd is
left_by s e (Refused TooManyCalls) new is = absurd is
left_by s e (Begun x y) new is = absurd is
left_by s e More new is = absurd is
left_by s e (Exit x) new is = absurd is
left_by s e Stale new is = absurd is
left_by s e NoMemory new is = absurd is
left_by s e (Read x y) new is = absurd is
left_by s e (Cancelled x y) new is = absurd is
left_by s e (Delivered x y) new is = absurd is
left_by s e (Rebuilt x) new is = absurd is
left_by s e (Refused ArgumentsLimit) new is = absurd is
left_by s e (Refused (ProgramRefused fault)) new is = absurd is
left_by s e (Refused NameShape) new is = absurd is
left_by s e (Refused ZeroInRequest) new is = absurd is
left_by s e (Added x) new is = absurd is

pub appended_together : {A : Type 0} (s : SystemWorld) (slots : List (Option (OpenCallState A))) (n k : ℕ) (c : OpenCallState A) (e : ExecutedCall) (outcome : Outcome) (new : List Entry) → OneMore → IsTogether s slots → n ≡ k + 1 → (f : OpenFacts s n c) → IsToAppend s c e → IsAppended s.entries (CallEntry e) outcome new
    → IsWorld (setting_of s) (world_of (with_entries (with_slots s (slice_set slots k None)) new)) → IsTogether (with_entries (with_slots s (slice_set slots k None)) new) (slice_set slots k None)
appended_together s slots n k c e outcome new one h place f a is world = elim (left_by s e outcome new is) [
  | inl same ↦
      subst (λ (xs : List Entry). IsTogether (with_entries (with_slots s (slice_set slots k None)) xs) (slice_set slots k None)) (sym same)
      (slot_changed s slots k None h (λ d bad. absurd cc) (subst (λ (xs : List Entry). IsWorld (setting_of s) (world_of (with_entries (with_slots s (slice_set slots k None)) xs))) same world))
  | inr more ↦
      subst (λ (xs : List Entry). IsTogether (with_entries (with_slots s (slice_set slots k None)) xs) (slice_set slots k None)) (sym more)
      (entry_entered s slots n k c e one h place f a (subst (λ (xs : List Entry). IsWorld (setting_of s) (world_of (with_entries (with_slots s (slice_set slots k None)) xs))) more world))
]

-- ---- the same, of what the code has in hand

pub can_turn : {A : Type 0} (s : SystemWorld) (slots : List (Option (OpenCallState A))) (n : ℕ) (c : OpenCallState A) (f : OpenFacts s n c) (accepted : Procedure) (answers_from : Rows → Type 0) (r : Replica) (snapshot : ℕ) (d b : OpenCallState A) → EntriesGiveRows → ProceduresFollow → IsTogether s slots
    → r ≡ f.r → snapshot ≡ c.snapshot → d ≡ c → b ≡ c → Some accepted ≡ option_map (λ l. l.accepted) (listed_by_number r.procedures b.procedure)
    → ((base : Beginning) (entries : List Entry) → StandsFor base r entries → answers_from (rows_kept r.window base entries snapshot)) → CanGoOn (setting_of s) (items_of s.entries) accepted answers_from d
can_turn s slots n c f accepted answers_from r snapshot d b law follow h same at is own e answers =
    subst (λ (x : OpenCallState _). CanGoOn (setting_of s) (items_of s.entries) accepted answers_from x) (sym is)
    (can_go_on s slots n c f accepted answers_from law follow h
    (e ∙ ap (λ (x : OpenCallState _). option_map (λ l. l.accepted) (listed_by_number r.procedures x.procedure)) own ∙ ap (λ (x : Replica). option_map (λ l. l.accepted) (listed_by_number x.procedures c.procedure)) same)
    (subst (λ (m : ℕ). (base : Beginning) (entries : List Entry) → StandsFor base f.r entries → answers_from (rows_kept f.r.window base entries m)) at
    (subst (λ (x : Replica). (base : Beginning) (entries : List Entry) → StandsFor base x entries → answers_from (rows_kept x.window base entries snapshot)) same answers)))

pub turn_steps : {A : Type 0} (s : SystemWorld) (slots : List (Option (OpenCallState A))) (n k : ℕ) (c new : OpenCallState A) (f : OpenFacts s n c) (before : ℕ) (turn : TurnAnswer) (left : Option (OpenCallState A)) (gone : Bool) (r : Replica) (snapshot : ℕ) (d : OpenCallState A) → IsTogether s slots → n ≡ k + 1
    → r ≡ f.r → snapshot ≡ c.snapshot → d ≡ c → gone ≡ nat_lt r.window (r.position - snapshot) → AreTurns (setting_of s) (items_of s.entries) gone before (open_call_of d) turn (open_call_of new) → option_map open_call_of left ≡ cond (stays_open turn) (Some (open_call_of new)) None
    → IsExecution (setting_of s) (world_of s) n before (outcome_of turn) (world_of (with_slots s (slice_set slots k left)))
turn_steps s slots n k c new f before turn left gone r snapshot d h place same at is e t leaves =
    let now : gone ≡ nat_lt f.r.window (f.r.position - c.snapshot) = e ∙ ap (λ (x : Replica). nat_lt x.window (x.position - snapshot)) same ∙ ap (λ m. nat_lt f.r.window (f.r.position - m)) at in
    turned s slots n k c new before turn left h place f
    (subst (λ (b : Bool). AreTurns (setting_of s) (items_of s.entries) b before (open_call_of c) turn (open_call_of new)) now
    (subst (λ (x : OpenCallState _). AreTurns (setting_of s) (items_of s.entries) gone before (open_call_of x) turn (open_call_of new)) is t)) leaves

-- a call that was taken out of its place and can go on, at its replica as code looks it up
pub record CanTurn {A : Type 0} (s : SystemWorld) (n : ℕ) (c : OpenCallState A) (accepted : Procedure) (answers_from : Rows → Type 0) (r : Replica) (d : OpenCallState A) : Type 0 where
  pub facts : OpenFacts s n c
  pub same : r ≡ facts.r
  pub can : CanGoOn (setting_of s) (items_of s.entries) accepted answers_from d

-- its replica, looked up by the call as it is in hand
pub held_replica : {A : Type 0} (s : SystemWorld) (n : ℕ) (c : OpenCallState A) (f : OpenFacts s n c) (r : Replica) (d : OpenCallState A) → d ≡ c → r ≡ get_or s.replicas (d.replica - 1) r → r ≡ f.r
held_replica s n c f r d is index =
    let at = ap (λ (x : OpenCallState _). x.replica) is in
    let place = f.place in
    let lt = get_lt s.replicas f.j f.r f.stands in
    call_replica s n c f (d.replica - 1) r (omega arith) (omega arith) index

pub can_turn_held : {A : Type 0} (s : SystemWorld) (slots : List (Option (OpenCallState A))) (n k : ℕ) (c : OpenCallState A) (accepted : Procedure) (answers_from : Rows → Type 0) (r : Replica) (procedures : List ListedProcedure) (by_replica by_procedure by_snapshot d : OpenCallState A)
    → EntriesGiveRows → ProceduresFollow → IsTogether s slots → n ≡ k + 1 → slice_get slots k ≡ Some (Some c) → by_replica ≡ c → by_procedure ≡ c → by_snapshot ≡ c → d ≡ c
    → r ≡ get_or s.replicas (by_replica.replica - 1) r → procedures ≡ r.procedures → Some accepted ≡ option_map (λ l. l.accepted) (listed_by_number procedures by_procedure.procedure)
    → ((base : Beginning) (entries : List Entry) → StandsFor base r entries → answers_from (rows_kept r.window base entries by_snapshot.snapshot)) → CanTurn s n c accepted answers_from r d
can_turn_held s slots n k c accepted answers_from r procedures by_replica by_procedure by_snapshot d law follow h place at replica_is procedure_is snapshot_is is index held found answers =
    let f = open_facts s slots n k c h place at in
    let same = held_replica s n c f r by_replica replica_is index in
    record {
      facts = f;
      same = same;
      can = can_turn s slots n c f accepted answers_from r by_snapshot.snapshot d by_procedure law follow h same (ap (λ (x : OpenCallState _). x.snapshot) snapshot_is) is procedure_is (found ∙ in_procedures by_procedure.procedure procedures r.procedures held) answers;
    }

-- its turns, as code takes them and leaves its place
pub turns_taken : {A : Type 0} (s : SystemWorld) (slots left : List (Option (OpenCallState A))) (n k : ℕ) (c new : OpenCallState A) (f : OpenFacts s n c) (before : ℕ) (turn : TurnAnswer) (outcome : Outcome) (x : Option (OpenCallState A)) (gone : Bool) (r : Replica) (d e : OpenCallState A) → IsTogether s slots → n ≡ k + 1
    → r ≡ f.r → d ≡ c → e ≡ c → gone ≡ nat_lt r.window (r.position - d.snapshot) → AreTurns (setting_of s) (items_of s.entries) gone before (open_call_of e) turn (open_call_of new) → option_map open_call_of x ≡ cond (stays_open turn) (Some (open_call_of new)) None
    → outcome ≡ outcome_of turn → left ≡ slice_set slots k x → IsExecution (setting_of s) (world_of s) n before outcome (world_of (with_slots s left))
turns_taken s slots left n k c new f before turn outcome x gone r d e h place same snapshot_is is went are leaves told put =
    subst (λ (o : Outcome). IsExecution (setting_of s) (world_of s) n before o (world_of (with_slots s left))) (sym told)
    (subst (λ xs. IsExecution (setting_of s) (world_of s) n before (outcome_of turn) (world_of (with_slots s xs))) (sym put)
    (turn_steps s slots n k c new f before turn x gone r d.snapshot e h place same (ap (λ (y : OpenCallState _). y.snapshot) snapshot_is) is went are leaves))

-- ---- a call at its end

pub record EndedCall {A : Type 0} (s : SystemWorld) (n : ℕ) (c : OpenCallState A) (reply : Option ℕ) : Type 0 where
  pub facts : OpenFacts s n c
  pub end : IsReplyOf (setting_of s) (items_of s.entries) (open_call_of c) reply

-- the reply of the call as it is in hand
pub ended_call : {A : Type 0} (s : SystemWorld) (slots : List (Option (OpenCallState A))) (n k : ℕ) (c d : OpenCallState A) (reply : Option ℕ) → IsTogether s slots → n ≡ k + 1 → slice_get slots k ≡ Some (Some c) → d ≡ c
    → ((w : Setting) (log : Log) → Follows w log d → IsReplyOf w log (open_call_of d) reply) → EndedCall s n c reply
ended_call s slots n k c d reply h place at is run =
    let f = open_facts s slots n k c h place at in
    record {
      facts = f;
      end = subst (λ (x : OpenCallState _). Follows (setting_of s) (items_of s.entries) x → IsReplyOf (setting_of s) (items_of s.entries) (open_call_of x) reply) is (run (setting_of s) (items_of s.entries)) f.follows;
    }

-- its place is there still
pub place_there : {A X : Type 0} (slots : List (Option (OpenCallState A))) (k : ℕ) (c : OpenCallState A) (of : X → Option (OpenCallState A)) (items : List X) → slice_get slots k ≡ Some (Some c) → map of items ≡ slice_set slots k None → k < length items
place_there slots k c of items at taken =
    let lt = get_lt slots k (Some c) at in
    let same = ap (λ (xs : List (Option (OpenCallState _))). length xs) taken in
    let new = map_count of items in
    let count = set_count slots k None in
    omega arith

-- one turn is as many
pub one_turn : (w : Setting) (log : Log) (gone : Bool) (o : OpenCall) (turn : TurnAnswer) (n : OpenCall) → IsTurn w log gone o turn n → AreTurns w log gone 0 o turn n
one_turn w log gone o turn n h =
    let none : o.turns ≡ o.turns + 0 = omega arith in
    (λ j lt. absurd (omega (arith, lt)), subst (λ (m : ℕ). IsTurn w log gone (record { replica = o.replica; call = o.call; turns = m }) turn n) none h)

-- an answer other than that there is more is told as such
pub ends_as : (turn : TurnAnswer) → turn ≢ answer.More → outcome_of turn ≢ More
ends_as answer.More apart e = apart refl
ends_as (answer.Exit reply) apart e = cc
ends_as answer.Stale apart e = cc
ends_as answer.NoMemory apart e = cc

-- what is found for it at its replica
pub found_here : {A : Type 0} (s : SystemWorld) (slots : List (Option (OpenCallState A))) (n : ℕ) (c : OpenCallState A) (f : OpenFacts s n c) (r : Replica) (held : List ListedProcedure) (number : ℕ) → ProceduresFollow → IsTogether s slots → r ≡ f.r → held ≡ r.procedures → number ≡ c.procedure
    → option_map (λ l. l.accepted) (listed_by_number held number) ≡ Some (accepted_of s.catalogue.tables f.follows.is_call.procedure)
found_here s slots n c f r held number follow h same is at =
    in_procedures number held r.procedures is
    ∙ ap (λ (x : Replica). option_map (λ l. l.accepted) (listed_by_number x.procedures number)) same
    ∙ ap (λ (m : ℕ). option_map (λ l. l.accepted) (listed_by_number f.r.procedures m)) at
    ∙ found_at s slots f.j c.procedure f.r follow h f.stands
    ∙ ap (option_map (accepted_of s.catalogue.tables)) (procedure_there s n c f h)

-- ---- one call more among the entries in code

pub one_more_for : {A : Type 0} (tables : Tables) (xs ys : List (LogEntry A)) (e : ExecutedCall) → (ys ≡ xs) ⊎ (ys ≡ xs ++ LogCall e ∷ []) → AllByRecursion (IsForTables tables) xs → AllByRecursion (IsForTables tables) ys
one_more_for tables xs ys e (inl same) all = subst (AllByRecursion (IsForTables tables)) (sym same) all
one_more_for tables xs ys e (inr more) all = subst (AllByRecursion (IsForTables tables)) (sym more) (all_snoc (IsForTables tables) xs (LogCall e) all tt)

count_call : {A : Type 0} (xs : List (LogEntry A)) (e : ExecutedCall) → addition_count (items_of (entries_of (xs ++ LogCall e ∷ []))) ≡ addition_count (items_of (entries_of xs))
count_call [] e = refl
count_call (LogCall x ∷ xs) e = count_call xs e
count_call (LogAddition p ∷ xs) e = ap (λ (n : ℕ). 1 + n) (count_call xs e)

pub same_additions : {A : Type 0} (xs ys : List (LogEntry A)) (e : ExecutedCall) → (ys ≡ xs) ⊎ (ys ≡ xs ++ LogCall e ∷ []) → addition_count (items_of (entries_of ys)) ≡ addition_count (items_of (entries_of xs))
same_additions xs ys e (inl same) = ap (λ zs. addition_count (items_of (entries_of zs))) same
same_additions xs ys e (inr more) = ap (λ zs. addition_count (items_of (entries_of zs))) more ∙ count_call xs e
