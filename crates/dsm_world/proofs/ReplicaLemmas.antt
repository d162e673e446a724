-- Steps of a replica: what they answer by the definitions, and that all still fits together.
use Rattle.std.proofs.Common.{◌≡◌, ◌⊎◌, get_or, nat_lt, ℕ, zero, suc, ◌+◌, ◌<◌, ◌≤◌, true, false, List, [], ◌∷◌, ◌++◌, length, map, take, drop, slice_get, slice_set, vec_len, Option, Some, None, IsSome, option_map, refl, sym, ap, subst, ◌∙◌, arith, inl, inr}
use Rattle.std.proofs.lemmas.Bool.Decides.{nat_tests}
use Rattle.schema.specs.Rows.{AreWrites}
use Rattle.rows_mv.specs.Versions.{HaveTables}
use Rattle.catalogue.specs.Stored.{ListedProcedure, AreForTables, listed_by_number, stored_procedures}
use Rattle.std.specs.List.{AllByRecursion}
use Rattle.log_entry.specs.declared.entry.Entry.{Entry as LogEntry}
use Rattle.log_entry.specs.Kind.{entry_of}
use Rattle.replica.specs.Replica.{Replica, StandsFor, StandsIn, AreEntriesOf, FollowsLog, IsForTables, IsNamed, entries_of, writes_in, HasDelivered, HasStopped}
use Rattle.log_model.specs.declared.verdict.Verdict.{Verdict}
use Rattle.dsm_model.specs.declared.outcome.StepRefusal.TheVariants.{NothingToDeliver, ReplicaStopped, NoMemory}
use Rattle.dsm_model.specs.declared.outcome.Outcome.{Outcome}
use Rattle.dsm_model.specs.declared.outcome.Outcome.TheVariants.{Delivered, Rebuilt, Refused}
use Rattle.log_model.specs.Log.{Catalogue, Setting, Log, IsPlaced, by_number, procedures_after, verdict_of}
use Rattle.log_model.specs.Entries.{Entry, item_of, items_of}
use Rattle.dsm_model.specs.World as model
use Rattle.dsm_model.specs.World.{World, Step, Deliver, Rebuild, numbered, with_replica, max_calls, IsStep}
use Rattle.dsm_model.specs.Sound.{IsGiven, IsWorld}
use Rattle.world_calls.specs.declared.open_call.OpenCall.{OpenCall as OpenCallState}
use Rattle.log_model.proofs.GrowthLemmas.{procedures_grown}
use Rattle.catalogue.specs.Catalogue.{beginning_of, accepted_of}
use Rattle.catalogue.proofs.HeldLemmas.{numbered_for}
use Rattle.dsm_world.specs.System.{SystemWorld, setting_of, progress_of, world_of}
use Rattle.dsm_world.specs.declared.world.World.TheInside.{Inside}
use Rattle.dsm_world.specs.Together.{IsReplicaOf, IsTogether}
use Rattle.dsm_world.specs.Fields.{system_of, call_slots, IsConsistent}
use Rattle.dsm_world.proofs.Numbered.{get_map, set_map, get_set, get_lt, numbered_map, numbered_at, with_numbered_at, numbered_none}
use Rattle.dsm_world.proofs.StepLemmas.{deliver_nothing, deliver_stopped, deliver_new, deliver_without_memory, rebuild_new}
use Rattle.replica.proofs.EntryLemmas.{take_all, take_next, take_drop, take_count, items_append, items_count, all_at, placed_at, entries_taken}

-- what laws of the model and of replicas say
abbrev pub Keeps : Type 0
Keeps = (w : Setting) (before : World) (step : Step) (outcome : Outcome) (after : World) → IsGiven w step outcome → IsStep w before step outcome after → IsWorld w before → IsWorld w after

abbrev pub VerdictsGrow : Type 0
VerdictsGrow = (w : Setting) (log more : Log) (d : ℕ) → d < length log → verdict_of w (log ++ more) (suc d) ≡ verdict_of w log (suc d)

abbrev pub HaveVerdicts : Type 0
HaveVerdicts = (w : Setting) (log : Log) (d : ℕ) → d < length log → IsSome (verdict_of w log (suc d))

abbrev pub NoneBeyond : Type 0
NoneBeyond = (w : Setting) (log : Log) (d : ℕ) → length log ≤ d → verdict_of w log (suc d) ≡ None

-- ---- one replica among the others

abbrev pub with_one : SystemWorld → ℕ → Replica → SystemWorld
with_one s k n = record { catalogue = s.catalogue; window = s.window; entries = s.entries; replicas = slice_set s.replicas k n; calls = s.calls }

pub replica_at : (s : SystemWorld) (r k : ℕ) (old : Replica) → r ≡ k + 1 → slice_get s.replicas k ≡ Some old → numbered (world_of s).replicas r ≡ Some (progress_of old)
replica_at s r k old e at = numbered_at (map progress_of s.replicas) r k e ∙ get_map progress_of s.replicas k ∙ ap (λ o. option_map progress_of o) at

world_with : (s : SystemWorld) (r k : ℕ) (new : Replica) (now : model.Replica) → r ≡ k + 1 → now ≡ progress_of new → with_replica (world_of s) r now ≡ world_of (with_one s k new)
world_with s r k new now e is =
    ap (λ (rs : List model.Replica). record { log = items_of s.entries; replicas = rs; calls = s.calls })
    (with_numbered_at (map progress_of s.replicas) r k now e ∙ ap (λ (x : model.Replica). slice_set (map progress_of s.replicas) k x) is ∙ sym (set_map progress_of s.replicas k new))

pub one_changed : {A : Type 0} (s : SystemWorld) (slots : List (Option (OpenCallState A))) (k : ℕ) (new : Replica) → IsTogether s slots → IsReplicaOf s.catalogue s.window s.entries new → IsWorld (setting_of s) (world_of (with_one s k new)) → IsTogether (with_one s k new) slots
one_changed s slots k new h is world = record {
  entries = h.entries;
  writes = h.writes;
  named = h.named;
  world = world;
  replicas = λ j r e. elim (get_set s.replicas k j new) [
    | inl same ↦ h.replicas j r (sym same ∙ e)
    | inr now ↦ subst (IsReplicaOf s.catalogue s.window s.entries) (some_is new r (sym now.1 ∙ e)) is
  ];
  calls = h.calls;
  open_calls = h.open_calls;
}
  where
    some_is : {X : Type 0} (a b : X) → Some a ≡ Some b → a ≡ b
    some_is a b e = cc

some_verdict : (o : Option Verdict) → IsSome o → (v : Verdict) × (o ≡ Some v)
some_verdict None h = absurd cc
some_verdict (Some v) h = (v, refl)

next_number : (w : Setting) (log : Log) (d : ℕ) (o : Option Verdict) → verdict_of w log (suc d) ≡ o → verdict_of w log (d + 1) ≡ o
next_number w log d o e = let same : d + 1 ≡ suc d = omega arith in ap (verdict_of w log) same ∙ e

pub log_count : (s : SystemWorld) → length (world_of s).log ≡ length s.entries
log_count s = items_count s.entries

-- ---- Deliver

pub none_to_deliver : (s : SystemWorld) (r k : ℕ) (old : Replica) → NoneBeyond → r ≡ k + 1 → slice_get s.replicas k ≡ Some old → length s.entries ≤ old.position → IsStep (setting_of s) (world_of s) (Deliver r) (Refused NothingToDeliver) (world_of s)
none_to_deliver s r k old none e at far =
    deliver_nothing (setting_of s) (world_of s) r (progress_of old) (replica_at s r k old e at)
    (next_number (setting_of s) (world_of s).log old.position None (none (setting_of s) (world_of s).log old.position (let count = log_count s in omega arith)))

some_to_deliver : (s : SystemWorld) (old : Replica) (e : Entry) → HaveVerdicts → slice_get s.entries old.position ≡ Some e → (v : Verdict) × (verdict_of (setting_of s) (world_of s).log (old.position + 1) ≡ Some v)
some_to_deliver s old e have at =
    let lt = get_lt s.entries old.position e at in
    let v = some_verdict (verdict_of (setting_of s) (world_of s).log (suc old.position)) (have (setting_of s) (world_of s).log old.position (let count = log_count s in omega arith)) in
    (v.0, next_number (setting_of s) (world_of s).log old.position (Some v.0) v.1)

pub stopped_before : {A : Type 0} (s : SystemWorld) (slots : List (Option (OpenCallState A))) (r k : ℕ) (old : Replica) (e : Entry) → HaveVerdicts → IsTogether s slots → r ≡ k + 1 → slice_get s.replicas k ≡ Some old → slice_get s.entries old.position ≡ Some e → old.stopped ≡ true
    → IsStep (setting_of s) (world_of s) (Deliver r) (Refused ReplicaStopped) (world_of s)
stopped_before s slots r k old e have h is at next stopped =
    let v = some_to_deliver s old e have next in
    deliver_stopped (setting_of s) (world_of s) r (progress_of old) v.0 (replica_at s r k old is at) v.1 stopped

-- the verdict of a delivery is that of the log
verdict_is : {A : Type 0} (s : SystemWorld) (slots : List (Option (OpenCallState A))) (k : ℕ) (old new : Replica) (e : Entry) (v : Verdict) → VerdictsGrow → IsTogether s slots → slice_get s.replicas k ≡ Some old → slice_get s.entries old.position ≡ Some e → HasDelivered old new e v
    → verdict_of (setting_of s) (world_of s).log (old.position + 1) ≡ Some v
verdict_is s slots k old new e v verdicts h at next d =
    let w = setting_of s in
    let p = old.position in
    let lt = get_lt s.entries p e next in
    let first = take_next s.entries p e next in
    let is = h.replicas k old at in
    let are = subst (λ (xs : List Entry). AreEntriesOf w xs) (sym first) (entries_taken w s.entries (suc p) h.entries) in
    let there = d.log_verdict w (take p s.entries) (sym is.stands.window) is.stands.delivered are in
    let at_next : new.position ≡ suc p = (let position = d.position in omega arith) in
    let count : length (items_of (take (suc p) s.entries)) ≡ suc p = items_count (take (suc p) s.entries) ∙ take_count s.entries (suc p) (omega arith) in
    let log : (world_of s).log ≡ items_of (take (suc p) s.entries) ++ items_of (drop (suc p) s.entries) =
    ap items_of (sym (take_drop s.entries (suc p))) ∙ items_append (take (suc p) s.entries) (drop (suc p) s.entries) in
    next_number w (world_of s).log p (Some v)
    (ap (λ (l : Log). verdict_of w l (suc p)) log ∙ verdicts w (items_of (take (suc p) s.entries)) (items_of (drop (suc p) s.entries)) p (omega arith)
    ∙ ap (λ (xs : List Entry). verdict_of w (items_of xs) (suc p)) (sym first) ∙ ap (verdict_of w (items_of (take p s.entries ++ e ∷ []))) (sym at_next) ∙ there)

pub delivered : {A : Type 0} (s : SystemWorld) (slots : List (Option (OpenCallState A))) (r k : ℕ) (old new : Replica) (e : Entry) (v : Verdict) → VerdictsGrow → IsTogether s slots → r ≡ k + 1 → slice_get s.replicas k ≡ Some old → slice_get s.entries old.position ≡ Some e → old.stopped ≡ false → HasDelivered old new e v
    → IsStep (setting_of s) (world_of s) (Deliver r) (Delivered (old.position + 1) v) (world_of (with_one s k new))
delivered s slots r k old new e v verdicts h is at next going d =
    let progress : record { position = old.position + 1; stopped = old.stopped } ≡ progress_of new = ap (λ n. record { position = n; stopped = old.stopped }) (sym d.position) ∙ ap (λ b. record { position = new.position; stopped = b }) (going ∙ sym d.running) in
    subst (λ (x : World). IsStep (setting_of s) (world_of s) (Deliver r) (Delivered (old.position + 1) v) x) (world_with s r k new _ is progress)
    (deliver_new (setting_of s) (world_of s) r (progress_of old) v (replica_at s r k old is at) (verdict_is s slots k old new e v verdicts h at next d) going)

-- a replica that has delivered so many of the entries
has_delivered : {A : Type 0} (s : SystemWorld) (slots : List (Option (OpenCallState A))) (r : Replica) (past : List Entry) → IsTogether s slots → past ≡ take r.position s.entries → StandsIn (setting_of s) r past → IsReplicaOf s.catalogue s.window s.entries r
has_delivered s slots r past h is stands = record {
  of_log = entries_taken (setting_of s) s.entries r.position h.entries;
  stands = subst (StandsIn (setting_of s) r) is stands;
}

pub delivered_replica : {A : Type 0} (s : SystemWorld) (slots : List (Option (OpenCallState A))) (k : ℕ) (old new : Replica) (e : Entry) (v : Verdict) → IsTogether s slots → slice_get s.replicas k ≡ Some old → slice_get s.entries old.position ≡ Some e → HasDelivered old new e v
    → ((past : List Entry) → StandsIn (setting_of s) old past → StandsIn (setting_of s) new (past ++ e ∷ [])) → IsReplicaOf s.catalogue s.window s.entries new
delivered_replica s slots k old new e v h at next d one_more =
    let position : suc old.position ≡ new.position = (let p = d.position in omega arith) in
    has_delivered s slots new (take old.position s.entries ++ e ∷ []) h (take_next s.entries old.position e next ∙ ap (λ n. take n s.entries) position) (one_more (take old.position s.entries) (h.replicas k old at).stands)

pub stops : {A : Type 0} (s : SystemWorld) (slots : List (Option (OpenCallState A))) (r k : ℕ) (old new : Replica) (e : Entry) → HaveVerdicts → IsTogether s slots → r ≡ k + 1 → slice_get s.replicas k ≡ Some old → slice_get s.entries old.position ≡ Some e → old.stopped ≡ false → HasStopped old new
    → IsStep (setting_of s) (world_of s) (Deliver r) (Refused NoMemory) (world_of (with_one s k new))
stops s slots r k old new e have h is at next going d =
    let v = some_to_deliver s old e have next in
    let progress : record { position = old.position; stopped = true } ≡ progress_of new = ap (λ n. record { position = n; stopped = true }) (sym d.position) ∙ ap (λ b. record { position = new.position; stopped = b }) (sym d.stopped) in
    subst (λ (x : World). IsStep (setting_of s) (world_of s) (Deliver r) (Refused NoMemory) x) (world_with s r k new _ is progress)
    (deliver_without_memory (setting_of s) (world_of s) r (progress_of old) v.0 (replica_at s r k old is at) v.1 going)

pub stopped_replica : {A : Type 0} (s : SystemWorld) (slots : List (Option (OpenCallState A))) (k : ℕ) (old new : Replica) → IsTogether s slots → slice_get s.replicas k ≡ Some old → HasStopped old new
    → ((past : List Entry) → StandsIn (setting_of s) old past → StandsIn (setting_of s) new past) → IsReplicaOf s.catalogue s.window s.entries new
stopped_replica s slots k old new h at d no_more =
    has_delivered s slots new (take old.position s.entries) h (ap (λ n. take n s.entries) (sym d.position)) (no_more (take old.position s.entries) (h.replicas k old at).stands)

-- what may be delivered next
pub next_entry_fits : {A : Type 0} (s : SystemWorld) (slots : List (Option (OpenCallState A))) (k : ℕ) (old : Replica) (e : Entry) → IsTogether s slots → slice_get s.replicas k ≡ Some old → slice_get s.entries old.position ≡ Some e
    → IsPlaced old.position (item_of e) × AreWrites s.catalogue.tables (writes_in e) × HaveTables s.catalogue.tables old.versions.tables × (old.position < max_calls) × IsNamed e
next_entry_fits s slots k old e h at next =
    let lt = get_lt s.entries old.position e next in
    let count = log_count s in
    let log = h.world.log_limit in
    let calls = h.world.calls_limit in (
      subst (λ (n : ℕ). IsPlaced n (item_of e)) (let same : 0 + old.position ≡ old.position = omega arith in same) (placed_at 0 s.entries old.position e h.entries.log next),
      all_at (λ x. AreWrites s.catalogue.tables (writes_in x)) s.entries old.position e h.writes next,
      (h.replicas k old at).stands.tables,
      omega arith,
      all_at IsNamed s.entries old.position e h.named next,
    )

-- ---- Rebuild

pub rebuilt : (s : SystemWorld) (r k : ℕ) (old new : Replica) → r ≡ k + 1 → slice_get s.replicas k ≡ Some old → StandsFor (beginning_of s.catalogue) new s.entries → new.stopped ≡ false
    → IsStep (setting_of s) (world_of s) (Rebuild r) (Rebuilt (length s.entries)) (world_of (with_one s k new))
rebuilt s r k old new is at stands going =
    let count = log_count s in
    let progress : record { position = length (world_of s).log; stopped = false } ≡ progress_of new =
    ap (λ n. record { position = n; stopped = false }) (count ∙ sym stands.position) ∙ ap (λ b. record { position = new.position; stopped = b }) (sym going) in
    subst (λ (n : ℕ). IsStep (setting_of s) (world_of s) (Rebuild r) (Rebuilt n) (world_of (with_one s k new))) count
    (subst (λ (x : World). IsStep (setting_of s) (world_of s) (Rebuild r) (Rebuilt (length (world_of s).log)) x) (world_with s r k new _ is progress)
    (rebuild_new (setting_of s) (world_of s) r (progress_of old) (replica_at s r k old is at)))

pub rebuilt_replica : {A : Type 0} (s : SystemWorld) (slots : List (Option (OpenCallState A))) (k : ℕ) (old new : Replica) → IsTogether s slots → slice_get s.replicas k ≡ Some old → StandsFor (beginning_of s.catalogue) new s.entries → new.window ≡ old.window → HaveTables s.catalogue.tables new.versions.tables → AreForTables s.catalogue.tables new.procedures
    → IsReplicaOf s.catalogue s.window s.entries new
rebuilt_replica s slots k old new h at stands window have for_tables =
    has_delivered s slots new s.entries h (sym (take_all s.entries new.position (let p = stands.position in omega arith)))
    (record { delivered = stands; window = window ∙ (h.replicas k old at).stands.window; tables = have; procedures = for_tables })

pub entries_are_few : {A : Type 0} (s : SystemWorld) (slots : List (Option (OpenCallState A))) → IsTogether s slots → length s.entries ≤ max_calls
entries_are_few s slots h = let count = log_count s in let log = h.world.log_limit in let calls = h.world.calls_limit in omega arith

-- ---- by index

pub get_is : {X : Type 0} (xs : List X) (k : ℕ) (x : X) → k < length xs → x ≡ get_or xs k x → slice_get xs k ≡ Some x
get_is [] k x lt e = absurd (omega arith)
get_is (y ∷ xs) zero x lt e = ap Some (sym e)
get_is (y ∷ xs) (suc k) x lt e = get_is xs k x (omega arith) e

pub no_replica : (s : SystemWorld) (r n : ℕ) → n ≡ length s.replicas → (r ≡ 0) ⊎ (n < r) → numbered (world_of s).replicas r ≡ None
no_replica s r n e out = numbered_map progress_of s.replicas r ∙ ap (option_map progress_of) (numbered_none s.replicas r (subst (λ (m : ℕ). (r ≡ 0) ⊎ (m < r)) e out))

pub same_item : {X : Type 0} (xs : List X) (k : ℕ) (a b : X) → slice_get xs k ≡ Some a → slice_get xs k ≡ Some b → a ≡ b
same_item xs k a b e f = some_is a b (sym e ∙ f)
  where
    some_is : {X : Type 0} (a b : X) → Some a ≡ Some b → a ≡ b
    some_is a b e = cc

pub no_further : (m n : ℕ) → false ≡ nat_lt m n → n ≤ m
no_further m n e = grind (arith, nat_tests)

pub has_reached : {A : Type 0} (s : SystemWorld) (slots : List (Option (OpenCallState A))) (k : ℕ) (old : Replica) → IsTogether s slots → slice_get s.replicas k ≡ Some old → old.position ≤ length s.entries
has_reached s slots k old h at =
    let far = h.world.positions (k + 1) (progress_of old) (replica_at s (k + 1) k old refl at) in
    let count = log_count s in
    omega arith

-- ---- procedures

pub unknown : {X Y : Type 0} (f : X → Y) (o : Option X) → None ≡ option_map f o → o ≡ None
unknown f None e = refl
unknown f (Some x) e = absurd cc

pub known : {X Y : Type 0} (f : X → Y) (o : Option X) (y : Y) → Some y ≡ option_map f o → (x : X) × (o ≡ Some x) × (y ≡ f x)
known f None y e = absurd cc
known f (Some x) y e = (x, refl, cc)

-- what the law of replicas says of procedures
abbrev pub ProceduresFollow : Type 0
ProceduresFollow = (w : Setting) (r : Replica) (entries : List Entry) → FollowsLog w r entries → stored_procedures r.procedures ≡ procedures_after w (items_of entries) r.position

-- a replica's procedures are those of the log at its position
pub procedures_held : {A : Type 0} (s : SystemWorld) (slots : List (Option (OpenCallState A))) (k : ℕ) (r : Replica) → ProceduresFollow → IsTogether s slots → slice_get s.replicas k ≡ Some r
    → stored_procedures r.procedures ≡ procedures_after (setting_of s) (world_of s).log r.position
procedures_held s slots k r law h at =
    let w = setting_of s in
    let is = h.replicas k r at in
    let reached = has_reached s slots k r h at in
    let past = take r.position s.entries in
    let more = drop r.position s.entries in
    let count = take_count s.entries r.position reached in
    let items = items_count past in
    let log = ap items_of (sym (take_drop s.entries r.position)) ∙ items_append past more in
    law w r past is
    ∙ sym (ap (λ (l : Log). procedures_after w l r.position) log ∙ procedures_grown w (items_of past) (items_of more) r.position (omega arith))

-- what is found among them under a number
pub found_at : {A : Type 0} (s : SystemWorld) (slots : List (Option (OpenCallState A))) (k number : ℕ) (r : Replica) → ProceduresFollow → IsTogether s slots → slice_get s.replicas k ≡ Some r
    → option_map (λ l. l.accepted) (listed_by_number r.procedures number) ≡ option_map (accepted_of s.catalogue.tables) (by_number (procedures_after (setting_of s) (world_of s).log r.position) number)
found_at s slots k number r law h at =
    numbered_for s.catalogue.tables number r.procedures (h.replicas k r at).stands.procedures
    ∙ ap (λ (ps : Catalogue). option_map (accepted_of s.catalogue.tables) (by_number ps number)) (procedures_held s slots k r law h at)

pub in_procedures : (number : ℕ) (a b : List ListedProcedure) → a ≡ b → option_map (λ l. l.accepted) (listed_by_number a number) ≡ option_map (λ l. l.accepted) (listed_by_number b number)
in_procedures number a b e = ap (λ (ls : List ListedProcedure). option_map (λ l. l.accepted) (listed_by_number ls number)) e

-- ---- entries in code

pub all_in_code : {A : Type 0} (P : Entry → Type 0) (xs : List (LogEntry A)) → AllByRecursion P (entries_of xs) → AllByRecursion (λ e. P (entry_of e)) xs
all_in_code P [] all = tt
all_in_code P (x ∷ xs) all = (all.0, all_in_code P xs all.1)

pub get_in_code : {A : Type 0} (xs : List (LogEntry A)) (k : ℕ) (e : LogEntry A) → slice_get xs k ≡ Some e → slice_get (entries_of xs) k ≡ Some (entry_of e)
get_in_code xs k e at = get_map entry_of xs k ∙ ap (λ o. option_map entry_of o) at

pub at_in_code : {X : Type 0} (xs items : List X) (n position : ℕ) (e : X) → items ≡ xs → n ≡ position → n < length items → e ≡ get_or items n e → slice_get xs position ≡ Some e
at_in_code xs items n position e same at lt is = ap (λ (ys : List _). slice_get ys position) (sym same) ∙ ap (slice_get items) (sym at) ∙ get_is items n e lt is

-- the next entry of a replica, as code looks both up, and what is known of both
pub record IsNextOf {A : Type 0} (h : Inside A) (k n : ℕ) (seen old : Replica) (e : LogEntry A) : Type 0 where
  pub at : slice_get h.replicas.items k ≡ Some old
  pub same : seen ≡ old
  pub position : n ≡ old.position
  pub next : slice_get (entries_of h.entries.items) old.position ≡ Some (entry_of e)
  pub placed : IsPlaced old.position (item_of (entry_of e))
  pub writes : AreWrites h.catalogue.tables (writes_in (entry_of e))
  pub tables : HaveTables h.catalogue.tables old.versions.tables
  pub few : old.position < max_calls
  pub named : IsNamed (entry_of e)
  pub own : IsForTables h.catalogue.tables e

pub next_of : {A : Type 0} (h : Inside A) (count k n : ℕ) (seen old : Replica) (items : List (LogEntry A)) (e : LogEntry A) → IsConsistent h
    → k < count → count ≡ vec_len h.replicas → seen ≡ get_or h.replicas.items k seen → old ≡ get_or h.replicas.items k old
    → items ≡ h.entries.items → n ≡ seen.position → n < length items → e ≡ get_or items n e → IsNextOf h k n seen old e
next_of h count k n seen old items e is lt counted seen_is old_is held position there found =
    let all = h.replicas.ok.0 in
    let first = get_is h.replicas.items k seen (omega arith) seen_is in
    let at = get_is h.replicas.items k old (omega arith) old_is in
    let same : seen ≡ old = same_item h.replicas.items k seen old first at in
    let reached : n ≡ old.position = position ∙ ap (λ (r : Replica). r.position) same in
    let logged = at_in_code h.entries.items items n old.position e held reached there found in
    let next = get_in_code h.entries.items old.position e logged in
    let (placed, writes, tables, few, named) = next_entry_fits (system_of h) (call_slots h) k old (entry_of e) is.together at next in
    record {
      at = at;
      same = same;
      position = reached;
      next = next;
      placed = placed;
      writes = writes;
      tables = tables;
      few = few;
      named = named;
      own = all_at (λ y. IsForTables h.catalogue.tables y) h.entries.items old.position e is.for_tables logged;
    }

-- the replica of a place, as code looks it up
pub held_at : {A : Type 0} (h : Inside A) (count k : ℕ) (old : Replica) → k < count → count ≡ vec_len h.replicas → old ≡ get_or h.replicas.items k old → slice_get h.replicas.items k ≡ Some old
held_at h count k old lt counted is = let all = h.replicas.ok.0 in get_is h.replicas.items k old (omega arith) is
