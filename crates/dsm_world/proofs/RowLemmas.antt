-- What a replica keeps, in words of the log's rows.
use Rattle.catalogue.specs.Catalogue.{beginning_of}
use Rattle.std.proofs.Common.{◌≡◌, ℕ, zero, suc, ◌≤◌, List, [], ◌∷◌, ◌++◌, length, take, drop, option_map, Option, Some, sym, ap, ◌∙◌, arith}
use Rattle.std.specs.FinMap.{entries}
use Rattle.schema.specs.Rows.{Key}
use Rattle.log_model.specs.InstalledWrites.{map_after}
use Rattle.log_model.specs.Log.{Beginning, Catalogue, Setting, Log, IsLog, rows_after}
use Rattle.log_model.specs.Entries.{Entry, items_of, CarryRuns, certified_entries_of, installed_from}
use Rattle.log_model.specs.Fit.{BeginsSafely, AreItems}
use Rattle.log_model.proofs.GrowthLemmas.{rows_grown}
use Rattle.dsm_model.specs.World.{Replica as ModelReplica, numbered}
use Rattle.replica.specs.Replica.{Replica, StandsFor, rows_kept}
use Rattle.replica.proofs.EntryLemmas.{take_drop, items_append, items_count, take_count, entries_taken}
use Rattle.dsm_world.specs.System.{SystemWorld, setting_of, world_of, progress_of, KeepsDelivered}
use Rattle.dsm_world.proofs.Numbered.{numbered_map}

-- the log is what was delivered, and the rest
pub log_is : (s : SystemWorld) (n : ℕ) → items_of s.entries ≡ items_of (take n s.entries) ++ items_of (drop n s.entries)
log_is s n = ap items_of (sym (take_drop s.entries n)) ∙ items_append (take n s.entries) (drop n s.entries)

-- what the law of entries says of rows
abbrev pub RowsSuffice : Type 0
RowsSuffice = (w : Setting) (entries : List Entry) (position : ℕ) → BeginsSafely w → IsLog (items_of entries) → AreItems w (items_of entries) → CarryRuns w entries → position ≤ length entries
    → map_after w.beginning.rows (installed_from 1 (certified_entries_of w.window w.beginning entries).certified) position ≡ rows_after w (items_of entries) position

taken_short : {X : Type 0} (xs : List X) (n : ℕ) → length (take n xs) ≤ length xs
taken_short xs zero = omega arith
taken_short [] (suc n) = omega arith
taken_short (x ∷ xs) (suc n) = let short = taken_short xs n in omega arith

pub position_within : (s : SystemWorld) (r : Replica) → KeepsDelivered s r → r.position ≤ length s.entries
position_within s r keeps =
    let position = keeps.delivered.position in
    let short = taken_short s.entries r.position in
    omega arith

-- the rows that a replica keeps of a position are the log's
pub rows_are : RowsSuffice → (s : SystemWorld) (r : Replica) (position : ℕ) → KeepsDelivered s r → position ≤ r.position
    → rows_kept r.window (beginning_of s.catalogue) (take r.position s.entries) position ≡ rows_after (setting_of s) (items_of s.entries) position
rows_are suffice s r position keeps reached =
    let w = setting_of s in
    let past = take r.position s.entries in
    let are = entries_taken w s.entries r.position keeps.entries in
    let count = take_count s.entries r.position (position_within s r keeps) in
    let calls = items_count past in
    ap (λ (n : ℕ). rows_kept n (beginning_of s.catalogue) past position) keeps.window
    ∙ suffice w past position are.begins are.log are.items are.runs (omega arith)
    ∙ sym (ap (λ (l : Log). rows_after w l position) (log_is s r.position) ∙ rows_grown w (items_of past) (items_of (drop r.position s.entries)) position (omega arith))

-- what a replica lists is the log's rows
pub rows_listed : RowsSuffice → (s : SystemWorld) (r : Replica) (items : List (Key × List ℕ)) → KeepsDelivered s r
    → ((base : Beginning) (past : List Entry) → StandsFor base r past → items ≡ entries (rows_kept r.window base past r.position))
    → items ≡ entries (rows_after (setting_of s) (items_of s.entries) r.position)
rows_listed suffice s r items keeps list =
    list (beginning_of s.catalogue) (take r.position s.entries) keeps.delivered ∙ ap entries (rows_are suffice s r r.position keeps (omega arith))

-- ---- the replica of the definitions

-- that of a replica is how far it has come
pub replica_of : (s : SystemWorld) (n : ℕ) (o : Option Replica) → numbered s.replicas n ≡ o → numbered (world_of s).replicas n ≡ option_map progress_of o
replica_of s n o at = numbered_map progress_of s.replicas n ∙ ap (λ (x : Option Replica). option_map progress_of x) at

one_progress : (a b : ModelReplica) → Some a ≡ Some b → a ≡ b
one_progress a b e = cc

pub same_position : (s : SystemWorld) (n : ℕ) (r : Replica) (m : ModelReplica) → numbered s.replicas n ≡ Some r → numbered (world_of s).replicas n ≡ Some m → r.position ≡ m.position
same_position s n r m at is = ap (λ (x : ModelReplica). x.position) (one_progress (progress_of r) m (sym (replica_of s n (Some r) at) ∙ is))
