-- The lines of rows, as far as a loop has come.
use Rattle.std.proofs.Common.{◌≡◌, ℕ, nat_lt, ◌+◌, ◌-◌, ◌<◌, ◌≤◌, ◌^◌, List, [], ◌∷◌, ◌++◌, length, Option, Some, None, IsSome, false, refl, option_map, sym, ap, subst, ◌∙◌, arith, append_assoc}
use Rattle.std.proofs.lemmas.Bool.Decides.{nat_tests}
use Rattle.std.proofs.lemmas.List.{append-nil, length-append}
use Rattle.std.specs.FinMap.{get, entries}
use Rattle.byte_output.specs.declared.paged.PagedOutput.{PagedOutput}
use Rattle.byte_output.specs.Pending.{Passes}
use Rattle.byte_output.proofs.PendingLemmas.{Passes-then}
use Rattle.schema.specs.Schema.{Tables, AreTables}
use Rattle.schema.specs.declared.limits.TheConstants.{MAX_TABLE}
use Rattle.schema.specs.Rows.{Key, Rows, IsFirst, IsVacant, AreRows}
use Rattle.log_model.specs.Log.{Setting, Log, IsLog, rows_after}
use Rattle.log_model.specs.Fit.{AreItems, BeginsSafely}
use Rattle.dsm_model.specs.World.{numbered}
use Rattle.dsm_model.specs.Sound.{IsWorld}
use Rattle.replica.specs.Replica.{Replica as ReplicaState}
use Rattle.dsm_world.specs.System.{SystemWorld, setting_of, world_of, progress_of}
use Rattle.dsm_world.proofs.Numbered.{numbered_map}
use Rattle.script_replay.specs.Printed.{all_rows_text, row_text, rows_text}
use Rattle.script_replay.specs.Acting.{PassesBeginning}
use Rattle.script_replay.specs.Listing.{HasRowKeys, AreBefore, lines_of}
use Rattle.script_replay.proofs.GivenLemmas.{beginning_then, beginning_more, nothing_given}
use Rattle.script_replay.proofs.ListingLemmas.{Listed, Covers, look_of, one_more, table_listed, table_full, all_listed}

lines_append : (xs ys : Listed) → lines_of (xs ++ ys) ≡ lines_of xs ++ lines_of ys
lines_append [] ys = refl
lines_append (x ∷ xs) ys = ap (λ (t : List ℕ). row_text x ++ t) (lines_append xs ys) ∙ sym (append_assoc (row_text x) (lines_of xs) (lines_of ys))

lines_more : (xs : Listed) (x : Key × List ℕ) → lines_of xs ++ row_text x ≡ lines_of (xs ++ x ∷ [])
lines_more xs x = sym (lines_append xs (x ∷ []) ∙ ap (λ (t : List ℕ). lines_of xs ++ t) (append-nil (row_text x)))

-- so many rows are listed behind others, and given
abbrev pub ListedSo : {W : Type 0} → (W → Option (List ℕ)) → PagedOutput W → PagedOutput W → ℕ → Key → Listed → Rows → Type 0
ListedSo contents old new count p listed rows = (more : Listed) × (count ≡ length more) × AreBefore p (listed ++ more) rows × Passes contents old new (lines_of more)

pub one_row : {W : Type 0} (contents : W → Option (List ℕ)) (old mid new : PagedOutput W) (t lo hi k count : ℕ) (row : List ℕ) (rows : Rows) (listed : Listed) → Covers → lo ≤ k → k ≤ hi
    → IsFirst (look_of t lo hi) rows (t, k) row → ListedSo contents old mid count (t, lo) listed rows → Passes contents mid new (row_text ((t, k), row)) → ListedSo contents old new (count + 1) (t, k + 1) listed rows
one_row contents old mid new t lo hi k count row rows listed covers_is low top f (more, counted, before, given) this = (
  more ++ ((t, k), row) ∷ [],
  (let len = length-append more (((t, k), row) ∷ []) in omega arith),
  subst (λ (xs : Listed). AreBefore (t, k + 1) xs rows) (append_assoc listed more (((t, k), row) ∷ [])) (one_more t lo hi k row rows (listed ++ more) covers_is low top f before),
  subst (Passes contents old new) (lines_more more ((t, k), row)) (Passes-then contents old mid new (lines_of more) (row_text ((t, k), row)) given this),
)

pub row_breaks : {W : Type 0} (contents : W → Option (List ℕ)) (old mid new : PagedOutput W) (t lo hi k count : ℕ) (row : List ℕ) (rows : Rows) (listed : Listed) → Covers → lo ≤ k → k ≤ hi
    → IsFirst (look_of t lo hi) rows (t, k) row → ListedSo contents old mid count (t, lo) listed rows → PassesBeginning contents mid new (row_text ((t, k), row))
    → (more others : Listed) × ((listed ++ more) ++ others ≡ entries rows) × PassesBeginning contents old new (lines_of more)
row_breaks contents old mid new t lo hi k count row rows listed covers_is low top f (more, counted, before, given) this =
    let after = one_more t lo hi k row rows (listed ++ more) covers_is low top f before in (
      more ++ ((t, k), row) ∷ [],
      after.others,
      ap (λ (xs : Listed). xs ++ after.others) (sym (append_assoc listed more (((t, k), row) ∷ []))) ∙ after.whole,
      subst (PassesBeginning contents old new) (lines_more more ((t, k), row)) (beginning_then contents old mid new (lines_of more) (row_text ((t, k), row)) given this),
    )

-- the last row of a table, and none more
pub last_row : {W : Type 0} (contents : W → Option (List ℕ)) (old new : PagedOutput W) (t lo count : ℕ) (rows : Rows) (listed : Listed) → HasRowKeys rows → 2 ^ 64 ≤ lo → ListedSo contents old new count (t, lo) listed rows
    → ListedSo contents old new count (t + 1, 0) listed rows
last_row contents old new t lo count rows listed are past (more, counted, before, given) = (more, counted, table_full t lo rows (listed ++ more) are past before, given)

pub no_row : {W : Type 0} (contents : W → Option (List ℕ)) (old new : PagedOutput W) (t lo hi count : ℕ) (rows : Rows) (listed : Listed) → Covers → HasRowKeys rows → 2 ^ 64 ≤ hi + 1 → IsVacant (look_of t lo hi) rows
    → ListedSo contents old new count (t, lo) listed rows → ListedSo contents old new count (t + 1, 0) listed rows
no_row contents old new t lo hi count rows listed covers_is are all none (more, counted, before, given) = (more, counted, table_listed t lo hi rows (listed ++ more) covers_is are all none before, given)

-- a table's rows behind those of the tables before
pub one_table : {W : Type 0} (contents : W → Option (List ℕ)) (old mid new : PagedOutput W) (p q : Key) (count n : ℕ) (rows : Rows) → (listed : Listed) × (count ≡ length listed) × AreBefore p listed rows × Passes contents old mid (lines_of listed)
    → ((listed : Listed) → AreBefore p listed rows → ListedSo contents mid new n q listed rows) → (listed : Listed) × (count + n ≡ length listed) × AreBefore q listed rows × Passes contents old new (lines_of listed)
one_table contents old mid new p q count n rows (listed, counted, before, given) lists =
    let next = lists listed before in (
      listed ++ next.0,
      (let len = length-append listed next.0 in let more = next.1 in omega arith),
      next.2,
      subst (Passes contents old new) (sym (lines_append listed next.0)) (Passes-then contents old mid new (lines_of listed) (lines_of next.0) given next.3),
    )

pub table_breaks : {W : Type 0} (contents : W → Option (List ℕ)) (old mid new : PagedOutput W) (p : Key) (count : ℕ) (rows : Rows) → (listed : Listed) × (count ≡ length listed) × AreBefore p listed rows × Passes contents old mid (lines_of listed)
    → ((listed : Listed) → AreBefore p listed rows → (more others : Listed) × ((listed ++ more) ++ others ≡ entries rows) × PassesBeginning contents mid new (lines_of more)) → PassesBeginning contents old new (lines_of (entries rows))
table_breaks contents old mid new p count rows (listed, counted, before, given) lists =
    let next = lists listed before in
    let text : lines_of listed ++ (lines_of next.0 ++ lines_of next.1) ≡ lines_of (entries rows) =
    sym (append_assoc (lines_of listed) (lines_of next.0) (lines_of next.1)) ∙ ap (λ (t : List ℕ). t ++ lines_of next.1) (sym (lines_append listed next.0)) ∙ sym (lines_append (listed ++ next.0) next.1) ∙ ap lines_of next.2 in
    subst (PassesBeginning contents old new) text
    (beginning_then contents old mid new (lines_of listed) (lines_of next.0 ++ lines_of next.1) given (beginning_more contents mid new (lines_of next.0) (lines_of next.1) next.3))

pub all_tables : {W : Type 0} (contents : W → Option (List ℕ)) (old new : PagedOutput W) (t count : ℕ) (rows : Rows) → HasRowKeys rows → MAX_TABLE < t
    → (listed : Listed) × (count ≡ length listed) × AreBefore (t, 0) listed rows × Passes contents old new (lines_of listed) → (count ≡ length (entries rows)) × Passes contents old new (lines_of (entries rows))
all_tables contents old new t count rows are past (listed, counted, before, given) =
    let all = all_listed t rows listed are past before in
    (counted ∙ ap length all, subst (λ (xs : Listed). Passes contents old new (lines_of xs)) all given)

-- ---- rows that fit a schema

some_row : (o : Option (List ℕ)) → IsSome o → (bytes : List ℕ) × (o ≡ Some bytes)
some_row None some = absurd cc
some_row (Some bytes) some = (bytes, refl)

some_width : (o : Option ℕ) → IsSome o → (width : ℕ) × (o ≡ Some width)
some_width None some = absurd cc
some_width (Some width) some = (width, refl)

pub row_keys : (tables : Tables) (rows : Rows) → AreTables tables → AreRows tables rows → HasRowKeys rows
row_keys tables rows are fit k some =
    let row = some_row (get rows k) some in
    let at = (fit k.0 k.1 row.0 row.1).at_key in
    let table = some_width (get tables k.0) at.table_is in
    let is = are k.0 table.0 table.1 in
    (is.table_from, is.table_to, at.key_fits)

-- ---- where a loop begins

pub listed_none : {W : Type 0} (contents : W → Option (List ℕ)) (a : PagedOutput W) (p : Key) (rows : Rows) (listed : Listed) → AreBefore p listed rows → ListedSo contents a a 0 p listed rows
listed_none contents a p rows listed before = ([], refl, subst (λ (xs : Listed). AreBefore p xs rows) (sym (append-nil listed)) before, nothing_given contents a)

-- ---- a replica's rows at its position

-- a replica isn't behind itself
pub none_behind : (window at position : ℕ) → at ≡ position → nat_lt window (at - position) ≡ false
none_behind window at position same = grind (arith, nat_tests)

module _ (s : SystemWorld) (r position : ℕ) (kept : ReplicaState) (stands : Some kept ≡ numbered s.replicas r) (at : position ≡ kept.position) where
  pub progress_there : numbered (world_of s).replicas r ≡ Some (progress_of kept)
  progress_there = numbered_map progress_of s.replicas r ∙ ap (λ (o : Option ReplicaState). option_map progress_of o) (sym stands)

  -- what is printed of its rows
  pub text_there : rows_text (setting_of s) (world_of s).log r (numbered (world_of s).replicas r) ≡ all_rows_text r position (entries (rows_after (setting_of s) (world_of s).log position))
  text_there =
      ap (rows_text (setting_of s) (world_of s).log r) progress_there
      ∙ ap (λ (n : ℕ). all_rows_text r n (entries (rows_after (setting_of s) (world_of s).log n))) (sym at)

  -- their keys
  pub keys_there : ((w : Setting) (log : Log) (position : ℕ) → BeginsSafely w → IsLog log → AreItems w log → position ≤ length log → AreRows w.tables (rows_after w log position))
      → BeginsSafely (setting_of s) → IsWorld (setting_of s) (world_of s) → AreTables s.catalogue.tables → HasRowKeys (rows_after (setting_of s) (world_of s).log position)
  keys_there fit safe is tables =
      let le = is.positions r (progress_of kept) progress_there in
      row_keys s.catalogue.tables (rows_after (setting_of s) (world_of s).log position) tables (fit (setting_of s) (world_of s).log position safe is.log is.items (omega arith))
