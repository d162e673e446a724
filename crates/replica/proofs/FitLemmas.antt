-- Writes of a schema fit tables of its widths.
use Rattle.std.proofs.Common.{◌≡◌, ℕ, zero, suc, ◌+◌, ◌<◌, List, [], ◌∷◌, length, refl, sym, subst, ◌∙◌, arith}
use Rattle.std.specs.Prelude.{Option, Some, None, IsSome, slice_index_or}
use Rattle.std.proofs.lemmas.Bool.{false≢true}
use Rattle.std.specs.FinMap.{get}
use Rattle.schema.specs.Schema.{Tables}
use Rattle.schema.specs.Rows.{Key, Writes, AreWrites, IsKey, IsWrite}
use Rattle.log_model.specs.Log.{IsPlaced, IsLogFrom}
use Rattle.log_model.specs.Entries.{item_of, items_of}
use Rattle.log_entry.specs.declared.entry.Entry.{Entry as LogEntry}
use Rattle.log_entry.specs.Kind.{entry_of}
use Rattle.key_table.specs.Table.{Table}
use Rattle.rows_mv.specs.Versions.{Versions, HaveTables, width_of}
use Rattle.replica.specs.Replica.{FitTables, entries_of}

of_some : {X : Type 0} (o : Option X) → IsSome o → (x : X) × (o ≡ Some x)
of_some (Some x) h = (x, refl)
of_some None h = absurd (false≢true h)

key_of : (tables : Tables) (k : Key) (write : Option (List ℕ)) → IsWrite tables k write → IsKey tables k
key_of tables k (Some bytes) is = is.at_key
key_of tables k None is = is

pub schema_fits : (tables : Tables) (versions : Versions) (writes : Writes) → HaveTables tables versions.tables → AreWrites tables writes → FitTables versions writes
schema_fits tables versions writes have are = record {
  tables = λ k some.
      let write = of_some (get writes k) some in
      let width = of_some (get tables k.0) (key_of tables k write.0 (are k write.0 write.1)).table_is in
      (have k.0 width.0 width.1).0;
  widths = λ k row is.
      let of = are k (Some row) is in
      sym (have k.0 (length row) of.width).1;
}

-- tables of the same number and widths
pub tables_kept : (schema : Tables) (old new : List Table) → ((t : ℕ) → width_of new t ≡ width_of old t) → length new ≡ length old → HaveTables schema old → HaveTables schema new
tables_kept schema old new widths count have t width is =
    let has = have t width is in
    let within = has.0 in
    (omega arith, widths t ∙ has.1)

-- ---- entries that are delivered one by one

-- each is placed where it stands
pub placed_in_code : {A : Type 0} (n : ℕ) (entries : List (LogEntry A)) (i : ℕ) (d : LogEntry A) → IsLogFrom n (items_of (entries_of entries)) → i < length entries → IsPlaced (n + i) (item_of (entry_of (slice_index_or entries i d)))
placed_in_code n [] i d log lt = absurd (omega arith)
placed_in_code n (e ∷ entries) zero d log lt = subst (λ (k : ℕ). IsPlaced k (item_of (entry_of e))) (let same : n ≡ n + 0 = omega arith in same) log.0
placed_in_code n (e ∷ entries) (suc i) d log lt =
    subst (λ (k : ℕ). IsPlaced k (item_of (entry_of (slice_index_or entries i d)))) (let same : suc n + i ≡ n + suc i = omega arith in same) (placed_in_code (suc n) entries i d log.1 (omega arith))
