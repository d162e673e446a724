-- The tables that a schema has, and which lists of pairs make one.
use Rattle.std.specs.Prelude.{◌≡◌, ℕ, ◌≤◌, Bool, ◌==◌, ◌&&◌, nat_le, not, is_some, if◌then◌else◌, List, [], ◌∷◌, ◌++◌, codes, Option, Some, None, Result, Ok, Err}
use Rattle.std.specs.Ordering.{nat_cmp}
use Rattle.std.specs.Cmp.{IsEquivalence, nat_eq_equiv, on_equiv, and_equiv}
use Rattle.std.specs.Cmp.Lexicographic.{pointwise, lists_equiv}
use Rattle.std.specs.Fmt.{decimal}
use Rattle.std.specs.FinMap.{FinMap, empty, get, insert, entries}
use Rattle.schema.specs.declared.limits.TheConstants.{MAX_TABLE, MAX_WIDTH}
use Rattle.schema.specs.declared.fault.SchemaFault.{SchemaFault}
use Rattle.schema.specs.declared.fault.SchemaFault.TheVariants.{TableNumber, Width, RepeatedTable, NoMemory}

-- from the number of a table to the width of its rows, in bytes
abbrev pub Tables : Type 0
Tables = FinMap nat_cmp ℕ

-- what is known of every schema
pub record IsTable (table width : ℕ) : Type 0 where
  pub table_from : 1 ≤ table
  pub table_to : table ≤ MAX_TABLE
  pub width_from : 1 ≤ width
  pub width_to : width ≤ MAX_WIDTH

abbrev pub AreTables : Tables → Type 0
AreTables tables = (table width : ℕ) → get tables table ≡ Some width → IsTable table width

-- whether they are the same tables, each with the same width
abbrev pub tables_eq : Tables → Tables → Bool
tables_eq m n = pointwise (λ p q. (p.0 == q.0) && (p.1 == q.1)) (entries m) (entries n)

pub tables_eq_equiv : IsEquivalence tables_eq
tables_eq_equiv = on_equiv entries (lists_equiv (and_equiv (on_equiv (λ p. p.0) nat_eq_equiv) (on_equiv (λ p. p.1) nat_eq_equiv)))

-- what is wrong with a pair, given the tables before it
abbrev pub fault_of : Tables → ℕ → ℕ → Option SchemaFault
fault_of tables table width =
    if not (nat_le 1 table && nat_le table MAX_TABLE) then Some TableNumber
    else if not (nat_le 1 width && nat_le width MAX_WIDTH) then Some Width
    else if is_some (get tables table) then Some RepeatedTable
    else None

-- the fault, where there is one
abbrev pub fault_or : Option SchemaFault → Result Tables SchemaFault → Result Tables SchemaFault
fault_or (Some fault) tables = Err fault
fault_or None tables = tables

-- these tables and those of the pairs, or the first fault
abbrev pub with_pairs : List (ℕ × ℕ) → Tables → Result Tables SchemaFault
with_pairs [] tables = Ok tables
with_pairs (pair ∷ pairs) tables = fault_or (fault_of tables pair.0 pair.1) (with_pairs pairs (insert tables pair.0 pair.1))

-- the tables of the pairs, or the first fault
abbrev pub schema_of : List (ℕ × ℕ) → Result Tables SchemaFault
schema_of pairs = with_pairs pairs empty

-- ---- faults

abbrev pub number_of_fault : SchemaFault → ℕ
number_of_fault TableNumber = 1
number_of_fault Width = 2
number_of_fault RepeatedTable = 3
number_of_fault NoMemory = 4

-- how a fault is printed: `S1`
abbrev pub fault_text : SchemaFault → List ℕ
fault_text fault = codes "S" ++ decimal (number_of_fault fault)
