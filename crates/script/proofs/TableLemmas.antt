-- One more pair of a table and its width.
use Rattle.std.proofs.Common.{◌≡◌, ◌⊎◌, inl, inr, ℕ, ◌==◌, Bool, true, if◌then◌else◌, List, [], ◌∷◌, ◌++◌, length, Option, Some, None, Result, Ok, Err, refl, sym, ap, ◌∙◌}
use Rattle.std.specs.FinMap.{insert, empty}
use Rattle.schema.specs.declared.fault.SchemaFault.{SchemaFault}
use Rattle.catalogue.specs.Catalogue.{SystemCatalogue}
use Rattle.script.specs.declared.cause.FaultCause.{FaultCause}
use Rattle.script.specs.declared.cause.FaultCause.TheVariants.{Table, Place, NoMemory}
use Rattle.script.specs.Settings.{caused, then_with, only_tables, has_only_tables, with_table}
use Rattle.schema.specs.Schema.{Tables, fault_of, fault_or, with_pairs, schema_of}

abbrev tables_or : Tables → Result Tables SchemaFault → Tables
tables_or other (Ok tables) = tables
tables_or other (Err fault) = other

not_faulty : (fault : Option SchemaFault) (r s : Result Tables SchemaFault) (tables : Tables) → fault_or fault r ≡ Ok tables → (r ≡ Ok tables → s ≡ fault_or fault s)
not_faulty (Some f) r s tables e = absurd cc
not_faulty None r s tables e = λ _. refl

later_ok : (fault : Option SchemaFault) (r : Result Tables SchemaFault) (tables : Tables) → fault_or fault r ≡ Ok tables → r ≡ Ok tables
later_ok (Some f) r tables e = absurd cc
later_ok None r tables e = e

pub with_pairs-append : (xs ys : List (ℕ × ℕ)) (before tables : Tables) → with_pairs xs before ≡ Ok tables → with_pairs (xs ++ ys) before ≡ with_pairs ys tables
with_pairs-append [] ys before tables e = ap (λ (r : Result Tables SchemaFault). with_pairs ys (tables_or before r)) e
with_pairs-append (x ∷ xs) ys before tables e =
    let later = later_ok (fault_of before x.0 x.1) (with_pairs xs (insert before x.0 x.1)) tables e in
    let rest = with_pairs-append xs ys (insert before x.0 x.1) tables later in
    sym (not_faulty (fault_of before x.0 x.1) (with_pairs xs (insert before x.0 x.1)) (with_pairs (xs ++ ys) (insert before x.0 x.1)) tables e later) ∙ rest

pub schema_of-append : (xs ys : List (ℕ × ℕ)) (tables : Tables) → schema_of xs ≡ Ok tables → schema_of (xs ++ ys) ≡ with_pairs ys tables
schema_of-append xs ys tables e = with_pairs-append xs ys empty tables e

-- what one more pair comes to, where there are only tables
abbrev after_pair : Bool → Result Tables SchemaFault → Result SystemCatalogue FaultCause
after_pair empty pair = if empty then then_with (caused Table pair) only_tables else Err Place

pub with_table-by_schema : (c : SystemCatalogue) (pairs more : List (ℕ × ℕ)) (table width : ℕ) → schema_of pairs ≡ Ok c.tables → more ≡ pairs ++ (table, width) ∷ [] → has_only_tables c ≡ true → with_table c table width ≡ then_with (caused Table (schema_of more)) only_tables
with_table-by_schema c pairs more table width e m none =
    ap (λ (empty : Bool). after_pair empty (with_pairs ((table, width) ∷ []) c.tables)) none
    ∙ ap (after_pair true) (sym (schema_of-append pairs ((table, width) ∷ []) c.tables e) ∙ ap schema_of (sym m))

pub with_table-made : (c : SystemCatalogue) (pairs more : List (ℕ × ℕ)) (table width : ℕ) (tables : Tables) → schema_of pairs ≡ Ok c.tables → more ≡ pairs ++ (table, width) ∷ [] → has_only_tables c ≡ true → schema_of more ≡ Ok tables → with_table c table width ≡ Ok (record { tables = tables; rows = empty; requests = []; procedures = [] })
with_table-made c pairs more table width tables e m none made =
    with_table-by_schema c pairs more table width e m none ∙ ap (λ (r : Result Tables SchemaFault). then_with (caused Table r) only_tables) made

pub with_table-refused : (c : SystemCatalogue) (pairs more given : List (ℕ × ℕ)) (table width : ℕ) (cause : FaultCause) → schema_of pairs ≡ Ok c.tables → more ≡ pairs ++ (table, width) ∷ [] → has_only_tables c ≡ true → given ≡ more
    → (cause ≡ NoMemory) ⊎ (caused Table (schema_of given) ≡ Err cause) → (cause ≡ NoMemory) ⊎ (with_table c table width ≡ Err cause)
with_table-refused c pairs more given table width cause e m none same (inl out) = inl out
with_table-refused c pairs more given table width cause e m none same (inr told) =
    inr (with_table-by_schema c pairs more table width e m none ∙ ap (λ (xs : List (ℕ × ℕ)). then_with (caused Table (schema_of xs)) only_tables) (sym same)
    ∙ ap (λ (r : Result Tables FaultCause). then_with r only_tables) told)
