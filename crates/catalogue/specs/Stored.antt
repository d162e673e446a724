-- Stored procedures in order of entry, and what is held of them: from a number to a name and an accepted program.
use Rattle.std.specs.Prelude.{◌≡◌, ℕ, List, Option, find, map, refl, nat_eq, true}
use Rattle.std.specs.Coded.{Coded, code_by, coded×, coded_ℕ, coded_list}
use Rattle.std.specs.List.{AllByRecursion, IsDistinct}
use Rattle.std.specs.Str.{bytes_eq}
use Rattle.bpf_code.specs.Program.{IsProgram}
use Rattle.schema.specs.Schema.{Tables}
use Rattle.bpf_verify.specs.Flow.{Procedure, IsAccepted}
use Rattle.bpf_verify.specs.Procedure.{procedure_code}
use Rattle.log_model.specs.Log.{StoredProcedure, Catalogue}
use Rattle.log_model.specs.Name.{is_name}

-- an accepted program under a name and a number, as it is listed
pub record ListedProcedure : Type 0 where
  pub name : List ℕ
  pub number : ℕ
  pub accepted : Procedure

-- an accepted program, stored under a name and a number
abbrev pub stored_of : List ℕ → ℕ → Procedure → StoredProcedure
stored_of name number accepted = record { name = name; number = number; program = accepted.program; args_len = accepted.args_len }

abbrev pub stored : ListedProcedure → StoredProcedure
stored l = stored_of l.name l.number l.accepted

-- the procedures as the model of replication has them
abbrev pub stored_procedures : List ListedProcedure → Catalogue
stored_procedures procedures = map stored procedures

-- the verifier accepted the program, for the tables that it has
pub record WasAccepted (p : Procedure) : Type 0 where
  pub program : IsProgram p.program
  pub accepted : IsAccepted p

-- what is known of stored procedures: each was accepted, no two have a number or a name in common, and each name is one
pub record AreStored (procedures : List ListedProcedure) : Type 0 where
  pub accepted : AllByRecursion (λ l. WasAccepted l.accepted) procedures
  pub numbers : IsDistinct nat_eq (map (λ l. l.number) procedures)
  pub names : IsDistinct bytes_eq (map (λ l. l.name) procedures)
  pub shapes : AllByRecursion (λ l. is_name l.name ≡ true) procedures

-- each was accepted for these tables
abbrev pub AreForTables : Tables → List ListedProcedure → Type 0
AreForTables tables procedures = AllByRecursion (λ l. l.accepted.tables ≡ tables) procedures

-- that of a number
abbrev pub listed_by_number : List ListedProcedure → ℕ → Option ListedProcedure
listed_by_number procedures number = find (λ l. nat_eq l.number number) procedures

-- ---- what is held

pub record NamedProcedure : Type 0 where
  pub name : List ℕ
  pub accepted : Procedure

abbrev pub listed_entry : ℕ × NamedProcedure → ListedProcedure
listed_entry e = record { name = e.1.name; number = e.0; accepted = e.1.accepted }

abbrev pub listed : List (ℕ × NamedProcedure) → List ListedProcedure
listed held = map listed_entry held

-- ---- how values are told from others, as the checker needs it

abbrev pub named_code : Coded NamedProcedure
named_code = code_by (List ℕ × Procedure) (coded× (coded_list coded_ℕ) procedure_code)
    (λ n. (n.name, n.accepted))
    (λ c. record { name = c.0; accepted = c.1 })
    (λ _. refl)

abbrev pub listed_one_code : Coded ListedProcedure
listed_one_code = code_by (List ℕ × (ℕ × Procedure)) (coded× (coded_list coded_ℕ) (coded× coded_ℕ procedure_code))
    (λ e. (e.name, (e.number, e.accepted)))
    (λ c. record { name = c.0; number = c.1.0; accepted = c.1.1 })
    (λ _. refl)

abbrev pub listed_code : Coded (List ListedProcedure)
listed_code = coded_list listed_one_code
