-- How entries are told from others, as the checker needs it. No clause speaks of it.
use Rattle.std.proofs.Common.{inl, inr}
use Rattle.std.specs.Prelude.{◌≡◌, ◌⊎◌, refl}
use Rattle.std.specs.Coded.{Coded, code_by, coded⊎}
use Rattle.log_model.specs.Entries.{ExecutedCall}
use Rattle.catalogue.specs.Stored.{ListedProcedure, listed_one_code}
use Rattle.log_entry.specs.Codes.{executed_code}
use Rattle.log_entry.specs.declared.entry.Entry.{Entry as LogEntry}
use Rattle.log_entry.specs.declared.entry.Entry.TheVariants.{Call, Addition}

abbrev parts : {A : Type 0} → LogEntry A → ExecutedCall ⊎ ListedProcedure
parts (Call e) = inl e
parts (Addition p) = inr p

abbrev whole : {A : Type 0} → ExecutedCall ⊎ ListedProcedure → LogEntry A
whole (inl e) = Call e
whole (inr p) = Addition p

abbrev whole_of_parts : {A : Type 0} (e : LogEntry A) → whole (parts e) ≡ e
whole_of_parts (Call e) = refl
whole_of_parts (Addition p) = refl

abbrev pub entry_code : {A : Type 0} → Coded (LogEntry A)
entry_code {A} = code_by (ExecutedCall ⊎ ListedProcedure) (coded⊎ executed_code listed_one_code) parts whole whole_of_parts
