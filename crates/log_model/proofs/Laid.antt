-- The rows after each position, by those at first and the write sets of those that committed.
use Rattle.std.specs.Prelude.{ℕ, List, [], ◌∷◌, if◌then◌else◌, take}
use Rattle.schema.specs.Rows.{Rows, Writes}
use Rattle.bpf_semantics.specs.Agree.{after_each}
use Rattle.log_model.specs.Log.{CertifiedItem, is_commit}

abbrev pub installed_writes : List CertifiedItem → List Writes
installed_writes [] = []
installed_writes (c ∷ later) = if is_commit c.verdict then c.writes ∷ installed_writes later else installed_writes later

abbrev pub rows_laid_on : Rows → List CertifiedItem → ℕ → Rows
rows_laid_on rows certified position = after_each (installed_writes (take position certified)) rows
