-- Numbered write sets, laid on up to a position.
use Rattle.std.proofs.Common.{◌≡◌, ℕ, zero, suc, ◌+◌, ◌≤◌, ◌<◌, true, false, cond, List, [], ◌∷◌, ◌++◌, take, nat_le, fold, refl, ap, ◌∙◌, arith}
use Rattle.std.proofs.lemmas.Bool.Decides.{nat_tests}
use Rattle.schema.specs.Rows.{Rows, after_writes}
use Rattle.bpf_semantics.specs.Agree.{after_each}
use Rattle.log_model.specs.InstalledWrites.{with_installed, map_after}
use Rattle.log_model.specs.Log.{CertifiedItem, is_commit}
use Rattle.log_model.specs.Entries.{installed_from}
use Rattle.log_model.proofs.Laid.{installed_writes, rows_laid_on}

late : (n p : ℕ) → p < n → nat_le n p ≡ false
late n p lt = grind (arith, nat_tests)

early : (n p : ℕ) → n ≤ p → nat_le n p ≡ true
early n p le = grind (arith, nat_tests)

beyond : (position n : ℕ) (cs : List CertifiedItem) (rows : Rows) → position < n → fold (with_installed position) rows (installed_from n cs) ≡ rows
unfolding installed_from
beyond position n [] rows lt = refl
beyond position n (c ∷ cs) rows lt = elim (is_commit c.verdict) as (λ b. fold (with_installed position) rows (cond b (record { position = n; writes = c.writes } ∷ []) [] ++ installed_from (n + 1) cs) ≡ rows) [
  | true ↦ ap (λ b. fold (with_installed position) (cond b (after_writes c.writes rows) rows) (installed_from (n + 1) cs)) (late n position lt) ∙ beyond position (n + 1) cs rows (omega arith)
  | false ↦ beyond position (n + 1) cs rows (omega arith)
]

within : (position n k : ℕ) (cs : List CertifiedItem) (rows : Rows) → n + k ≡ position + 1 → fold (with_installed position) rows (installed_from n cs) ≡ after_each (installed_writes (take k cs)) rows
unfolding installed_from
within position n zero cs rows e = beyond position n cs rows (omega arith)
within position n (suc k) [] rows e = refl
within position n (suc k) (c ∷ cs) rows e = elim (is_commit c.verdict) as (λ b. fold (with_installed position) rows (cond b (record { position = n; writes = c.writes } ∷ []) [] ++ installed_from (n + 1) cs) ≡ after_each (cond b (c.writes ∷ installed_writes (take k cs)) (installed_writes (take k cs))) rows) [
  | true ↦ ap (λ b. fold (with_installed position) (cond b (after_writes c.writes rows) rows) (installed_from (n + 1) cs)) (early n position (omega arith)) ∙ within position (n + 1) k cs (after_writes c.writes rows) (omega arith)
  | false ↦ within position (n + 1) k cs rows (omega arith)
]

pub map_is_laid_on : (rows : Rows) (cs : List CertifiedItem) (position : ℕ) → map_after rows (installed_from 1 cs) position ≡ rows_laid_on rows cs position
unfolding map_after
map_is_laid_on rows cs position = within position 1 position cs rows (omega arith)
