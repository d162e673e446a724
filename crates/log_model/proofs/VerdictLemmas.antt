-- What a verdict says.
use Rattle.std.proofs.Common.{◌≡◌, ℕ, ◌+◌, ◌-◌, Bool, true, false, cond, ◌&&◌, List, [], ◌∷◌, ◌++◌, length, drop, Option, Some, None, refl, ap, nat_le}
use Rattle.std.specs.List.{AllByRecursion}
use Rattle.schema.specs.declared.look.Look.{Look}
use Rattle.schema.specs.Rows.{Rows, Writes, shares_key}
use Rattle.schema.proofs.ShareLemmas.{apart}
use Rattle.bpf_semantics.specs.Agree.{AreElsewhere, after_each}
use Rattle.log_model.specs.declared.verdict.Verdict.TheVariants.{Commit, Stale}
use Rattle.log_model.specs.Log.{Call, CertifiedItem, is_commit, conflicts, first_position, DoneRequest, first_repeated, unless_repeated, unless_conflict, verdict_after}
use Rattle.log_model.proofs.Laid.{installed_writes}
use Rattle.log_model.proofs.RunLemmas.{just}

-- ---- no conflict

pub none_here : (b : Bool) (number : ℕ) (o : Option ℕ) → cond b (just number) o ≡ None → (b ≡ false) × (o ≡ None)
none_here true number o e = absurd cc
none_here false number o e = (refl, e)

pub all_apart : (looks : List Look) (number : ℕ) (later : List CertifiedItem) → first_position (conflicts looks) number later ≡ None → AllByRecursion (AreElsewhere looks) (installed_writes later)
unfolding first_position
all_apart looks number [] e = tt
all_apart looks number (c ∷ later) e =
    let parts = none_here (conflicts looks c) number (first_position (conflicts looks) (number + 1) later) e in
    let rest = all_apart looks (number + 1) later parts.1 in
    elim (is_commit c.verdict) as (λ b. (b && shares_key looks c.writes) ≡ false → AllByRecursion (AreElsewhere looks) (cond b (c.writes ∷ installed_writes later) (installed_writes later))) [
      | true ↦ λ none. (apart looks c.writes none, rest)
      | false ↦ λ none. rest
    ] parts.0

commit_of : (r : Option ℕ) (b : Bool) (o : Option ℕ) → unless_repeated r (cond b (unless_conflict o) Stale) ≡ Commit → o ≡ None
commit_of (Some position) b o e = absurd cc
commit_of None true None e = refl
commit_of None true (Some number) e = absurd cc
commit_of None false o e = absurd cc

-- where a call commits, none of those since its snapshot wrote what it looked at
pub committed_apart : (window : ℕ) (done : List DoneRequest) (past : List CertifiedItem) (call : Call) (looks : List Look) → verdict_after window done past call looks ≡ Commit
    → AllByRecursion (AreElsewhere looks) (installed_writes (drop call.snapshot past))
unfolding verdict_after
committed_apart window done past call looks e =
    all_apart looks (call.snapshot + 1) (drop call.snapshot past) (commit_of (first_repeated done past call) (nat_le (length past - call.snapshot) window) (first_position (conflicts looks) (call.snapshot + 1) (drop call.snapshot past)) e)

-- ---- installed_writes write sets, one list after another

pub installed_writes-append : (xs ys : List CertifiedItem) → installed_writes (xs ++ ys) ≡ installed_writes xs ++ installed_writes ys
installed_writes-append [] ys = refl
installed_writes-append (c ∷ xs) ys = elim (is_commit c.verdict) as (λ b. cond b (c.writes ∷ installed_writes (xs ++ ys)) (installed_writes (xs ++ ys)) ≡ cond b (c.writes ∷ installed_writes xs) (installed_writes xs) ++ installed_writes ys) [
  | true ↦ ap (λ (l : List Writes). c.writes ∷ l) (installed_writes-append xs ys)
  | false ↦ installed_writes-append xs ys
]

pub after_each-append : (xs ys : List Writes) (rows : Rows) → after_each (xs ++ ys) rows ≡ after_each ys (after_each xs rows)
after_each-append [] ys rows = refl
after_each-append (x ∷ xs) ys rows = after_each-append xs ys _
