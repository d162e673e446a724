-- Which exact comparisons a verdict makes: a test by bits comes first.
use Rattle.std.specs.Prelude.{◌≡◌, ℕ, ◌+◌, ◌-◌, ◌<◌, ◌≤◌, nat_le, is_some, ◌&&◌, IsTrue, if◌then◌else◌, List, [], ◌∷◌, ◌++◌, length, take, drop, slice_get, Some, None}
use Rattle.schema.specs.declared.look.Look.{Look}
use Rattle.sig_lanes.specs.Signature.{shares_bit}
use Rattle.log_model.specs.Log.{Setting, Call, Log, DoneRequest, CertifiedItem, is_commit, conflicts, first_repeated, history, run_in}

-- the positions of those that committed and share a bit with the looks, up to the first conflict; the first has this
-- position
unfoldable pub comparisons_from : List Look → ℕ → List CertifiedItem → List ℕ
comparisons_from looks position [] = []
comparisons_from looks position (c ∷ later) =
    (if is_commit c.verdict && shares_bit looks c.writes then position ∷ [] else [])
    ++ (if conflicts looks c then [] else comparisons_from looks (position + 1) later)

-- those of the verdict on the next call: none where it is repeated or stale. An addition has none
unfoldable pub comparisons_after : ℕ → List DoneRequest → List CertifiedItem → Call → List Look → List ℕ
comparisons_after window done past call looks =
    if is_some (first_repeated done past call) then []
    else if nat_le (length past - call.snapshot) window then comparisons_from looks (call.snapshot + 1) (drop call.snapshot past) else []

-- those of the verdict on a call of the log that has so many before it
abbrev pub comparisons_of : Setting → Log → ℕ → Call → List ℕ
comparisons_of w log before call = comparisons_after w.window w.beginning.requests (take before (history w log).certified) call (run_in w log call).looks

-- each is greater than the one before it
abbrev pub AreRising : List ℕ → Type 0
AreRising [] = Unit {0}
AreRising (n ∷ []) = Unit {0}
AreRising (n ∷ m ∷ later) = (n < m) × AreRising (m ∷ later)

-- in words of the positions: the call is neither repeated nor stale, and one since its snapshot committed, shares a bit with
-- the looks, and comes after no conflict
pub record IsCompared (window : ℕ) (done : List DoneRequest) (past : List CertifiedItem) (call : Call) (looks : List Look) (position : ℕ) : Type 0 where
  pub new : first_repeated done past call ≡ None
  pub recent : length past - call.snapshot ≤ window
  pub since : call.snapshot < position
  pub before : ℕ
  pub place : position ≡ before + 1
  pub certificate : CertifiedItem
  pub stands : slice_get past before ≡ Some certificate
  pub committed : IsTrue (is_commit certificate.verdict)
  pub shares : IsTrue (shares_bit looks certificate.writes)
  pub first : (other : ℕ) (c : CertifiedItem) → call.snapshot ≤ other → other < before → slice_get past other ≡ Some c → IsTrue (conflicts looks c) → ⊥
