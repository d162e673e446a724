-- How much of a log commits.
use Rattle.std.specs.Prelude.{ℕ, count_by}
use Rattle.log_model.specs.Log.{Setting, Log, is_commit, history}

-- how many items of a log commit: calls and additions
abbrev pub commits_of : Setting → Log → ℕ
commits_of w log = count_by (λ c. is_commit c.verdict) (history w log).certified
