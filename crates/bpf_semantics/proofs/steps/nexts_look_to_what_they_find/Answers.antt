use Rattle.std.proofs.Common.{◌∙◌, ap, ◌++◌, ◌∷◌, [], ◌≤◌, arith}
use Rattle.schema.proofs.LookLemmas.{is_first}
use Rattle.schema.proofs.SplitLemmas.{inside_look}
use Rattle.bpf_semantics.specs.Helpers.{look_at, last_seen}
use Rattle.bpf_semantics.proofs.CallLemmas.{next_looks_at}
use Rattle.bpf_semantics.proofs.steps.nexts_look_to_what_they_find.Goals as goal

pub returns-clause-found : goal.returns-clause-found
returns-clause-found c tables s t table lo hi k bytes e a b d is =
    let inside = inside_look (look_at table lo hi) k (is_first (look_at table lo hi) s.rows k bytes is).covered in
    let from = inside.1 in
    let to = inside.2 in
    let order : lo ≤ hi = omega arith in
    (next_looks_at tables s t table lo hi e a b d).0 order ∙ ap (λ f. s.looks ++ look_at table lo (last_seen hi f) ∷ []) is

pub returns-clause-none : goal.returns-clause-none
returns-clause-none c tables s t table lo hi e a b d is order = (next_looks_at tables s t table lo hi e a b d).0 order ∙ ap (λ f. s.looks ++ look_at table lo (last_seen hi f) ∷ []) is

pub returns-clause-empty : goal.returns-clause-empty
returns-clause-empty c tables s t table lo hi e a b d = (next_looks_at tables s t table lo hi e a b d).1
