use Rattle.std.proofs.Common.{◌≡◌, ◌++◌, [], ◌∷◌, ℕ, Bool, true, false, nat_eq, Option, Some, None, is_some, sym, ap, subst, ◌∙◌}
use Rattle.std.specs.Prelude.{Result, Ok, Err, OnOk}
use Rattle.std.specs.Result.{is_ok}
use Rattle.std.specs.Map.{lookup}
use Rattle.indexmap.proofs.CallerLemmas.{insert_entry-new}
use Rattle.log_model.specs.declared.request.RequestId.{RequestId}
use Rattle.log_model.specs.Log.{CertifiedItem, is_commit, repeats, first_position}
use Rattle.certify.specs.Kept.{key_of, IsRequest, KeepsRequests}
use Rattle.certify.proofs.RequestLemmas.{not_kept, of_refused, of_none, no_request, kept_before, kept_last, is_none_of}
use Rattle.certify.proofs.requests.keep_request.Goals as goal

pub returns-in_default : goal.returns-in_default
returns-in_default g c = λ done past x at verdict request keeps.
    not_kept c.args.requests.now.entries done past x (λ r is. of_none x r (request ∙ no_request c.args.request c.in_default.not-Some)) keeps

pub returns-then-not-is_commit : goal.returns-then-not-is_commit
returns-then-not-is_commit g c = λ done past x at verdict request keeps.
    not_kept c.args.requests.now.entries done past x (λ r is. of_refused x r (ap is_commit verdict ∙ sym c.is_commit.ensures ∙ c.if-not-is_commit.true)) keeps

pub returns-then-is_some : goal.returns-then-is_some
returns-then-is_some g c = λ done past x at verdict request keeps.
    let carried = c.in-Some.carried in
    let one : IsRequest carried = record { session = c.key_of-key.ensures.session; sequence = c.key_of-key.ensures.sequence } in
    kept_before c.args.requests.now.entries done past x carried
    (ap is_commit verdict ∙ sym c.is_commit.ensures ∙ c.if-not-is_commit.false)
    (request ∙ c.in-Some.is) one
    (ap is_some (keeps carried one ∙ sym (c.repeated_in.ensures done past keeps)) ∙ sym c.is_some.ensures ∙ c.if-is_some.true)
    keeps

from_ok : {T E : Type 0} (r : Result T E) (P : Type 0) → is_ok r ≡ true → OnOk r P → P
from_ok (Ok x) P e h = h
from_ok (Err x) P e h = absurd cc

pub returns : goal.returns
returns g c = λ done past x at verdict request keeps.
    let carried = c.in-Some.carried in
    let one : IsRequest carried = record { session = c.key_of-key.ensures.session; sequence = c.key_of-key.ensures.sequence } in
    let none : lookup (nat_eq (key_of carried)) c.args.requests.now.entries ≡ None =
    keeps carried one ∙ sym (c.repeated_in.ensures done past keeps) ∙ is_none_of c.repeated_in.result (sym c.is_some.ensures ∙ c.if-is_some.false) in
    let key : c.key_of-key.result ≡ key_of carried = c.key_of-key.ensures.key in
    let absent : lookup (nat_eq c.key_of-key.result) c.args.requests.now.entries ≡ None = ap (λ (k : ℕ). lookup (nat_eq k) c.args.requests.now.entries) key ∙ none in
    subst (λ entries. KeepsRequests entries done (past ++ x ∷ []))
    (sym (from_ok c.insert-kept.result _ (sym c.if-prove.ensures.value) c.insert-kept.ensures.entries ∙ insert_entry-new nat_eq c.args.requests.now c.key_of-key.result c.args.position absent
    ∙ ap (λ (k : ℕ). c.args.requests.now.entries ++ (k, c.args.position) ∷ []) key))
    (kept_last c.args.requests.now.entries done past x carried c.args.position at
    (ap is_commit verdict ∙ sym c.is_commit.ensures ∙ c.if-not-is_commit.false)
    (request ∙ c.in-Some.is) one keeps)
