use Rattle.std.proofs.Common.{◌≡◌, ◌++◌, [], ◌∷◌, ℕ, nat_eq, Some, None, is_some, sym, ap, subst, ◌∙◌}
use Rattle.std.specs.Map.{lookup}
use Rattle.indexmap.proofs.CallerLemmas.{insert_entry-new}
use Rattle.log_model.specs.declared.request.RequestId.{RequestId}
use Rattle.certify.specs.Kept.{key_of, IsRequest, KeepsRequests}
use Rattle.certify.proofs.RequestLemmas.{is_none_of, noted_before, noted_last}
use Rattle.certify.proofs.requests.note_done.Goals as goal

pub returns-then-is_some-clause-noted : goal.returns-then-is_some-clause-noted
returns-then-is_some-clause-noted g c = λ done d same keeps.
    let one : IsRequest c.args.request = record { session = c.key_of-key.ensures.session; sequence = c.key_of-key.ensures.sequence } in
    let is : IsRequest d.request = subst IsRequest (sym same) one in
    noted_before c.args.requests.now.entries done d is
    (ap (λ (r : RequestId). is_some (lookup (nat_eq (key_of r)) c.args.requests.now.entries)) same
    ∙ ap is_some (keeps c.args.request one ∙ sym (c.repeated_in.ensures done [] keeps)) ∙ sym c.is_some.ensures ∙ c.if-is_some.true)
    keeps

pub returns-clause-noted : goal.returns-clause-noted
returns-clause-noted g c = λ done d same keeps.
    let one : IsRequest c.args.request = record { session = c.key_of-key.ensures.session; sequence = c.key_of-key.ensures.sequence } in
    let is : IsRequest d.request = subst IsRequest (sym same) one in
    let none : lookup (nat_eq (key_of c.args.request)) c.args.requests.now.entries ≡ None =
    keeps c.args.request one ∙ sym (c.repeated_in.ensures done [] keeps) ∙ is_none_of c.repeated_in.result (sym c.is_some.ensures ∙ c.if-is_some.false) in
    let absent : lookup (nat_eq c.key_of-key.result) c.args.requests.now.entries ≡ None = ap (λ (k : ℕ). lookup (nat_eq k) c.args.requests.now.entries) c.key_of-key.ensures.key ∙ none in
    subst (λ entries. KeepsRequests entries (done ++ d ∷ []) [])
    (sym (c.in_ok-insert.ensures.entries ∙ insert_entry-new nat_eq c.args.requests.now c.key_of-key.result 0 absent
    ∙ ap (λ (k : ℕ). c.args.requests.now.entries ++ (k, 0) ∷ []) (c.key_of-key.ensures.key ∙ ap key_of (sym same))))
    (noted_last c.args.requests.now.entries done d is keeps)
