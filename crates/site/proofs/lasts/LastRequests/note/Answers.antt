use Rattle.std.proofs.Common.{◌≡◌, ◌∙◌, Bool, false, cond, sym, ap}
use Rattle.std.specs.FinMap.{get, insert}
use Rattle.std.specs.Prelude.{Option}
use Rattle.log_model.specs.declared.request.RequestId.{RequestId}
use Rattle.log_model.specs.Log.{DoneRequest}
use Rattle.site_model.specs.Sessions.{LastRequests, is_superseded}
use Rattle.site.proofs.LastLemmas.{inserted}
use Rattle.site.proofs.lasts.LastRequests.note.Goals as goal

-- the test in code, of the request as it was read, and the definition's
same_test : (old : LastRequests) (a b : RequestId) → a ≡ b → is_superseded (get old a.session) a ≡ is_superseded (get old b.session) b
same_test old a b e = ap (λ (r : RequestId). is_superseded (get old r.session) r) e

pub returns : goal.returns
returns g c =
    let old = c.args.self.now in
    let done = c.args.done in
    let session = c.request-request.result.session in
    let test : is_superseded (get old done.request.session) done.request ≡ false =
    sym (c.is_superseded.ensures ∙ ap (λ (o : Option DoneRequest). is_superseded o c.request-request.result) c.last.ensures ∙ same_test old c.request-request.result done.request c.request-request.ensures)
    ∙ c.if-is_superseded.false in
    record {
      noted =
          inserted session done c.self.inside.requests.entries c.insert.new.self.entries c.self.invariant c.in_ok-insert.ensures.ordered c.in_ok-insert.ensures.entries
          ∙ ap (λ (l : LastRequests). insert l session done) c.self.view_is
          ∙ ap (λ (r : RequestId). insert old r.session done) c.request-request.ensures
          ∙ sym (ap (λ (b : Bool). cond b old (insert old done.request.session done)) test);
    }
