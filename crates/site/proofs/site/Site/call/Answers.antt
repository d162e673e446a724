use Rattle.std.proofs.Common.{◌≡◌, ℕ, List, Result, Ok, Err, IfOk, IsTrue, OnErr, ap, subst, ◌∙◌}
use Rattle.site_model.specs.Order.{Order, order_entries}
use Rattle.site_model.specs.declared.answer.CallAnswer.TheVariants.{Submitted}
use Rattle.site_model.specs.Sessions.{Sessions}
use Rattle.site_model.specs.Answer.{Asked, call_answer, call_answer_behind, takes_memory}
use Rattle.site_model.specs.declared.answer.CallAnswer.{CallAnswer}
use Rattle.site_model.specs.Own.{IsAskedOf}
use Rattle.log_model.specs.Entries.{Entry}
use Rattle.site.specs.Replica.{SiteReplica, StandsForLog, StandsForOrder, setting_of}
use Rattle.site.specs.Answered.{answered, asked_of}
use Rattle.site.proofs.CallLemmas.{on_err_gives}
use Rattle.site.proofs.site.Site.call.Goals as goal

ok_gives : {X E : Type 0} (r : Result X E) (P Q : X → Type 0) → IfOk r P → ((x : X) → P x → Q x) → IfOk r Q
ok_gives (Ok x) P Q p f = f x p
ok_gives (Err e) P Q p f = tt

-- in words of what a site knows of sessions, and of an order
by_order : (r : SiteReplica) (asked : Asked) (answer : CallAnswer (List ℕ)) → ((entries : List Entry) → StandsForLog r entries → answer ≡ call_answer_behind (setting_of r) r.sessions entries asked)
    → (order : Order) → StandsForOrder r order → answer ≡ call_answer (setting_of r) order asked
by_order r asked answer is order stands =
    is (order_entries (setting_of r) order) stands.log
    ∙ ap (λ (k : Sessions). call_answer_behind (setting_of r) k (order_entries (setting_of r) order) asked) stands.sessions

pub returns-clause-answer : goal.returns-clause-answer
returns-clause-answer g c =
    subst (λ (r : SiteReplica). IfOk c.call.result (λ answer. (order : Order) → StandsForOrder r order → answered answer ≡ call_answer (setting_of r) order (asked_of c.args.asked))) c.self.view_is
    (ok_gives c.call.result _ _ c.call.ensures.answer (λ answer is. by_order c.self.inside.replica (asked_of c.args.asked) (answered answer) is))

pub returns-clause-fits : goal.returns-clause-fits
returns-clause-fits g c =
    subst (λ (r : SiteReplica). IfOk c.call.result (λ answer. (order : Order) (bytes : List ℕ) → StandsForOrder r order → answered answer ≡ Submitted bytes → IsAskedOf (setting_of r) order (asked_of c.args.asked))) c.self.view_is
    (ok_gives c.call.result _ _ c.call.ensures.fits (λ answer fits order bytes stands told. fits (order_entries (setting_of c.self.inside.replica) order) bytes stands.log told))

pub returns-clause-memory : goal.returns-clause-memory
returns-clause-memory g c =
    subst (λ (r : SiteReplica). OnErr c.call.result ((order : Order) → StandsForOrder r order → IsTrue (takes_memory (call_answer (setting_of r) order (asked_of c.args.asked))))) c.self.view_is
    (on_err_gives c.call.result _ _ c.call.ensures.memory (λ takes order stands.
    subst (λ (k : Sessions). IsTrue (takes_memory (call_answer_behind (setting_of c.self.inside.replica) k (order_entries (setting_of c.self.inside.replica) order) (asked_of c.args.asked)))) stands.sessions
    (takes (order_entries (setting_of c.self.inside.replica) order) stands.log)))
