use Rattle.std.proofs.Common.{◌≡◌, ℕ, zero, suc, ◌-◌, List, slice_get, refl, ap, ◌∙◌, arith}
use Rattle.log_model.specs.declared.request.RequestId.{RequestId}
use Rattle.std.specs.Prelude.{Option}
use Rattle.log_model.specs.Log.{Setting}
use Rattle.log_model.specs.Entries.{Entry}
use Rattle.site_model.specs.Order.{reply_in, reply_to}
use Rattle.site.proofs.replies.reply_to.Goals as goal

reply_there : (w : Setting) (entries : List Entry) (request : Option RequestId) (position : ℕ) → (position ≡ 0 → ⊥) → reply_in (slice_get entries (position - 1)) ≡ reply_to w entries request position
reply_there w entries request zero later = absurd (later refl)
reply_there w entries request (suc before) later =
    let same : suc before - 1 ≡ before = omega arith in ap (λ (n : ℕ). reply_in (slice_get entries n)) same

pub returns : goal.returns
returns g c w entries before are = c.reply_behind.ensures entries are ∙ reply_there w entries c.args.request c.args.position c.if-position-eq0.false
