use Rattle.std.proofs.Common.{◌≡◌, ℕ, ◌+◌, ◌<◌, ◌^◌, false, true, sym, subst, ◌∙◌, arith}
use Rattle.site.specs.Replica.{StandsForOrder, setting_of}
use Rattle.site_service.specs.LineAnswers.{is_full}
use Rattle.site_service.proofs.AnswerLemmas.{entry_answered, full_answered, stands_with, stands_without}
use Rattle.site_service.proofs.entry.answer_entry.Goals as goal

pub take-requires : goal.take-requires
take-requires g c = record {
  room = subst (λ (n : ℕ). n + 1 < 2 ^ 32) c.position-position.ensures.position (c.is_full.ensures.room c.if-is_full.false);
}

pub overflow_add-position : goal.overflow_add-position
overflow_add-position g c = let room = c.is_full.ensures.room c.if-is_full.false in omega arith

pub returns-then-is_full-clause-answered : goal.returns-then-is_full-clause-answered
returns-then-is_full-clause-answered g c = λ order stands.
    let full : is_full (setting_of c.args.site) c.position-position.result ≡ true = sym (c.is_full.ensures.full (setting_of c.args.site) (sym c.origin.ensures)) ∙ c.if-is_full.true in
    full_answered (setting_of c.args.site) order c.args.bytes.now c.position-position.result (c.position-position.ensures.count order stands) full
    (g.S.ByteSink.appends c.args.sink.now c.append_order_full_line.new.sink) c.append_order_full_line.ensures

pub returns-then-is_full-clause-stands : goal.returns-then-is_full-clause-stands
returns-then-is_full-clause-stands g c = λ order stands.
    let full : is_full (setting_of c.args.site) c.position-position.result ≡ true = sym (c.is_full.ensures.full (setting_of c.args.site) (sym c.origin.ensures)) ∙ c.if-is_full.true in
    stands_without (setting_of c.args.site) order c.args.bytes.now c.position-position.result (c.position-position.ensures.count order stands) full (StandsForOrder c.args.site) stands

pub returns-clause-answered : goal.returns-clause-answered
returns-clause-answered g c = λ order stands.
    let room : is_full (setting_of c.args.site) c.position-position.result ≡ false = sym (c.is_full.ensures.full (setting_of c.args.site) (sym c.origin.ensures)) ∙ c.if-is_full.false in
    entry_answered (setting_of c.args.site) order c.args.bytes.now c.position-position.result (c.position-position.ensures.count order stands) room
    (g.S.ByteSink.appends c.args.sink.now c.append_entry_line.new.sink) c.in_ok-site.outcome c.request_in.result (c.in_ok-site.ensures.outcome order stands) c.request_in.ensures c.append_entry_line.ensures

pub returns-clause-stands : goal.returns-clause-stands
returns-clause-stands g c = λ order stands.
    let room : is_full (setting_of c.args.site) c.position-position.result ≡ false = sym (c.is_full.ensures.full (setting_of c.args.site) (sym c.origin.ensures)) ∙ c.if-is_full.false in
    stands_with (setting_of c.args.site) order c.args.bytes.now c.position-position.result (c.position-position.ensures.count order stands) room (StandsForOrder c.in_ok-site.site) (c.in_ok-site.ensures.stands order stands)
