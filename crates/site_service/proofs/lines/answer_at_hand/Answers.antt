use Rattle.std.proofs.Common.{[], ap, rules}
use Rattle.std.specs.Io.KnownBytes.{Appends}
use Rattle.byte_output.specs.Writes.{AppendsBeginning}
use Rattle.byte_output.proofs.TakenLemmas.{fresh}
use Rattle.site.specs.Replica.{setting_of}
use Rattle.site_service.proofs.LinesLemmas.{begun_by, gives_so, wrote, wrote_some}
use Rattle.site_service.proofs.lines.answer_at_hand.Goals as goal

pub returns-in-Ok-clause-given : goal.returns-in-Ok-clause-given
returns-in-Ok-clause-given g c = λ bytes known order stands.
    let start = g.W.Write.contents c.args.output.now in
    let end = g.W.Write.contents c.output-1.given.0 in
    let passed = fresh g.W.Write.contents start c.new-pages.result (ap g.W.Write.contents c.new-pages.ensures.untouched) c.new-pages.ensures.empty in
    gives_so (setting_of c.args.site) order bytes (g.R.Read.remaining c.append_at_hand-answered.new.input) c.args.number _ (Appends start end) (AppendsBeginning start end)
    (λ text appended.
    let was = appended.0 in
    let made = c.new-pages.ensures.same_output in
    wrote start end (g.W.Write.contents c.finish.new.pages.0) text (ap g.W.Write.contents (c.output-1.given.1 (search (rules, was, made)))) (c.in-Ok.ensures start text (appended.1 start [] passed)))
    c.append_at_hand-answered.result.0 (c.append_at_hand-answered.ensures.given bytes known order stands)

pub returns-in-Err-clause-given : goal.returns-in-Err-clause-given
returns-in-Err-clause-given g c = λ bytes known order stands.
    let start = g.W.Write.contents c.args.output.now in
    let end = g.W.Write.contents c.output-1.given.0 in
    let passed = fresh g.W.Write.contents start c.new-pages.result (ap g.W.Write.contents c.new-pages.ensures.untouched) c.new-pages.ensures.empty in
    begun_by (setting_of c.args.site) order bytes (g.R.Read.remaining c.append_at_hand-answered.new.input) c.args.number _ (AppendsBeginning start end)
    (λ text more appended.
    let was = appended.0 in
    let made = c.new-pages.ensures.same_output in
    wrote_some start end (g.W.Write.contents c.finish.new.pages.0) text more (ap g.W.Write.contents (c.output-1.given.1 (search (rules, was, made)))) (c.in-Err.ensures start text (appended.1 start [] passed)))
    c.append_at_hand-answered.result.0 (c.append_at_hand-answered.ensures.given bytes known order stands)
