use Rattle.std.proofs.Common.{◌≡◌, ◌++◌, ◌∙◌, ap, rules}
use Rattle.byte_output.specs.Pending.{output_of}
use Rattle.byte_output.proofs.TakenLemmas.{taken_by}
use Rattle.site.specs.Replica.{setting_of}
use Rattle.site_service.specs.Answering.{IsAppended, IsNoText}
use Rattle.site_service.proofs.LinesLemmas.{gives_so}
use Rattle.site_service.proofs.lines.append_at_hand.Goals as goal

pub returns-clause-given : goal.returns-clause-given
returns-clause-given g c = λ bytes known order stands.
    gives_so (setting_of c.args.site) order bytes (g.R.Read.remaining c.append_answers-answered.new.input) c.args.number _ (IsAppended g.W.Write.contents c.args.pages.now c.pages-1.given.0 c.take_error.result) IsNoText
    (λ text more.
    let same_pages = more.same_pages in
    let left : c.pages-1.given.0 ≡ c.take_error.new.self.pages.now = search (rules, same_pages) in (
      ap (λ p. (output_of p).ghost_name) (left ∙ c.take_error.ensures.untouched) ∙ more.same_output,
      λ start before passed. taken_by g.W.Write.contents start (before ++ text) c.pages-1.given.0 c.take_error.new.self.pages.now c.take_error.result left
          (c.take_error.ensures.taken start (before ++ text) (more.taken start before passed)),
    ))
    c.append_answers-answered.result (c.append_answers-answered.ensures.given bytes known order stands)
