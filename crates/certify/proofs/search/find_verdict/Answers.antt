use Rattle.std.proofs.Common.{◌≡◌, ◌-◌, ◌≤◌, List, drop, sym, ap, ◌∙◌, arith}
use Rattle.log_model.specs.Log.{CertifiedItem, unless_conflict}
use Rattle.certify.specs.declared.search.SearchResult.{SearchResult}
use Rattle.certify.specs.Kept.{IsMemoryOfLatest, latest_of}
use Rattle.certify.proofs.VerdictLemmas.{stale, none_compared, verdict_of_search, compared_of_search, result_of, result_is}
use Rattle.certify.proofs.search.find_verdict.Given as given
use Rattle.certify.proofs.search.find_verdict.Goals as goal

pub returns-then-count-snapshot-clause-verdict : goal.returns-then-count-snapshot-clause-verdict
returns-then-count-snapshot-clause-verdict g c = λ done past call same new stands.
    stale c.args.window c.args.count c.args.snapshot done past call c.args.reads.now same new stands.count c.if-count-snapshot.true

pub returns-then-count-snapshot-clause-compared : goal.returns-then-count-snapshot-clause-compared
returns-then-count-snapshot-clause-compared g c = λ done past call same new stands.
    none_compared c.args.window c.args.count c.args.snapshot done past call c.args.reads.now same new stands.count c.if-count-snapshot.true

found-in-Some : (g : given.Over) → (c : goal.In-Some g) → (past : List CertifiedItem)
    → IsMemoryOfLatest (latest_of c.args.window c.args.count c.args.blocks.now c.args.kept.now) past
    → c.search_since-found.result ≡ result_of c.args.reads.now c.args.snapshot (drop c.args.snapshot past)
found-in-Some g c past stands =
    let near : c.args.count - c.args.snapshot ≤ c.args.window = let test = c.if-count-snapshot.false in omega arith in
    result_is (latest_of c.args.window c.args.count c.args.blocks.now c.args.kept.now) c.args.reads.now past c.args.snapshot c.search_since-found.result
    c.shared_bits_are_of_both.ensures.few (c.shared_bits_are_of_both.ensures.shared c.args.reads.now) (λ x. c.sets_that_share_a_key_share_a_bit.ensures c.args.reads.now x.writes)
    stands c.requires.enough c.requires.snapshot near c.search_since-found.ensures

pub returns-in-Some-clause-verdict : goal.returns-in-Some-clause-verdict
returns-in-Some-clause-verdict g c = λ done past call same new stands.
    let count = stands.count in
    let test = c.if-count-snapshot.false in
    ap unless_conflict (sym c.in-Some.is)
    ∙ ap (λ (r : SearchResult). unless_conflict r.conflict) (found-in-Some g c past stands)
    ∙ verdict_of_search c.args.window c.args.snapshot done past call c.args.reads.now same new (omega arith)

pub returns-in-Some-clause-compared : goal.returns-in-Some-clause-compared
returns-in-Some-clause-compared g c = λ done past call same new stands.
    let count = stands.count in
    let test = c.if-count-snapshot.false in
    ap (λ (r : SearchResult). r.compared) (found-in-Some g c past stands)
    ∙ compared_of_search c.args.window c.args.snapshot done past call c.args.reads.now same new (omega arith)

found-in-None : (g : given.Over) → (c : goal.In-None g) → (past : List CertifiedItem)
    → IsMemoryOfLatest (latest_of c.args.window c.args.count c.args.blocks.now c.args.kept.now) past
    → c.search_since-found.result ≡ result_of c.args.reads.now c.args.snapshot (drop c.args.snapshot past)
found-in-None g c past stands =
    let near : c.args.count - c.args.snapshot ≤ c.args.window = let test = c.if-count-snapshot.false in omega arith in
    result_is (latest_of c.args.window c.args.count c.args.blocks.now c.args.kept.now) c.args.reads.now past c.args.snapshot c.search_since-found.result
    c.shared_bits_are_of_both.ensures.few (c.shared_bits_are_of_both.ensures.shared c.args.reads.now) (λ x. c.sets_that_share_a_key_share_a_bit.ensures c.args.reads.now x.writes)
    stands c.requires.enough c.requires.snapshot near c.search_since-found.ensures

pub returns-in-None-clause-verdict : goal.returns-in-None-clause-verdict
returns-in-None-clause-verdict g c = λ done past call same new stands.
    let count = stands.count in
    let test = c.if-count-snapshot.false in
    ap unless_conflict (sym c.in-None.is)
    ∙ ap (λ (r : SearchResult). unless_conflict r.conflict) (found-in-None g c past stands)
    ∙ verdict_of_search c.args.window c.args.snapshot done past call c.args.reads.now same new (omega arith)

pub returns-in-None-clause-compared : goal.returns-in-None-clause-compared
returns-in-None-clause-compared g c = λ done past call same new stands.
    let count = stands.count in
    let test = c.if-count-snapshot.false in
    ap (λ (r : SearchResult). r.compared) (found-in-None g c past stands)
    ∙ compared_of_search c.args.window c.args.snapshot done past call c.args.reads.now same new (omega arith)
