use Rattle.std.proofs.Common.{◌≡◌, ℕ, suc, ◌+◌, List, [], ◌∷◌, ◌++◌, ◌∙◌, append_assoc, length, map, ap, sym, arith, rules}
use Rattle.std.specs.List.{concat}
use Rattle.log_model.specs.Log.{DoneRequest}
use Rattle.site_report.specs.SettingsText.{request_line}
use Rattle.site_report.proofs.beginning.append_request_lines.Goals as goal

pub loop-request-init : goal.loop-request-init
loop-request-init g c =
    let all : c.into_iter-request-iterator.result ≡ c.args.requests = search rules in
    let none : 0 + length c.into_iter-request-iterator.result ≡ length c.into_iter-request-iterator.result = omega arith in
    (tt, tt, none ∙ ap length all, [], g.met.S.ByteSink.nothing c.args.sink.now, ap (λ (xs : List DoneRequest). concat (map request_line xs)) all)

pub loop-request-preserved : goal.loop-request-preserved
loop-request-preserved g c =
    let so_far = c.loop-request.invariant in
    let item : DoneRequest = c.in-Some.request.now in
    let rest : List ℕ = concat (map request_line c.next.new.self) in
    let is : c.loop-request.request-iterator ≡ item ∷ c.next.new.self = search rules in
    let fewer : length c.loop-request.request-iterator ≡ suc (length c.next.new.self) = ap length is in
    let counted = so_far.2 in (
      tt,
      tt,
      omega arith,
      so_far.3 ++ request_line item,
      g.met.S.ByteSink.together _ _ _ _ _ so_far.4 c.append_request_line.ensures,
      append_assoc so_far.3 (request_line item) rest ∙ ap (λ (xs : List DoneRequest). so_far.3 ++ concat (map request_line xs)) (sym is) ∙ so_far.5,
    )
