use Rattle.std.proofs.Common.{arith, ◌≡◌, ℕ, ◌+◌, List, [], ◌++◌, ◌∙◌, ap, sym, subst, drop, map}
use Rattle.std.proofs.lemmas.List.{at_drop_more, append_assoc, append-nil}
use Rattle.std.proofs.Math.ListN.{drop_of_length-le}
use Rattle.std.specs.List.{concat}
use Rattle.schema.specs.Rows.{Key}
use Rattle.site_report.specs.Answers.{row_text}
use Rattle.site_service.proofs.rows.append_rows.Goals as goal

pub loop-row-preserved : goal.loop-row-preserved
loop-row-preserved g c =
    let so_far = c.loop-row.invariant in
    let row : List ℕ = row_text c.row-item.result in
    let rest : List ℕ = concat (map row_text (drop (c.loop-row.row-index + 1) c.args.rows.now)) in (
      so_far.0 ++ row,
      g.met.S.ByteSink.together _ _ _ _ _ so_far.1 c.append_row.ensures,
      append_assoc so_far.0 row rest
          ∙ ap (λ (r : Key × List ℕ). so_far.0 ++ (row_text r ++ rest)) c.row-item.is
          ∙ sym (at_drop_more (λ (left : List (Key × List ℕ)). so_far.0 ++ concat (map row_text left)) c.args.rows.now c.loop-row.row-index c.row-item.result c.loop-row-test.true)
          ∙ so_far.2,
    )

pub returns : goal.returns
returns g c =
    let so_far = c.loop-row.invariant in
    let none_left : drop c.loop-row.row-index c.args.rows.now ≡ [] = drop_of_length-le c.args.rows.now (omega arith) in
    let all : so_far.0 ≡ concat (map row_text c.args.rows.now) =
    sym (append-nil so_far.0) ∙ sym (ap (λ (left : List (Key × List ℕ)). so_far.0 ++ concat (map row_text left)) none_left) ∙ so_far.2 in
    subst (λ (rows : List ℕ). g.S.ByteSink.appends c.args.sink.now c.loop-row.sink rows) all so_far.1
