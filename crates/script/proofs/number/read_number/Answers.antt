use Rattle.std.proofs.Common.{◌≡◌, true, sym, ap, ◌∙◌, arith, rules}
use Rattle.std.specs.Fmt.{decimal}
use Rattle.std.specs.Str.{bytes_eq}
use Rattle.std.specs.Result.{result_ok}
use Rattle.std.proofs.lemmas.Slice.Eq.{bytes_eq-Decides}
use Rattle.script.proofs.NumberLemmas.{number_of-some, number_of-unparsed}
use Rattle.script.proofs.number.read_number.Goals as goal
use Rattle.script.proofs.number.read_number.Goals.{else-eq-via-then-eq+then-least-number+else-number-most, else-eq-via-then-eq+else-least-number, else-eq-via-else-eq}

pub returns-in_err-number-clause-number : goal.returns-in_err-number-clause-number
returns-in_err-number-clause-number c =
    let none = c.in_err-number.ensures.value in
    c.from_residual.ensures ∙ sym (number_of-unparsed c.args.least c.args.most c.args.field.now c.parse.result (omega arith) c.parse.ensures.value.0 (λ n ok e low high. let other = ap result_ok ok in absurd cc))

pub returns-then-number-most-clause-number : goal.returns-then-number-most-clause-number
returns-then-number-most-clause-number c =
    let same : c.args.field.now ≡ decimal c.in_ok-number.number = search rules in
    sym (number_of-some c.args.least c.args.most c.in_ok-number.number c.args.field.now (omega arith) same (omega arith) (omega arith))

pub returns-else-eq-clause-number : goal.returns-else-eq-clause-number
returns-else-eq-clause-number c =
    let some = c.in_ok-number.ensures.value in
    sym (number_of-unparsed c.args.least c.args.most c.args.field.now c.parse.result (omega arith) c.parse.ensures.value.0 (λ n ok e low high.
    let other = ap result_ok ok in
    let number : n ≡ c.in_ok-number.number = cc in
    let text : c.format.result.now ≡ c.args.field.now = c.format.ensures.text ∙ sym (ap decimal number) ∙ sym e in
    let equal : bytes_eq c.format.result.now c.args.field.now ≡ true = (bytes_eq-Decides _ _).1 text in
    elim c.else-eq.branch [
      | else-eq-via-then-eq+then-least-number+else-number-most w ↦ absurd (omega arith)
      | else-eq-via-then-eq+else-least-number w ↦ absurd (omega arith)
      | else-eq-via-else-eq w ↦ absurd (let off = w.if-eq.false in let was = c.eq.ensures in cc)
    ]))
