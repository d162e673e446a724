use Rattle.std.proofs.Common.{◌≡◌, ℕ, ◌+◌, ◌-◌, ◌≤◌, ◌++◌, ◌∙◌, List, min, length, take, drop, arith, ap}
use Rattle.std.proofs.lemmas.List.{length-take}
use Rattle.report.proofs.PrintingLemmas.{told_ok}
use Rattle.script_replay.specs.declared.excerpt.TheConstants.{EXCERPT_BYTES}
use Rattle.script_replay.proofs.ExcerptLemmas.{seen_more, skipped_more}
use Rattle.script_replay.proofs.excerpt.ExcerptByteSink.append.Goals as goal

pub returns : goal.returns
returns c = λ from text is.
    let old = c.args.self.now in
    let rest = c.split_at.ensures.back in
    let front : c.split_at-2.result.0.now ≡ take c.min.result (drop c.min-skipped.result c.args.bytes.now) = c.split_at-2.ensures.front ∙ ap (take c.min.result) rest in
    let left : c.remaining_capacity.result ≡ EXCERPT_BYTES - length old.bytes.items = (let sum = c.remaining_capacity.ensures in omega arith) in
    let room : c.min.result ≡ min (length (drop c.min-skipped.result c.args.bytes.now)) (EXCERPT_BYTES - length old.bytes.items) =
    c.min.ensures ∙ ap (λ (xs : List ℕ). min (length xs) c.remaining_capacity.result) rest ∙ ap (min (length (drop c.min-skipped.result c.args.bytes.now))) left in
    let fits : length old.bytes.items + length c.split_at-2.result.0.now ≤ EXCERPT_BYTES =
    (let len = ap (λ (xs : List ℕ). length xs) front in let taken = length-take c.min.result (drop c.min-skipped.result c.args.bytes.now) in let sum = c.remaining_capacity.ensures in omega arith) in
    let grown : c.try_extend_from_slice.new.self.items ≡ old.bytes.items ++ c.split_at-2.result.0.now = told_ok c.try_extend_from_slice.result (c.try_extend_from_slice.ensures.variant.1 fits) c.try_extend_from_slice.ensures.ok in (
      skipped_more from text c.args.bytes.now old.skip c.min-skipped.result is.0 c.min-skipped.ensures,
      grown ∙ ap (λ (xs : List ℕ). old.bytes.items ++ xs) front ∙ seen_more from text c.args.bytes.now old.bytes.items old.skip c.min-skipped.result c.min.result is.0 is.1 c.min-skipped.ensures room,
    )
