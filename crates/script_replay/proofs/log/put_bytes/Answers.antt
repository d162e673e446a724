use Rattle.std.proofs.Common.{ℕ, ◌+◌, ◌≤◌, ◌<◌, ◌∙◌, List, arith, refl, sym, ap, subst, length, take, drop}
use Rattle.std.proofs.lemmas.List.{length-drop, length-take}
use Rattle.std.proofs.lemmas.Result.{err_from_is_err_and}
use Rattle.hex.specs.Hex.{encode_with, encode_lower}
use Rattle.byte_output.specs.Pending.{Passes}
use Rattle.log_entry.specs.Kind.{entry_of}
use Rattle.log_entry.specs.Bytes.{entry_bytes}
use Rattle.script_replay.specs.declared.excerpt.TheConstants.{EXCERPT_BYTES}
use Rattle.script_replay.proofs.GivenLemmas.{nothing_given}
use Rattle.script_replay.proofs.ExcerptLemmas.{digits_so_far, digits_begun, digits_whole, digits_given}
use Rattle.script_replay.proofs.log.put_bytes.Goals as goal

pub loop-excerpt-init : goal.loop-excerpt-init
unfolding encode_with
loop-excerpt-init g c = record {
  within = omega arith;
  same = refl;
  given = nothing_given g.W.Write.contents c.args.output.now;
}

pub returns-in_err-put_digits-clause-given : goal.returns-in_err-put_digits-clause-given
returns-in_err-put_digits-clause-given g c =
    let xs = entry_bytes (entry_of c.args.entry.now) in
    let q = err_from_is_err_and c.from_residual.result c.from_residual.ensures.1 in
    rw q.1 (digits_begun g.W.Write.contents c.args.output.now c.loop-excerpt.output c.put_digits.new.output c.loop-excerpt.from xs _ (c.deref.ensures.0 ∙ c.excerpt_of-excerpt.ensures) c.loop-excerpt.invariant.given c.in_err-put_digits.ensures.given)

pub returns-then-len-lt-EXCERPT_BYTES-clause-given : goal.returns-then-len-lt-EXCERPT_BYTES-clause-given
returns-then-len-lt-EXCERPT_BYTES-clause-given g c =
    let xs = entry_bytes (entry_of c.args.entry.now) in
    let is = c.deref.ensures.0 ∙ c.excerpt_of-excerpt.ensures in
    let short : length c.deref.result.now < EXCERPT_BYTES =
    (let len = c.len.ensures.value in let same = ap (λ (ys : List ℕ). length ys) c.deref.ensures.0 in let test = c.if-len-lt-EXCERPT_BYTES.true in omega arith) in
    digits_whole g.W.Write.contents c.args.output.now c.loop-excerpt.output c.put_digits.new.output c.loop-excerpt.from xs _ is short c.loop-excerpt.invariant.given c.in_ok-put_digits.ensures.given

pub returns-in_default-clause-given : goal.returns-in_default-clause-given
returns-in_default-clause-given g c =
    let xs = entry_bytes (entry_of c.args.entry.now) in
    let is = c.deref.ensures.0 ∙ c.excerpt_of-excerpt.ensures in
    digits_given g.W.Write.contents c.args.output.now c.put_digits.new.output (c.loop-excerpt.from + EXCERPT_BYTES) xs
    (digits_so_far g.W.Write.contents c.args.output.now c.loop-excerpt.output c.put_digits.new.output c.loop-excerpt.from xs _ is c.loop-excerpt.invariant.given c.in_ok-put_digits.ensures.given)

pub loop-excerpt-preserved : goal.loop-excerpt-preserved
loop-excerpt-preserved g c =
    let xs = entry_bytes (entry_of c.args.entry.now) in
    let is = c.deref.ensures.0 ∙ c.excerpt_of-excerpt.ensures in
    let next = c.in-Some.ensures.1 in
    let full : EXCERPT_BYTES ≤ length (take EXCERPT_BYTES (drop c.loop-excerpt.from xs)) =
    (let len = c.len.ensures.value in let same = ap (λ (ys : List ℕ). length ys) c.excerpt_of-excerpt.ensures in let test = c.if-len-lt-EXCERPT_BYTES.false in omega arith) in
    record {
      within = (let left = length-drop c.loop-excerpt.from xs in let taken = length-take EXCERPT_BYTES (drop c.loop-excerpt.from xs) in omega arith);
      same = c.put_digits.ensures.same_output ∙ c.loop-excerpt.invariant.same;
      given = subst (λ n. Passes g.W.Write.contents c.args.output.now c.put_digits.new.output (encode_lower (take n xs))) (sym next)
          (digits_so_far g.W.Write.contents c.args.output.now c.loop-excerpt.output c.put_digits.new.output c.loop-excerpt.from xs _ is c.loop-excerpt.invariant.given c.in_ok-put_digits.ensures.given);
    }
