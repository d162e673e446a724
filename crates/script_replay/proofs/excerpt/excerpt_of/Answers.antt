use Rattle.std.proofs.Common.{◌≡◌, [], take, drop, ap, sym, ◌∙◌, arith}
use Rattle.std.proofs.Math.Seq.{drop-nil, take-nil}
use Rattle.script_replay.specs.declared.excerpt.TheConstants.{EXCERPT_BYTES}
use Rattle.script_replay.proofs.excerpt.excerpt_of.Goals as goal

pub returns : goal.returns
returns g c =
    let none : c.new.result.items ≡ take EXCERPT_BYTES (drop c.args.from []) = c.new.ensures ∙ sym (ap (take EXCERPT_BYTES) (drop-nil c.args.from) ∙ take-nil EXCERPT_BYTES) in
    (c.append_entry.ensures c.args.from [] (omega arith, none)).1
