use Rattle.std.proofs.Common.{◌∙◌, sym, ap, ◌++◌, Some, option_map, arith}
use Rattle.std.proofs.lemmas.Grind.{common_steps}
use Rattle.std.proofs.lemmas.List.{append-nil}
use Rattle.plain_runner.proofs.MemoryLemmas.{known_here, unknown_here, known_end}
use Rattle.plain_runner.proofs.memory.known_bytes.Goals as goal

pub returns-in-None-clause-bytes : goal.returns-in-None-clause-bytes
returns-in-None-clause-bytes g c = ap (option_map (λ bs. c.loop-byte.bytes.items ++ bs)) (sym (unknown_here c.front-byte-items.result.now c.loop-byte.byte-index c.loop-byte-test.true c.in-None.is)) ∙ c.loop-byte.invariant.told

pub loop-byte-preserved : goal.loop-byte-preserved
loop-byte-preserved g c = record {
  told = known_here c.front-byte-items.result.now c.loop-byte.byte-index c.in-Some.byte c.loop-byte.bytes.items c.push.new.self.items c.loop-byte-test.true c.in-Some.is c.in_ok-push-in-Some.ensures.items ∙ c.loop-byte.invariant.told;
  so_far = grind (arith, common_steps);
}

pub returns-clause-bytes : goal.returns-clause-bytes
returns-clause-bytes g c =
    ap Some (sym (append-nil c.loop-byte.bytes.items))
    ∙ sym (ap (option_map (λ bs. c.loop-byte.bytes.items ++ bs)) (known_end c.front-byte-items.result.now c.loop-byte.byte-index c.loop-byte-test.false))
    ∙ c.loop-byte.invariant.told
