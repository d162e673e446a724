use Rattle.std.proofs.Common.{refl, rules}
use Rattle.byte_output.proofs.TakenLemmas.{taken, stays_broken}
use Rattle.byte_output.proofs.output_sink.OutputSinkByteSink.append.Goals as goal

pub returns-then-is_none : goal.returns-then-is_none
returns-then-is_none g c = record {
  same_pages = refl;
  same_output = c.put.ensures.same_output;
  taken = λ start text was.
      taken g.W.Write.contents start text c.args.bytes.now c.args.self.now.pages.now c.put.new.self c.put.result c.args.self.now.failed c.err-self.result (search rules) (search rules) c.put.ensures.bytes was;
}

pub returns-else-is_none : goal.returns-else-is_none
returns-else-is_none g c = record {
  same_pages = refl;
  same_output = refl;
  taken = λ start text was. stays_broken g.W.Write.contents start text c.args.bytes.now c.args.self.now.pages.now c.args.self.now.failed (search rules) was;
}
