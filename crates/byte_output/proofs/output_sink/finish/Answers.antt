use Rattle.byte_output.proofs.TakenLemmas.{finished}
use Rattle.byte_output.proofs.output_sink.finish.Goals as goal

pub returns-in-None : goal.returns-in-None
returns-in-None g c = λ start text taken.
    finished g.W.Write.contents start (g.W.Write.contents c.finish.new.self.0) text c.args.pages c.args.failed c.finish.result c.in-None.is c.finish.ensures taken
