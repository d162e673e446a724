use Rattle.std.proofs.Common.{◌≡◌, ◌+◌, List, [], ◌∷◌, ◌++◌, take, sym, ap, subst, ◌∙◌}
use Rattle.std.proofs.lemmas.List.{take_more}
use Rattle.certify.specs.Kept.{IsMemoryOf}
use Rattle.log_model.specs.Log.{DoneRequest}
use Rattle.replica.proofs.begin.certifier_over.Goals as goal

pub loop-one-preserved : goal.loop-one-preserved
loop-one-preserved g c =
    let before : List DoneRequest = take c.loop-one.one-index c.args.done.now in
    let next : before ++ c.one-item.result ∷ [] ≡ take (c.loop-one.one-index + 1) c.args.done.now =
    ap (λ (d : DoneRequest). before ++ d ∷ []) c.one-item.is ∙ sym (take_more c.args.done.now c.loop-one.one-index c.one-item.result c.loop-one-test.true) in
    record {
      stands = subst (λ (done : List DoneRequest). IsMemoryOf c.note_done.new.self.memory done []) next
          (c.in_ok-note_done.ensures.stands before c.one-item.result (sym c.request.ensures) c.loop-one.invariant.stands);
      window = c.note_done.ensures.window ∙ c.loop-one.invariant.window;
      count = c.note_done.ensures.count ∙ c.loop-one.invariant.count;
    }
