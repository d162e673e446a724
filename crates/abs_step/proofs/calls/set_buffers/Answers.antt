use Rattle.std.proofs.Common.{◌≡◌, ◌∙◌, [], sym, ap, inl, inr}
use Rattle.std.specs.List.{fold, zip}
use Rattle.abs_state.specs.State.{kind_of}
use Rattle.abs_step.specs.Result.{with_buffer, written_length}
use Rattle.abs_step.proofs.ArgumentLemmas.{none_first, none_second}
use Rattle.abs_step.proofs.calls.set_buffers.Goals as goal

pub returns : goal.returns
returns g c =
    let arguments = c.loop-argument.argument-iterator.a.rest.now in
    let registers = c.loop-argument.argument-iterator.b.rest.now in
    let left : zip arguments registers ≡ [] = elim c.in-None.ensures.steps [
      | inl (x, (empty, same)) ↦ none_first arguments registers empty
      | inr (x, (empty, same)) ↦ none_second arguments registers empty
    ] in
    sym (ap (fold (λ after a. with_buffer after (kind_of c.args.state.now a.1) (written_length c.table_width-width.result a.0)) c.loop-argument.state) left) ∙ c.loop-argument.invariant.told
