use Rattle.std.proofs.Common.{◌∙◌, sym, ap}
use Rattle.vm_state.specs.Words.{Words}
use Rattle.vm_state.proofs.OneMemory.{bytes_part, place_inside}
use Rattle.vm_state.proofs.state.WordState.bytes.Goals as goal

pub part-requires : goal.part-requires
part-requires c =
    place_inside c.self.inside.memory c.self.inside.args_len c.args.address c.args.count c.args.self.now
    (record {
      long = c.self.told.1;
      few = c.self.invariant;
      stack = ap (λ (m : Words). m.stack) (sym c.self.view_is);
      args = ap (λ (m : Words). m.args) (sym c.self.view_is);
    }) c.requires

pub returns : goal.returns
returns c =
    c.part.ensures
    ∙ bytes_part c.self.inside.memory c.self.inside.args_len c.args.address c.args.count c.args.self.now
    (record {
      long = c.self.told.1;
      few = c.self.invariant;
      stack = ap (λ (m : Words). m.stack) (sym c.self.view_is);
      args = ap (λ (m : Words). m.args) (sym c.self.view_is);
    }) c.requires
