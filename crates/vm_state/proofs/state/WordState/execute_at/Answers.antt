use Rattle.std.proofs.Common.{arith}
use Rattle.vm_state.proofs.RunningOn.{no_instruction, inside, the_instruction, can_run, runs_on_if_some, stops_if_none}
use Rattle.vm_state.proofs.state.WordState.execute_at.Goals as goal

pub offset_bounds-layout-at : goal.offset_bounds-layout-at
offset_bounds-layout-at g c =
    let i = inside c.args.code.now c.args.layout.now c.args.at c.args.self.now c.requires.layout c.requires.can in
    let long = c.requires.layout.long in
    omega (arith, i, long, c.known.ensures.not_long)

pub bounds-layout-at : goal.bounds-layout-at
bounds-layout-at g c = inside c.args.code.now c.args.layout.now c.args.at c.args.self.now c.requires.layout c.requires.can

pub overflow_add-at : goal.overflow_add-at
overflow_add-at g c =
    let i = inside c.args.code.now c.args.layout.now c.args.at c.args.self.now c.requires.layout c.requires.can in
    let long = c.requires.layout.long in
    omega (arith, i, long, c.known.ensures.not_long)

pub execute_flat-requires-clause-slot : goal.execute_flat-requires-clause-slot
execute_flat-requires-clause-slot g c =
    let i = inside c.args.code.now c.args.layout.now c.args.at c.args.self.now c.requires.layout c.requires.can in
    let long = c.requires.layout.long in
    omega (arith, i, long, c.known.ensures.not_long)

pub execute_flat-requires-clause-can : goal.execute_flat-requires-clause-can
execute_flat-requires-clause-can g c =
    let e = the_instruction c.args.code.now c.args.layout.now c.args.at c.args.self.now no_instruction c.requires.layout c.requires.can in
    can_run c.args.code.now c.args.at c.args.self.now _ c.requires.can e

pub returns-clause-runs_on : goal.returns-clause-runs_on
returns-clause-runs_on g c =
    let e = the_instruction c.args.code.now c.args.layout.now c.args.at c.args.self.now no_instruction c.requires.layout c.requires.can in
    runs_on_if_some c.args.code.now c.args.at c.args.self.now c.execute_flat.new.self _ c.execute_flat.result e c.requires.can c.execute_flat.ensures.goes_on

pub returns-clause-stops : goal.returns-clause-stops
returns-clause-stops g c =
    let e = the_instruction c.args.code.now c.args.layout.now c.args.at c.args.self.now no_instruction c.requires.layout c.requires.can in
    stops_if_none c.args.code.now c.args.at _ c.execute_flat.result e c.execute_flat.ensures.stops
