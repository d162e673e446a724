use Rattle.bpf_semantics.specs.declared.value.Value.TheVariants.{Stack, Args}
use Rattle.bpf_semantics.specs.Step.{moved_place}
use Rattle.bpf_semantics.proofs.CallLemmas.{stack_moves, args_move, stack_moved_near, args_moved_near, some_of}
use Rattle.bpf_semantics.proofs.steps.places_move_so_far.Goals as goal

pub returns-clause-stack : goal.returns-clause-stack
returns-clause-stack c = stack_moves

pub returns-clause-args : goal.returns-clause-args
returns-clause-args c = args_move

pub returns-clause-no_further_stack : goal.returns-clause-no_further_stack
returns-clause-no_further_stack c place distance some = let v = some_of (moved_place (Stack place) distance) some in stack_moved_near place distance v.0 v.1

pub returns-clause-no_further_args : goal.returns-clause-no_further_args
returns-clause-no_further_args c place distance some = let v = some_of (moved_place (Args place) distance) some in args_moved_near place distance v.0 v.1
