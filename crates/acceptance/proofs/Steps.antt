-- Each form of instruction steps along an edge.
use Rattle.std.proofs.Common.{ℕ}
use Rattle.bpf_code.specs.declared.instruction.Instruction.{Instruction}
use Rattle.bpf_code.specs.declared.instruction.Instruction.TheVariants.{LoadWide, Load, StoreImmediate, StoreRegister, Arithmetic, Negate, MoveSignExtended, End, Jump, LongJump, Branch, Call, Exit}
use Rattle.schema.specs.Schema.{Tables}
use Rattle.acceptance.specs.Description.{IsOfProgram, StepsAlong}
use Rattle.acceptance.proofs.Arithmetic.{arithmetic_along}
use Rattle.acceptance.proofs.Branches.{branch_along}
use Rattle.acceptance.proofs.Calls.{call_along}
use Rattle.acceptance.proofs.Loads.{load_along}
use Rattle.acceptance.proofs.Results.{load_wide_along, negate_along, sign_extended_along, end_along, jump_along, long_jump_along, exit_along}
use Rattle.acceptance.proofs.Stores.{store_immediate_along, store_register_along}

pub all_step : (tables : Tables) (args_len : ℕ) (i : Instruction) → IsOfProgram i → StepsAlong tables args_len i
all_step tables args_len (LoadWide dst value) sound = load_wide_along tables args_len dst value
all_step tables args_len (Load kind dst src offset) sound = load_along tables args_len kind dst src offset
all_step tables args_len (StoreImmediate size dst offset immediate) sound = store_immediate_along tables args_len size dst offset immediate
all_step tables args_len (StoreRegister size dst src offset) sound = store_register_along tables args_len size dst src offset
all_step tables args_len (Arithmetic width op dst src) sound = arithmetic_along tables args_len width op dst src sound
all_step tables args_len (Negate width dst) sound = negate_along tables args_len width dst
all_step tables args_len (MoveSignExtended kind dst src) sound = sign_extended_along tables args_len kind dst src
all_step tables args_len (End order width dst) sound = end_along tables args_len order width dst
all_step tables args_len (Jump distance) sound = jump_along tables args_len distance sound
all_step tables args_len (LongJump distance) sound = long_jump_along tables args_len distance sound
all_step tables args_len (Branch width condition dst src distance) sound = branch_along tables args_len width condition dst src distance sound
all_step tables args_len (Call helper) sound = call_along tables args_len helper
all_step tables args_len Exit sound = exit_along tables args_len
