use Rattle.flat_code.specs.Flat.{instruction_by}
use Rattle.vm_state.proofs.state.WordState.execute_flat.Goals as goal

pub load-requires-clause-can : goal.load-requires-clause-can
unfolding instruction_by
load-requires-clause-can c = rw c.in-LoadU8.is at c.requires.can

pub load-requires-in-LoadU16-clause-can : goal.load-requires-in-LoadU16-clause-can
unfolding instruction_by
load-requires-in-LoadU16-clause-can c = rw c.in-LoadU16.is at c.requires.can

pub load-requires-in-LoadU32-clause-can : goal.load-requires-in-LoadU32-clause-can
unfolding instruction_by
load-requires-in-LoadU32-clause-can c = rw c.in-LoadU32.is at c.requires.can

pub load-requires-in-LoadU64-clause-can : goal.load-requires-in-LoadU64-clause-can
unfolding instruction_by
load-requires-in-LoadU64-clause-can c = rw c.in-LoadU64.is at c.requires.can

pub load-requires-in-LoadI8-clause-can : goal.load-requires-in-LoadI8-clause-can
unfolding instruction_by
load-requires-in-LoadI8-clause-can c = rw c.in-LoadI8.is at c.requires.can

pub load-requires-in-LoadI16-clause-can : goal.load-requires-in-LoadI16-clause-can
unfolding instruction_by
load-requires-in-LoadI16-clause-can c = rw c.in-LoadI16.is at c.requires.can

pub load-requires-in-LoadI32-clause-can : goal.load-requires-in-LoadI32-clause-can
unfolding instruction_by
load-requires-in-LoadI32-clause-can c = rw c.in-LoadI32.is at c.requires.can

pub store_immediate-requires-clause-can : goal.store_immediate-requires-clause-can
unfolding instruction_by
store_immediate-requires-clause-can c = rw c.in-Store8Immediate.is at c.requires.can

pub store_immediate-requires-in-Store16Immediate-clause-can : goal.store_immediate-requires-in-Store16Immediate-clause-can
unfolding instruction_by
store_immediate-requires-in-Store16Immediate-clause-can c = rw c.in-Store16Immediate.is at c.requires.can

pub store_immediate-requires-in-Store32Immediate-clause-can : goal.store_immediate-requires-in-Store32Immediate-clause-can
unfolding instruction_by
store_immediate-requires-in-Store32Immediate-clause-can c = rw c.in-Store32Immediate.is at c.requires.can

pub store_immediate-requires-in-Store64Immediate-clause-can : goal.store_immediate-requires-in-Store64Immediate-clause-can
unfolding instruction_by
store_immediate-requires-in-Store64Immediate-clause-can c = rw c.in-Store64Immediate.is at c.requires.can

pub store_register-requires-clause-can : goal.store_register-requires-clause-can
unfolding instruction_by
store_register-requires-clause-can c = rw c.in-Store8Register.is at c.requires.can

pub store_register-requires-in-Store16Register-clause-can : goal.store_register-requires-in-Store16Register-clause-can
unfolding instruction_by
store_register-requires-in-Store16Register-clause-can c = rw c.in-Store16Register.is at c.requires.can

pub store_register-requires-in-Store32Register-clause-can : goal.store_register-requires-in-Store32Register-clause-can
unfolding instruction_by
store_register-requires-in-Store32Register-clause-can c = rw c.in-Store32Register.is at c.requires.can

pub store_register-requires-in-Store64Register-clause-can : goal.store_register-requires-in-Store64Register-clause-can
unfolding instruction_by
store_register-requires-in-Store64Register-clause-can c = rw c.in-Store64Register.is at c.requires.can
