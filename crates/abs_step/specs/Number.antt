-- The causes' numbers.
use Rattle.std.specs.Prelude.{ℕ}
use Rattle.abs_step.specs.declared.cause.Cause.{Cause}
use Rattle.abs_step.specs.declared.cause.Cause.TheVariants.{HoldsNothing, WritesFramePointer, UsesPointer, OutsideMemory, Uninitialised, UnknownHelper, UnknownTable, NoNumber, NoBuffer, RepliesPointer, StoresToArguments}

abbrev pub cause_number : Cause → ℕ
cause_number HoldsNothing = 1
cause_number WritesFramePointer = 2
cause_number UsesPointer = 3
cause_number OutsideMemory = 4
cause_number Uninitialised = 5
cause_number UnknownHelper = 6
cause_number UnknownTable = 7
cause_number NoNumber = 8
cause_number NoBuffer = 9
cause_number RepliesPointer = 10
cause_number StoresToArguments = 11
