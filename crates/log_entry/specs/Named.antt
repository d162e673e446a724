-- A head in code, and the definition's.
use Rattle.log_entry.specs.declared.head.EntryHead.{EntryHead}
use Rattle.log_entry.specs.declared.head.EntryHead.TheVariants.{Call, Addition}
use Rattle.log_entry.specs.declared.addition.NamedProgram.{NamedProgram}
use Rattle.log_entry.specs.Head.{Head, NamedProcedure, CallHead, AdditionHead}

abbrev pub named_of : NamedProgram → NamedProcedure
named_of named =
    record { number = named.number; args_len = named.args_len; name = named.name.now; bytes = named.program.now }

abbrev pub named : EntryHead → Head
named (Call head) = CallHead (record {
  number = head.number;
  procedure = head.procedure;
  args = head.args.now;
  snapshot = head.snapshot;
  request = head.request;
}) head.reply
named (Addition program) = AdditionHead (named_of program)
