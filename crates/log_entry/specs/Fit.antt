-- Entries whose numbers and lengths fit their fields.
use Rattle.std.specs.Prelude.{◌≡◌, ◌<◌, ◌^◌, false, length}
use Rattle.bpf_bytes.specs.Spelling.{spelling}
use Rattle.log_model.specs.Log.{StoredProcedure}
use Rattle.log_model.specs.OpenRequest.{has_zero}
use Rattle.log_model.specs.Entries.{ExecutedCall}
use Rattle.log_entry.specs.Head.{NamedProcedure}
use Rattle.log_entry.specs.Bytes.{session_of, sequence_of}

pub record CallFitsFields (e : ExecutedCall) : Type 0 where
  pub number : e.call.number < 2 ^ 32
  pub procedure : e.call.procedure < 2 ^ 16
  pub args : length e.call.args < 2 ^ 16
  pub snapshot : e.call.snapshot < 2 ^ 32
  pub session : session_of e.call.request < 2 ^ 32
  pub sequence : sequence_of e.call.request < 2 ^ 32
  pub whole : has_zero e.call.request ≡ false
  pub reply : e.reply < 2 ^ 64

pub record AdditionFitsFields (p : StoredProcedure) : Type 0 where
  pub number : p.number < 2 ^ 16
  pub args_len : p.args_len < 2 ^ 16
  pub name : length p.name < 2 ^ 8
  pub program : length (spelling p.program) < 2 ^ 32

-- a procedure as its addition names it
abbrev pub named_procedure : StoredProcedure → NamedProcedure
named_procedure p = record { number = p.number; args_len = p.args_len; name = p.name; bytes = spelling p.program }
