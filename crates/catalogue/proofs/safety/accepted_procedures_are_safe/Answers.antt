use Rattle.std.proofs.Common.{◌<◌, ◌≤◌, ◌^◌}
use Rattle.schema.specs.Rows.{AreRows}
use Rattle.bpf_semantics.specs.Run.{Run, run}
use Rattle.bpf_semantics.specs.Path.{longest_path}
use Rattle.catalogue.proofs.SafetyLemmas.{weaker}
use Rattle.catalogue.proofs.safety.accepted_procedures_are_safe.Goals as goal

pub returns : goal.returns
returns c = λ tables p program are accepted args rows takes fit.
    weaker
    (λ (r : Run). (r.steps ≤ longest_path p.program) × (r.reply < 2 ^ 64) × AreRows tables r.effect)
    (λ (r : Run). (r.steps ≤ longest_path p.program) × AreRows tables r.effect)
    (run p.program tables args rows) (λ r h. (h.0, h.2))
    (c.accepted_programs_never_go_wrong.ensures.run (record { program = p.program; tables = tables; args_len = p.args_len }) args rows program are accepted
    (record { long = takes.count; bytes = takes.each_byte; of_schema = fit }))
