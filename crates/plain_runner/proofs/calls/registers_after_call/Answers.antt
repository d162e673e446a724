use Rattle.std.proofs.Common.{◌∷◌, sym, ap}
use Rattle.bpf_semantics.specs.declared.value.Value.TheVariants.{Nothing, Number}
use Rattle.plain_runner.proofs.CallLemmas.{last_five}
use Rattle.plain_runner.proofs.calls.registers_after_call.Goals as goal

pub returns : goal.returns
returns c = ap (λ l. Number c.args.answer ∷ Nothing ∷ Nothing ∷ Nothing ∷ Nothing ∷ Nothing ∷ l) (sym (last_five c.args.registers.now Nothing c.told-registers))
