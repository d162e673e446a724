use Rattle.std.proofs.Common.{option_map, Some}
use Rattle.dsm_world.proofs.Numbered.{set_map}
use Rattle.dsm_world.proofs.calls.put_call.Goals as goal

pub returns : goal.returns
returns g c = set_map (λ slot. option_map (λ b. b.value) slot) c.args.calls.now.items c.args.at (Some c.args.open_call)
