use Rattle.bpf_semantics.proofs.EffectLemmas.{effect_kept, effect_cancelled}
use Rattle.bpf_semantics.proofs.laws.the_effect_is_that_of_the_writes.Goals as goal

pub returns-clause-kept : goal.returns-clause-kept
returns-clause-kept c = effect_kept

pub returns-clause-cancelled : goal.returns-clause-cancelled
returns-clause-cancelled c = effect_cancelled
