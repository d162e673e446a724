use Rattle.sig_lanes.proofs.LawLemmas.{meet_by_bits}
use Rattle.sig_lanes.proofs.laws.signatures_meet_where_bits_are_shared.Goals as goal

pub returns-clause-bits : goal.returns-clause-bits
returns-clause-bits c = λ looks writes reads written of_reads of_writes.
    meet_by_bits looks writes reads written c.shared_bits_are_of_both.ensures.few (c.shared_bits_are_of_both.ensures.shared looks writes) of_reads of_writes

pub returns-clause-keys : goal.returns-clause-keys
returns-clause-keys c = λ looks writes reads written of_reads of_writes share.
    (meet_by_bits looks writes reads written c.shared_bits_are_of_both.ensures.few (c.shared_bits_are_of_both.ensures.shared looks writes) of_reads of_writes).1
    (c.sets_that_share_a_key_share_a_bit.ensures looks writes share)
