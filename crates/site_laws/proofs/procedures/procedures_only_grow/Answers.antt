use Rattle.site_laws.proofs.GrowingLemmas.{grow, name_kept, number_kept, own_behind}
use Rattle.site_laws.proofs.procedures.procedures_only_grow.Goals as goal

pub returns-clause-later : goal.returns-clause-later
returns-clause-later c s order more =
    grow s c.procedures_after_each_byte_string.ensures.told c.procedures_after_each_byte_string.ensures.added c.procedures_after_each_byte_string.ensures.others order more

pub returns-clause-name : goal.returns-clause-name
returns-clause-name c s order more name p e =
    name_kept s c.procedures_after_each_byte_string.ensures.told c.procedures_after_each_byte_string.ensures.added c.procedures_after_each_byte_string.ensures.others order more name p e

pub returns-clause-number : goal.returns-clause-number
returns-clause-number c s order more number p e =
    number_kept s c.procedures_after_each_byte_string.ensures.told c.procedures_after_each_byte_string.ensures.added c.procedures_after_each_byte_string.ensures.others order more number p e

pub returns-clause-own : goal.returns-clause-own
returns-clause-own c s order name p distinct e =
    own_behind s c.procedures_after_each_byte_string.ensures.told c.procedures_after_each_byte_string.ensures.added c.procedures_after_each_byte_string.ensures.others
    c.procedures_after_each_byte_string.ensures.first distinct order name p e
