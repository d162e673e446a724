use Rattle.catalogue.proofs.safety.catalogues_of_accepted_procedures_are_safe.Goals as goal

pub returns : goal.returns
returns c = λ tables procedures are accepted number p known.
    let one = accepted number p known in
    c.accepted_procedures_are_safe.ensures tables p one.0 are one.1
