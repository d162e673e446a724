-- What becomes of the byte strings that change no rows, no procedures and no requests.
use Rattle.site_model.specs.declared.outcome.EntryOutcome.{EntryOutcome}
use Rattle.site_model.specs.declared.outcome.EntryOutcome.TheVariants.{Nothing, Session}

-- they are nothing, or open a session
abbrev pub ChangesNothing : EntryOutcome → Type 0
ChangesNothing (Nothing cause) = Unit {0}
ChangesNothing (Session session) = Unit {0}
ChangesNothing outcome = ⊥
