use Rattle.std.proofs.Common.{sym, subst}
use Rattle.certify.specs.Kept.{CertifierState, IsMemoryOf}
use Rattle.certify.proofs.certifier.Certifier.repeated.Goals as goal

pub returns : goal.returns
returns g c = λ done past stands. c.repeated_in.ensures done past (subst (λ (s : CertifierState). IsMemoryOf s.memory done past) (sym c.self.view_is) stands).requests
