use Rattle.std.proofs.lemmas.Bool.Decides.{Decides-eqb}
use Rattle.std.proofs.lemmas.Slice.Eq.{strip_prefix_is}
use Rattle.site.proofs.BytesLemmas.{behind_some, behind_none}
use Rattle.site.proofs.same_bytes.left_behind.Goals as goal

pub returns-clause-some : goal.returns-clause-some
returns-clause-some c = behind_some c.args.bytes.now c.args.piece.now c.strip_prefix.result (strip_prefix_is Decides-eqb c.args.bytes.now c.args.piece.now c.strip_prefix.result c.strip_prefix.ensures.cases)

pub returns-clause-none : goal.returns-clause-none
returns-clause-none c = behind_none c.args.bytes.now c.args.piece.now c.strip_prefix.result (strip_prefix_is Decides-eqb c.args.bytes.now c.args.piece.now c.strip_prefix.result c.strip_prefix.ensures.cases)
