use Rattle.std.proofs.Common.{◌++◌, Option, option_map, sym, subst}
use Rattle.std.specs.Borrow.{Bor}
use Rattle.site.specs.SameBytes.{IsLeft}
use Rattle.site.proofs.BytesLemmas.{piece_taken, others_came}
use Rattle.site.proofs.same_bytes.ExpectedByteSink.append.Goals as goal
use Rattle.site.proofs.same_bytes.ExpectedByteSink.append.Goals.{in-Some, in-None}

pub returns : goal.returns
returns c whole came is =
    elim c.match-self.branch [
      | in-Some w ↦
          subst (λ (r : Option (Bor _)). IsLeft whole (came ++ c.args.bytes.now) (option_map (λ x. x.now) r)) (sym w.self-is)
          (piece_taken whole came c.args.bytes.now w.in-Some.left.now w.left_behind-self.result
          (subst (λ (r : Option (Bor _)). IsLeft whole came (option_map (λ x. x.now) r)) w.in-Some.is is)
          w.left_behind-self.ensures.some w.left_behind-self.ensures.none)
      | in-None w ↦
          subst (λ (r : Option (Bor _)). IsLeft whole (came ++ c.args.bytes.now) (option_map (λ x. x.now) r)) (sym w.self-is)
          (others_came whole came c.args.bytes.now (subst (λ (r : Option (Bor _)). IsLeft whole came (option_map (λ x. x.now) r)) w.in-None.is is))
    ]
