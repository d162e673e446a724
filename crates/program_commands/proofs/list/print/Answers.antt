use Rattle.std.proofs.Common.{rules}
use Rattle.byte_output.proofs.PendingLemmas.{Writes-finished}
use Rattle.program_commands.specs.Listing.{listing_text}
use Rattle.program_commands.proofs.list.print.Goals as goal

pub returns : goal.returns
returns g c =
    Writes-finished g.W.Write.contents c.new-pages.result c.put_decoded.new.output c.args.output.now _ _ (listing_text c.args.decoded.now) c.finish.result (search rules)
    c.new-pages.ensures.untouched c.new-pages.ensures.empty c.in_ok-put_decoded.ensures.bytes c.finish.ensures
