use Rattle.std.proofs.Common.{rules}
use Rattle.byte_output.proofs.PendingLemmas.{Writes-finished}
use Rattle.bpf_list.specs.Listing.{listing_of}
use Rattle.bpf_list.proofs.listing.Goals as goal

-- nothing was pending at the beginning, and nothing is at the end
pub returns : goal.returns
returns g c =
    Writes-finished g.W.Write.contents c.new-pages.result c.put_listing.new.output c.args.output.now _ _ (listing_of c.args.code.now) c.finish.result (search rules)
    c.new-pages.ensures.untouched c.new-pages.ensures.empty c.in_ok-put_listing.ensures.bytes c.finish.ensures
