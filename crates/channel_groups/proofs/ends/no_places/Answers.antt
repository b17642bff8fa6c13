-- One empty list more.
use Rattle.std.proofs.Common.{◌∙◌, arith}
use Rattle.std.proofs.lemmas.List.{length_push}
use Rattle.channel_groups.proofs.ListingLemmas.{places_of-push}
use Rattle.channel_groups.proofs.ends.no_places.Goals as goal

pub loop-preserved : goal.loop-preserved
loop-preserved c =
    let so_far = c.loop.invariant in
    record {
      count = rw c.in_ok-push.ensures.items (length_push c.loop.lists.items c.new.result ∙ omega (arith, so_far.count));
      none = λ node. rw c.in_ok-push.ensures.items (places_of-push c.loop.lists.items c.new.result c.new.ensures.items node ∙ so_far.none node);
    }
