-- One empty list more.
use Rattle.std.proofs.Common.{◌∙◌, arith}
use Rattle.std.proofs.lemmas.List.{length_push}
use Rattle.channel_groups.proofs.ListingLemmas.{places_of-push}
use Rattle.channel_groups.proofs.ends.grow_lists.Goals as goal

pub loop-alloc-preserved : goal.loop-alloc-preserved
loop-alloc-preserved c =
    let so_far = c.loop-alloc.invariant in
    record {
      same = λ n. rw c.in_ok-push.ensures.items (places_of-push c.loop-alloc.lists.items c.new.result c.new.ensures.items n ∙ so_far.same n);
      longer = rw c.in_ok-push.ensures.items (omega (arith, so_far.longer, length_push c.loop-alloc.lists.items c.new.result));
    }
