-- All but the place stay in the node's list.
use Rattle.std.proofs.Common.{nat_eq, subst, arith, refl}
use Rattle.std.specs.List.{IsDistinct}
use Rattle.channel_groups.specs.Listing.{places_of}
use Rattle.channel_groups.proofs.ListingLemmas.{SetsAt-written, list_read, taken_at, named_others}
use Rattle.channel_groups.proofs.ends.take_out.Goals as goal

pub take_from-requires : goal.take_from-requires
take_from-requires c =
    let v = c.index_mut.result.now in
    subst (IsDistinct nat_eq) (list_read c.args.lists.now.items c.in-Some.node v v (omega arith) c.index_mut.ensures.value) (c.requires c.in-Some.node)

pub returns-clause-at : goal.returns-clause-at
returns-clause-at c =
    taken_at c.args.from c.in-Some.node c.args.place c.args.lists.now.items c.index_mut.result.now c.take_from.new.places (omega arith)
    c.index_mut.ensures.value c.in-Some.is c.take_from.ensures.taken

pub returns-clause-others : goal.returns-clause-others
returns-clause-others c =
    let lists = c.args.lists.now.items in
    named_others c.args.from c.in-Some.node _ (places_of lists) _ c.in-Some.is
    (SetsAt-written lists c.in-Some.node c.index_mut.result.now c.take_from.new.places (omega arith) c.index_mut.ensures.value
    (λ _. c.take_from.new.places.items) refl)
