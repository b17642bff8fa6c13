-- An empty place, and a switch at its ends.
use Rattle.std.proofs.Common.{sym, ◌∙◌}
use Rattle.channel_groups.specs.Listing.{places_of}
use Rattle.channel_groups.proofs.ListingLemmas.{AreListedTo-empty, AreListedTo-more}
use Rattle.channel_groups.proofs.ends.list_switch.Goals as goal

pub returns-in_default-clause-firsts : goal.returns-in_default-clause-firsts
returns-in_default-clause-firsts c =
    AreListedTo-empty (λ switch. switch.a) c.args.graph.now c.args.place (places_of c.args.ends.now.firsts.items)
    (sym c.switch_at.ensures.value ∙ c.in_default.is) c.requires.firsts

pub returns-in_default-clause-seconds : goal.returns-in_default-clause-seconds
returns-in_default-clause-seconds c =
    AreListedTo-empty (λ switch. switch.b) c.args.graph.now c.args.place (places_of c.args.ends.now.seconds.items)
    (sym c.switch_at.ensures.value ∙ c.in_default.is) c.requires.seconds

pub returns-clause-firsts : goal.returns-clause-firsts
returns-clause-firsts c =
    AreListedTo-more (λ switch. switch.a) c.args.graph.now c.args.place c.in-Some.switch (places_of c.args.ends.now.firsts.items)
    (places_of c.list_place.new.lists.items) (sym c.switch_at.ensures.value ∙ c.in-Some.is) c.in_ok-list_place.ensures.lists c.requires.firsts

pub returns-clause-seconds : goal.returns-clause-seconds
returns-clause-seconds c =
    AreListedTo-more (λ switch. switch.b) c.args.graph.now c.args.place c.in-Some.switch (places_of c.args.ends.now.seconds.items)
    (places_of c.list_place-2.new.lists.items) (sym c.switch_at.ensures.value ∙ c.in-Some.is) c.in_ok-list_place-2.ensures.lists c.requires.seconds
