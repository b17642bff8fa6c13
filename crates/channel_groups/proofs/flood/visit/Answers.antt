-- Each place at the node is listed by its first end or its second, or is the changed one.
use Rattle.std.proofs.Common.{ap, ◌∙◌}
use Rattle.channel_groups.specs.Listing.{places_of}
use Rattle.channel_groups.proofs.FloodLemmas.{Sees-visit}
use Rattle.channel_groups.proofs.flood.visit.Goals as goal

pub returns-clause-sees : goal.returns-clause-sees
returns-clause-sees g c =
    let node = c.args.node in
    Sees-visit c.args.graph.now node c.args.changed
    (places_of c.args.ends.now.firsts.items) (places_of c.args.ends.now.seconds.items) c.requires.firsts c.requires.seconds
    c.listed.result.now c.listed-2.result.now
    (c.listed.ensures ∙ ap (λ lists. places_of lists node) c.deref.ensures.value)
    (c.listed-2.ensures ∙ ap (λ lists. places_of lists node) c.deref-2.ensures.value)
    _ _ _ _ _ _ _ _
    c.in_ok-look_along.ensures.sees c.in_ok-look_along-2.ensures.sees c.in_ok-look_at_changed.ensures.sees
