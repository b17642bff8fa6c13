-- Only the changed place is looked at.
use Rattle.std.proofs.Common.{◌≡◌, Some, sym, ◌∙◌}
use Rattle.channel_groups.proofs.FloodLemmas.{Sees-less, only_end}
use Rattle.channel_groups.proofs.flood.look_at_changed.Goals as goal

pub returns-in_ok-look-in-Some-clause-sees : goal.returns-in_ok-look-in-Some-clause-sees
returns-in_ok-look-in-Some-clause-sees g c =
    Sees-less c.args.graph.now c.args.node (λ one. one ≡ c.in-Some.place) (λ one. c.args.changed ≡ Some one)
    c.args.flood.now.nodes.keys c.look.new.flood.nodes.keys c.args.flood.now.places.items c.look.new.flood.places.items
    c.in_ok-look-in-Some.ensures.sees
    (λ one n is to. only_end one c.in-Some.place (sym is ∙ c.in-Some.is))
