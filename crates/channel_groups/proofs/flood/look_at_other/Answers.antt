-- The changed place is passed over.
use Rattle.std.proofs.Common.{◌≡◌, Some}
use Rattle.channel_groups.proofs.FloodLemmas.{Sees-less}
use Rattle.channel_groups.proofs.flood.look_at_other.Goals as goal

pub returns-clause-sees : goal.returns-clause-sees
returns-clause-sees g c =
    Sees-less c.args.graph.now c.args.node (λ one. one ≡ c.args.place) (λ one. (one ≡ c.args.place) × ¬ (c.args.changed ≡ Some one))
    c.args.flood.now.nodes.keys c.look.new.flood.nodes.keys c.args.flood.now.places.items c.look.new.flood.places.items
    c.in_ok-look.ensures.sees
    (λ one n looked to. looked.0)
