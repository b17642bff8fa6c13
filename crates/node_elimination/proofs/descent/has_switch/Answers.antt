-- A switch stands at one of the places.
use Rattle.std.proofs.Common.{◌<◌, length, arith}
use Rattle.node_elimination.proofs.AlongLinks.{place-inside}
use Rattle.node_elimination.proofs.descent.has_switch.Goals as goal

pub returns : goal.returns
returns c = λ none place switch stands.
    let inside : place < length c.args.graph.now.places = place-inside c.args.graph.now place switch stands in
    c.loop-place.invariant place (omega arith) switch stands
