use Rattle.machine_stage.proofs.RoomLemmas.{puts_told}
use Rattle.machine_stage.proofs.moving.place.Goals as goal

pub returns-clause-puts : goal.returns-clause-puts
returns-clause-puts c =
    puts_told c.args.graph.now c.args.node c.args.value c.args.machine.now c.set_node.new.self c.set_node.ensures.places c.set_node.ensures.covers
    c.set_node.ensures.fits c.set_node.ensures.no_member
