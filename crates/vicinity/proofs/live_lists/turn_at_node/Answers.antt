-- One list is written anew.
use Rattle.std.specs.Prelude.{slice_index_or}
use Rattle.std.proofs.lemmas.List.{get_or_default}
use Rattle.vicinity.proofs.LiveListLemmas.{TurnsAtNode-written}
use Rattle.vicinity.proofs.live_lists.turn_at_node.Goals as goal

pub returns : goal.returns
returns c =
    let lists = c.args.ends.now in
    let d = c.index-ends-node.result in
    TurnsAtNode-written lists c.args.node (slice_index_or lists c.args.node d) c.turn-spot.new.self c.requires
    (get_or_default lists c.args.node d (slice_index_or lists c.args.node d) c.requires) c.args.live c.args.place c.turn-spot.ensures.turns
