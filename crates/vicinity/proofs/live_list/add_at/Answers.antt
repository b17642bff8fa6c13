-- One list is written anew.
use Rattle.std.specs.Prelude.{slice_index_or}
use Rattle.std.proofs.lemmas.List.{get_or_default}
use Rattle.std.proofs.lemmas.Result.{on_ok_weaker}
use Rattle.vicinity.proofs.LiveListLemmas.{AddsAt-written}
use Rattle.vicinity.proofs.live_list.add_at.Goals as goal

pub returns : goal.returns
returns c =
    let lists = c.args.lists.now in
    let d = c.index-lists-node.result in
    on_ok_weaker c.add.result
    (AddsAt-written lists c.args.node (slice_index_or lists c.args.node d) c.add.new.self c.requires.inside
    (get_or_default lists c.args.node d (slice_index_or lists c.args.node d) c.requires.inside) c.args.live c.args.place) c.add.ensures
