-- The place comes to both lists, or to one if both ends are one node.
use Rattle.std.proofs.lemmas.Result.{on_ok_weaker}
use Rattle.vicinity.proofs.ListingLemmas.{AddsEnds-both, AddsEnds-same, fresh_still}
use Rattle.vicinity.proofs.live_lists.list_ends.Goals as goal

pub add_at-requires-clause-new : goal.add_at-requires-clause-new
add_at-requires-clause-new c = c.requires.new c.args.switch.a

pub returns-then-switch : goal.returns-then-switch
returns-then-switch c = AddsEnds-same c.args.live c.args.place c.args.switch c.args.ends.now c.add_at.new.lists c.if-switch.true c.in_ok-add_at.ensures

pub add_at-requires-2-clause-new : goal.add_at-requires-2-clause-new
add_at-requires-2-clause-new c =
    fresh_still c.args.live c.args.place c.args.switch c.args.ends.now c.add_at.new.lists c.in_ok-add_at.ensures c.if-switch.false c.requires.new

pub returns : goal.returns
returns c =
    on_ok_weaker c.add_at-2.result
    (AddsEnds-both c.args.live c.args.place c.args.switch c.args.ends.now c.add_at.new.lists c.add_at-2.new.lists c.in_ok-add_at.ensures)
    c.add_at-2.ensures
