-- The place is empty, or comes to the lists of its switch's ends and gate.
use Rattle.std.proofs.Common.{sym, ◌∙◌}
use Rattle.std.proofs.lemmas.Result.{on_ok_weaker}
use Rattle.vicinity.proofs.ListingLemmas.{fresh_end, fresh_gate, AreListedBelow-empty, AreListedBelow-more}
use Rattle.vicinity.proofs.live_lists.list_place.Goals as goal

pub returns-in_default : goal.returns-in_default
returns-in_default c = record {
  more = AreListedBelow-empty c.args.graph.now c.args.state.now c.args.place c.args.ends.now c.args.gates.now c.requires.below
      (sym c.switch_there.ensures.value ∙ c.in_default.is);
}

pub list_ends-requires-clause-new : goal.list_ends-requires-clause-new
list_ends-requires-clause-new c = fresh_end c.args.graph.now c.args.state.now c.args.place c.args.ends.now c.args.gates.now c.requires.below

pub add_at-requires-clause-new : goal.add_at-requires-clause-new
add_at-requires-clause-new c =
    fresh_gate c.args.graph.now c.args.state.now c.args.place c.args.ends.now c.args.gates.now c.requires.below c.in-Some.switch.gate

pub returns : goal.returns
returns c = record {
  more = on_ok_weaker c.add_at.result
      (AreListedBelow-more c.args.graph.now c.args.state.now c.args.place c.args.ends.now c.args.gates.now c.requires.below c.in-Some.switch
      (sym c.switch_there.ensures.value ∙ c.in-Some.is) c.conducts-live.result c.conducts-live.ensures c.list_ends.new.ends c.add_at.new.lists
      c.in_ok-list_ends.ensures) c.add_at.ensures;
}
