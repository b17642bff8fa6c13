-- First to the graph on the way, by where the graph differed from it; then on, by where the other one does.
use Rattle.std.proofs.Common.{◌∙◌}
use Rattle.std.proofs.lemmas.Bool.{OnTrue_at, OnTrue_from}
use Rattle.edits_between.proofs.LeadingLemmas.{covers_the_way, differ_from_the_way, large_back, large_from_the_way, led_by_then}
use Rattle.edits_between.proofs.leading.lead_by.Goals as goal

pub find-requires : goal.find-requires
find-requires g c = large_back c.args.way.now c.args.target.now c.requires.large

pub lead-requires-in-Ok : goal.lead-requires-in-Ok
lead-requires-in-Ok g c =
    let there = OnTrue_at c.if-not-lead.false c.lead.ensures.graph in record {
      covers = covers_the_way c.args.graph.now c.lead.new.graph c.args.way.now c.args.slot.now c.lead.new.slot there
          (OnTrue_at c.if-not-lead.false c.lead.ensures.led);
      large = large_from_the_way c.lead.new.graph c.args.way.now c.args.target.now there c.requires.large;
      apart = differ_from_the_way c.lead.new.graph c.args.way.now c.args.target.now c.find.new.self there c.requires.large c.in-Ok.ensures;
    }

pub returns-in-Ok-clause-led : goal.returns-in-Ok-clause-led
returns-in-Ok-clause-led g c = OnTrue_from c.lead-in-Ok.result _ (λ set.
    led_by_then c.args.graph.now c.lead.new.graph c.args.way.now c.args.target.now c.parts_in.result c.args.slot.now c.lead.new.slot c.lead-in-Ok.new.slot
    (OnTrue_at c.if-not-lead.false c.lead.ensures.graph) c.parts_in.ensures (OnTrue_at c.if-not-lead.false c.lead.ensures.led)
    (OnTrue_at set c.lead-in-Ok.ensures.led))

pub returns-in-Ok-clause-apart : goal.returns-in-Ok-clause-apart
returns-in-Ok-clause-apart g c = OnTrue_from c.lead-in-Ok.result _ (λ set. c.in-Ok.ensures)

pub returns-in-Ok-clause-last : goal.returns-in-Ok-clause-last
returns-in-Ok-clause-last g c = c.lead-in-Ok.ensures.last ∙ c.lead.ensures.last
