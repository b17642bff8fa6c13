-- The machine starts again, and is led then.
use Rattle.std.proofs.Common.{◌∙◌, sym}
use Rattle.std.proofs.lemmas.Bool.{OnTrue_at, OnTrue_from}
use Rattle.fault_stage.proofs.LeadingLemmas.{covers_again, led_there, texts_same}
use Rattle.fault_stage.proofs.leading.lead_in.Goals as goal

pub restart_in-requires-clause-counted : goal.restart_in-requires-clause-counted
restart_in-requires-clause-counted c = c.requires.sound.counted ∙ (c.requires.large.nodes_are ∙ c.requires.there.nodes_are)

pub lead_uncounted-requires-clause-covers : goal.lead_uncounted-requires-clause-covers
lead_uncounted-requires-clause-covers c = covers_again c.args.graph.now c.args.state.now c.restart_in.new.slot c.restart_in.ensures.covered

pub returns-then-not-lead_uncounted-clause-texts : goal.returns-then-not-lead_uncounted-clause-texts
returns-then-not-lead_uncounted-clause-texts c =
    texts_same c.lead_uncounted.new.slot ∙ (c.lead_uncounted.ensures.last ∙ (sym (texts_same c.restart_in.new.slot) ∙ c.restart_in.ensures.texts))

pub returns-clause-led : goal.returns-clause-led
returns-clause-led c = OnTrue_from c.is_some.result _ (λ set.
    led_there c.args.graph.now c.args.way.now c.args.target.now c.lead_uncounted.new.count c.args.state.now c.restart_in.new.slot c.lead_uncounted.new.slot c.requires.sound.sound
    c.restart_in.ensures.covered (sym c.is_some.ensures ∙ set) (OnTrue_at c.if-not-lead_uncounted.false c.lead_uncounted.ensures.led))

pub returns-clause-graph : goal.returns-clause-graph
returns-clause-graph c = OnTrue_from c.is_some.result _ (λ set. OnTrue_at c.if-not-lead_uncounted.false c.lead_uncounted.ensures.graph)

pub returns-clause-apart : goal.returns-clause-apart
returns-clause-apart c = OnTrue_from c.is_some.result _ (λ set. OnTrue_at c.if-not-lead_uncounted.false c.lead_uncounted.ensures.apart)

pub returns-clause-texts : goal.returns-clause-texts
returns-clause-texts c =
    texts_same c.lead_uncounted.new.slot ∙ (c.lead_uncounted.ensures.last ∙ (sym (texts_same c.restart_in.new.slot) ∙ c.restart_in.ensures.texts))
