-- The machine was led to the graph, or a whole one is built in place of it.
use Rattle.std.proofs.Common.{List, refl, sym, subst}
use Rattle.std.specs.Prelude.{◌-◌, vec_capacity, vec_len}
use Rattle.std.proofs.lemmas.Bool.{OnTrue_at}
use Rattle.switch_paths.specs.Graphs.{GraphData}
use Rattle.group_text.specs.Texts.{GroupTextData}
use Rattle.analysis_cache.specs.Keeping.{texts_of}
use Rattle.fault_stage.specs.Building.{IsStart}
use Rattle.fault_stage.specs.Runs.{IsLed}
use Rattle.fault_stage.specs.Stages.{StandInFront}
use Rattle.fault_stage.proofs.HeldLemmas.{held_led}
use Rattle.fault_stage.proofs.LeadingLemmas.{led_machine, led_some, texts_led}
use Rattle.fault_stage.proofs.building.build_next.Goals as goal

pub lead-requires-clause-sound : goal.lead-requires-clause-sound
lead-requires-clause-sound g c = rw c.deref.ensures.value c.requires.starts.sound

pub build_in_place-requires-clause-front : goal.build_in_place-requires-clause-front
build_in_place-requires-clause-front g c =
    subst (λ (texts : List GroupTextData). StandInFront texts (texts_of c.args.kept.now)) (sym c.lead.ensures.texts) c.requires.front

pub returns-then-not-lead : goal.returns-then-not-lead
returns-then-not-lead g c =
    held_led c.args.large c.args.graph.now c.args.graph.now c.args.state.items (vec_capacity c.args.state - vec_len c.args.state) _ _ _ _ _ _ _ _
    refl c.lead.ensures.texts c.build_in_place.ensures

pub unreachable-requires : goal.unreachable-requires
unreachable-requires g c = absurd (led_some _ c.args.graph.now c.lead.new.count _ _ c.in_default.is (OnTrue_at c.if-not-lead.false c.lead.ensures.led))

pub finish-requires-clause-led : goal.finish-requires-clause-led
finish-requires-clause-led g c =
    let l = c.lead.new.self in
    let led : IsLed l.good.graph c.args.graph.now c.lead.new.count c.deref.result.now c.in-Some.machine =
    led_machine l.good.graph c.args.graph.now c.lead.new.count c.deref.result.now l.machine c.in-Some.machine c.in-Some.is (OnTrue_at c.if-not-lead.false c.lead.ensures.led) in
    subst (λ (h : GraphData). IsLed l.good.graph h c.lead.new.count c.args.state.items c.in-Some.machine) (sym (OnTrue_at c.if-not-lead.false c.lead.ensures.graph))
    (rw (← c.deref.ensures.value) led)

pub finish-requires-clause-apart : goal.finish-requires-clause-apart
finish-requires-clause-apart g c = OnTrue_at c.if-not-lead.false c.lead.ensures.apart

pub finish-requires-clause-starts : goal.finish-requires-clause-starts
finish-requires-clause-starts g c =
    subst (λ (h : GraphData). IsStart h c.args.state.items) (sym (OnTrue_at c.if-not-lead.false c.lead.ensures.graph)) c.requires.starts

pub finish-requires-clause-front : goal.finish-requires-clause-front
finish-requires-clause-front g c =
    subst (λ (texts : List GroupTextData). StandInFront texts (texts_of c.args.kept.now))
    (sym (texts_led c.args.last_run.machine c.lead.new.self.machine c.in-Some.machine c.in-Some.is c.lead.ensures.texts)) c.requires.front

pub returns : goal.returns
returns g c =
    held_led c.args.large c.lead.new.self.graph c.args.graph.now c.args.state.items (vec_capacity c.args.state - vec_len c.args.state) _ _ _ _ _ _ _ _
    (OnTrue_at c.if-not-lead.false c.lead.ensures.graph)
    (texts_led c.args.last_run.machine c.lead.new.self.machine c.in-Some.machine c.in-Some.is c.lead.ensures.texts) c.finish.ensures
