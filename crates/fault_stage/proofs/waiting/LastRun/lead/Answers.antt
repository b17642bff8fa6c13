-- It is led if it can be.
use Rattle.std.proofs.Common.{true, sym, subst}
use Rattle.std.proofs.lemmas.Bool.{OnTrue_at}
use Rattle.switch_paths.specs.Graphs.{GraphData}
use Rattle.edits_between.specs.Leading.{DifferAt, IsAsLarge}
use Rattle.fault_stage.specs.declared.waiting.LastRun.{LastRun}
use Rattle.fault_stage.specs.Runs.{IsLedIn}
use Rattle.fault_stage.proofs.LeadingLemmas.{last_run_led}
use Rattle.fault_stage.proofs.waiting.LastRun.lead.Goals as goal

pub lead_in-requires-clause-covered : goal.lead_in-requires-clause-covered
lead_in-requires-clause-covered c = (c.requires.last_run (OnTrue_at c.if-not-can_lead.false c.can_lead.ensures.covered)).machine

pub lead_in-requires-clause-apart : goal.lead_in-requires-clause-apart
lead_in-requires-clause-apart c =
    subst (λ (way : GraphData). DifferAt c.args.self.now.graph way c.args.self.now.apart) (sym c.graph.ensures)
    (c.requires.last_run (OnTrue_at c.if-not-can_lead.false c.can_lead.ensures.covered)).apart

pub lead_in-requires-clause-there : goal.lead_in-requires-clause-there
lead_in-requires-clause-there c =
    subst (λ (way : GraphData). IsAsLarge c.args.self.now.graph way) (sym c.graph.ensures) (OnTrue_at c.if-not-can_lead.false c.can_lead.ensures.there)

pub lead_in-requires-clause-large : goal.lead_in-requires-clause-large
lead_in-requires-clause-large c =
    subst (λ (way : GraphData). IsAsLarge way c.args.graph.now) (sym c.graph.ensures) (OnTrue_at c.if-not-can_lead.false c.can_lead.ensures.large)

pub returns-then-not-can_lead-clause-last_run : goal.returns-then-not-can_lead-clause-last_run
returns-then-not-can_lead-clause-last_run c = c.requires.last_run

pub returns-then-not-lead_in-clause-last_run : goal.returns-then-not-lead_in-clause-last_run
returns-then-not-lead_in-clause-last_run c = λ covered. absurd (cc (covered))

pub returns-clause-last_run : goal.returns-clause-last_run
returns-clause-last_run c =
    let run : LastRun =
    record { machine = c.lead_in.new.slot; covered = true; graph = c.lead_in.new.graph; good = c.args.self.now.good; apart = c.lead_in.new.apart } in
    last_run_led run c.args.graph.now c.lead_in.new.count c.args.state.now (OnTrue_at c.if-not-lead_in.false c.lead_in.ensures.graph)
    (subst (λ (way : GraphData). IsLedIn way c.args.graph.now c.lead_in.new.count c.args.state.now c.lead_in.new.slot) c.graph.ensures
    (OnTrue_at c.if-not-lead_in.false c.lead_in.ensures.led))
    (subst (λ (way : GraphData). DifferAt c.args.graph.now way c.lead_in.new.apart) c.graph.ensures (OnTrue_at c.if-not-lead_in.false c.lead_in.ensures.apart))

pub returns-clause-led : goal.returns-clause-led
returns-clause-led c =
    subst (λ (way : GraphData). IsLedIn way c.args.graph.now c.lead_in.new.count c.args.state.now c.lead_in.new.slot) c.graph.ensures
    (OnTrue_at c.if-not-lead_in.false c.lead_in.ensures.led)

pub returns-clause-apart : goal.returns-clause-apart
returns-clause-apart c =
    subst (λ (g : GraphData). DifferAt g c.args.self.now.good.graph c.lead_in.new.apart) (sym (OnTrue_at c.if-not-lead_in.false c.lead_in.ensures.graph))
    (subst (λ (way : GraphData). DifferAt c.args.graph.now way c.lead_in.new.apart) c.graph.ensures (OnTrue_at c.if-not-lead_in.false c.lead_in.ensures.apart))

pub returns-clause-graph : goal.returns-clause-graph
returns-clause-graph c = OnTrue_at c.if-not-lead_in.false c.lead_in.ensures.graph
