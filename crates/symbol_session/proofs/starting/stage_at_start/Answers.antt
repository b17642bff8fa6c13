-- The stage has the states of a start, and goes on with the variables' functions.
use Rattle.std.proofs.Common.{◌≡◌, ℕ, ◌∷◌, ◌-◌, replicate, ap, ◌∙◌, arith}
use Rattle.ternary.specs.declared.tern.Tern.TheVariants.{Zero, One, Unk}
use Rattle.switch_paths.specs.Graphs.{GraphData, nodes}
use Rattle.switch_paths.specs.declared.TheConstants.{RAILS}
use Rattle.symbol_session.proofs.StartLemmas.{at_start}
use Rattle.symbol_session.proofs.starting.stage_at_start.Goals as goal

pub start-requires : goal.start-requires
start-requires c =
    record {
      railed = omega (
        arith,
        c.nodes.ensures,
        ap (λ (g : GraphData). nodes g) c.graph-graph.ensures.value,
        c.graph-graph.ensures.netlist.railed,
      );
    }

pub returns-in-Ok-name_variables-clause-stage : goal.returns-in-Ok-name_variables-clause-stage
returns-in-Ok-name_variables-clause-stage c =
    let count : c.nodes.result ≡ nodes c.args.circuit.now.graph = c.nodes.ensures ∙ ap (λ (g : GraphData). nodes g) c.graph-graph.ensures.value in
    at_start c.args.symbols c.args.circuit.now c.in-Ok.stage c.name_variables.new.stage c.in-Ok.ensures.maker c.in-Ok.ensures.unbuilt
    (λ column inside. c.in-Ok.ensures.states column inside ∙ ap (λ (n : ℕ). Zero ∷ One ∷ replicate (n - RAILS) Unk) count)
    c.name_variables.ensures.makes c.name_variables.ensures.built
