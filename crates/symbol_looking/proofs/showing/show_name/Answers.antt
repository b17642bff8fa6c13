-- The nodes of the name: one, those of a vector, or none.
use Rattle.std.proofs.Common.{◌<◌, ℕ, List, [], ◌∷◌, All, map, subst, sym}
use Rattle.symbol_meaning.specs.Told.{Shown}
use Rattle.symbol_looking.specs.Letters.{letter_on, nodes_on}
use Rattle.symbol_looking.specs.Tellings.{HearsSome, telling}
use Rattle.symbol_looking.proofs.NamedLemmas.{named_inside, named_list, named_node, named_nothing}
use Rattle.symbol_looking.proofs.showing.show_name.Goals as goal

pub show_nodes-requires : goal.show_nodes-requires
show_nodes-requires g c =
    let all = named_inside c.args.circuit.now c.args.vectors.now c.args.name.now (nodes_on c.args.stage.now) c.requires.netlist c.requires.vectors
    c.requires.states in
    subst (All (λ (node : ℕ). node < nodes_on c.args.stage.now))
    (named_node c.args.circuit.now c.args.vectors.now c.args.name.now c.in-Node.node c.in-Node.ensures) all

pub show_nodes-requires-in-Vector : goal.show_nodes-requires-in-Vector
show_nodes-requires-in-Vector g c =
    let all = named_inside c.args.circuit.now c.args.vectors.now c.args.name.now (nodes_on c.args.stage.now) c.requires.netlist c.requires.vectors
    c.requires.states in
    subst (All (λ (node : ℕ). node < nodes_on c.args.stage.now))
    (named_list c.args.circuit.now c.args.vectors.now c.args.name.now c.in-Vector.nodes.now c.in-Vector.ensures.0 c.in-Vector.ensures.1) all

pub returns-in-Node-clause-heard : goal.returns-in-Node-clause-heard
returns-in-Node-clause-heard g c =
    subst (λ (list : List ℕ). HearsSome g.L.SymbolLines.hear g.L.SymbolLines.part (g.L.SymbolLines.heard c.args.out.now)
    (g.L.SymbolLines.heard c.show_nodes.new.out) (telling (Shown c.args.name.now (map (letter_on c.args.stage.now) list)) ∷ []) c.show_nodes.result)
    (sym (named_node c.args.circuit.now c.args.vectors.now c.args.name.now c.in-Node.node c.in-Node.ensures)) c.show_nodes.ensures.heard

pub returns-in-Vector-clause-heard : goal.returns-in-Vector-clause-heard
returns-in-Vector-clause-heard g c =
    subst (λ (list : List ℕ). HearsSome g.L.SymbolLines.hear g.L.SymbolLines.part (g.L.SymbolLines.heard c.args.out.now)
    (g.L.SymbolLines.heard c.show_nodes-in-Vector.new.out) (telling (Shown c.args.name.now (map (letter_on c.args.stage.now) list)) ∷ [])
    c.show_nodes-in-Vector.result)
    (sym (named_list c.args.circuit.now c.args.vectors.now c.args.name.now c.in-Vector.nodes.now c.in-Vector.ensures.0 c.in-Vector.ensures.1))
    c.show_nodes-in-Vector.ensures.heard

pub returns-in-Nothing-clause-heard : goal.returns-in-Nothing-clause-heard
returns-in-Nothing-clause-heard g c =
    subst (λ (list : List ℕ). HearsSome g.L.SymbolLines.hear g.L.SymbolLines.part (g.L.SymbolLines.heard c.args.out.now)
    (g.L.SymbolLines.heard c.show_nodes-in-Nothing.new.out) (telling (Shown c.args.name.now (map (letter_on c.args.stage.now) list)) ∷ [])
    c.show_nodes-in-Nothing.result)
    (sym (named_nothing c.args.circuit.now c.args.vectors.now c.args.name.now c.in-Nothing.ensures.0 c.in-Nothing.ensures.1))
    c.show_nodes-in-Nothing.ensures.heard
