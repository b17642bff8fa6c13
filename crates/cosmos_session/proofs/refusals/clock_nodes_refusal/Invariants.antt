use Rattle.std.proofs.Common.{◌≡◌, ℕ, List, drop}
use Rattle.ternary.specs.declared.tern.Tern.{Tern}
use Rattle.netlist.specs.Names.{node_of}
use Rattle.session_meaning.specs.Refusals.{first_refusal, set_refusal}
use Rattle.cosmos_session.proofs.refusals.clock_nodes_refusal.Given as goal

abbrev pub invariant-loop-name : goal.invariant-loop-name
invariant-loop-name l =
    let refusal = (λ (item : List ℕ × List Tern). set_refusal l.circuit (node_of l.circuit.names item.0)) in
    first_refusal refusal (drop l.name-index l.list) ≡ first_refusal refusal l.list
