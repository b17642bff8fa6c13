-- A node's number is below the number of nodes, which is a number of the machine.
use Rattle.std.proofs.Common.{◌≡◌, ap, ◌∙◌, arith}
use Rattle.switch_paths.specs.Graphs.{nodes}
use Rattle.sim_read.specs.Drafts.{DraftData}
use Rattle.sim_read.proofs.reader.Draft.mark.Goals as goal

pub overflow_add-node : goal.overflow_add-node
overflow_add-node c =
    let count : c.nodes.result ≡ nodes c.args.self.now.circuit.graph =
    c.nodes.ensures ∙ ap nodes c.graph.ensures.value ∙ ap (λ (d : DraftData). nodes d.circuit.graph) c.self.view_is in
    omega (arith, c.nodes.type_inv)
