-- No name was noted yet.
use Rattle.std.proofs.Common.{ℕ, None, replicate, ap, ◌∙◌}
use Rattle.switch_paths.specs.Graphs.{nodes}
use Rattle.circuit_lint.proofs.TableLemmas.{supplies-none}
use Rattle.circuit_lint.proofs.supplies.first_supplies.Goals as goal

pub loop-place-init : goal.loop-place-init
loop-place-init c =
    let count = c.nodes.ensures ∙ ap nodes c.graph.ensures.value in
    supplies-none c.args.circuit.now c.in_ok-firsts.firsts.items (c.in_ok-firsts.ensures ∙ ap (λ (n : ℕ). replicate n None) count)
