-- One node more is cleared.
use Rattle.std.proofs.Common.{◌≡◌, ◌+◌, ◌++◌, ◌∷◌, [], take, get_or, sym, subst}
use Rattle.std.proofs.lemmas.List.{take_more}
use Rattle.machine_laws.specs.Seating.{Clears}
use Rattle.machine_laws.proofs.ClearingLemmas.{Clears-start, Clears-more}
use Rattle.unit_step.proofs.machine.Machine.vacate_all.Goals as goal

pub loop-node-init : goal.loop-node-init
loop-node-init c = Clears-start c.args.self.now

pub loop-node-preserved : goal.loop-node-preserved
loop-node-preserved c =
    let nodes = c.args.nodes.now in
    let i = c.loop-node.node-index in
    let more : take (i + 1) nodes ≡ take i nodes ++ get_or nodes i 0 ∷ [] = take_more nodes i 0 c.loop-node-test.true in
    subst (λ list. Clears list c.args.self.now c.vacate_owner.new.self) (sym more)
    (Clears-more (take i nodes) (get_or nodes i 0) c.args.self.now c.loop-node.self c.vacate_owner.new.self
    c.loop-node.invariant c.in_ok-vacate_owner.ensures.ok)
