-- One node more is in.
use Rattle.std.proofs.Common.{◌<◌, true, false, length, set, inl, inr, ap, subst, sym, ◌∙◌, refl, arith}
use Rattle.std.proofs.lemmas.Bool.{cases_eq}
use Rattle.std.proofs.lemmas.List.{length-set, get_or-set_same, get_or-set_other}
use Rattle.vicinity.specs.NodeSets.{IsIn}
use Rattle.column_machines.proofs.uneven.put_each.Goals as goal

pub loop-node-init : goal.loop-node-init
loop-node-init c = record { count = refl; each = λ node before. absurd (omega (arith, before)) }

pub insert-requires : goal.insert-requires
insert-requires c = omega (arith, c.loop-node-test.true, c.nodes-count.ensures, c.loop-node.invariant.count)

pub loop-node-preserved : goal.loop-node-preserved
loop-node-preserved c =
    let marks = c.loop-node.set.inside in
    let last = c.loop-node.node in
    let inside : last < length marks = omega (arith, c.loop-node-test.true, c.nodes-count.ensures, c.loop-node.invariant.count) in
    record {
      count = ap length c.insert.ensures.inside ∙ (length-set marks last true ∙ c.loop-node.invariant.count);
      each = λ node before.
          subst (λ inside. IsIn inside node) (sym c.insert.ensures.inside) (elim (cases_eq node last) [
            | inl same ↦ subst (IsIn (set marks last true)) (sym same) (get_or-set_same marks last true false inside)
            | inr differs ↦ get_or-set_other marks last node true false differs ∙ c.loop-node.invariant.each node (omega (arith, before, differs))
          ]);
    }

pub returns-clause-each : goal.returns-clause-each
returns-clause-each c = λ node inside. c.loop-node.invariant.each node (omega (arith, inside, c.loop-node-test.false, c.nodes-count.ensures))
