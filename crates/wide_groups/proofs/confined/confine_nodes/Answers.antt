-- One node more.
use Rattle.std.proofs.Common.{◌≡◌, inl, inr, refl, subst, sym, ap, ◌∙◌, arith}
use Rattle.std.proofs.lemmas.Bool.{cases_lt}
use Rattle.switch_paths.specs.Graphs.{level_of}
use Rattle.vicinity.specs.NodeSets.{IsIn}
use Rattle.wide_groups.proofs.confined.confine_nodes.Goals as goal

pub loop-node-init : goal.loop-node-init
loop-node-init c = record { count = refl; places = refl; stays = λ n is. refl; edge = λ n before. absurd (omega (arith, before)) }

pub confine_node-requires-clause-counted : goal.confine_node-requires-clause-counted
confine_node-requires-clause-counted c = c.requires ∙ sym c.loop-node.invariant.count

pub confine_node-requires-clause-inside : goal.confine_node-requires-clause-inside
confine_node-requires-clause-inside c = omega (arith, c.loop-node-test.true, c.nodes-count.ensures, c.loop-node.invariant.count)

pub loop-node-preserved : goal.loop-node-preserved
loop-node-preserved c =
    let confines = c.confine_node.ensures in
    let before = c.loop-node.invariant in
    let node = c.loop-node.node in
    record {
      count = confines.count ∙ before.count;
      places = confines.places ∙ before.places;
      stays = λ n is. confines.stays n (inr is) ∙ before.stays n is;
      edge = λ n below out.
          elim (cases_lt n node) [
            | inl earlier ↦ confines.stays n (inl (λ same. omega (arith, earlier, same))) ∙ before.edge n earlier out
            | inr last ↦
                let same : n ≡ node = omega (arith, below, last) in
                ap (level_of c.confine_node.new.graph) same ∙ confines.edge (subst (λ k. ¬ IsIn c.args.members.now.inside k) same out)
          ];
    }

pub returns : goal.returns
returns c =
    let all = c.loop-node.invariant in
    record {
      count = all.count;
      places = all.places;
      stays = all.stays;
      edge = λ n inside out. all.edge n (omega (arith, inside, c.loop-node-test.false, c.nodes-count.ensures)) out;
    }
