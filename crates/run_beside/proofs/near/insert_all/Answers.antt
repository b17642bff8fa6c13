-- One node more.
use Rattle.std.proofs.Common.{[], inl, refl, sym, arith}
use Rattle.std.proofs.lemmas.List.{append-nil}
use Rattle.std.proofs.lemmas.List.Elements.{Contains-get_or}
use Rattle.machine_parts.proofs.MarkLemmas.{MarksAll-more}
use Rattle.run_beside.proofs.NearLemmas.{grown, grown_more}
use Rattle.run_beside.proofs.near.insert_all.Goals as goal

pub loop-node-init : goal.loop-node-init
loop-node-init c = record {
  marks = record { count = refl; stays = λ k was. was; set = λ k this. absurd (omega (arith, this.1)); only = λ k is. inl is };
  list = ([], sym (append-nil c.args.set.now.list));
}

pub insert-requires : goal.insert-requires
insert-requires c =
    let inside = c.requires _ (Contains-get_or c.args.nodes.now c.loop-node.node-index 0 c.loop-node-test.true) in
    omega (arith, inside, c.loop-node.invariant.marks.count)

pub loop-node-preserved : goal.loop-node-preserved
loop-node-preserved c =
    let inside = c.requires _ (Contains-get_or c.args.nodes.now c.loop-node.node-index 0 c.loop-node-test.true) in
    record {
      marks = rw c.insert.ensures.inside
          (MarksAll-more c.args.nodes.now c.loop-node.node-index _ c.args.set.now.inside c.loop-node.set.inside c.loop-node-test.true refl
          (omega (arith, inside, c.loop-node.invariant.marks.count)) c.loop-node.invariant.marks);
      list = grown_more c.args.set.now.list c.loop-node.set.list c.insert.new.self.list c.loop-node.invariant.list
          (grown c.insert.result _ c.loop-node.set.list c.insert.new.self.list c.insert.ensures.new c.insert.ensures.old);
    }
