-- Near no part are the nodes without an owner.
use Rattle.std.proofs.Common.{false, length, ap, subst, ◌∙◌, arith}
use Rattle.std.proofs.lemmas.List.{length-replicate}
use Rattle.machine_parts.specs.Marking.{IsMarked}
use Rattle.machine_parts.proofs.MakingLemmas.{none_marked}
use Rattle.run_beside.proofs.NearLemmas.{AreNear-none}
use Rattle.run_beside.proofs.near.Near.new.Goals as goal

pub insert_unowned-requires-clause-counted : goal.insert_unowned-requires-clause-counted
insert_unowned-requires-clause-counted c = ap length c.in_ok-nodes.ensures.inside ∙ length-replicate (length c.args.owners.now) false

pub insert_unowned-requires-clause-empty : goal.insert_unowned-requires-clause-empty
insert_unowned-requires-clause-empty c = λ node is.
    none_marked (length c.args.owners.now) node (subst (λ marks. IsMarked marks node) c.in_ok-nodes.ensures.inside is)

pub returns : goal.returns
returns c = λ list counted.
    let nodes = ap length c.in_ok-nodes.ensures.inside ∙ length-replicate (length c.args.owners.now) false in
    AreNear-none list c.args.owners.now _ (c.insert_unowned.ensures.counted ∙ nodes) (omega (arith, counted, c.in_ok-parts.ensures.exact))
    (omega (arith, counted, c.in_ok-starts.ensures.exact)) c.in_ok-parts.ensures.items c.in_ok-starts.ensures.items c.insert_unowned.ensures.unowned
