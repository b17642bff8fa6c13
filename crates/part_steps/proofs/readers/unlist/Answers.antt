-- The part is taken off one list more.
use Rattle.std.proofs.Common.{◌<◌, get_or, length, take, refl, subst, arith}
use Rattle.std.proofs.lemmas.List.{take_all}
use Rattle.machine_parts.specs.Readers.{Unlists}
use Rattle.part_steps.proofs.ReadersLemmas.{AreEachOnce-here, Unlists-none, Unlists-more}
use Rattle.part_steps.proofs.readers.unlist.Goals.{After-index-lists-node}
use Rattle.part_steps.proofs.readers.unlist.Goals as goal

pub loop-read-init : goal.loop-read-init
loop-read-init c = Unlists-none c.args.k (take 0 c.args.nodes.now) c.args.lists.now c.requires.each refl

-- the next node has a list
next_inside : (c : After-index-lists-node) → get_or c.args.nodes.now c.loop-read.read 0 < length c.loop-read.lists
next_inside c = omega (arith, c.requires.below c.loop-read.read 0 c.loop-read-test.true, c.loop-read.auto.lists)

pub take_off-spot-requires : goal.take_off-spot-requires
take_off-spot-requires c =
    let inside = next_inside (goal.at.take_off-spot-requires c).After-index-lists-node in
    AreEachOnce-here c.loop-read.lists _ c.index-lists-node.result c.index-lists-node.result inside c.loop-read.invariant.each

pub loop-read-preserved : goal.loop-read-preserved
loop-read-preserved c =
    let inside = next_inside (goal.at.loop-read-preserved c).After-index-lists-node in
    Unlists-more c.args.k c.args.nodes.now c.loop-read.read c.args.lists.now c.loop-read.lists c.index-lists-node.result c.take_off-spot.new.list
    c.loop-read-test.true inside c.take_off-spot.ensures c.loop-read.invariant

pub returns : goal.returns
returns c =
    subst (λ nodes. Unlists c.args.k nodes c.args.lists.now c.loop-read.lists)
    (take_all c.loop-read.read c.args.nodes.now (omega (arith, c.loop-read-test.false))) c.loop-read.invariant
