-- One group more.
use Rattle.std.proofs.Common.{◌≡◌, ◌++◌, length, ap, ◌∙◌, take, arith}
use Rattle.std.specs.Option.{option_to_list}
use Rattle.std.proofs.lemmas.List.{take_all, length-map}
use Rattle.group_meaning.specs.Groups.{id_of}
use Rattle.channel_groups.proofs.HeldLemmas.{group_of_id}
use Rattle.circuit_lint.proofs.StartLemmas.{adds-none, adds-more}
use Rattle.circuit_lint.proofs.starts.add_starts.Goals as goal

pub loop-id-init : goal.loop-id-init
loop-id-init c = adds-none c.args.graph.now c.args.distance.now c.args.starts.now.items

pub loop-id-preserved : goal.loop-id-preserved
loop-id-preserved c =
    let groups = c.args.groups.now.groups in
    let here = group_of_id groups c.requires.groups.ascending c.args.ids.now c.requires.ids c.loop-id.id-index _ c.loop-id-test.true c.group.result.now c.group.ensures in
    adds-more c.args.graph.now c.args.distance.now groups c.loop-id.id-index c.group.result.now here.0 here.1 c.args.starts.now.items c.loop-id.starts.items
    c.loop-id.invariant c.first_start-start.result _ (rw c.switches.ensures at c.first_start-start.ensures)
    (c.in_ok-push_some.ensures ∙ ap (λ o. c.loop-id.starts.items ++ option_to_list o) c.place_of.ensures)

pub returns : goal.returns
returns c =
    let groups = c.args.groups.now.groups in
    let all : take c.loop-id.id-index groups ≡ groups =
    take_all c.loop-id.id-index groups
    (omega (arith, c.loop-id-test.false, ap length c.requires.ids, length-map c.args.ids.now (λ id. id.node), length-map groups id_of)) in
    rw all at c.loop-id.invariant
