-- One part more is listed.
use Rattle.std.proofs.Common.{◌+◌, ◌<◌, ◌≤◌, ℕ, List, All, length, sym, ap, subst, arith}
use Rattle.std.proofs.lemmas.List.{with_items_is}
use Rattle.machine_parts.specs.declared.part.MachinePart.{MachinePart}
use Rattle.machine_parts.specs.Parts.{Stands}
use Rattle.part_lists.specs.Listing.{nodes_of, Lists, AreListed}
use Rattle.part_lists.proofs.ListLemmas.{AreListed-more}
use Rattle.part_lists.proofs.lists.lists_of.Goals as goal

pub loop-k-init : goal.loop-k-init
loop-k-init c = record {
  counted = c.in_ok-lists.ensures.count;
  listed = λ node k below among. absurd (omega (arith, below));
  only = λ node k there. absurd (c.in_ok-lists.ensures.none node k there);
}

pub nodes_of-requires : goal.nodes_of-requires
nodes_of-requires c =
    let part = c.index-parts-k.result in
    subst (λ (one : MachinePart). one.members ≤ length one.map.items) (sym c.index-parts-k.is) (c.requires.front c.loop-k.k part c.loop-k-test.true)

pub list_part-requires : goal.list_part-requires
list_part-requires c = λ place d inside.
    let P : List ℕ → Type 0 = λ nodes. All (λ node. node < c.args.nodes) nodes in
    let part = c.index-parts-k.result in
    let below = subst (λ (one : MachinePart). P (nodes_of c.args.members one)) (sym c.index-parts-k.is) (c.requires.below c.loop-k.k part c.loop-k-test.true) in
    let there = subst P (sym c.nodes_of.ensures) below in
    omega (arith, there place d inside, c.loop-k.invariant.counted, ap length c.deref_mut.ensures.value)

pub loop-k-preserved : goal.loop-k-preserved
loop-k-preserved c =
    let part = c.index-parts-k.result in
    let stands : Stands c.args.parts.now c.loop-k.k part = record { inside = c.loop-k-test.true; here = sym c.index-parts-k.is } in
    let lists = c.in_ok-list_part.ensures in
    let final = with_items_is c.loop-k.lists c.list_part.new.lists (omega (arith, c.list_part.auto.lists, c.deref_mut.ensures.len)) in
    let listed : Lists c.loop-k.k (nodes_of c.args.members part) c.loop-k.lists.items c.list_part.new.lists =
    subst (λ nodes. Lists c.loop-k.k nodes c.loop-k.lists.items c.list_part.new.lists) c.nodes_of.ensures
    (subst (λ old. Lists c.loop-k.k c.nodes_of.result.now old c.list_part.new.lists) c.deref_mut.ensures.value lists) in
    subst (AreListed c.args.members c.args.parts.now c.args.nodes (c.loop-k.k + 1)) (sym final)
    (AreListed-more c.args.members c.args.parts.now c.loop-k.k part stands c.args.nodes c.loop-k.lists.items c.list_part.new.lists listed c.loop-k.invariant)

pub returns : goal.returns
returns c = record {
  counted = c.loop-k.invariant.counted;
  listed = λ node k among. c.loop-k.invariant.listed node k (omega (arith, among.stands.inside, c.loop-k-test.false)) among;
  only = c.loop-k.invariant.only;
}
