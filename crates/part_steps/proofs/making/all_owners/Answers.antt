-- The members of one part more are owned.
use Rattle.std.proofs.Common.{◌+◌, ◌≤◌, take, length, sym, subst, arith}
use Rattle.std.proofs.lemmas.List.{with_items_is}
use Rattle.machine_parts.specs.declared.part.MachinePart.{MachinePart}
use Rattle.machine_parts.specs.Parts.{Stands}
use Rattle.machine_parts.specs.Making.{Owns, AreOwned}
use Rattle.machine_parts.proofs.MakingLemmas.{AreOwned-more}
use Rattle.part_steps.proofs.making.all_owners.Goals as goal

pub loop-k-preserved : goal.loop-k-preserved
loop-k-preserved c =
    let part = c.index-parts-k.result in
    let stands : Stands c.args.parts.now c.loop-k.k part = record { inside = c.loop-k-test.true; here = sym c.index-parts-k.is } in
    let few : part.members ≤ length part.map.items =
    subst (λ (one : MachinePart). one.members ≤ length one.map.items) (sym c.index-parts-k.is)
    (c.requires.members c.loop-k.k part c.loop-k-test.true) in
    let final = with_items_is c.loop-k.owners c.own.new.owners (omega (arith, c.own.auto.owners, c.deref_mut.ensures.len)) in
    let owns : Owns c.loop-k.k (take part.members part.map.items) c.loop-k.owners.items c.own.new.owners =
    subst (λ nodes. Owns c.loop-k.k (take part.members nodes) c.loop-k.owners.items c.own.new.owners) c.deref.ensures.value
    (subst (λ old. Owns c.loop-k.k (take part.members c.deref.result.now) old c.own.new.owners) c.deref_mut.ensures.value c.own.ensures) in
    subst (AreOwned c.args.parts.now c.args.nodes (c.loop-k.k + 1)) (sym final)
    (AreOwned-more c.args.parts.now c.loop-k.k part stands few c.requires.apart c.args.nodes c.loop-k.owners.items c.own.new.owners owns c.loop-k.invariant)

pub returns : goal.returns
returns c = record {
  counted = c.loop-k.invariant.counted;
  owner = λ node k has. c.loop-k.invariant.owner node k (omega (arith, has.stands.inside, c.loop-k-test.false)) has;
  member = c.loop-k.invariant.member;
}
