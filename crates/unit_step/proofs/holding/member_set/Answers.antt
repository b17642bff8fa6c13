-- The members of one part more.
use Rattle.std.proofs.Common.{◌≡◌, ℕ, ◌+◌, ◌<◌, [], ◌∷◌, ◌++◌, inl, inr, false, take, get_or, length, sym, ap, subst, ◌∙◌, arith}
use Rattle.std.specs.Prelude.{◌↔◌, Contains}
use Rattle.std.proofs.lemmas.List.{get_or-take, length-take, take_all, take_more, length-replicate}
use Rattle.std.proofs.lemmas.List.Elements.{Contains-push, Contains-push_cases, Contains-append_left}
use Rattle.machine_parts.specs.Parts.{Stands, HasMember}
use Rattle.machine_parts.proofs.MakingLemmas.{none_marked}
use Rattle.machine_laws.proofs.HeldParts.{taken_member, member_taken}
use Rattle.vicinity.specs.NodeSets.{IsIn}
use Rattle.unit_step.specs.Holding.{HasNodes, IsOfThese}
use Rattle.unit_step.proofs.holding.member_set.Goals as goal

pub loop-k-init : goal.loop-k-init
loop-k-init c = record {
  count = ap length c.in_ok-set.ensures.inside ∙ length-replicate c.args.nodes false;
  members = λ node. (
    λ is. absurd (none_marked c.args.nodes node (subst (λ inside. IsIn inside node) c.in_ok-set.ensures.inside is)),
    λ there. let (k, (i, inside, here), member) = there in absurd (omega (arith, inside)),
  );
}

pub put_members-requires : goal.put_members-requires
put_members-requires c =
    let parts = c.args.parts.now in
    let k = get_or c.args.these.now c.loop-k.k-index 0 in
    let part = c.index-parts-k.result in
    let inside : k < length parts = c.requires.these c.loop-k.k-index 0 c.loop-k-test.true in
    let has : HasNodes c.args.nodes part = subst (HasNodes c.args.nodes) (sym c.index-parts-k.is) (c.requires.there k part inside) in
    record {
      members = has.members;
      inside = λ node there.
          let j = there.0 in
          let before : j < part.members = omega (arith, there.1, length-take part.members part.map.items) in
          let within : j < length part.map.items = omega (arith, there.1, length-take part.members part.map.items) in
          let below : node < c.args.nodes =
          subst (λ n. n < c.args.nodes) (sym (get_or-take part.members part.map.items j node before) ∙ there.2) (has.below j node within) in
          omega (arith, below, c.loop-k.invariant.count);
    }

pub loop-k-preserved : goal.loop-k-preserved
loop-k-preserved c =
    let parts = c.args.parts.now in
    let these = c.args.these.now in
    let i = c.loop-k.k-index in
    let k = get_or these i 0 in
    let part = c.index-parts-k.result in
    let stands : Stands parts k part = record { inside = c.requires.these i 0 c.loop-k-test.true; here = sym c.index-parts-k.is } in
    let more : take (i + 1) these ≡ take i these ++ k ∷ [] = take_more these i 0 c.loop-k-test.true in
    let put = c.put_members.ensures in
    let so_far = c.loop-k.invariant.members in
    record {
      count = put.count ∙ c.loop-k.invariant.count;
      members = λ node. (
        λ is.
            elim (put.only node is) [
              | inl before ↦
                  let (l, there, has) = (so_far node).0 before in
                  (l, subst (λ xs. Contains xs l) (sym more) (Contains-append_left (take i these) (k ∷ []) l there), has)
              | inr mine ↦ (k, subst (λ xs. Contains xs k) (sym more) (Contains-push (take i these) k), taken_member parts k part stands node mine)
            ],
        λ of.
            let (l, among, has) = of in
            elim (Contains-push_cases (take i these) k l (subst (λ xs. Contains xs l) more among)) [
              | inl before ↦ put.stays node ((so_far node).1 (l, before, has))
              | inr same ↦ put.set node (member_taken parts k part stands node (subst (λ n. HasMember parts n node) (sym same) has))
            ],
      );
    }

pub returns-clause-members : goal.returns-clause-members
returns-clause-members c =
    subst (λ these. (node : ℕ) → IsIn c.loop-k.set.inside node ↔ IsOfThese c.args.parts.now these node)
    (take_all c.loop-k.k-index c.args.these.now (omega (arith, c.loop-k-test.false))) c.loop-k.invariant.members
