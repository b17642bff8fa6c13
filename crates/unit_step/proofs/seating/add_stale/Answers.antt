-- One stale part more.
use Rattle.std.proofs.Common.{◌≡◌, ◌+◌, List, [], ◌∷◌, ◌++◌, None, length, take, replicate, refl, sym, ap, subst, ◌∙◌, append-nil, append_assoc, rules, arith}
use Rattle.std.specs.List.{AllZip}
use Rattle.std.proofs.lemmas.List.{take_all, replicate_more}
use Rattle.group_meaning.specs.Groups.{Group}
use Rattle.machine_parts.specs.declared.part.MachinePart.{MachinePart}
use Rattle.circuit_texts.specs.Choosing.{chosen}
use Rattle.circuit_texts.proofs.ChosenLemmas.{chosen-more}
use Rattle.machine_laws.specs.Seating.{AddsStale, IsStalePartOf}
use Rattle.unit_step.proofs.seating.add_stale.Goals as goal

-- a stale part more for one group more
zip_more : (groups : List Group) (parts : List MachinePart) (group : Group) (part : MachinePart) →
    AllZip (λ (one : Group) (its : MachinePart). IsStalePartOf one.members its) groups parts → IsStalePartOf group.members part →
    AllZip (λ (one : Group) (its : MachinePart). IsStalePartOf one.members its) (groups ++ group ∷ []) (parts ++ part ∷ [])
zip_more [] [] group part are is = (is, tt)
zip_more [] (x ∷ parts) group part are is = absurd are
zip_more (x ∷ groups) [] group part are is = absurd are
zip_more (x ∷ groups) (y ∷ parts) group part are is = (are.0, zip_more groups parts group part are.1 is)

pub loop-id-init : goal.loop-id-init
loop-id-init c = record {
  within = omega arith;
  adds = record { more = []; are = tt; parts = sym (append-nil c.args.parts.now.items) };
  known = refl;
  numbers = sym (append-nil c.args.uses.now.numbers);
}

pub loop-id-preserved : goal.loop-id-preserved
loop-id-preserved c =
    let groups = c.args.groups.now.groups in
    let group = c.group.result.now in
    let i = c.loop-id.id-index in
    let ids = c.args.ids.now in
    let part = c.in_ok-part_of.field-0 in
    let before = c.loop-id.invariant.adds in
    let grown : chosen groups (take (i + 1) ids) ≡ chosen groups (take i ids) ++ group ∷ [] = chosen-more groups ids i _ group c.loop-id-test.true c.group.ensures in
    let is : IsStalePartOf group.members part = subst (λ nodes. IsStalePartOf nodes part) c.members.ensures c.in_ok-part_of.ensures in
    let pushed : c.push.new.self.items ≡ c.loop-id.parts.items ++ part ∷ [] = search rules in
    record {
      within = omega (arith, c.loop-id-test.true);
      adds = record {
        more = before.more ++ part ∷ [];
        are = subst (λ all. AllZip (λ (one : Group) (its : MachinePart). IsStalePartOf one.members its) all (before.more ++ part ∷ [])) (sym grown)
            (zip_more (chosen groups (take i ids)) before.more group part before.are is);
        parts = pushed ∙ (ap (λ list. list ++ part ∷ []) before.parts ∙ append_assoc c.args.parts.now.items before.more (part ∷ []));
      };
      known = c.add.ensures.known ∙ c.loop-id.invariant.known;
      numbers = c.in_ok-add.ensures.ok
          ∙ (ap (λ numbers. numbers ++ None ∷ []) c.loop-id.invariant.numbers
          ∙ (append_assoc c.args.uses.now.numbers (replicate i None) (None ∷ []) ∙ ap (λ rest. c.args.uses.now.numbers ++ rest) (replicate_more i None)));
    }

pub returns : goal.returns
returns c =
    let long : c.loop-id.id-index ≡ length c.args.ids.now = omega (arith, c.loop-id-test.false, c.loop-id.invariant.within) in
    record {
      adds = subst (λ ids. AddsStale (chosen c.args.groups.now.groups ids) c.args.parts.now.items c.loop-id.parts.items)
          (take_all c.loop-id.id-index c.args.ids.now (omega (arith, c.loop-id-test.false))) c.loop-id.invariant.adds;
      known = c.loop-id.invariant.known;
      numbers = c.loop-id.invariant.numbers ∙ ap (λ n. c.args.uses.now.numbers ++ replicate n None) long;
    }
