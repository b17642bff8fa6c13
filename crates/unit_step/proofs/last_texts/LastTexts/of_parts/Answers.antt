-- One part more begins at its node.
use Rattle.std.proofs.Common.{◌≡◌, ℕ, ◌+◌, ◌<◌, ◌≤◌, None, Some, All, length, sym, ap, subst, ◌∙◌, arith}
use Rattle.std.specs.Option.{IfSome}
use Rattle.std.proofs.lemmas.List.{get_or_past, with_items_is}
use Rattle.machine_parts.specs.declared.part.MachinePart.{MachinePart}
use Rattle.machine_parts.specs.Parts.{Stands}
use Rattle.unit_step.specs.LastTexts.{with_beginning}
use Rattle.unit_step.proofs.LastTextsLemmas.{AreBegun, AreBegun-more}
use Rattle.unit_step.proofs.last_texts.LastTexts.of_parts.Goals as goal

pub loop-k-preserved : goal.loop-k-preserved
loop-k-preserved c =
    let parts = c.args.parts.now in
    let k = c.loop-k.k in
    let part = c.index-parts-k.result in
    let stands : Stands parts k part = record { inside = c.loop-k-test.true; here = sym c.index-parts-k.is } in
    let few : part.members ≤ length part.map.items =
    subst (λ (one : MachinePart). one.members ≤ length one.map.items) (sym c.index-parts-k.is) (c.requires.members k part c.loop-k-test.true) in
    let below : All (λ node. node < c.args.nodes) part.map.items =
    subst (λ (one : MachinePart). All (λ node. node < c.args.nodes) one.map.items) (sym c.index-parts-k.is) (c.requires.below k part c.loop-k-test.true) in
    let final = with_items_is c.loop-k.numbers c.begin.new.numbers (omega (arith, c.begin.auto.numbers, c.deref_mut.ensures.len)) in
    let number = c.number_of.result in
    let known : (one : ℕ) → number ≡ Some one → one < length c.args.uses.now.known =
    λ one is. subst (λ number. IfSome number (λ n. n < length c.args.uses.now.known)) is c.number_of.ensures.known in
    let begun : c.begin.new.numbers ≡ with_beginning part number c.loop-k.numbers.items =
    c.begin.ensures ∙ ap (with_beginning part number) c.deref_mut.ensures.value in
    subst (AreBegun parts c.args.uses.now.numbers c.args.nodes (length c.args.uses.now.known) (k + 1)) (sym (final ∙ begun))
    (AreBegun-more parts c.args.uses.now.numbers c.args.nodes (length c.args.uses.now.known) k c.requires.apart part stands few below number
    c.number_of.ensures.value known c.loop-k.numbers.items c.loop-k.invariant)

pub returns-clause-last_texts : goal.returns-clause-last_texts
returns-clause-last_texts c =
    record {
      counted = c.loop-k.invariant.counted;
      inside = c.loop-k.invariant.inside;
      begins = λ node number is unnoted. c.loop-k.invariant.begins node number is;
      lasts = λ node number begins unnoted.
          c.loop-k.invariant.lasts node number begins (omega (arith, begins.at.stands.inside, c.loop-k-test.false));
      within = λ k d inside. absurd (omega (arith, inside, ap length c.new.ensures.items));
      beyond = λ k past. get_or_past c.args.uses.now.numbers k None (omega (arith, past, c.requires.numbered));
    }
