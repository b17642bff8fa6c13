-- One part more is held, and at the end none is left.
use Rattle.std.proofs.Common.{◌≡◌, inl, inr, [], ◌∷◌, ◌++◌, map, length, sym, ap, ◌∙◌, arith}
use Rattle.std.specs.Prelude.{zip}
use Rattle.machine_parts.specs.Making.{held}
use Rattle.machine_parts.proofs.MakingLemmas.{held_more, held_all}
use Rattle.part_steps.proofs.making.parts_with_reads.Goals as goal

pub loop-part-preserved : goal.loop-part-preserved
loop-part-preserved c =
    let made = c.loop-part.made.items in
    let before = c.loop-part.part-iterator in
    let after = c.next.new.self in
    let all = map held (zip c.args.parts.items c.args.reads.items) in
    let steps = c.in-Some.ensures.steps in
    let pushed : c.push.new.self.items ≡ made ++ held (c.in-Some.part, c.in-Some.nodes) ∷ [] =
    c.in_ok-push.ensures.items ∙ ap (λ one. made ++ one ∷ []) c.held.ensures in
    record {
      made = held_more all made before.a.rest.items after.a.rest.items before.b.rest.items after.b.rest.items c.in-Some.part c.in-Some.nodes
          steps.0.0 steps.1.0 c.loop-part.invariant.made
          ∙ ap (λ list. list ++ map held (zip after.a.rest.items after.b.rest.items)) (sym pushed);
      left = omega (arith, c.loop-part.invariant.left, ap length steps.0.0, ap length steps.1.0);
    }

pub returns : goal.returns
returns c =
    let last = c.loop-part.part-iterator in
    let all = map held (zip c.args.parts.items c.args.reads.items) in
    let invariant = c.loop-part.invariant in
    elim c.in-None.ensures.steps [
      | inl (next, empty) ↦
          held_all all c.loop-part.made.items last.a.rest.items last.b.rest.items invariant.made (omega (arith, empty.0, last.a.rest.ok.0, last.b.rest.ok.0, invariant.left))
      | inr (next, empty) ↦
          held_all all c.loop-part.made.items last.a.rest.items last.b.rest.items invariant.made (omega (arith, empty.0, last.a.rest.ok.0, last.b.rest.ok.0, invariant.left))
    ]
