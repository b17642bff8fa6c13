-- Each step leads to a node that is one switch nearer: of the switches at a node that isn't Gnd some leads on.
use Rattle.std.proofs.Common.{◌≡◌, ℕ, ◌+◌, ◌-◌, List, Contains, Option, Some, sym, subst, arith}
use Rattle.std.specs.List.Sorted.{IsStrictlyIncreasing}
use Rattle.circuit_lint.specs.Distances.{distance_at}
use Rattle.circuit_lint.specs.Ways.{IsFirstStep}
use Rattle.circuit_lint.proofs.ClosedLemmas.{closed_inside, closed_whole, closed_ascends}
use Rattle.circuit_lint.proofs.WayLemmas.{storage_of, step_of, IsPartDown-none, IsPartDown-step, GoesDown-all}
use Rattle.circuit_lint.proofs.shorts.go_down.Goals as goal

-- a distance that isn't 0 is one more than another one
far : (distance : List (Option ℕ)) (node left : ℕ) → left ≡ left - 1 + 1 → distance_at distance node ≡ Some left →
    distance_at distance node ≡ Some (left - 1 + 1)
far distance node left more at = subst (λ (n : ℕ). distance_at distance node ≡ Some n) more at

pub loop-left-init : goal.loop-left-init
loop-left-init c = record { far = c.far_of-left.ensures; part = IsPartDown-none c.args.graph.now c.args.from c.args.way.now.items }

pub first_step-requires-clause-inside : goal.first_step-requires-clause-inside
first_step-requires-clause-inside c =
    let g = c.args.graph.now in
    let node = storage_of g c.args.distance.now c.requires.distance c.loop-left.node _
    (far c.args.distance.now c.loop-left.node c.loop-left.left (omega arith) c.loop-left.invariant.far) in
    λ place there. closed_inside g c.args.closed.now c.requires.closed c.loop-left.node node.inside place
    (subst (λ (xs : List ℕ). Contains xs place) c.closed_at-places.ensures there)

pub first_step-requires-clause-ascending : goal.first_step-requires-clause-ascending
first_step-requires-clause-ascending c =
    let g = c.args.graph.now in
    let node = storage_of g c.args.distance.now c.requires.distance c.loop-left.node _
    (far c.args.distance.now c.loop-left.node c.loop-left.left (omega arith) c.loop-left.invariant.far) in
    subst IsStrictlyIncreasing (sym c.closed_at-places.ensures) (closed_ascends g c.args.closed.now c.requires.closed c.loop-left.node node.inside)

pub unreachable-requires : goal.unreachable-requires
unreachable-requires c =
    let g = c.args.graph.now in
    let is = far c.args.distance.now c.loop-left.node c.loop-left.left (omega arith) c.loop-left.invariant.far in
    let node = storage_of g c.args.distance.now c.requires.distance c.loop-left.node _ is in
    let some = step_of g c.args.distance.now c.requires.distance c.loop-left.node _ is in
    absurd (c.in_default.ensures.none some.0 some.1
    (subst (λ (xs : List ℕ). Contains xs some.0) (sym c.closed_at-places.ensures)
    (closed_whole g c.args.closed.now c.requires.closed c.loop-left.node node.inside some.0 some.1 some.2.joins)) some.2)

pub loop-left-preserved : goal.loop-left-preserved
loop-left-preserved c =
    let g = c.args.graph.now in
    let step = subst (λ (xs : List ℕ). IsFirstStep g c.args.distance.now xs c.loop-left.node (c.loop-left.left - 1) c.in-Some.place c.in-Some.next)
    c.closed_at-places.ensures c.in-Some.ensures.some in
    record {
      far = step.step.far;
      part = IsPartDown-step g c.args.distance.now c.requires.distance c.args.closed.now c.requires.closed
          c.loop-left.node (c.loop-left.left - 1) c.in-Some.place c.in-Some.next (far c.args.distance.now c.loop-left.node c.loop-left.left (omega arith) c.loop-left.invariant.far) step
          c.args.from c.args.way.now.items c.loop-left.way.items c.push.new.self.items c.loop-left.invariant.part c.in_ok-push.ensures.items;
    }

pub returns : goal.returns
returns c =
    let none : c.loop-left.left ≡ 0 = omega arith in
    GoesDown-all c.args.graph.now c.args.distance.now c.requires.distance c.args.from c.loop-left.node c.args.way.now.items c.loop-left.way.items c.loop-left.invariant.part
    (subst (λ (n : ℕ). distance_at c.args.distance.now c.loop-left.node ≡ Some n) none c.loop-left.invariant.far)
