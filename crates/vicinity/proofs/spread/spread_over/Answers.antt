-- If no arm leads to a node nothing rises; else one entry may.
use Rattle.std.proofs.Common.{◌≡◌, ◌<◌, ◌≤◌, min, sym, ◌∙◌, subst, arith}
use Rattle.std.specs.Prelude.{slice_index}
use Rattle.vicinity.specs.Arms.{LeadsTo}
use Rattle.vicinity.specs.NodeSets.{IsIn}
use Rattle.vicinity.specs.Entries.{IsWay}
use Rattle.vicinity.proofs.WayLemmas.{crosses_live, crosses_arm, way_next}
use Rattle.vicinity.proofs.SpreadLemmas.{Raises-one, owed-raised}
use Rattle.vicinity.proofs.spread.spread_over.Goals as goal

pub returns-in_default-clause-over : goal.returns-in_default-clause-over
returns-in_default-clause-over c = λ to switch stands joins is cross above.
    let by = c.args.by.now in
    let leads : LeadsTo by.graph.now by.state.now c.args.place c.args.node to = record {
      switch = switch;
      at_place = stands;
      joins = joins;
      live = crosses_live by.pass _ cross;
    } in
    absurd (c.arm_at.ensures.some to leads c.in_default.is)

pub returns-clause-raises : goal.returns-clause-raises
returns-clause-raises c =
    let by = c.args.by.now in
    let g = by.graph.now in
    let state = by.state.now in
    let arm = c.in-Some.ensures.arm in
    let other = c.in-Some.arm.other in
    let is : IsIn by.awake.now.inside other = sym c.contains.ensures ∙ c.if-not-contains.false in
    let cross = crosses_arm by.pass _ c.in-Some.arm.closed arm.live arm.closed (sym c.is_crossed.ensures ∙ c.if-not-is_crossed.false) in
    let same : c.min-strength.result ≡ min c.args.strength arm.switch.level = omega (arith, c.min-strength.ensures, arm.level) in
    let more : slice_index c.args.table.now other < c.min-strength.result = c.if-strength-table.false in
    let above : slice_index by.floor.now other ≤ c.min-strength.result = c.if-strength-by.false in
    let way : IsWay by.pass g state other c.min-strength.result =
    subst (IsWay by.pass g state other) (sym same)
    (way_next g state by.pass c.args.node other c.args.strength (slice_index by.floor.now other) c.args.place arm.switch arm.at_place arm.joins cross
    (c.requires.sweep.floor other is) (omega (arith, above, same)) (c.requires.way (omega (arith, more, same)))) in
    rw c.insert.ensures.inside
    (Raises-one by.pass g state by.awake.now.inside c.args.left.now.inside c.args.table.now other c.min-strength.result c.requires.goes_on.ways c.requires.goes_on.within
    (omega (arith, c.requires.goes_on.entries, c.in-Some.ensures.within)) (omega (arith, c.requires.goes_on.lefts, c.in-Some.ensures.within)) is more way)

pub returns-clause-owed : goal.returns-clause-owed
returns-clause-owed c =
    let by = c.args.by.now in
    let other = c.in-Some.arm.other in
    let more : slice_index c.args.table.now other < c.min-strength.result = c.if-strength-table.false in
    let high : c.min-strength.result ≤ 16 = omega (arith, c.min-strength.ensures, c.in-Some.ensures.low) in
    rw c.insert.ensures.inside
    (owed-raised by.lists.now by.awake.now.inside c.args.table.now c.args.left.now.inside other c.min-strength.result
    (omega (arith, c.requires.goes_on.entries, c.in-Some.ensures.within)) (omega (arith, c.requires.goes_on.lefts, c.in-Some.ensures.within)) more high)
