-- Clear, and U for both rails, each from what was held before.
use Rattle.std.proofs.Common.{◌≡◌, ℕ, ◌+◌, ◌<◌, Bool, true, false, length, ap, ◌∙◌, arith}
use Rattle.std.specs.Prelude.{◌↔◌, List}
use Rattle.std.proofs.lemmas.List.Elements.{All-append}
use Rattle.ternary.specs.declared.tern.Tern.{Tern}
use Rattle.ternary.specs.Tern.{may_one, may_zero}
use Rattle.bool_pool.specs.declared.gate.Id.{Id}
use Rattle.bool_pool.specs.Gate.{Extends}
use Rattle.node_elimination.specs.Levels.{IsClear}
use Rattle.node_elimination.specs.LevelSystem.{value_of}
use Rattle.node_elimination.specs.Inputs.{ShowsState}
use Rattle.node_elimination.specs.Descent.{ShowsRail, ShowsLevel}
use Rattle.node_elimination.proofs.GrowthLemmas.{Extends-trans, AreFormulas-extends}
use Rattle.node_elimination.proofs.RailLemmas.{IsConstant-extends}
use Rattle.node_elimination.proofs.DescentLemmas.{driven_shown, clear_shown, Grows-drives}
use Rattle.node_elimination.proofs.LevelParts.{all_hi, all_lo, all_live, all_one, all_zero, FitLinks-of, ShowsState-extends, shown-extends}
use Rattle.node_elimination.proofs.descent.drive_members.Given as given
use Rattle.node_elimination.proofs.descent.drive_members.Goals as goal

pub drive-requires-clause-falsehood : goal.drive-requires-clause-falsehood
drive-requires-clause-falsehood g c =
    IsConstant-extends false _ _ c.args.inputs.now.falsehood c.in_ok-clear.ensures.extends c.requires.inputs.falsehood

pub drive-requires-clause-fit : goal.drive-requires-clause-fit
drive-requires-clause-fit g c =
    let inputs = c.args.inputs.now in
    let p0 = c.args.pool.now in
    let p1 = c.negations.new.pool in
    let P : Id → Type 0 = λ id. id.place < length p0 in
    let e = c.in_ok-clear.ensures.extends in
    let clear = c.in_ok-clear.ensures.negated in
    let each : length c.in_ok-clear.clear.items ≡ length c.args.above.now.strong.items =
    clear.each_one ∙ ap length c.deref.ensures.value in
    rw (c.deref-2.ensures.value, c.deref-3.ensures.value, c.deref-4.ensures.value)
    (FitLinks-of c.args.graph.now c.args.system.now.size p1 c.in_ok-clear.clear.items inputs.live.items inputs.hi.items
    c.requires.members
    (omega (arith, each, c.requires.above.each_strong)) (omega (arith, c.requires.inputs.each_live))
    (omega (arith, c.requires.inputs.each_hi)) clear.formulas
    (AreFormulas-extends p0 p1 inputs.live.items e (all_live P inputs c.requires.inputs.formulas))
    (AreFormulas-extends p0 p1 inputs.hi.items e (all_hi P inputs c.requires.inputs.formulas)))

pub drive-requires-clause-formulas : goal.drive-requires-clause-formulas
drive-requires-clause-formulas g c =
    let p0 = c.args.pool.now in
    rw c.deref-5.ensures.value
    (AreFormulas-extends p0 c.negations.new.pool c.args.above.now.drives.one.items c.in_ok-clear.ensures.extends
    (all_one (λ id. id.place < length p0) c.args.above.now.drives c.requires.above.drives.formulas))

pub drive-requires-2-clause-falsehood : goal.drive-requires-2-clause-falsehood
drive-requires-2-clause-falsehood g c =
    IsConstant-extends false _ _ c.args.inputs.now.falsehood
    (Extends-trans _ _ _ c.in_ok-clear.ensures.extends c.in_ok-one.ensures.extends)
    c.requires.inputs.falsehood

pub drive-requires-2-clause-fit : goal.drive-requires-2-clause-fit
drive-requires-2-clause-fit g c =
    let inputs = c.args.inputs.now in
    let p0 = c.args.pool.now in
    let p2 = c.drive.new.pool in
    let P : Id → Type 0 = λ id. id.place < length p0 in
    let e = Extends-trans _ _ _ c.in_ok-clear.ensures.extends c.in_ok-one.ensures.extends in
    let clear = c.in_ok-clear.ensures.negated in
    let each : length c.in_ok-clear.clear.items ≡ length c.args.above.now.strong.items =
    clear.each_one ∙ ap length c.deref.ensures.value in
    rw (c.in_ok-one.ensures.size, c.deref-6.ensures.value, c.deref-7.ensures.value, c.deref-8.ensures.value)
    (FitLinks-of c.args.graph.now c.args.system.now.size p2 c.in_ok-clear.clear.items inputs.live.items inputs.lo.items
    c.requires.members
    (omega (arith, each, c.requires.above.each_strong)) (omega (arith, c.requires.inputs.each_live))
    (omega (arith, c.requires.inputs.each_lo))
    (AreFormulas-extends _ p2 c.in_ok-clear.clear.items c.in_ok-one.ensures.extends clear.formulas)
    (AreFormulas-extends p0 p2 inputs.live.items e (all_live P inputs c.requires.inputs.formulas))
    (AreFormulas-extends p0 p2 inputs.lo.items e (all_lo P inputs c.requires.inputs.formulas)))

pub drive-requires-2-clause-formulas : goal.drive-requires-2-clause-formulas
drive-requires-2-clause-formulas g c =
    let p0 = c.args.pool.now in
    rw c.deref-9.ensures.value
    (AreFormulas-extends p0 c.drive.new.pool c.args.above.now.drives.zero.items
    (Extends-trans _ _ _ c.in_ok-clear.ensures.extends c.in_ok-one.ensures.extends)
    (all_zero (λ id. id.place < length p0) c.args.above.now.drives c.requires.above.drives.formulas))

pub returns-clause-drives : goal.returns-clause-drives
returns-clause-drives g c =
    let one = c.in_ok-one.ensures in
    let zero = c.in_ok-zero.ensures in
    record {
      each_one = one.count;
      each_zero = zero.count ∙ one.size;
      formulas = All-append (λ id. id.place < length c.drive-2.new.pool) c.in_ok-one.one.items c.in_ok-zero.zero.items
          (AreFormulas-extends _ _ c.in_ok-one.one.items zero.extends one.formulas) zero.formulas;
    }

-- what holds at each moment, under the variables of a state
module _ (g : given.Over) (c : goal.After-drop-clear-2 g) (state : List Tern) (vars : ℕ → Bool)
    (shows : ShowsState c.args.graph.now c.args.pool.now c.args.inputs.now state vars)
    (shown : ShowsLevel c.args.graph.now c.args.system.now.size c.args.pool.now c.args.above.now (c.args.level + 1) state vars) where
  to_one : Extends c.args.pool.now c.drive.new.pool
  to_one = Extends-trans _ _ _ c.in_ok-clear.ensures.extends c.in_ok-one.ensures.extends

  -- the state is told in each of the pools
  shows_clear : ShowsState c.args.graph.now c.negations.new.pool c.args.inputs.now state vars
  shows_clear =
      ShowsState-extends c.args.graph.now c.args.pool.now c.negations.new.pool c.args.inputs.now state vars
      c.in_ok-clear.ensures.extends c.requires.inputs
      shows

  shows_one : ShowsState c.args.graph.now c.drive.new.pool c.args.inputs.now state vars
  shows_one = ShowsState-extends c.args.graph.now c.args.pool.now c.drive.new.pool c.args.inputs.now state vars to_one
      c.requires.inputs shows

  -- the negations are clear(s)
  each_clear : length c.in_ok-clear.clear.items ≡ c.args.system.now.size
  each_clear = c.in_ok-clear.ensures.negated.each_one ∙ ap length c.deref.ensures.value ∙ c.requires.above.each_strong

  cleared : (i : ℕ) → i < c.args.system.now.size →
      (value_of c.negations.new.pool c.in_ok-clear.clear.items vars i ≡ true) ↔ IsClear c.args.graph.now state c.args.level i
  cleared i inside =
      let negated = rw c.deref.ensures.value at c.in_ok-clear.ensures.negated in
      clear_shown c.args.graph.now state c.args.level i (value_of c.args.pool.now c.args.above.now.strong.items vars i)
      (value_of c.negations.new.pool c.in_ok-clear.clear.items vars i)
      (negated.value_is vars i (omega (arith, c.requires.above.each_strong)))
      (shown.strong i inside)

  one_shown : ShowsRail may_one c.args.graph.now c.args.system.now.size c.drive.new.pool c.in_ok-one.one.items c.args.level
      state vars
  one_shown =
      let above = c.args.above.now.drives in
      let inputs = c.args.inputs.now in
      driven_shown c.args.graph.now c.graphs_are_wired.ensures c.args.system.now.size c.requires.members state vars
      c.args.level c.requires.level.low
      c.requires.level.high may_one c.negations.new.pool c.drive.new.pool above.one.items c.in_ok-clear.clear.items
      inputs.live.items inputs.hi.items
      c.in_ok-one.one.items cleared
      (λ i inside.
      shown-extends c.args.pool.now c.negations.new.pool above.one.items vars i _ c.in_ok-clear.ensures.extends
      (all_one (λ id. id.place < length c.args.pool.now) above c.requires.above.drives.formulas)
      (omega (arith, c.requires.above.drives.each_one)) (shown.drives.one i inside))
      shows_clear.hi shows_clear.live
      (rw (c.deref-2.ensures.value, c.deref-3.ensures.value, c.deref-4.ensures.value, c.deref-5.ensures.value) at
      (c.in_ok-one.ensures.solves vars))

  zero_shown : ShowsRail may_zero c.args.graph.now c.args.system.now.size c.drive-2.new.pool c.in_ok-zero.zero.items
      c.args.level state vars
  zero_shown =
      let above = c.args.above.now.drives in
      let inputs = c.args.inputs.now in
      driven_shown c.args.graph.now c.graphs_are_wired.ensures c.args.system.now.size c.requires.members state vars
      c.args.level c.requires.level.low
      c.requires.level.high may_zero c.drive.new.pool c.drive-2.new.pool above.zero.items c.in_ok-clear.clear.items
      inputs.live.items inputs.lo.items
      c.in_ok-zero.zero.items
      (λ i inside.
      shown-extends c.negations.new.pool c.drive.new.pool c.in_ok-clear.clear.items vars i _ c.in_ok-one.ensures.extends
      c.in_ok-clear.ensures.negated.formulas (omega (arith, each_clear)) (cleared i inside))
      (λ i inside.
      shown-extends c.args.pool.now c.drive.new.pool above.zero.items vars i _ to_one
      (all_zero (λ id. id.place < length c.args.pool.now) above c.requires.above.drives.formulas)
      (omega (arith, c.requires.above.drives.each_zero))
      (shown.drives.zero i inside))
      shows_one.lo shows_one.live
      (rw (
        c.in_ok-one.ensures.size,
        c.deref-6.ensures.value,
        c.deref-7.ensures.value,
        c.deref-8.ensures.value,
        c.deref-9.ensures.value,
      ) at (c.in_ok-zero.ensures.solves vars))

pub returns-clause-shows : goal.returns-clause-shows
returns-clause-shows g c = λ state vars shows shown.
    record {
      one = λ i inside.
          shown-extends c.drive.new.pool c.drive-2.new.pool c.in_ok-one.one.items vars i _ c.in_ok-zero.ensures.extends
          c.in_ok-one.ensures.formulas (omega (arith, c.in_ok-one.ensures.count))
          (one_shown g c state vars shows shown i inside);
      zero = zero_shown g c state vars shows shown;
    }

pub returns-clause-grows : goal.returns-clause-grows
returns-clause-grows g c =
    let clear = c.in_ok-clear.ensures in
    let one = c.in_ok-one.ensures in
    let zero = c.in_ok-zero.ensures in
    Grows-drives c.args.inputs.now c.args.above.now (record { one = c.in_ok-one.one; zero = c.in_ok-zero.zero }) _ _ _ _
    c.in_ok-clear.clear.items _ _ _ _ clear.extends one.extends zero.extends (rw c.deref.ensures.value at clear.grows)
    (rw (c.deref-2.ensures.value, c.deref-3.ensures.value, c.deref-4.ensures.value, c.deref-5.ensures.value) at one.grows)
    (rw (c.deref-6.ensures.value, c.deref-7.ensures.value, c.deref-8.ensures.value, c.deref-9.ensures.value) at zero.grows)
    (omega (arith, clear.rises, one.rises, zero.rises))
