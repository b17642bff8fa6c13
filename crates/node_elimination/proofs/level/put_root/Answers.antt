-- What is put is held, or formed from what is held.
use Rattle.std.proofs.Common.{◌<◌, [], ◌++◌, length, refl, ◌∙◌, arith}
use Rattle.node_elimination.specs.Growth.{place_of}
use Rattle.node_elimination.specs.Equations.{formulas_of}
use Rattle.node_elimination.proofs.GrowthLemmas.{Extends-same, IsHeld-front, IsHeld-back}
use Rattle.node_elimination.proofs.EquationsLemmas.{Moves-put_right}
use Rattle.node_elimination.proofs.PassingLemmas.{PutsRight-put}
use Rattle.node_elimination.proofs.OneLink.{gate_held, source_held, gate-inside, source-inside}
use Rattle.node_elimination.proofs.BaseLemmas.{IsFormed-held, driven_base-other, driven_base-root}
use Rattle.node_elimination.proofs.level.put_root.Goals as goal

pub or_and-requires-clause-first : goal.or_and-requires-clause-first
or_and-requires-clause-first g c = gate-inside _ _ _ _ _ _ [] c.requires.fit c.args.i c.requires.row

pub or_and-requires-clause-second : goal.or_and-requires-clause-second
or_and-requires-clause-second g c =
    source-inside _ _ _ _ _ _ [] c.requires.fit c.args.i (omega (arith, c.requires.row, c.requires.fit.within))

pub returns-then-level-links-clause-moves : goal.returns-then-level-links-clause-moves
returns-then-level-links-clause-moves g c =
    let old = c.args.system.now in
    let links = c.args.links.now in
    let above = c.args.above.now in
    let held = links.gates.now ++ (links.passes.now ++ links.sources.now) in
    let inside : c.args.i < length above = omega (arith, c.requires.row, c.requires.above) in
    rw c.put_right.ensures
    (Moves-put_right (above ++ held) _ _ old c.args.i _ _ _ _ c.requires.whole (Extends-same c.args.pool.now)
    (IsHeld-front (above ++ held) (formulas_of old) _ (IsHeld-front above held _ (c.args.i, inside, refl)), tt)
    (IsFormed-held c.args.pool.now (place_of above c.args.i) _ (c.requires.formulas c.args.i (record { place = 0 }) inside)))

pub returns-then-level-links-clause-puts : goal.returns-then-level-links-clause-puts
returns-then-level-links-clause-puts g c =
    let links = c.args.links.now in
    rw c.put_right.ensures
    (PutsRight-put _ c.args.system.now _ c.requires.whole (Extends-same c.args.pool.now) c.args.i _ _ c.requires.row
    (λ vars.
    driven_base-other links.graph.now links.level c.args.i c.args.above.now links.gates.now links.sources.now c.args.pool.now
    vars
    (rw c.level.ensures.value at c.if-level-links.true)))

pub returns-clause-moves : goal.returns-clause-moves
returns-clause-moves g c =
    let old = c.args.system.now in
    let links = c.args.links.now in
    let above = c.args.above.now in
    let held = links.gates.now ++ (links.passes.now ++ links.sources.now) in
    let inside : c.args.i < length above = omega (arith, c.requires.row, c.requires.above) in
    rw c.put_right-2.ensures
    (Moves-put_right (above ++ held) _ _ old c.args.i c.in_ok-root.root _ _ _ c.requires.whole c.in_ok-root.ensures.extends (
      IsHeld-front (above ++ held) (formulas_of old) _ (IsHeld-front above held _ (c.args.i, inside, refl)),
      (
        IsHeld-front (above ++ held) (formulas_of old) _
            (IsHeld-back above held _ (gate_held _ _ _ _ _ _ [] c.requires.fit c.args.i c.requires.row)),
        (
          IsHeld-front (above ++ held) (formulas_of old) _
              (IsHeld-back above held _ (source_held _ _ _ _ _ _ [] c.requires.fit c.args.i
              (omega (arith, c.requires.row, c.requires.fit.within)))),
          tt,
        ),
      ),
    )
    c.in_ok-root.ensures.formed)

pub returns-clause-puts : goal.returns-clause-puts
returns-clause-puts g c =
    let links = c.args.links.now in
    rw c.put_right-2.ensures
    (PutsRight-put _ c.args.system.now _ c.requires.whole c.in_ok-root.ensures.extends c.args.i c.in_ok-root.root _
    c.requires.row
    (λ vars.
    c.in_ok-root.ensures.formed.value_is vars
    ∙ driven_base-root links.graph.now links.level c.args.i c.args.above.now links.gates.now links.sources.now
    c.args.pool.now vars
    (rw c.level.ensures.value at c.if-level-links.false)))
