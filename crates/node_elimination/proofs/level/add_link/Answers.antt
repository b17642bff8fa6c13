-- What is added is formed from what is held, and put.
use Rattle.std.proofs.Common.{◌<◌, ◌≤◌, [], refl, ◌∙◌, arith}
use Rattle.node_elimination.specs.Equations.{formulas_of}
use Rattle.node_elimination.proofs.EquationsLemmas.{IsHeld-at_edge, IsHeld-at_right, Moves-put_edge, Moves-put_right}
use Rattle.node_elimination.proofs.OneLink.{IsHeld-gate, IsHeld-pass, IsHeld-source, gate-inside, pass-inside, source-inside, AddsLink-edge, AddsLink-right}
use Rattle.node_elimination.proofs.level.add_link.Goals as goal

pub or_and-requires-clause-second : goal.or_and-requires-clause-second
or_and-requires-clause-second g c = pass-inside _ _ _ _ _ _ [] c.requires.fit c.args.place c.requires.in_range

pub or_all-requires-clause-first : goal.or_all-requires-clause-first
or_all-requires-clause-first g c = gate-inside _ _ _ _ _ _ [] c.requires.fit c.args.n (omega arith)

pub or_all-requires-clause-second : goal.or_all-requires-clause-second
or_all-requires-clause-second g c = pass-inside _ _ _ _ _ _ [] c.requires.fit c.args.place c.requires.in_range

pub or_all-requires-clause-third : goal.or_all-requires-clause-third
or_all-requires-clause-third g c = source-inside _ _ _ _ _ _ [] c.requires.fit c.args.m c.requires.from

pub returns-in_ok-edge-clause-moves : goal.returns-in_ok-edge-clause-moves
returns-in_ok-edge-clause-moves g c =
    let r = c.requires in
    let old = c.args.system.now in
    let row : c.args.n < old.size = omega arith in
    let column : c.args.m < old.size = omega arith in
    rw c.put_edge.ensures
    (Moves-put_edge _ _ _ old c.args.n c.args.m c.in_ok-edge.edge _ _ _ r.whole c.in_ok-edge.ensures.extends (
      IsHeld-at_edge _ old r.whole.square c.args.n c.args.m c.edge.result.place row column c.edge.ensures.place,
      (
        IsHeld-gate _ _ _ _ _ _ (formulas_of old) r.fit c.args.n _ row refl,
        (IsHeld-pass _ _ _ _ _ _ (formulas_of old) r.fit c.args.place _ r.in_range refl, tt),
      ),
    )
    c.in_ok-edge.ensures.formed)

pub returns-in_ok-edge-clause-adds : goal.returns-in_ok-edge-clause-adds
returns-in_ok-edge-clause-adds g c =
    let row : c.args.n < c.args.system.now.size = omega arith in
    let column : c.args.m < c.args.system.now.size = omega arith in
    rw c.put_edge.ensures
    (AddsLink-edge _ _ c.args.system.now c.requires.whole c.in_ok-edge.ensures.extends c.args.m c.args.n _ _ _ row
    c.in_ok-edge.edge column
    (λ vars. c.in_ok-edge.ensures.formed.value_is vars ∙ cc (c.edge.ensures.place)))

pub returns-in_ok-right-clause-moves : goal.returns-in_ok-right-clause-moves
returns-in_ok-right-clause-moves g c =
    let r = c.requires in
    let old = c.args.system.now in
    let row : c.args.n < old.size = omega arith in
    rw c.put_right.ensures
    (Moves-put_right _ _ _ old c.args.n c.in_ok-right.right _ _ _ r.whole c.in_ok-right.ensures.extends (
      IsHeld-at_right _ old r.whole.square c.args.n c.right.result.place row c.right.ensures.place,
      (
        IsHeld-gate _ _ _ _ _ _ (formulas_of old) r.fit c.args.n _ row refl,
        (
          IsHeld-pass _ _ _ _ _ _ (formulas_of old) r.fit c.args.place _ r.in_range refl,
          (IsHeld-source _ _ _ _ _ _ (formulas_of old) r.fit c.args.m _ r.from refl, tt),
        ),
      ),
    )
    c.in_ok-right.ensures.formed)

pub returns-in_ok-right-clause-adds : goal.returns-in_ok-right-clause-adds
returns-in_ok-right-clause-adds g c =
    let row : c.args.n < c.args.system.now.size = omega arith in
    let outside : c.args.system.now.size ≤ c.args.m = omega arith in
    rw c.put_right.ensures
    (AddsLink-right _ _ c.args.system.now c.requires.whole c.in_ok-right.ensures.extends c.args.m c.args.n _ _ _ row
    c.in_ok-right.right outside
    (λ vars. c.in_ok-right.ensures.formed.value_is vars ∙ cc (c.right.ensures.place)))
