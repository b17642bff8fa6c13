-- One change more, whose node follows, or doesn't.
use Rattle.std.proofs.Common.{get_or, subst, arith}
use Rattle.std.proofs.lemmas.Bool.{OnTrue_at, OnFalse_at}
use Rattle.std.proofs.lemmas.List.{get_or_default, take_all}
use Rattle.std.proofs.lemmas.List.Elements.{Contains-get_or}
use Rattle.ternary.specs.declared.tern.Tern.TheVariants.{Zero}
use Rattle.part_words.specs.declared.change.Change.{Change}
use Rattle.beside_phases.specs.Counting.{SomeFollows}
use Rattle.beside_phases.proofs.FollowingLemmas.{none_follows-more}
use Rattle.beside_phases.proofs.counting.some_follows.Goals as goal

first : Change
first = record { node = 0; value = Zero }

pub loop-change-init : goal.loop-change-init
loop-change-init c = λ some. absurd (omega (arith, some.there.1))

pub follows-requires-clause-inside : goal.follows-requires-clause-inside
unfolding first
follows-requires-clause-inside c = c.requires.inside _ (Contains-get_or c.args.changes.now c.loop-change.change-index first c.loop-change-test.true)

pub returns-then-follows-clause-yes : goal.returns-then-follows-clause-yes
unfolding first
returns-then-follows-clause-yes c =
    record {
      change = get_or c.args.changes.now c.loop-change.change-index first;
      there = Contains-get_or c.args.changes.now c.loop-change.change-index first c.loop-change-test.true;
      one = OnTrue_at c.if-follows.true c.follows.ensures.yes;
    }

pub loop-change-preserved : goal.loop-change-preserved
unfolding first
loop-change-preserved c =
    let changes = c.args.changes.now in
    let i = c.loop-change.change-index in
    let test = c.loop-change-test.true in
    let change = get_or changes i first in
    none_follows-more changes i change c.args.machine.now.parts c.args.apart.now.inside c.args.good.now test (get_or_default changes i first change test)
    c.loop-change.invariant (OnFalse_at c.if-follows.false c.follows.ensures.no)

pub returns-clause-no : goal.returns-clause-no
returns-clause-no c =
    subst (λ xs. ¬ SomeFollows xs c.args.machine.now.parts c.args.apart.now.inside c.args.good.now)
    (take_all c.loop-change.change-index c.args.changes.now (omega (arith, c.loop-change-test.false))) c.loop-change.invariant
