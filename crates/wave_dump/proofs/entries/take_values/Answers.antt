-- One place more, and at the end all.
use Rattle.std.proofs.Common.{◌≡◌, ◌+◌, ◌<◌, List, length, refl, sym, subst, arith}
use Rattle.std.specs.Prelude.{◌||◌}
use Rattle.ternary.specs.declared.tern.Tern.{Tern}
use Rattle.wave_dump.proofs.EntryLemmas.{TakenFirst, taken-none, taken-more, taken-all, taken-changed, taken-kept}
use Rattle.wave_dump.proofs.entries.take_values.Goals as goal

pub loop-at-init : goal.loop-at-init
loop-at-init c = taken-none c.args.nodes.now c.args.states.now c.args.shown.now

pub loop-at-preserved : goal.loop-at-preserved
loop-at-preserved c =
    let inside : c.loop-at.at < length c.args.shown.now = omega (arith, c.loop-at-test.true, c.requires.count) in
    subst
    (λ (shown : List Tern).
    TakenFirst c.args.nodes.now c.args.states.now c.args.shown.now shown (c.loop-at.at + 1) (c.loop-at.changed || c.put_state-other.result))
    (sym c.put_state-other.ensures.shown)
    (taken-more c.args.nodes.now c.args.states.now c.args.shown.now c.loop-at.shown c.loop-at.at c.loop-at.changed inside c.loop-at.invariant _ refl
    c.put_state-other.result c.put_state-other.ensures.changed c.put_state-other.ensures.same)

pub returns-clause-shown : goal.returns-clause-shown
returns-clause-shown c =
    let end : c.loop-at.at ≡ length c.args.nodes.now = omega arith in
    taken-all c.args.nodes.now c.args.states.now c.args.shown.now c.loop-at.shown c.loop-at.changed c.requires.count
    (subst (λ at. TakenFirst c.args.nodes.now c.args.states.now c.args.shown.now c.loop-at.shown at c.loop-at.changed) end c.loop-at.invariant)

pub returns-clause-changed : goal.returns-clause-changed
returns-clause-changed c = taken-changed c.args.nodes.now c.args.states.now c.args.shown.now c.loop-at.shown c.loop-at.at c.loop-at.changed c.loop-at.invariant

pub returns-clause-same : goal.returns-clause-same
returns-clause-same c = taken-kept c.args.nodes.now c.args.states.now c.args.shown.now c.loop-at.shown c.loop-at.at c.loop-at.changed c.loop-at.invariant
