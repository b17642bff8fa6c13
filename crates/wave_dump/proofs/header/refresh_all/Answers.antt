-- One entry more has its value.
use Rattle.std.proofs.Common.{◌≡◌, ◌<◌, ◌∙◌, length, sym, ap, subst, arith}
use Rattle.wave_dump.specs.Entries.{ShownEntry, IsInside}
use Rattle.wave_dump.specs.Values.{value_in}
use Rattle.wave_dump.proofs.HeaderLemmas.{FreshFirst, fresh-more, fresh-all, inside_held}
use Rattle.wave_dump.proofs.header.refresh_all.Goals as goal

pub refresh-requires : goal.refresh-requires
refresh-requires c =
    let inside : c.loop-number.number < length c.loop-number.entries = omega (arith, c.loop-number-test.true, c.loop-number.invariant.count) in
    subst (λ (one : ShownEntry). IsInside (length c.args.states.now) one.entry) c.index-entries-number.is
    (inside_held (length c.args.states.now) c.args.entries.now c.loop-number.entries c.loop-number.number c.index-entries-number.result inside
    c.index-entries-number.is c.loop-number.invariant.entries c.requires)

pub loop-number-preserved : goal.loop-number-preserved
loop-number-preserved c =
    fresh-more c.args.states.now c.args.entries.now c.loop-number.entries c.loop-number.number c.index-entries-number.result c.refresh.new.self
    (omega (arith, c.loop-number-test.true)) c.index-entries-number.is
    (c.refresh.ensures.entry ∙ ap (λ (one : ShownEntry). one.entry) (sym c.index-entries-number.is))
    (c.refresh.ensures.shown ∙ ap (λ (one : ShownEntry). value_in c.args.states.now one.entry) (sym c.index-entries-number.is))
    c.loop-number.invariant

pub returns-clause-entries : goal.returns-clause-entries
returns-clause-entries c = c.loop-number.invariant.entries

pub returns-clause-shown : goal.returns-clause-shown
returns-clause-shown c =
    let end : c.loop-number.number ≡ length c.args.entries.now = omega arith in
    fresh-all c.args.states.now c.args.entries.now c.loop-number.entries
    (subst (FreshFirst c.args.states.now c.args.entries.now c.loop-number.entries) end c.loop-number.invariant)
