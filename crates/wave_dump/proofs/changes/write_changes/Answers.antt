-- One marked entry after the other.
use Rattle.std.proofs.Common.{◌∙◌, length, All, refl, sym, subst, arith}
use Rattle.wave_dump.specs.Entries.{IsInside, entries_of, shown_of}
use Rattle.wave_dump.specs.Values.{values_in}
use Rattle.wave_dump.proofs.MarkedLemmas.{changes_all, changes_written}
use Rattle.wave_dump.proofs.TakingLemmas.{both-count, taken-none, taken-more}
use Rattle.wave_dump.proofs.changes.write_changes.Goals as goal

pub loop-number-init : goal.loop-number-init
loop-number-init g c = record {
  so_far = taken-none c.args.states.now c.args.entries.now c.args.marked.now c.args.time c.args.is_told c.args.pen.now.text c.requires.marked;
  entries = refl;
  before = refl;
}

pub write_change-told-requires : goal.write_change-told-requires
write_change-told-requires g c = subst (All (IsInside (length c.args.states.now))) (sym c.loop-number.invariant.entries) c.requires.inside

pub loop-number-preserved : goal.loop-number-preserved
loop-number-preserved g c = record {
  so_far = taken-more c.args.states.now c.args.entries.now c.args.marked.now c.requires.ascending c.args.time c.args.is_told c.args.pen.now.text
      c.loop-number.entries c.loop-number.number-index c.loop-number.told c.loop-number.pen.text c.loop-number-test.true c.loop-number.invariant.entries
      c.loop-number.invariant.so_far
      c.write_change-told.new.entries c.write_change-told.result c.write_change-told.new.pen.text c.write_change-told.ensures.takes;
  entries = c.write_change-told.ensures.takes.entries ∙ c.loop-number.invariant.entries;
  before = c.write_change-told.ensures.before ∙ c.loop-number.invariant.before;
}

pub returns-clause-shown : goal.returns-clause-shown
returns-clause-shown g c =
    changes_all (shown_of c.args.entries.now) (values_in c.args.states.now (entries_of c.args.entries.now)) (both-count c.args.states.now c.args.entries.now) c.args.marked.now c.args.is_told
    c.args.time c.args.pen.now.text (shown_of c.loop-number.entries) c.loop-number.number-index (omega (arith, c.loop-number-test.false)) c.loop-number.told
    c.loop-number.pen.text c.loop-number.invariant.so_far

pub returns-clause-text : goal.returns-clause-text
returns-clause-text g c =
    changes_written (shown_of c.args.entries.now) (values_in c.args.states.now (entries_of c.args.entries.now)) (both-count c.args.states.now c.args.entries.now) c.args.marked.now c.args.is_told
    c.args.time c.args.pen.now.text (shown_of c.loop-number.entries) c.loop-number.number-index (omega (arith, c.loop-number-test.false)) c.loop-number.told
    c.loop-number.pen.text c.loop-number.invariant.so_far
