-- One entry after the other.
use Rattle.std.proofs.Common.{◌<◌, ◌∙◌, ℕ, length, All, refl, sym, subst, arith}
use Rattle.settling.specs.PlainStepping.{numbers_from}
use Rattle.settling.proofs.NumbersLemmas.{numbers-count}
use Rattle.wave_dump.specs.Changes.{TakesValue}
use Rattle.wave_dump.specs.Entries.{IsInside, entries_of, shown_of}
use Rattle.wave_dump.specs.Values.{values_in}
use Rattle.wave_dump.proofs.MarkedLemmas.{changes_all, changes_written}
use Rattle.wave_dump.proofs.SheetLemmas.{all_marked, numbers_ascend, number_here}
use Rattle.wave_dump.proofs.TakingLemmas.{both-count, taken-none, taken-more}
use Rattle.wave_dump.proofs.changes.write_changes_of_all.Goals as goal

pub loop-number-init : goal.loop-number-init
loop-number-init g c =
    let entries = c.args.entries.now in
    let all = numbers_from 0 (length entries) in
    record {
      so_far = taken-none c.args.states.now entries all c.args.time c.args.is_told c.args.pen.now.text (all_marked entries c.args.states.now all refl);
      entries = refl;
      before = refl;
    }

pub write_change-told-requires : goal.write_change-told-requires
write_change-told-requires g c = subst (All (IsInside (length c.args.states.now))) (sym c.loop-number.invariant.entries) c.requires

pub loop-number-preserved : goal.loop-number-preserved
loop-number-preserved g c =
    let entries = c.args.entries.now in
    let count = length entries in
    let number = c.loop-number.number in
    let below : number < count = omega (arith, c.loop-number-test.true) in
    record {
      so_far = taken-more c.args.states.now entries (numbers_from 0 count) (numbers_ascend count (numbers_from 0 count) refl) c.args.time c.args.is_told
          c.args.pen.now.text c.loop-number.entries number c.loop-number.told c.loop-number.pen.text (omega (arith, below, numbers-count 0 count))
          c.loop-number.invariant.entries c.loop-number.invariant.so_far c.write_change-told.new.entries c.write_change-told.result c.write_change-told.new.pen.text
          (subst (λ (number : ℕ). TakesValue c.args.states.now number c.args.time c.loop-number.told c.write_change-told.result c.loop-number.entries
          c.write_change-told.new.entries c.loop-number.pen.text c.write_change-told.new.pen.text) (sym (number_here count number below)) c.write_change-told.ensures.takes);
      entries = c.write_change-told.ensures.takes.entries ∙ c.loop-number.invariant.entries;
      before = c.write_change-told.ensures.before ∙ c.loop-number.invariant.before;
    }

pub returns : goal.returns
returns g c =
    let entries = c.args.entries.now in
    let count = length entries in
    record {
      entries = c.loop-number.invariant.entries;
      shown = changes_all (shown_of entries) (values_in c.args.states.now (entries_of entries)) (both-count c.args.states.now entries) (numbers_from 0 count)
          c.args.is_told c.args.time c.args.pen.now.text (shown_of c.loop-number.entries) c.loop-number.number
          (omega (arith, c.loop-number-test.false, numbers-count 0 count)) c.loop-number.told c.loop-number.pen.text c.loop-number.invariant.so_far;
      text = changes_written (shown_of entries) (values_in c.args.states.now (entries_of entries)) (both-count c.args.states.now entries) (numbers_from 0 count)
          c.args.is_told c.args.time c.args.pen.now.text (shown_of c.loop-number.entries) c.loop-number.number
          (omega (arith, c.loop-number-test.false, numbers-count 0 count)) c.loop-number.told c.loop-number.pen.text c.loop-number.invariant.so_far;
      before = c.loop-number.invariant.before;
    }
