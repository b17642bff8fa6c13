-- One change more is taken over.
use Rattle.std.proofs.Common.{◌<◌, inl, get_or, refl, arith}
use Rattle.std.specs.Prelude.{length}
use Rattle.std.proofs.lemmas.List.{get_or_default}
use Rattle.column_machines.specs.declared.evaluation.WordChange.{WordChange}
use Rattle.column_machines.proofs.TakingLemmas.{AreWritten-none, AreWritten-more, MarksAll-read}
use Rattle.column_machines.proofs.taking.take_over.Goals as goal

first : WordChange
first = record { node = 0; hi = 0; lo = 0 }

pub loop-change-init : goal.loop-change-init
loop-change-init c = record {
  written = AreWritten-none c.args.hi.now c.args.lo.now;
  marks = record {
    count = refl;
    stays = λ k was. was;
    set = λ k any. let (i, inside, here) = any.changes_it in absurd (omega (arith, inside));
    only = λ k marked. inl marked;
  };
}

pub readers-requires : goal.readers-requires
unfolding first
readers-requires c = omega (arith, c.requires.inside _ first c.loop-change-test.true, c.requires.nodes)

pub mark_all-requires : goal.mark_all-requires
mark_all-requires c = λ k there.
    let reads = (c.readers.ensures k).0 there in
    omega (arith, reads.stands.inside, c.requires.counted, c.loop-change.invariant.marks.count)

pub loop-change-preserved : goal.loop-change-preserved
unfolding first
loop-change-preserved c =
    let i = c.loop-change.change-index in
    let change = get_or c.args.changes.now i first in
    let is = get_or_default c.args.changes.now i first change c.loop-change-test.true in
    let inside = c.requires.inside i first c.loop-change-test.true in
    let high : change.node < length c.loop-change.hi = omega (arith, inside, c.loop-change.auto.hi) in
    let low : change.node < length c.loop-change.lo = omega (arith, inside, c.loop-change.auto.lo, c.requires.words) in
    record {
      written = AreWritten-more c.args.changes.now i change c.args.hi.now c.args.lo.now c.loop-change.hi c.loop-change.lo c.loop-change-test.true is high low
          c.loop-change.invariant.written;
      marks = MarksAll-read c.args.machine.now.parts c.args.changes.now i change c.readers.result.now c.args.agenda.now c.loop-change.agenda c.mark_all.new.agenda
          c.loop-change-test.true is c.readers.ensures c.loop-change.invariant.marks c.mark_all.ensures;
    }
