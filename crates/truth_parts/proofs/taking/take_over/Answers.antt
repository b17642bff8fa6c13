-- One change more is taken over.
use Rattle.std.proofs.Common.{◌<◌, inl, length, refl, subst, sym, ◌∙◌, arith}
use Rattle.machine_parts.proofs.MarkLemmas.{MarksAll-reached}
use Rattle.part_lists.specs.Listing.{listed_at}
use Rattle.part_lists.proofs.ListLemmas.{list_read}
use Rattle.truth_parts.specs.declared.workspace.TruthChange.{TruthChange}
use Rattle.truth_parts.proofs.TakingLemmas.{AreWritten-none, AreWritten-more}
use Rattle.truth_parts.proofs.taking.take_over.Goals as goal

pub loop-change-init : goal.loop-change-init
loop-change-init g c = record {
  written = AreWritten-none c.args.hi.now c.args.lo.now;
  marks = record {
    count = refl;
    stays = λ k was. was;
    set = λ k any. let (i, inside, here) = any.changes_it in absurd (omega (arith, inside));
    only = λ k marked. inl marked;
  };
}

pub mark_all-requires : goal.mark_all-requires
mark_all-requires g c = λ k there.
    let change = c.change-item.result in
    let own = c.requires.inside c.loop-change.change-index change c.loop-change-test.true in
    let at : change.node < length c.args.hi.now = subst (λ (one : TruthChange _). one.node < length c.args.hi.now) (sym c.change-item.is) own in
    let inside : change.node < length c.args.readers.now = omega (arith, at, c.requires.readers) in
    let lists = c.deref.ensures.value ∙ list_read c.args.readers.now change.node c.index-readers-change.result inside c.index-readers-change.is in
    omega (arith, c.requires.parts change.node k (rw lists at there), c.loop-change.invariant.marks.count)

pub loop-change-preserved : goal.loop-change-preserved
loop-change-preserved g c =
    let i = c.loop-change.change-index in
    let change = c.change-item.result in
    let own = c.requires.inside i change c.loop-change-test.true in
    let inside : change.node < length c.args.hi.now = subst (λ (one : TruthChange _). one.node < length c.args.hi.now) (sym c.change-item.is) own in
    let within : change.node < length c.args.readers.now = omega (arith, inside, c.requires.readers) in
    let high : change.node < length c.loop-change.hi = omega (arith, inside, c.loop-change.auto.hi) in
    let low : change.node < length c.loop-change.lo = omega (arith, inside, c.loop-change.auto.lo, c.requires.rails) in
    let lists = c.deref.ensures.value ∙ list_read c.args.readers.now change.node c.index-readers-change.result within c.index-readers-change.is in
    record {
      written = AreWritten-more c.args.changes.now i change c.args.hi.now c.args.lo.now c.loop-change.hi c.loop-change.lo c.loop-change-test.true c.change-item.is high low
          c.loop-change.invariant.written;
      marks = MarksAll-reached (λ (change : TruthChange _). listed_at c.args.readers.now change.node) c.args.changes.now i change c.deref.result.now c.args.agenda.now
          c.loop-change.agenda c.mark_all.new.agenda c.loop-change-test.true c.change-item.is lists c.loop-change.invariant.marks c.mark_all.ensures;
    }
