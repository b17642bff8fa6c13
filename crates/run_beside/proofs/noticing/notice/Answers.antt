-- One change more is noticed.
use Rattle.std.proofs.Common.{refl, get_or, ◌∙◌, arith}
use Rattle.std.proofs.lemmas.List.{get_or_default}
use Rattle.part_advance.proofs.NextChange.{default_change, next_inside}
use Rattle.run_beside.proofs.NoticingLemmas.{Notices-none, NoticesChanges-more}
use Rattle.run_beside.proofs.noticing.notice.Goals as goal

pub loop-change-init : goal.loop-change-init
loop-change-init c = record {
  notices = Notices-none _ _ c.args.apart.now.inside c.args.agenda.now.marks (λ k this. absurd (omega (arith, this.there.1)))
      (λ k this. absurd (omega (arith, this.changes_it.1)));
  waiting = refl;
}

pub notice_node-requires-clause-inside : goal.notice_node-requires-clause-inside
notice_node-requires-clause-inside c = next_inside _ _ _ c.loop-change-test.true c.requires.inside

pub notice_node-requires-clause-parts : goal.notice_node-requires-clause-parts
notice_node-requires-clause-parts c = λ k concerns.
    let inside = c.requires.parts _ k concerns in
    omega (arith, inside, c.loop-change.invariant.notices.apart.count)

pub notice_node-requires-clause-marks : goal.notice_node-requires-clause-marks
notice_node-requires-clause-marks c =
    omega (arith, c.loop-change.invariant.notices.apart.count, c.loop-change.invariant.notices.count, c.requires.marks)

pub loop-change-preserved : goal.loop-change-preserved
loop-change-preserved c =
    let change = get_or c.args.changes.now c.loop-change.change-index default_change in
    let is = get_or_default c.args.changes.now c.loop-change.change-index default_change change c.loop-change-test.true in
    record {
      notices = NoticesChanges-more c.args.changes.now c.loop-change.change-index change c.args.owners.now c.args.readers.now c.args.good.now c.args.bad.now
          c.args.apart.now.inside c.loop-change.apart.inside c.notice_node.new.apart.inside c.args.agenda.now.marks c.loop-change.agenda.marks
          c.notice_node.new.agenda.marks c.loop-change-test.true is c.loop-change.invariant.notices c.notice_node.ensures.notices;
      waiting = c.notice_node.ensures.waiting ∙ c.loop-change.invariant.waiting;
    }
