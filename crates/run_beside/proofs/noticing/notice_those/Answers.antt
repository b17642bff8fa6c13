-- One change more is noticed. Of one that is far no reader was apart, so those that are by now came apart and are marked.
use Rattle.std.proofs.Common.{inl, inr, refl, get_or, ◌∙◌, arith}
use Rattle.std.proofs.lemmas.List.{get_or_default}
use Rattle.std.proofs.lemmas.List.Elements.{Contains-get_or}
use Rattle.ternary.specs.declared.tern.Tern.TheVariants.{Zero}
use Rattle.part_words.specs.declared.change.Change.{Change}
use Rattle.run_beside.proofs.NoticingLemmas.{Notices-none, NoticesGood-more}
use Rattle.run_beside.proofs.noticing.notice_those.Goals as goal

first : Change
first = record { node = 0; value = Zero }

pub loop-change-init : goal.loop-change-init
loop-change-init c = record {
  notices = Notices-none _ _ c.args.apart.now.inside c.args.agenda.now.marks (λ k this. absurd (omega (arith, this.there.1)))
      (λ k this. absurd (omega (arith, this.there.1)));
  waiting = refl;
}

pub notice_unless_far-requires-clause-inside : goal.notice_unless_far-requires-clause-inside
unfolding first
notice_unless_far-requires-clause-inside c =
    c.requires.inside _ (Contains-get_or c.args.changes.now c.loop-change.change-index first c.loop-change-test.true)

pub notice_unless_far-requires-clause-parts : goal.notice_unless_far-requires-clause-parts
notice_unless_far-requires-clause-parts c = λ k concerns.
    let inside = c.requires.parts _ k concerns in
    omega (arith, inside, c.loop-change.invariant.notices.apart.count)

pub notice_unless_far-requires-clause-marks : goal.notice_unless_far-requires-clause-marks
notice_unless_far-requires-clause-marks c =
    omega (arith, c.loop-change.invariant.notices.apart.count, c.loop-change.invariant.notices.count, c.requires.marks)

pub notice_unless_far-requires-clause-agrees : goal.notice_unless_far-requires-clause-agrees
unfolding first
notice_unless_far-requires-clause-agrees c = λ far.
    c.requires.agrees _ (Contains-get_or c.args.changes.now c.loop-change.change-index first c.loop-change-test.true) far

pub notice_unless_far-requires-clause-marked : goal.notice_unless_far-requires-clause-marked
unfolding first
notice_unless_far-requires-clause-marked c = λ far k reads is. elim (c.loop-change.invariant.notices.entered k is) [
  | inl was ↦
      absurd (c.requires.unread _ (Contains-get_or c.args.changes.now c.loop-change.change-index first c.loop-change-test.true) far k reads was)
  | inr marked ↦ marked
]

pub loop-change-preserved : goal.loop-change-preserved
unfolding first
loop-change-preserved c =
    let changes = c.args.changes.now in
    let i = c.loop-change.change-index in
    let test = c.loop-change-test.true in
    let change = get_or changes i first in
    record {
      notices = NoticesGood-more changes i change c.args.owners.now c.args.readers.now c.args.good.now c.args.bad.now c.args.apart.now.inside
          c.loop-change.apart.inside c.notice_unless_far.new.apart.inside c.args.agenda.now.marks c.loop-change.agenda.marks
          c.notice_unless_far.new.agenda.marks test (get_or_default changes i first change test) c.loop-change.invariant.notices
          c.notice_unless_far.ensures.notices;
      waiting = c.notice_unless_far.ensures.waiting ∙ c.loop-change.invariant.waiting;
    }
