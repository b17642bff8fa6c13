-- One part more is apart.
use Rattle.std.proofs.Common.{refl, get_or, ◌∙◌, arith}
use Rattle.std.proofs.lemmas.List.{get_or_default}
use Rattle.std.proofs.lemmas.List.Elements.{Contains-get_or}
use Rattle.run_beside.proofs.NoticingLemmas.{Notices-none, Notices-came}
use Rattle.run_beside.proofs.noticing.enter_readers.Goals as goal

pub loop-k-init : goal.loop-k-init
loop-k-init c = record {
  notices = Notices-none _ _ c.args.apart.now.inside c.args.agenda.now.marks (λ k this. absurd (omega (arith, this.1))) (λ k none. none);
  waiting = refl;
}

pub enter_new-requires-clause-parts : goal.enter_new-requires-clause-parts
enter_new-requires-clause-parts c =
    let inside = c.requires.parts _ (Contains-get_or c.args.parts.now c.loop-k.k-index 0 c.loop-k-test.true) in
    omega (arith, inside, c.loop-k.invariant.notices.apart.count)

pub enter_new-requires-clause-marks : goal.enter_new-requires-clause-marks
enter_new-requires-clause-marks c =
    omega (arith, c.loop-k.invariant.notices.apart.count, c.loop-k.invariant.notices.count, c.requires.marks)

pub loop-k-preserved : goal.loop-k-preserved
loop-k-preserved c =
    let parts = c.args.parts.now in
    let i = c.loop-k.k-index in
    let test = c.loop-k-test.true in
    record {
      notices = Notices-came parts i (get_or parts i 0) c.args.apart.now.inside c.loop-k.apart.inside c.enter_new.new.apart.inside c.args.agenda.now.marks
          c.loop-k.agenda.marks c.enter_new.new.agenda.marks test (get_or_default parts i 0 (get_or parts i 0) test) c.loop-k.invariant.notices
          c.enter_new.ensures.notices;
      waiting = c.enter_new.ensures.waiting ∙ c.loop-k.invariant.waiting;
    }
