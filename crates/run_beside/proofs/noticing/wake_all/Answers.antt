-- One part more is marked if it is apart.
use Rattle.std.proofs.Common.{refl, get_or, ◌∙◌, arith}
use Rattle.std.proofs.lemmas.List.{get_or_default}
use Rattle.std.proofs.lemmas.List.Elements.{Contains-get_or}
use Rattle.run_beside.proofs.NoticingLemmas.{Notices-none, Notices-awake}
use Rattle.run_beside.proofs.noticing.wake_all.Goals as goal

pub loop-k-init : goal.loop-k-init
loop-k-init c = record {
  notices = Notices-none _ _ c.args.apart.now.inside c.args.agenda.now.marks (λ k none. none) (λ k this. absurd (omega (arith, this.1)));
  waiting = refl;
}

pub wake-requires-clause-parts : goal.wake-requires-clause-parts
wake-requires-clause-parts c = c.requires.parts _ (Contains-get_or c.args.parts.now c.loop-k.k-index 0 c.loop-k-test.true)

pub wake-requires-clause-marks : goal.wake-requires-clause-marks
wake-requires-clause-marks c = c.loop-k.invariant.notices.count ∙ c.requires.marks

pub loop-k-preserved : goal.loop-k-preserved
loop-k-preserved c =
    let parts = c.args.parts.now in
    let i = c.loop-k.k-index in
    let test = c.loop-k-test.true in
    record {
      notices = Notices-awake parts i (get_or parts i 0) c.args.apart.now.inside c.args.agenda.now.marks c.loop-k.agenda.marks c.wake.new.agenda.marks test
          (get_or_default parts i 0 (get_or parts i 0) test) c.loop-k.invariant.notices c.wake.ensures.notices;
      waiting = c.wake.ensures.waiting ∙ c.loop-k.invariant.waiting;
    }
