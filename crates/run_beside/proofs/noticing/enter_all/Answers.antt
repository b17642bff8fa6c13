-- One part more is apart and marked.
use Rattle.std.proofs.Common.{◌≡◌, ◌<◌, refl, get_or, sym, subst, ◌∙◌, arith}
use Rattle.std.specs.Prelude.{length}
use Rattle.std.proofs.lemmas.List.{get_or_default}
use Rattle.std.proofs.lemmas.List.Elements.{Contains-get_or}
use Rattle.run_beside.specs.Noticing.{Notices}
use Rattle.run_beside.proofs.NoticingLemmas.{Notices-none, Notices-one, Notices-entered}
use Rattle.run_beside.proofs.noticing.enter_all.Goals as goal

pub loop-k-init : goal.loop-k-init
loop-k-init c = record {
  notices = Notices-none _ _ c.args.apart.now.inside c.args.agenda.now.marks (λ k this. absurd (omega (arith, this.1)))
      (λ k this. absurd (omega (arith, this.1)));
  waiting = refl;
}

pub insert-requires : goal.insert-requires
insert-requires c =
    let inside = c.requires.parts _ (Contains-get_or c.args.parts.now c.loop-k.k-index 0 c.loop-k-test.true) in
    omega (arith, inside, c.loop-k.invariant.notices.apart.count)

pub mark-requires : goal.mark-requires
mark-requires c =
    let inside = c.requires.parts _ (Contains-get_or c.args.parts.now c.loop-k.k-index 0 c.loop-k-test.true) in
    omega (arith, inside, c.loop-k.invariant.notices.count, c.requires.marks)

pub loop-k-preserved : goal.loop-k-preserved
loop-k-preserved c =
    let parts = c.args.parts.now in
    let i = c.loop-k.k-index in
    let test = c.loop-k-test.true in
    let k = get_or parts i 0 in
    let inside = c.requires.parts k (Contains-get_or parts i 0 test) in
    let here : k < length c.loop-k.apart.inside = omega (arith, inside, c.loop-k.invariant.notices.apart.count) in
    let within : k < length c.loop-k.agenda.marks = omega (arith, inside, c.loop-k.invariant.notices.count, c.requires.marks) in
    let one = Notices-one (λ j. j ≡ k) (λ j. j ≡ k) c.loop-k.apart.inside c.loop-k.agenda.marks k here within (λ j is. is) refl (λ j is. is) in
    record {
      notices = Notices-entered parts i k c.args.apart.now.inside c.loop-k.apart.inside c.insert.new.self.inside c.args.agenda.now.marks
          c.loop-k.agenda.marks c.mark.new.self.marks test (get_or_default parts i 0 k test) c.loop-k.invariant.notices
          (subst (λ apart. Notices (λ j. j ≡ k) (λ j. j ≡ k) c.loop-k.apart.inside apart c.loop-k.agenda.marks c.mark.new.self.marks)
          (sym c.insert.ensures.inside)
          (subst (Notices (λ j. j ≡ k) (λ j. j ≡ k) c.loop-k.apart.inside _ c.loop-k.agenda.marks) (sym c.mark.ensures.marks) one));
      waiting = c.mark.ensures.waiting ∙ c.loop-k.invariant.waiting;
    }
