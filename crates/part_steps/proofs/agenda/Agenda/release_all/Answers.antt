-- One part more waits no more.
use Rattle.std.proofs.Common.{◌≡◌, ℕ, ◌+◌, [], ◌∷◌, ◌++◌, inl, inr, get_or, take, refl, sym, subst, ◌∙◌, arith}
use Rattle.std.specs.Prelude.{◌↔◌, Contains}
use Rattle.std.proofs.lemmas.List.{take_more, take_all}
use Rattle.std.proofs.lemmas.List.Elements.{Contains-push, Contains-push_cases, Contains-append_left}
use Rattle.machine_parts.specs.Marking.{IsMarked}
use Rattle.machine_parts.proofs.SetMarks.{marked-cleared, marked-cleared_was, marked-cleared_cases}
use Rattle.part_steps.proofs.agenda.Agenda.release_all.Goals as goal

pub loop-k-init : goal.loop-k-init
loop-k-init c = record {
  marks = refl;
  waiting = λ k. (λ waits. (waits, λ there. absurd (omega (arith, there.1))), λ both. both.0);
}

pub loop-k-preserved : goal.loop-k-preserved
loop-k-preserved c =
    let these = c.args.these.now in
    let i = c.loop-k.k-index in
    let one = get_or these i 0 in
    let more : take (i + 1) these ≡ take i these ++ one ∷ [] = take_more these i 0 c.loop-k-test.true in
    let before = c.loop-k.invariant.waiting in
    record {
      marks = c.release.ensures.marks ∙ c.loop-k.invariant.marks;
      waiting = λ k. (
        λ waits.
            let cleared = subst (λ list. IsMarked list k) c.release.ensures.waiting waits in
            let (was, none) = (before k).0 (marked-cleared_was c.loop-k.self.waiting one k cleared) in (
              was,
              λ there.
                  elim (Contains-push_cases (take i these) one k (subst (λ xs. Contains xs k) more there)) [
                    | inl earlier ↦ none earlier
                    | inr same ↦ marked-cleared c.loop-k.self.waiting one (subst (IsMarked _) (sym same) cleared)
                  ],
            ),
        λ both.
            let still = (before k).1 (both.0, λ there. both.1 (subst (λ xs. Contains xs k) (sym more) (Contains-append_left (take i these) (one ∷ []) k there))) in
            subst (λ list. IsMarked list k) (sym c.release.ensures.waiting)
            (elim (marked-cleared_cases c.loop-k.self.waiting one k still) [
              | inl left ↦ left
              | inr same ↦ absurd (both.1 (subst (λ xs. Contains xs k) (sym more) (subst (Contains (take i these ++ one ∷ [])) (sym same) (Contains-push (take i these) one))))
            ]),
      );
    }

pub returns-clause-waiting : goal.returns-clause-waiting
returns-clause-waiting c =
    subst (λ list. (k : ℕ) → IsMarked c.loop-k.self.waiting k ↔ (IsMarked c.args.self.now.waiting k × (¬ Contains list k)))
    (take_all c.loop-k.k-index c.args.these.now (omega (arith, c.loop-k-test.false))) c.loop-k.invariant.waiting
