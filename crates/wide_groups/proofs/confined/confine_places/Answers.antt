-- One place more.
use Rattle.std.proofs.Common.{◌≡◌, length, Some, None, inl, inr, refl, subst, sym, ap, ◌∙◌, arith}
use Rattle.std.proofs.lemmas.Bool.{cases_lt, cases_eq}
use Rattle.std.proofs.lemmas.List.{get_or_past}
use Rattle.switch_paths.specs.Graphs.{place_at}
use Rattle.wide_groups.proofs.confined.confine_places.Goals as goal

pub loop-place-init : goal.loop-place-init
loop-place-init c = record {
  levels = refl;
  count = refl;
  later = λ p below. refl;
  kept = λ p switch there inside. there;
  only = λ p switch before. absurd (omega (arith, before));
}

pub confine_place-requires-clause-counted : goal.confine_place-requires-clause-counted
confine_place-requires-clause-counted c = c.requires ∙ sym (ap length c.loop-place.invariant.levels)

pub confine_place-requires-clause-inside : goal.confine_place-requires-clause-inside
confine_place-requires-clause-inside c = omega (arith, c.loop-place-test.true, c.places-count.ensures, c.loop-place.invariant.count)

pub loop-place-preserved : goal.loop-place-preserved
loop-place-preserved c =
    let confines = c.confine_place.ensures in
    let before = c.loop-place.invariant in
    let place = c.loop-place.place in
    let first = c.args.graph.now.places in
    let old = c.loop-place.graph.places in
    let new = c.confine_place.new.graph.places in
    let inside = c.args.members.now.inside in
    record {
      levels = confines.levels ∙ before.levels;
      count = confines.count ∙ before.count;
      later = λ p below. confines.others p (λ same. omega (arith, below, same)) ∙ before.later p (omega (arith, below));
      kept = λ p switch there is.
          elim (cases_eq p place) [
            | inl same ↦
                let stood : place_at old place ≡ Some switch = subst (λ k. place_at old k ≡ Some switch) same (before.kept p switch there is) in
                subst (λ k. place_at new k ≡ Some switch) (sym same) (confines.kept switch stood is)
            | inr other ↦ confines.others p other ∙ before.kept p switch there is
          ];
      only = λ p switch below there.
          elim (cases_lt p place) [
            | inl earlier ↦ before.only p switch earlier (sym (confines.others p (λ same. omega (arith, earlier, same))) ∙ there)
            | inr last ↦
                let same : p ≡ place = omega (arith, below, last) in
                let (stood, is) = confines.only switch (subst (λ k. place_at new k ≡ Some switch) same there) in
                (subst (λ k. place_at first k ≡ Some switch) (sym same) (sym (before.later place (omega arith)) ∙ stood), is)
          ];
    }

pub returns : goal.returns
returns c =
    let all = c.loop-place.invariant in
    let first = c.args.graph.now.places in
    let last = c.loop-place.graph.places in
    record {
      levels = all.levels;
      kept = all.kept;
      only = λ p switch there.
          elim (cases_lt p (length first)) [
            | inl below ↦ all.only p switch (omega (arith, below, c.loop-place-test.false, c.places-count.ensures)) there
            | inr past ↦
                let none : place_at last p ≡ None = get_or_past last p None (omega (arith, past, all.count)) in
                absurd (cc (none, there))
          ];
    }
