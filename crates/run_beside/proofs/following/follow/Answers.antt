-- One change more is taken over in both runs.
use Rattle.std.proofs.Common.{true, ℕ, ◌≡◌, ◌<◌, inl, inr, get_or, refl, sym, ap, subst, arith}
use Rattle.std.specs.Prelude.{length}
use Rattle.std.proofs.lemmas.Bool.{cases_eq, OnTrue_at}
use Rattle.std.proofs.lemmas.List.{get_or_default}
use Rattle.switch_paths.specs.Switching.{state_at}
use Rattle.vicinity.proofs.TouchLemmas.{IsTaken-more, NoneTwice}
use Rattle.wide_groups.proofs.WideCases.{TurnedIn-none, TurnedIn-then, listed_turned}
use Rattle.part_advance.proofs.NextChange.{default_change, next_inside}
use Rattle.run_beside.specs.Following.{IsWritten, FollowsAt}
use Rattle.run_beside.specs.Near.{IsOut}
use Rattle.run_beside.proofs.NearFront.{first_is_out, last_is_out}
use Rattle.run_beside.proofs.WritingLemmas.{written, passed, none_twice-written}
use Rattle.run_beside.proofs.following.follow.Goals.{then-not-follow_one, else-not-follow_one}
use Rattle.run_beside.proofs.following.follow.Goals as goal

pub loop-k-init : goal.loop-k-init
loop-k-init c = record {
  ordered = omega arith;
  inside = omega arith;
  before = λ j early. absurd (omega (arith, early));
  behind = λ j early. absurd (omega (arith, early));
  good = record { count = refl; taken = λ change there. absurd (omega (arith, there.1)); stays = λ node none. refl };
  bad = record { count = refl; taken = λ change there asked. absurd (omega (arith, there.1)); stays = λ node none. refl };
  turned = TurnedIn-none c.args.wide.now c.args.bad.now;
}

pub bounds-good-change : goal.bounds-good-change
bounds-good-change c = omega (arith, next_inside _ _ _ c.loop-k-test.true c.requires.inside, c.loop-k.invariant.good.count)

pub follow_one-requires-clause-inside : goal.follow_one-requires-clause-inside
follow_one-requires-clause-inside c =
    omega (arith, next_inside _ _ _ c.loop-k-test.true c.requires.inside, c.loop-k.invariant.bad.count, c.requires.counted)

pub follow_one-requires-clause-wide : goal.follow_one-requires-clause-wide
follow_one-requires-clause-wide c =
    listed_turned c.args.wide.now c.loop-k.wide c.args.bad.now c.loop-k.bad c.loop-k.invariant.turned
    c.loop-k.invariant.bad.count c.requires.wide

pub follow_one-requires-clause-far : goal.follow_one-requires-clause-far
follow_one-requires-clause-far c = λ far. c.requires.far _ far (next_inside _ _ _ c.loop-k-test.true c.requires.inside)

pub loop-k-preserved : goal.loop-k-preserved
loop-k-preserved c =
    let changes = c.args.changes.now in
    let i = c.loop-k.k in
    let test = c.loop-k-test.true in
    let change = get_or changes i default_change in
    let is = get_or_default changes i default_change change test in
    let inside = next_inside changes i _ test c.requires.inside in
    let in_bad : change.node < length c.loop-k.bad = omega (arith, inside, c.loop-k.invariant.bad.count, c.requires.counted) in
    let Follows = FollowsAt c.args.owners.now c.args.apart.now.inside in
    let once : NoneTwice c.args.bad.now c.loop-k.bad c.follow_one.new.bad = elim c.follow_one.ensures.bad [
      | inl (follows, set) ↦
          subst (NoneTwice c.args.bad.now c.loop-k.bad) (sym set)
          (none_twice-written Follows changes i change c.args.bad.now c.loop-k.bad test is c.loop-k.invariant.bad c.requires.agreed in_bad)
      | inr (stays, same) ↦ λ node. inr (ap (λ states. state_at states node) same)
    ] in
    let here : c.follow_one.result ≡ true → (j : ℕ) → j ≡ i → IsOut c.args.near.now (get_or changes j default_change).node =
    λ far j same. subst (λ place. IsOut c.args.near.now (get_or changes place default_change).node) (sym same) (OnTrue_at far c.follow_one.ensures.far) in
    record {
      ordered = elim c.if-not-follow_one.branch [
        | then-not-follow_one w ↦ omega (arith, w.first-is, w.end-is, w.min-first.ensures)
        | else-not-follow_one w ↦ omega (arith, w.first-is, w.end-is, c.loop-k.invariant.ordered)
      ];
      inside = elim c.if-not-follow_one.branch [
        | then-not-follow_one w ↦ omega (arith, w.end-is, test)
        | else-not-follow_one w ↦ omega (arith, w.end-is, c.loop-k.invariant.inside)
      ];
      before = λ j passed early. elim c.if-not-follow_one.branch [
        | then-not-follow_one w ↦
            c.loop-k.invariant.before j (omega (arith, early, w.first-is, w.min-first.ensures)) (omega (arith, early, w.first-is, w.min-first.ensures))
        | else-not-follow_one w ↦ elim (cases_eq j i) [
          | inl same ↦ here w.if-not-follow_one.false j same
          | inr differs ↦ c.loop-k.invariant.before j (omega (arith, passed, differs)) (omega (arith, early, w.first-is))
        ]
      ];
      behind = λ j passed late. elim c.if-not-follow_one.branch [
        | then-not-follow_one w ↦ absurd (omega (arith, passed, late, w.end-is))
        | else-not-follow_one w ↦ elim (cases_eq j i) [
          | inl same ↦ here w.if-not-follow_one.false j same
          | inr differs ↦ c.loop-k.invariant.behind j (omega (arith, passed, differs)) (omega (arith, late, w.end-is))
        ]
      ];
      good = IsTaken-more changes i default_change c.args.good.now c.loop-k.good test inside c.requires.agreed c.loop-k.invariant.good;
      bad = elim c.follow_one.ensures.bad [
        | inl (follows, set) ↦
            subst (IsWritten Follows _ c.args.bad.now) (sym set)
            (written Follows changes i change c.args.bad.now c.loop-k.bad test is c.loop-k.invariant.bad c.requires.agreed follows in_bad)
        | inr (stays, same) ↦
            subst (IsWritten Follows _ c.args.bad.now) (sym same)
            (passed Follows changes i change c.args.bad.now c.loop-k.bad test is c.loop-k.invariant.bad stays)
      ];
      turned = TurnedIn-then c.args.wide.now c.loop-k.wide c.follow_one.new.wide c.args.bad.now c.loop-k.bad c.follow_one.new.bad once
          c.loop-k.invariant.turned c.follow_one.ensures.turned;
    }

pub returns-clause-span : goal.returns-clause-span
returns-clause-span c =
    let so_far = c.loop-k.invariant in
    let over = c.loop-k-test.false in
    record {
      ordered = so_far.ordered;
      inside = so_far.inside;
      before = first_is_out c.args.near.now c.args.changes.now c.loop-k.first (λ j inside early. so_far.before j (omega (arith, inside, over)) early);
      behind = last_is_out c.args.near.now c.args.changes.now c.loop-k.end (λ j inside late. so_far.behind j (omega (arith, inside, over)) late);
    }
