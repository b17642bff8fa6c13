-- One place more, and all places.
use Rattle.std.proofs.Common.{◌≡◌, ◌∙◌, inl, inr, arith}
use Rattle.std.proofs.lemmas.Bool.{cases_lt}
use Rattle.switch_paths.proofs.PathLemmas.{place_inside}
use Rattle.why_path.proofs.ends.ends_of.Goals as goal

pub loop-place-preserved : goal.loop-place-preserved
loop-place-preserved c =
    let so_far = c.loop-place.invariant in
    let now = c.in_ok-note_ends.ensures in
    record {
      count = now.count ∙ so_far.count;
      below = λ place switch less stands. elim (cases_lt place c.loop-place.place) [
        | inl before ↦
            let both = so_far.below place switch before stands in
            (now.kept switch.a place both.0, now.kept switch.b place both.1)
        | inr past ↦
            let is : place ≡ c.loop-place.place = omega arith in
            rw is (now.noted switch (c.switch_at.ensures.value ∙ (rw is at stands)))
      ];
    }

pub returns-clause-switches : goal.returns-clause-switches
returns-clause-switches c = λ place switch stands.
    let inside = place_inside c.args.graph.now.places place switch stands in
    c.loop-place.invariant.below place switch (omega arith) stands
