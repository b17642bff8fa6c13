-- One place more.
use Rattle.std.proofs.Common.{◌≡◌, ℕ, take, inl, inr, subst, sym, arith}
use Rattle.std.specs.Prelude.{slice_index}
use Rattle.std.proofs.lemmas.List.{take_all}
use Rattle.std.proofs.lemmas.List.Elements.{Contains-get_or}
use Rattle.circuit_lint.specs.Conducting.{IsClosedAcross}
use Rattle.circuit_lint.proofs.SearchLemmas.{Keeps-then, IsFound-kept, reached_same}
use Rattle.circuit_lint.proofs.StartLemmas.{before_or_here}
use Rattle.circuit_lint.proofs.distances.visit.Goals as goal

pub look-requires-clause-place : goal.look-requires-clause-place
look-requires-clause-place c = c.requires.places _ (Contains-get_or c.args.places.now c.loop-place.place-index 0 c.loop-place-test.true)

pub loop-place-preserved : goal.loop-place-preserved
loop-place-preserved c =
    let g = c.args.graph.now in
    let places = c.args.places.now in
    let i = c.loop-place.place-index in
    let old = c.args.search.now in
    let mid = c.loop-place.search in
    let new = c.look.new.search in
    let so_far = c.loop-place.invariant in
    let one = c.in_ok-look.ensures in
    record {
      searched = one.searched;
      keeps = Keeps-then old.distance.items mid.distance.items new.distance.items old.order.items mid.order.items new.order.items so_far.keeps one.keeps;
      found = λ place node there storage joined.
          elim (before_or_here g mid.distance.items places i c.loop-place-test.true place there) [
            | inl before ↦ IsFound-kept mid.distance.items new.distance.items mid.order.items new.order.items node one.keeps (so_far.found place node before storage joined)
            | inr same ↦
                let here = reached_same old.distance.items mid.distance.items old.order.items mid.order.items c.args.count so_far.keeps c.requires.inside in
                one.found node storage
                (subst (λ (p : ℕ). IsClosedAcross g p (slice_index mid.order.items c.args.count) node) (sym same)
                (subst (λ (m : ℕ). IsClosedAcross g place m node) (sym here) joined))
          ];
    }

pub returns-clause-found : goal.returns-clause-found
returns-clause-found c =
    let all : take c.loop-place.place-index c.args.places.now ≡ c.args.places.now = take_all c.loop-place.place-index c.args.places.now (omega arith) in
    rw all at c.loop-place.invariant.found
