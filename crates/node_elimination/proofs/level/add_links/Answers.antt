-- One place more.
use Rattle.std.proofs.Common.{◌≡◌, ℕ, ◌+◌, ◌<◌, ◌⊎◌, inl, inr, arith}
use Rattle.std.proofs.lemmas.Bool.{cases_eq}
use Rattle.node_elimination.proofs.EquationsLemmas.{Moves-trans}
use Rattle.node_elimination.proofs.LinkLemmas.{AddsLinks-size, AddsLinks-trans, switches-more}
use Rattle.node_elimination.proofs.level.add_links.Goals as goal

-- the places so far and the next one
either : (count p : ℕ) → p < count + 1 → (p < count) ⊎ (p ≡ count)
either count p below = elim (cases_eq p count) [ inl same ↦ inr same | inr other ↦ inl (omega arith) ]

pub loop-place-preserved : goal.loop-place-preserved
loop-place-preserved g c =
    let so_far = c.loop-place.invariant in
    let next = c.in_ok-add_place.ensures in
    let place = c.loop-place.place in
    let graph = c.args.links.now.graph.now in
    record {
      moves = Moves-trans _ _ _ _ _ _ _ _ _ _ so_far.moves next.moves (omega (arith, so_far.rises, next.rises));
      adds = AddsLinks-trans graph _ _ _ _ _ _ _ _ _ _ _ c.requires.fit so_far.moves.extends (λ p. p < place)
          (λ p. p ≡ place) (λ p. p < place + 1)
          (λ p below. omega arith) (λ p same. omega arith) (either place) so_far.adds
          (AddsLinks-size _ _ _ _ _ _ _ _ _ _ _ _ so_far.moves.size next.adds);
      rises = omega (arith, so_far.rises, next.rises);
      few = omega (arith, so_far.few, next.few, switches-more graph.places place (omega arith));
    }
