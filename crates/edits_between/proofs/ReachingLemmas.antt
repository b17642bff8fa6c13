-- A graph that gets what another one has at each spot at which they differ is that one in the end.
use Rattle.std.proofs.Common.{◌≡◌, ◌≢◌, ℕ, ◌+◌, ◌<◌, ◌≤◌, inl, inr, ◌⊎◌, List, length, get_or, None, sym, subst, ◌∙◌, arith}
use Rattle.std.specs.Prelude.{Contains, slice_set}
use Rattle.std.proofs.lemmas.Bool.{cases_eq}
use Rattle.std.proofs.lemmas.List.{ext_get_or, get_or-set_other, get_or-set_same, get_or_default, length-set, set_past}
use Rattle.switch_paths.specs.Graphs.{GraphData, level_of, nodes, place_at}
use Rattle.edits_between.specs.declared.differing.Spot.{Spot}
use Rattle.edits_between.specs.declared.differing.Spot.TheVariants.{Node, Place}
use Rattle.edits_between.specs.Leading.{with_level_of, with_place_of, with_spot_of, AreSameBut, IsAsLarge}

-- a spot stands in a list, not among the first so many
abbrev pub StandsFrom : ℕ → List Spot → Spot → Type 0
StandsFrom first spots spot = (k : ℕ) × (first ≤ k) × (k < length spots) × (get_or spots k spot ≡ spot)

-- it is the next one, or stands behind that
here_or_later : (first : ℕ) (spots : List Spot) (next spot : Spot) → get_or spots first next ≡ next → StandsFrom first spots spot →
    (spot ≡ next) ⊎ StandsFrom (first + 1) spots spot
here_or_later first spots next spot next_is (k, from, below, is) =
    elim (cases_eq k first) [
      | inl same ↦
          let inside : first < length spots = omega (arith, same, below) in
          inl (sym (subst (λ j. get_or spots j spot ≡ spot) same is) ∙ (get_or_default spots first spot next inside ∙ next_is))
      | inr apart ↦ inr (k, omega (arith, from, apart), below, is)
    ]

-- ---- a list that gets what the target has at the next spot

module _ (spots : List Spot) (first : ℕ) (at : ℕ → Spot) where
  -- at that spot both lists are alike then
  list_on : {A : Type 0} (default : A) (list target : List A) (place : ℕ) → ((k : ℕ) → at k ≡ at place → k ≡ place) → get_or spots first (at place) ≡ at place →
      ((k : ℕ) → k < length list → StandsFrom first spots (at k) ⊎ (get_or list k default ≡ get_or target k default)) →
      (k : ℕ) → k < length (slice_set list place (get_or target place default)) →
      StandsFrom (first + 1) spots (at k) ⊎ (get_or (slice_set list place (get_or target place default)) k default ≡ get_or target k default)
  list_on default list target place one next_is left k below =
      let put = get_or target place default in
      let inside : k < length list = omega (arith, below, length-set list place put) in
      elim (cases_eq k place) [
        | inl here ↦ inr (
            subst (λ j. get_or (slice_set list place put) j default ≡ get_or target j default) (sym here)
            (get_or-set_same list place put default (omega (arith, inside, here))))
        | inr apart ↦ elim (left k inside) [
          | inl stands ↦ elim (here_or_later first spots (at place) (at k) next_is stands) [
            | inl here ↦ absurd (apart (one k here))
            | inr later ↦ inl later
          ]
          | inr same ↦ inr (get_or-set_other list place k put default apart ∙ same)
        ]
      ]

  -- if the spot is none of the list's, that is as it was
  rest_on : (next : Spot) (count : ℕ) (Same : ℕ → Type 0) → ((k : ℕ) → at k ≢ next) → get_or spots first next ≡ next →
      ((k : ℕ) → k < count → StandsFrom first spots (at k) ⊎ Same k) → (k : ℕ) → k < count → StandsFrom (first + 1) spots (at k) ⊎ Same k
  rest_on next count Same other next_is left k inside = elim (left k inside) [
    | inl stands ↦ elim (here_or_later first spots next (at k) next_is stands) [
      | inl here ↦ absurd (other k here)
      | inr later ↦ inl later
    ]
    | inr same ↦ inr same
  ]

-- ---- the graph

-- before the first spot all are left
from_first : (spots : List Spot) (spot : Spot) (Same : Type 0) → Contains spots spot ⊎ Same → StandsFrom 0 spots spot ⊎ Same
from_first spots spot Same (inl (k, below, is)) = inl (k, omega (arith), below, is)
from_first spots spot Same (inr same) = inr same

pub spots_first : (g target : GraphData) (spots : List Spot) → AreSameBut (Contains spots) g target → AreSameBut (StandsFrom 0 spots) g target
spots_first g target spots but = record {
  by_place = λ place inside. from_first spots (Place place) _ (but.by_place place inside);
  by_node = λ node inside. from_first spots (Node node) _ (but.by_node node inside);
}

-- one spot more
with_spot : (target g : GraphData) (spots : List Spot) (first : ℕ) (spot : Spot) → AreSameBut (StandsFrom first spots) g target →
    get_or spots first spot ≡ spot → AreSameBut (StandsFrom (first + 1) spots) (with_spot_of target g spot) target
with_spot target g spots first (Place place) left next_is = record {
  by_place = list_on spots first Place None g.places target.places place (λ k is. cc) next_is left.by_place;
  by_node = rest_on spots first Node (Place place) (nodes g) (λ node. level_of g node ≡ level_of target node) (λ k is. absurd cc) next_is left.by_node;
}
with_spot target g spots first (Node node) left next_is = record {
  by_place = rest_on spots first Place (Node node) (length g.places) (λ place. place_at g.places place ≡ place_at target.places place) (λ k is. absurd cc)
      next_is left.by_place;
  by_node = list_on spots first Node 0 g.levels target.levels node (λ k is. cc) next_is left.by_node;
}

pub spots_on : (target mid new : GraphData) (spots : List Spot) (first : ℕ) (spot : Spot) → AreSameBut (StandsFrom first spots) mid target →
    get_or spots first spot ≡ spot → new ≡ with_spot_of target mid spot → AreSameBut (StandsFrom (first + 1) spots) new target
spots_on target mid new spots first spot left next_is is =
    subst (λ (g : GraphData). AreSameBut (StandsFrom (first + 1) spots) g target) (sym is) (with_spot target mid spots first spot left next_is)

-- behind the last spot none is left
none_left : (spots : List Spot) (first : ℕ) (spot : Spot) (Same : Type 0) → length spots ≤ first → StandsFrom first spots spot ⊎ Same → Same
none_left spots first spot Same all (inl (k, from, below, is)) = absurd (omega (arith, from, below, all))
none_left spots first spot Same all (inr same) = same

pub spots_last : (target g : GraphData) (spots : List Spot) (first : ℕ) → AreSameBut (StandsFrom first spots) g target → IsAsLarge g target →
    length spots ≤ first → g ≡ target
spots_last target g spots first left large all i = record {
  levels = ext_get_or 0 g.levels target.levels (sym large.nodes_are)
      (λ node inside. none_left spots first (Node node) _ all (left.by_node node inside)) i;
  places = ext_get_or None g.places target.places (sym large.places_are)
      (λ place inside. none_left spots first (Place place) _ all (left.by_place place inside)) i;
}

-- the graph stays as large
large_with : (target g : GraphData) (spot : Spot) → IsAsLarge g target → IsAsLarge (with_spot_of target g spot) target
large_with target g (Place place) large =
    record { nodes_are = large.nodes_are; places_are = large.places_are ∙ sym (length-set g.places place (place_at target.places place)) }
large_with target g (Node node) large =
    record { nodes_are = large.nodes_are ∙ sym (length-set g.levels node (level_of target node)); places_are = large.places_are }

pub large_on : (target g new : GraphData) (spot : Spot) → new ≡ with_spot_of target g spot → IsAsLarge g target → IsAsLarge new target
large_on target g new spot is large = subst (λ (h : GraphData). IsAsLarge h target) (sym is) (large_with target g spot large)

-- past the last place nothing can be put, and past the last node no level can be given
pub place_past : (target g : GraphData) (place : ℕ) → length g.places ≤ place → g ≡ with_place_of target g place
place_past target g place past i = record { levels = g.levels; places = sym (set_past g.places place (place_at target.places place) past) i }

pub level_past : (target g : GraphData) (node : ℕ) → nodes g ≤ node → g ≡ with_level_of target g node
level_past target g node past i = record { levels = sym (set_past g.levels node (level_of target node) past) i; places = g.places }
