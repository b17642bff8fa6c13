-- Links over some places of a graph, and what is fed over them, among other places and under other passes.
use Rattle.std.proofs.Common.{◌≡◌, ℕ, ◌<◌, ◌⊎◌, Bool, true, inl, inr, length, Some, None}
use Rattle.std.proofs.lemmas.Bool.{cases_lt}
use Rattle.std.proofs.lemmas.List.{get_or_past}
use Rattle.switch_paths.specs.declared.switching.Switch.{Switch}
use Rattle.switch_paths.specs.Graphs.{GraphData, nodes, place_at}
use Rattle.node_elimination.specs.LevelSystem.{Link, Fed}

-- a place that holds a switch is a place of the graph
pub place-inside : (g : GraphData) (place : ℕ) (switch : Switch) → place_at g.places place ≡ Some switch →
    place < length g.places
place-inside g place switch stands =
    elim (cases_lt place (length g.places)) [
      | inl inside ↦ inside
      | inr past ↦ let none : place_at g.places place ≡ None = get_or_past g.places place None past in absurd cc
    ]

-- a link over other places, under other passes
pub Link-along : (g : GraphData) (pass other_pass : ℕ → Bool) (among other_among : ℕ → Type 0) (s m n : ℕ) →
    ((p : ℕ) → p < length g.places → pass p ≡ true → other_pass p ≡ true) → ((p : ℕ) → among p → other_among p) →
    Link g pass among s m n → Link g other_pass other_among s m n
Link-along g pass other_pass among other_among s m n passes places link = record {
  place = link.place;
  is_among = places link.place link.is_among;
  switch = link.switch;
  stands = link.stands;
  passes = passes link.place (place-inside g link.place link.switch link.stands) link.passes;
  strong = link.strong;
  joins = link.joins;
}

-- and what is fed over them, from other sources
pub Fed-along : (g : GraphData) (members : ℕ) (pass other_pass source other_source : ℕ → Bool)
    (among other_among : ℕ → Type 0) (s n : ℕ) →
    ((p : ℕ) → p < length g.places → pass p ≡ true → other_pass p ≡ true) →
    ((q : ℕ) → q < nodes g → source q ≡ true → other_source q ≡ true) → ((p : ℕ) → among p → other_among p) →
    Fed g members pass source among s n → Fed g members other_pass other_source other_among s n
Fed-along g members pass other_pass source other_source among other_among s n passes sources places fed = record {
  from = fed.from;
  outside = fed.outside;
  in_range = fed.in_range;
  is_source = sources fed.from fed.in_range fed.is_source;
  link = Link-along g pass other_pass among other_among s fed.from n passes places fed.link;
}

-- the same link, its place among others
Link-among : (g : GraphData) (pass : ℕ → Bool) (among other : ℕ → Type 0) (s m n : ℕ) (link : Link g pass among s m n) →
    other link.place → Link g pass other s m n
Link-among g pass among other s m n link there =
    record { place = link.place; is_among = there; switch = link.switch; stands = link.stands; passes = link.passes; strong = link.strong; joins = link.joins }

-- a link over one of some places, or over one of some others
pub Link-either : (g : GraphData) (pass : ℕ → Bool) (first second : ℕ → Type 0) (s m n : ℕ) →
    Link g pass (λ p. first p ⊎ second p) s m n → Link g pass first s m n ⊎ Link g pass second s m n
Link-either g pass first second s m n link =
    elim link.is_among [
      | inl among ↦ inl (Link-among g pass (λ p. first p ⊎ second p) first s m n link among)
      | inr among ↦ inr (Link-among g pass (λ p. first p ⊎ second p) second s m n link among)
    ]

-- the same source, over another link
Fed-over : (g : GraphData) (members : ℕ) (pass source : ℕ → Bool) (among other : ℕ → Type 0) (s n : ℕ)
    (fed : Fed g members pass source among s n) → Link g pass other s fed.from n → Fed g members pass source other s n
Fed-over g members pass source among other s n fed link = record {
  from = fed.from;
  outside = fed.outside;
  in_range = fed.in_range;
  is_source = fed.is_source;
  link = link;
}

pub Fed-either : (g : GraphData) (members : ℕ) (pass source : ℕ → Bool) (first second : ℕ → Type 0) (s n : ℕ) →
    Fed g members pass source (λ p. first p ⊎ second p) s n →
    Fed g members pass source first s n ⊎ Fed g members pass source second s n
Fed-either g members pass source first second s n fed =
    elim (Link-either g pass first second s fed.from n fed.link) [
      | inl link ↦ inl (Fed-over g members pass source (λ p. first p ⊎ second p) first s n fed link)
      | inr link ↦ inr (Fed-over g members pass source (λ p. first p ⊎ second p) second s n fed link)
    ]
