-- Building the system of a level: one link after the other.
use Rattle.std.proofs.Common.{◌≡◌, ℕ, ◌+◌, ◌*◌, ◌<◌, ◌≤◌, ◌⊎◌, Bool, true, ◌&&◌, inl, inr, List, [], length, take, Option, Some, None, refl, sym, ap, ◌∙◌, subst, arith}
use Rattle.std.specs.Prelude.{is_some, count_by, if◌then◌else◌}
use Rattle.std.proofs.lemmas.Bool.{cases_Bool}
use Rattle.std.proofs.lemmas.List.Sums.{count_by_more_yes, count_by_more_no}
use Rattle.switch_paths.specs.declared.switching.Switch.{Switch}
use Rattle.switch_paths.specs.Graphs.{GraphData, nodes, place_at}
use Rattle.switch_paths.specs.Path.{Joins}
use Rattle.bool_pool.specs.declared.gate.Gate.{Gate}
use Rattle.bool_pool.specs.declared.gate.Id.{Id}
use Rattle.bool_pool.specs.Gate.{Extends}
use Rattle.bool_pool.proofs.ValueLemmas.{value_at-extends}
use Rattle.node_elimination.specs.Growth.{place_of}
use Rattle.node_elimination.specs.Equations.{SystemData, edge, right}
use Rattle.node_elimination.specs.LevelSystem.{Link, Fed, value_of, FitLinks, AddsLink, AddsLinks}
use Rattle.node_elimination.proofs.SolutionLemmas.{and_both, both_parts}
use Rattle.node_elimination.proofs.AlongLinks.{place-inside, Link-along, Fed-along, Link-either, Fed-either}
use Rattle.node_elimination.proofs.OneLink.{gate-inside, pass-inside, source-inside}

-- the value of a formula is the same in a pool that extends its own
pub value_of-extends : (before after : List Gate) (ids : List Id) (vars : ℕ → Bool) (k : ℕ) → Extends before after →
    place_of ids k < length before →
    value_of after ids vars k ≡ value_of before ids vars k
value_of-extends before after ids vars k extends inside = value_at-extends before after vars (place_of ids k) extends inside

-- what is added to as many members
pub AddsLinks-size : (g : GraphData) (m n : ℕ) (among : ℕ → Type 0) (s : ℕ) (gates passes sources : List Id)
    (before : List Gate) (old : SystemData)
    (after : List Gate) (new : SystemData) → m ≡ n → AddsLinks g m among s gates passes sources before old after new →
    AddsLinks g n among s gates passes sources before old after new
AddsLinks-size g m n among s gates passes sources before old after new same adds =
    subst (λ k. AddsLinks g k among s gates passes sources before old after new) same adds

pub AddsLink-size : (k l m n : ℕ) (gate pass source : (ℕ → Bool) → Bool) (before : List Gate) (old : SystemData)
    (after : List Gate)
    (new : SystemData) → k ≡ l → AddsLink k m n gate pass source before old after new →
    AddsLink l m n gate pass source before old after new
AddsLink-size k l m n gate pass source before old after new same adds =
    subst (λ i. AddsLink i m n gate pass source before old after new) same adds

-- over no place nothing is linked
pub AddsLinks-none : (g : GraphData) (members : ℕ) (among : ℕ → Type 0) (s : ℕ) (gates passes sources : List Id)
    (pool : List Gate) (system : SystemData) →
    ((p : ℕ) (switch : Switch) → among p → place_at g.places p ≡ Some switch → ¬ (s ≤ switch.level)) →
    AddsLinks g members among s gates passes sources pool system pool system
AddsLinks-none g members among s gates passes sources pool system weak = record {
  edges = λ vars i j inside_i inside_j. (
    (λ set. inl set),
    (λ either.
        elim either [
          | inl set ↦ set
          | inr linked ↦ let link = linked.1 in absurd (weak link.place link.switch link.is_among link.stands link.strong)
        ]),
  );
  rights = λ vars i inside. (
    (λ set. inl set),
    (λ either.
        elim either [
          | inl set ↦ set
          | inr fed ↦ let link = fed.1.link in absurd (weak link.place link.switch link.is_among link.stands link.strong)
        ]),
  );
}

-- what holds after two steps held before both, or one of them made it
made_by : {New Mid Old First Second Made : Type 0} → (Mid → Old ⊎ First) → (New → Mid ⊎ Second) → (First → Made) → (Second → Made) → New → Old ⊎ Made
made_by first second by_first by_second new =
    elim (second new) [
      | inl between ↦ elim (first between) [ inl before ↦ inl before | inr made ↦ inr (by_first made) ]
      | inr made ↦ inr (by_second made)
    ]

module _ (g : GraphData) (members s : ℕ) (gates passes sources : List Id) (a b c : List Gate) (x y z : SystemData)
    (fit : FitLinks g members a gates passes sources) (extends : Extends a b) where
  -- the gates, passes and sources have the values that they had
  pub gate_same : (vars : ℕ → Bool) (n : ℕ) → n < members → value_of b gates vars n ≡ value_of a gates vars n
  gate_same vars n inside =
      value_of-extends a b gates vars n extends (gate-inside g members a gates passes sources [] fit n inside)

  pub pass_same : (vars : ℕ → Bool) (p : ℕ) → p < length g.places → value_of b passes vars p ≡ value_of a passes vars p
  pass_same vars p inside =
      value_of-extends a b passes vars p extends (pass-inside g members a gates passes sources [] fit p inside)

  pub source_same : (vars : ℕ → Bool) (q : ℕ) → q < nodes g → value_of b sources vars q ≡ value_of a sources vars q
  source_same vars q inside =
      value_of-extends a b sources vars q extends (source-inside g members a gates passes sources [] fit q inside)

  -- links over some places, and then over others
  pub AddsLinks-trans : (first second among : ℕ → Type 0) → ((p : ℕ) → first p → among p) → ((p : ℕ) → second p → among p) →
      ((p : ℕ) → among p → first p ⊎ second p) → AddsLinks g members first s gates passes sources a x b y →
      AddsLinks g members second s gates passes sources b y c z → AddsLinks g members among s gates passes sources a x c z
  AddsLinks-trans first second among of_first of_second either one two = record {
    edges = λ vars i j inside_i inside_j. (forth_edge vars i j inside_i inside_j, back_edge vars i j inside_i inside_j);
    rights = λ vars i inside. (forth_right vars i inside, back_right vars i inside);
  }
    where
      forth_edge : (vars : ℕ → Bool) (i j : ℕ) → i < members → j < members → edge c z vars i j ≡ true →
          (edge a x vars i j ≡ true) ⊎ ((value_of a gates vars i ≡ true) × Link g (value_of a passes vars) among s j i)
      forth_edge vars i j inside_i inside_j set =
          made_by (one.edges vars i j inside_i inside_j).0 (two.edges vars i j inside_i inside_j).0
          (λ linked. (
            linked.0,
            Link-along g (value_of a passes vars) (value_of a passes vars) first among s j i (λ p inside pass. pass) of_first linked.1,
          ))
          (λ linked. (
            sym (gate_same vars i inside_i) ∙ linked.0,
            Link-along g (value_of b passes vars) (value_of a passes vars) second among s j i
                (λ p inside pass. sym (pass_same vars p inside) ∙ pass) of_second linked.1,
          )) set

      back_edge : (vars : ℕ → Bool) (i j : ℕ) → i < members → j < members →
          ((edge a x vars i j ≡ true) ⊎ ((value_of a gates vars i ≡ true) × Link g (value_of a passes vars) among s j i)) →
          edge c z vars i j ≡ true
      back_edge vars i j inside_i inside_j (inl was) =
          (two.edges vars i j inside_i inside_j).1 (inl ((one.edges vars i j inside_i inside_j).1 (inl was)))
      back_edge vars i j inside_i inside_j (inr linked) =
          elim (Link-either g (value_of a passes vars) first second s j i
          (Link-along g (value_of a passes vars) (value_of a passes vars) among (λ p. first p ⊎ second p) s j i
          (λ p inside pass. pass) either linked.1)) [
            | inl link ↦ (two.edges vars i j inside_i inside_j).1
                (inl ((one.edges vars i j inside_i inside_j).1 (inr (linked.0, link))))
            | inr link ↦
                (two.edges vars i j inside_i inside_j).1
                (inr (
                  gate_same vars i inside_i ∙ linked.0,
                  Link-along g (value_of a passes vars) (value_of b passes vars) second second s j i
                      (λ p inside pass. pass_same vars p inside ∙ pass) (λ p among_p. among_p) link,
                ))
          ]

      forth_right : (vars : ℕ → Bool) (i : ℕ) → i < members → right c z vars i ≡ true →
          (right a x vars i ≡ true)
          ⊎ ((value_of a gates vars i ≡ true) × Fed g members (value_of a passes vars) (value_of a sources vars) among s i)
      forth_right vars i inside_i set =
          made_by (one.rights vars i inside_i).0 (two.rights vars i inside_i).0
          (λ fed. (
            fed.0,
            Fed-along g members (value_of a passes vars) (value_of a passes vars) (value_of a sources vars) (value_of a sources vars)
                first among s i (λ p inside pass. pass) (λ q inside source. source) of_first fed.1,
          ))
          (λ fed. (
            sym (gate_same vars i inside_i) ∙ fed.0,
            Fed-along g members (value_of b passes vars) (value_of a passes vars) (value_of b sources vars) (value_of a sources vars)
                second among s i (λ p inside pass. sym (pass_same vars p inside) ∙ pass)
                (λ q inside source. sym (source_same vars q inside) ∙ source) of_second fed.1,
          )) set

      back_right : (vars : ℕ → Bool) (i : ℕ) → i < members →
          ((right a x vars i ≡ true)
          ⊎ ((value_of a gates vars i ≡ true) × Fed g members (value_of a passes vars) (value_of a sources vars) among s
          i)) →
          right c z vars i ≡ true
      back_right vars i inside_i (inl was) = (two.rights vars i inside_i).1 (inl ((one.rights vars i inside_i).1 (inl was)))
      back_right vars i inside_i (inr fed) =
          elim (Fed-either g members (value_of a passes vars) (value_of a sources vars) first second s i
          (Fed-along g members (value_of a passes vars) (value_of a passes vars) (value_of a sources vars)
          (value_of a sources vars) among
          (λ p. first p ⊎ second p) s i (λ p inside pass. pass) (λ q inside source. source) either fed.1)) [
            | inl now ↦ (two.rights vars i inside_i).1 (inl ((one.rights vars i inside_i).1 (inr (fed.0, now))))
            | inr now ↦
                (two.rights vars i inside_i).1
                (inr (
                  gate_same vars i inside_i ∙ fed.0,
                  Fed-along g members (value_of a passes vars) (value_of b passes vars) (value_of a sources vars)
                      (value_of b sources vars) second
                      second s i (λ p inside pass. pass_same vars p inside ∙ pass)
                      (λ q inside source. source_same vars q inside ∙ source)
                      (λ p among_p. among_p) now,
                ))
          ]

  -- the switch at one place links its ends both ways
  module _ (place : ℕ) (switch : Switch) (stands : place_at g.places place ≡ Some switch) (strong : s ≤ switch.level)
      (inside_a : switch.a < nodes g) (inside_b : switch.b < nodes g)
      (onto_b : AddsLink members switch.a switch.b (λ vars. value_of a gates vars switch.b)
      (λ vars. value_of a passes vars place)
      (λ vars. value_of a sources vars switch.a) a x b y)
      (onto_a : AddsLink members switch.b switch.a (λ vars. value_of b gates vars switch.a)
      (λ vars. value_of b passes vars place)
      (λ vars. value_of b sources vars switch.b) b y c z) where
    inside_place : place < length g.places
    inside_place = place-inside g place switch stands

    -- the link over the place
    link_at : (vars : ℕ → Bool) (m n : ℕ) → value_of a passes vars place ≡ true → Joins switch m n →
        Link g (value_of a passes vars) (λ p. p ≡ place) s m n
    link_at vars m n pass joins = record {
      place = place;
      is_among = refl;
      switch = switch;
      stands = stands;
      passes = pass;
      strong = strong;
      joins = joins;
    }

    -- there is no other
    joins_at : (vars : ℕ → Bool) (m n : ℕ) → Link g (value_of a passes vars) (λ p. p ≡ place) s m n → Joins switch m n
    joins_at vars m n link =
        let there : place_at g.places place ≡ Some link.switch = sym (ap (place_at g.places) link.is_among) ∙ link.stands in
        let same : link.switch ≡ switch = cc in
        subst (λ w. Joins w m n) same link.joins

    pass_at : (vars : ℕ → Bool) (m n : ℕ) → Link g (value_of a passes vars) (λ p. p ≡ place) s m n →
        value_of a passes vars place ≡ true
    pass_at vars m n link = sym (ap (value_of a passes vars) link.is_among) ∙ link.passes

    forth_edge : (vars : ℕ → Bool) (i j : ℕ) → i < members → j < members → edge c z vars i j ≡ true →
        (edge a x vars i j ≡ true)
        ⊎ ((value_of a gates vars i ≡ true) × Link g (value_of a passes vars) (λ p. p ≡ place) s j i)
    forth_edge vars i j inside_i inside_j set =
        made_by (onto_b.edges vars i j inside_i inside_j).0 (onto_a.edges vars i j inside_i inside_j).0
        (λ now.
        let parts = both_parts (value_of a gates vars switch.b) (value_of a passes vars place) now.2 in
        (ap (value_of a gates vars) now.0 ∙ parts.0, link_at vars j i parts.1 (inl (sym now.1, sym now.0))))
        (λ now.
        let parts = both_parts (value_of b gates vars switch.a) (value_of b passes vars place) now.2 in (
          sym (gate_same vars i inside_i) ∙ ap (value_of b gates vars) now.0 ∙ parts.0,
          link_at vars j i (sym (pass_same vars place inside_place) ∙ parts.1) (inr (sym now.1, sym now.0)),
        )) set

    back_edge : (vars : ℕ → Bool) (i j : ℕ) → i < members → j < members →
        ((edge a x vars i j ≡ true)
        ⊎ ((value_of a gates vars i ≡ true) × Link g (value_of a passes vars) (λ p. p ≡ place) s j i)) →
        edge c z vars i j ≡ true
    back_edge vars i j inside_i inside_j (inl was) =
        (onto_a.edges vars i j inside_i inside_j).1 (inl ((onto_b.edges vars i j inside_i inside_j).1 (inl was)))
    back_edge vars i j inside_i inside_j (inr linked) =
        let pass : value_of a passes vars place ≡ true = pass_at vars j i linked.1 in
        elim (joins_at vars j i linked.1) [
          | inl ends ↦
              (onto_a.edges vars i j inside_i inside_j).1
              (inl ((onto_b.edges vars i j inside_i inside_j).1
              (inr (
                sym ends.1,
                sym ends.0,
                and_both (value_of a gates vars switch.b) (value_of a passes vars place)
                    (ap (value_of a gates vars) ends.1 ∙ linked.0) pass,
              ))))
          | inr ends ↦
              (onto_a.edges vars i j inside_i inside_j).1
              (inr (
                sym ends.1,
                sym ends.0,
                and_both (value_of b gates vars switch.a) (value_of b passes vars place)
                    (ap (value_of b gates vars) ends.1 ∙ gate_same vars i inside_i ∙ linked.0)
                    (pass_same vars place inside_place ∙ pass),
              ))
        ]

    forth_right : (vars : ℕ → Bool) (i : ℕ) → i < members → right c z vars i ≡ true →
        (right a x vars i ≡ true)
        ⊎ ((value_of a gates vars i ≡ true) × Fed g members (value_of a passes vars) (value_of a sources vars)
        (λ p. p ≡ place) s i)
    forth_right vars i inside_i set =
        made_by (onto_b.rights vars i inside_i).0 (onto_a.rights vars i inside_i).0
        (λ now.
        let first =
        both_parts (value_of a gates vars switch.b) (value_of a passes vars place && value_of a sources vars switch.a) now.2 in
        let next = both_parts (value_of a passes vars place) (value_of a sources vars switch.a) first.1 in (
          ap (value_of a gates vars) now.0 ∙ first.0,
          record {
            from = switch.a;
            outside = now.1;
            in_range = inside_a;
            is_source = next.1;
            link = link_at vars switch.a i next.0 (inl (refl, sym now.0));
          },
        ))
        (λ now.
        let first =
        both_parts (value_of b gates vars switch.a) (value_of b passes vars place && value_of b sources vars switch.b) now.2 in
        let next = both_parts (value_of b passes vars place) (value_of b sources vars switch.b) first.1 in (
          sym (gate_same vars i inside_i) ∙ ap (value_of b gates vars) now.0 ∙ first.0,
          record {
            from = switch.b;
            outside = now.1;
            in_range = inside_b;
            is_source = sym (source_same vars switch.b inside_b) ∙ next.1;
            link = link_at vars switch.b i (sym (pass_same vars place inside_place) ∙ next.0) (inr (refl, sym now.0));
          },
        )) set

    back_right : (vars : ℕ → Bool) (i : ℕ) → i < members →
        ((right a x vars i ≡ true)
        ⊎ ((value_of a gates vars i ≡ true) × Fed g members (value_of a passes vars) (value_of a sources vars)
        (λ p. p ≡ place) s i)) →
        right c z vars i ≡ true
    back_right vars i inside_i (inl was) =
        (onto_a.rights vars i inside_i).1 (inl ((onto_b.rights vars i inside_i).1 (inl was)))
    back_right vars i inside_i (inr linked) =
        let fed = linked.1 in
        let pass : value_of a passes vars place ≡ true = pass_at vars fed.from i fed.link in
        elim (joins_at vars fed.from i fed.link) [
          | inl ends ↦
              let outside : members ≤ switch.a = omega (arith, fed.outside) in
              (onto_a.rights vars i inside_i).1
              (inl ((onto_b.rights vars i inside_i).1
              (inr (
                sym ends.1,
                outside,
                and_both (value_of a gates vars switch.b) (value_of a passes vars place && value_of a sources vars switch.a)
                    (ap (value_of a gates vars) ends.1 ∙ linked.0)
                    (and_both (value_of a passes vars place) (value_of a sources vars switch.a) pass
                    (ap (value_of a sources vars) ends.0 ∙ fed.is_source)),
              ))))
          | inr ends ↦
              let outside : members ≤ switch.b = omega (arith, fed.outside) in
              (onto_a.rights vars i inside_i).1
              (inr (
                sym ends.1,
                outside,
                and_both (value_of b gates vars switch.a) (value_of b passes vars place && value_of b sources vars switch.b)
                    (ap (value_of b gates vars) ends.1 ∙ gate_same vars i inside_i ∙ linked.0)
                    (and_both (value_of b passes vars place) (value_of b sources vars switch.b)
                    (pass_same vars place inside_place ∙ pass)
                    (source_same vars switch.b inside_b ∙ ap (value_of a sources vars) ends.0 ∙ fed.is_source)),
              ))
        ]

    pub AddsLinks-both : AddsLinks g members (λ p. p ≡ place) s gates passes sources a x c z
    AddsLinks-both = record {
      edges = λ vars i j inside_i inside_j. (forth_edge vars i j inside_i inside_j, back_edge vars i j inside_i inside_j);
      rights = λ vars i inside. (forth_right vars i inside, back_right vars i inside);
    }

-- how many switches there are among the places so far and the next one
pub switches-more : (places : List (Option Switch)) (place : ℕ) → place < length places →
    6 * count_by is_some (take (place + 1) places)
    ≡ 6 * count_by is_some (take place places) + (if is_some (place_at places place) then 6 else 0)
switches-more places place inside =
    elim (cases_Bool (is_some (place_at places place))) [
      | inl some ↦ rw some (omega (arith, count_by_more_yes is_some places place None inside some))
      | inr empty ↦ rw empty (omega (arith, count_by_more_no is_some places place None inside empty))
    ]
