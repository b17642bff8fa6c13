-- The solution of a level's system is the level.
use Rattle.std.proofs.Common.{◌≡◌, ℕ, zero, suc, ◌+◌, ◌-◌, ◌<◌, ◌≤◌, ◌⊎◌, Bool, true, false, inl, inr, List, [], ◌++◌, Some, refl, sym, ap, ◌∙◌, subst, true≢false, append_assoc, arith}
use Rattle.std.specs.Prelude.{◌↔◌, slice_index_or}
use Rattle.std.proofs.lemmas.Bool.{cases_lt}
use Rattle.std.proofs.lemmas.List.{length-append}
use Rattle.ternary.specs.declared.tern.Tern.{Tern}
use Rattle.strength_order.specs.declared.TheConstants.{INPUT_LEVEL}
use Rattle.switch_paths.specs.declared.switching.Switch.{Switch}
use Rattle.switch_paths.specs.Switching.{is_closed, is_live, state_at, switch_state_at}
use Rattle.switch_paths.specs.Graphs.{GraphData, IsWired, Fits, nodes, level_of, place_at}
use Rattle.switch_paths.specs.Path.{Joins}
use Rattle.switch_paths.proofs.PathLemmas.{switch_fits}
use Rattle.bool_pool.specs.declared.gate.Gate.{Gate}
use Rattle.bool_pool.specs.declared.gate.Id.{Id}
use Rattle.bool_pool.specs.Reach.{IsWithin}
use Rattle.node_elimination.specs.Solution.{Sol}
use Rattle.node_elimination.specs.Solution.Sol.{begins, follows}
use Rattle.node_elimination.specs.Levels.{Reached, IsClear, Driven}
use Rattle.node_elimination.specs.Levels.Reached.{own, over}
use Rattle.node_elimination.specs.Levels.Driven.{above, root, onto}
use Rattle.node_elimination.specs.Growth.{AreWithin, AreGrown, Grows}
use Rattle.node_elimination.specs.Equations.{SystemData, IsSquare, formulas_of, right_at, is_left, edge, right}
use Rattle.node_elimination.specs.Elimination.{Moves, Solves}
use Rattle.node_elimination.specs.LevelSystem.{Link, value_of, AddsLinks, IsFresh, IsPlace, SolvesLevel}
use Rattle.node_elimination.specs.Analysis.{HasMembers}
use Rattle.node_elimination.proofs.GrowthLemmas.{All-back}
use Rattle.node_elimination.proofs.LevelLemmas.{never_reached}
use Rattle.node_elimination.proofs.PassingLemmas.{left-inside}
use Rattle.node_elimination.proofs.AlongLinks.{place-inside}

-- a fresh system to which the links were added, and which was solved
pub SolvesLevel-solved : (g : GraphData) (s : ℕ) (gates passes sources answers : List Id) (a b c : List Gate)
    (x y z : SystemData) →
    IsFresh a x → IsSquare y → y.size ≡ x.size → y.left ≡ x.left →
    AddsLinks g x.size (IsPlace g) s gates passes sources a x b y →
    Solves b y c z → answers ≡ z.rights → (vars : ℕ → Bool) →
    SolvesLevel g x.size (value_of a passes vars) (right a x vars) (value_of a gates vars) (value_of a sources vars) s
    (value_of c answers vars)
unfolding right_at
SolvesLevel-solved g s gates passes sources answers a b c x y z fresh square size left adds solves is vars = record {
  left = is_left y;
  edge = edge b y vars;
  right = right b y vars;
  system = record {
    all_left = λ i. (
      (λ stays. let inside : i < y.size = left-inside y square i stays in omega arith),
      (λ inside. ap (λ (flags : List Bool). slice_index_or flags i false) left ∙ fresh.all_left i inside),
    );
    edges = λ i j inside_i inside_j. (
      (λ set.
          elim ((adds.edges vars i j inside_i inside_j).0 set) [
            | inl was ↦ absurd (true≢false (sym was ∙ fresh.no_edges vars i j inside_i inside_j))
            | inr linked ↦ linked
          ]),
      (λ linked. (adds.edges vars i j inside_i inside_j).1 (inr linked)),
    );
    rights = λ i inside. adds.rights vars i inside;
  };
  answers = λ i inside.
      rw is (solves.answers vars i (ap (λ (flags : List Bool). slice_index_or flags i false) left
      ∙ fresh.all_left i inside));
}

-- what its answers reach more
pub Grows-level : (others : List Id) (a b c : List Gate) (x y z : SystemData) (m n count : ℕ) → Moves others a x b y m →
    Moves [] b y c z n →
    m + n ≤ count → Grows a (others ++ formulas_of x) c z.rights count
Grows-level others a b c x y z m n count first second sum = record { grown = grown }
  where
    grown : (listed : List ℕ) (bound : ℕ) → AreWithin a listed bound (others ++ formulas_of x) →
        AreGrown c listed bound count z.rights
    grown listed bound within =
        let one : AreGrown b listed bound m (others ++ formulas_of y) = first.grows.grown listed bound within in
        let held : AreWithin b (one.more ++ listed) bound (formulas_of y) =
        All-back (λ id. IsWithin b (one.more ++ listed) bound id.place) others (formulas_of y) one.within in
        let two : AreGrown c (one.more ++ listed) bound n (formulas_of z) =
        second.grows.grown (one.more ++ listed) bound held in
        record {
          more = two.more ++ one.more;
          few = omega (arith, one.few, two.few, length-append two.more one.more);
          within = rw append_assoc (All-back (λ id. IsWithin c (two.more ++ (one.more ++ listed)) bound id.place) z.edges
              z.rights two.within);
        }

module _ (g : GraphData) (wired : IsWired g) (members : ℕ) (parts : HasMembers g members) (state : List Tern) (s : ℕ)
    (low : 1 ≤ s) (high : s ≤ INPUT_LEVEL) (pass base gate source answer : ℕ → Bool)
    (solves : SolvesLevel g members pass base gate source s answer) where
  -- a node is a member, or it is another node
  abbrev IsOther : ℕ → Type 0
  IsOther m = (members ≤ m) × (m < nodes g)

  -- both ends of a switch are nodes
  ends-inside : (place m n : ℕ) (switch : Switch) → place_at g.places place ≡ Some switch → Joins switch m n →
      (m < nodes g) × (n < nodes g)
  ends-inside place m n switch stands joins =
      let fits : Fits (nodes g) switch = switch_fits g wired place switch stands in
      elim joins [
        | inl ends ↦ (rw (← ends.0) fits.a, rw (← ends.1) fits.b)
        | inr ends ↦
            (rw (← ends.0) fits.b, rw (← ends.1) fits.a)
      ]

  -- the link over a switch
  link_over : (place m n : ℕ) (switch : Switch) → place_at g.places place ≡ Some switch → Joins switch m n →
      pass place ≡ true → s ≤ switch.level →
      Link g pass (IsPlace g) s m n
  link_over place m n switch stands joins passes strong = record {
    place = place;
    is_among = place-inside g place switch stands;
    switch = switch;
    stands = stands;
    passes = passes;
    strong = strong;
    joins = joins;
  }

  -- what is true at a member goes on to a gated member over a link, and so does what is true at another node that is a
  -- source
  go_on : (m n place : ℕ) (switch : Switch) → place_at g.places place ≡ Some switch → Joins switch m n → pass place ≡ true →
      s ≤ switch.level →
      gate n ≡ true → n < members → (m < members → Sol solves.left solves.edge solves.right m) →
      (IsOther m → source m ≡ true) →
      Sol solves.left solves.edge solves.right n
  go_on m n place switch stands joins passes strong gated inside known given =
      let link = link_over place m n switch stands joins passes strong in
      elim (cases_lt m members) [
        | inl member ↦
            follows m ((solves.system.all_left m).1 member) ((solves.system.edges n m inside member).1 (gated, link))
            (known member)
        | inr outside ↦
            let in_range : m < nodes g = (ends-inside place m n switch stands joins).0 in
            begins ((solves.system.rights n inside).1
            (inr (
              gated,
              record {
                from = m;
                outside = outside;
                in_range = in_range;
                is_source = given
                    (outside, in_range);
                link = link;
              },
            )))
      ]

  module _ (closed : (place : ℕ) (switch : Switch) → place_at g.places place ≡ Some switch →
      pass place ≡ is_closed (switch_state_at state switch))
      (bases : (i : ℕ) → i < members → (base i ≡ true) ↔ (s ≤ level_of g i)) (gates : (i : ℕ) → i < members → gate i ≡ true)
      (sources : (m : ℕ) → IsOther m → source m ≡ true) where
    -- an unknown that is true is reached
    reached-from_sol : (i : ℕ) → i < members → Sol solves.left solves.edge solves.right i → Reached g state s i
    reached-from_sol i inside (begins set) =
        elim ((solves.system.rights i inside).0 set) [
          | inl based ↦ own ((bases i inside).0 based)
          | inr fed ↦
              let link = fed.1.link in
              over fed.1.from link.place link.switch link.stands link.joins (sym (closed link.place link.switch link.stands)
              ∙ link.passes) link.strong
              (own (omega (arith, parts.text.outside fed.1.from fed.1.outside fed.1.in_range)))
        ]
    reached-from_sol i inside (follows j stays joined sol) =
        let member : j < members = (solves.system.all_left j).0 stays in
        let link = ((solves.system.edges i j inside member).0 joined).1 in
        over j link.place link.switch link.stands link.joins (sym (closed link.place link.switch link.stands) ∙ link.passes)
        link.strong
        (reached-from_sol j member sol)

    -- and a member that is reached is true
    sol-from_reached : (i : ℕ) → Reached g state s i → i < members → Sol solves.left solves.edge solves.right i
    sol-from_reached i (own strong) inside = begins ((solves.system.rights i inside).1 (inl ((bases i inside).1 strong)))
    sol-from_reached i (over m place switch stands joins is strong reached) inside =
        go_on m i place switch stands joins (closed place switch stands ∙ is) strong (gates i inside) inside
        (sol-from_reached m reached) (sources m)

    -- the answers are D(s)
    pub definite_level : (i : ℕ) → i < members → (answer i ≡ true) ↔ Reached g state s i
    definite_level i inside = (
      (λ set. reached-from_sol i inside ((solves.answers i inside).0 set)),
      (λ reached. (solves.answers i inside).1 (sol-from_reached i reached inside)),
    )

  module _ (rail : Tern → Bool)
      (live : (place : ℕ) (switch : Switch) → place_at g.places place ≡ Some switch →
      pass place ≡ is_live (switch_state_at state switch))
      (bases : (i : ℕ) → i < members →
      (base i ≡ true) ↔ (Driven rail g state (s + 1) i
      ⊎ (IsClear g state s i × (level_of g i ≡ s) × (rail (state_at state i) ≡ true))))
      (gates : (i : ℕ) → i < members → (gate i ≡ true) ↔ IsClear g state s i)
      (sources : (m : ℕ) → IsOther m → source m ≡ rail (state_at state m)) where
    -- no definite path is stronger than an input node, so another node is clear at its level alone, and driven by itself
    -- alone
    reached-other : (t m : ℕ) → IsOther m → t ≤ INPUT_LEVEL → Reached g state t m
    reached-other t m other most = own (omega (arith, parts.text.outside m other.0 other.1))

    driven-other : (more t m : ℕ) → t + more ≡ INPUT_LEVEL → IsOther m → rail (state_at state m) ≡ true →
        Driven rail g state t m
    driven-other zero t m sum other set =
        let same : t ≡ INPUT_LEVEL = omega arith in
        root (λ reached. never_reached g wired state (t + 1) m (omega arith) reached)
        (omega (arith, parts.text.outside m other.0 other.1)) set
    driven-other (suc more) t m sum other set = above (driven-other more (t + 1) m (omega arith) other set)

    other-driven : (t m : ℕ) → 1 ≤ t → IsOther m → Driven rail g state t m → rail (state_at state m) ≡ true
    other-driven t m positive other (above driven) = other-driven (t + 1) m (omega arith) other driven
    other-driven t m positive other (root clear level set) = set
    other-driven t m positive other (onto n place switch stands joins is strong clear driven) =
        let fits : Fits (nodes g) switch = switch_fits g wired place switch stands in
        absurd (clear (reached-other (t + 1) m other (omega (arith, fits.high))))

    -- an unknown that is true is driven
    driven-from_sol : (i : ℕ) → i < members → Sol solves.left solves.edge solves.right i → Driven rail g state s i
    driven-from_sol i inside (begins set) =
        elim ((solves.system.rights i inside).0 set) [
          | inl based ↦ elim ((bases i inside).0 based) [
            | inl driven ↦ above driven
            | inr own_root ↦ root own_root.0
                own_root.1 own_root.2
          ]
          | inr fed ↦
              let link = fed.1.link in
              let other : IsOther fed.1.from = (fed.1.outside, fed.1.in_range) in
              onto fed.1.from link.place link.switch link.stands link.joins (sym (live link.place link.switch link.stands)
              ∙ link.passes) link.strong
              ((gates i inside).0 fed.0)
              (driven-other (INPUT_LEVEL - s) s fed.1.from (omega arith) other
              (sym (sources fed.1.from other) ∙ fed.1.is_source))
        ]
    driven-from_sol i inside (follows j stays joined sol) =
        let member : j < members = (solves.system.all_left j).0 stays in
        let both = (solves.system.edges i j inside member).0 joined in
        let link = both.1 in
        onto j link.place link.switch link.stands link.joins (sym (live link.place link.switch link.stands) ∙ link.passes)
        link.strong
        ((gates i inside).0 both.0) (driven-from_sol j member sol)

    -- and a member that is driven is true
    sol-from_driven : (t i : ℕ) → t ≡ s → Driven rail g state t i → i < members → Sol solves.left solves.edge solves.right i
    sol-from_driven t i same (above driven) inside =
        begins ((solves.system.rights i inside).1
        (inl ((bases i inside).1 (inl (subst (λ k. Driven rail g state (k + 1) i) same driven)))))
    sol-from_driven t i same (root clear level set) inside =
        begins ((solves.system.rights i inside).1
        (inl ((bases i inside).1 (inr (subst (λ k. IsClear g state k i) same clear, level ∙ same, set)))))
    sol-from_driven t i same (onto m place switch stands joins is strong clear driven) inside =
        go_on m i place switch stands joins (live place switch stands ∙ is) (omega arith)
        ((gates i inside).1 (subst (λ k. IsClear g state k i) same clear)) inside (sol-from_driven t m same driven)
        (λ other. sources m other ∙ other-driven t m (omega arith) other driven)

    -- the answers are U(s)
    pub unblocked_level : (i : ℕ) → i < members → (answer i ≡ true) ↔ Driven rail g state s i
    unblocked_level i inside = (
      (λ set. driven-from_sol i inside ((solves.answers i inside).0 set)),
      (λ driven. (solves.answers i inside).1 (sol-from_driven s i refl driven inside)),
    )
