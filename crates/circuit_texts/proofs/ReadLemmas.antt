-- What the switches of a group read, each node once, is what the group reads.
use Rattle.std.proofs.Common.{◌≡◌, ◌==◌, ℕ, zero, suc, ◌<◌, Bool, true, false, inl, inr, List, [], ◌∷◌, ◌++◌, Option, Some, None, refl, sym, ap, subst, ◌∙◌, arith, eqb-true}
use Rattle.std.specs.Prelude.{Contains, nat_eq, if◌then◌else◌}
use Rattle.std.specs.List.{flat_map}
use Rattle.std.specs.List.Sorted.{IsPermutation}
use Rattle.std.proofs.lemmas.Bool.Decides.{Decides-eqb}
use Rattle.std.proofs.lemmas.List.Sorted.{Contains-permutation, IsPermutation-sym}
use Rattle.std.proofs.lemmas.Map.Keys.{IsDistinct-IsPermutation}
use Rattle.std.proofs.lemmas.List.Elements.{Contains-append_left, Contains-append_right, Contains-append_cases}
use Rattle.std.proofs.lemmas.Map.Made.{IsDistinct-from_AllPairs}
use Rattle.strength_order.specs.declared.TheConstants.{INPUT_LEVEL}
use Rattle.switch_paths.specs.declared.switching.Switch.{Switch}
use Rattle.switch_paths.specs.Graphs.{GraphData, IsWired, nodes, level_of, place_at}
use Rattle.switch_paths.proofs.PathLemmas.{switch_fits}
use Rattle.group_meaning.specs.Groups.{Group}
use Rattle.group_text.specs.Texts.{firsts}
use Rattle.group_text.proofs.LocalNodes.{Contains-firsts, Contains-from_firsts, firsts-apart}
use Rattle.group_rest.specs.Rest.{SwitchReads, Reads}
use Rattle.group_rest.proofs.ReadNodes.{piece_of}
use Rattle.circuit_texts.specs.Reading.{AreReads, inputs_of, reads_at}
use Rattle.circuit_texts.proofs.ApartLemmas.{eqb_flips, only_item, one_item}

-- a piece of an item's own is a piece of the whole
Contains-flat_map : (f : ℕ → List ℕ) (xs : List ℕ) (x y : ℕ) → Contains xs x → Contains (f x) y → Contains (flat_map f xs) y
Contains-flat_map f [] x y (k, inside, is) piece = absurd (omega (arith, inside))
Contains-flat_map f (z ∷ xs) x y (zero, inside, is) piece = Contains-append_left (f z) (flat_map f xs) y (rw is piece)
Contains-flat_map f (z ∷ xs) x y (suc k, inside, is) piece =
    Contains-append_right (f z) (flat_map f xs) y (Contains-flat_map f xs x y (k, omega (arith, inside), is) piece)

module _ (g : GraphData) where
  -- of an end the node itself is read, if it is an input node
  input_read : (end node : ℕ) → Contains (inputs_of g end) node → (end ≡ node) × (level_of g node ≡ INPUT_LEVEL)
  input_read end node = by (level_of g end == INPUT_LEVEL) refl
    where
      by : (input : Bool) → (level_of g end == INPUT_LEVEL) ≡ input → Contains (if input then end ∷ [] else []) node →
          (end ≡ node) × (level_of g node ≡ INPUT_LEVEL)
      by true is there =
          let same = only_item end node there in
          (same, ap (level_of g) (sym same) ∙ eqb-true (level_of g end) INPUT_LEVEL is)
      by false is (k, inside, here) = absurd (omega (arith, inside))

  -- and an input node at an end is read
  read_input : (end node : ℕ) → end ≡ node → level_of g node ≡ INPUT_LEVEL → Contains (inputs_of g end) node
  read_input end node same input =
      let level : level_of g end ≡ INPUT_LEVEL = ap (level_of g) same ∙ input in
      rw level (one_item end node same)

  -- what stands at a place reads the nodes of its list
  at_reads : (stands : Option Switch) (node : ℕ) → Contains (reads_at g stands) node →
      (switch : Switch) × (stands ≡ Some switch) × SwitchReads g switch node
  at_reads None node (k, inside, is) = absurd (omega (arith, inside))
  at_reads (Some switch) node there =
      let ends = inputs_of g switch.a ++ inputs_of g switch.b in (
        switch,
        refl,
        elim (Contains-append_cases (switch.gate ∷ []) ends node there) [
          | inl gate ↦ inl (only_item switch.gate node gate)
          | inr end ↦
              elim (Contains-append_cases (inputs_of g switch.a) (inputs_of g switch.b) node end) [
                | inl first ↦ let (same, input) = input_read switch.a node first in inr (inl same, input)
                | inr second ↦ let (same, input) = input_read switch.b node second in inr (inr same, input)
              ]
        ],
      )

  -- and no others
  reads_stand : (switch : Switch) (node : ℕ) → SwitchReads g switch node → Contains (reads_at g (Some switch)) node
  reads_stand switch node reads =
      let ends = inputs_of g switch.a ++ inputs_of g switch.b in
      elim reads [
        | inl gate ↦ Contains-append_left (switch.gate ∷ []) ends node (one_item switch.gate node gate)
        | inr (end, input) ↦
            Contains-append_right (switch.gate ∷ []) ends node (elim end [
              | inl first ↦ Contains-append_left (inputs_of g switch.a) (inputs_of g switch.b) node (read_input switch.a node first input)
              | inr second ↦ Contains-append_right (inputs_of g switch.a) (inputs_of g switch.b) node (read_input switch.b node second input)
            ])
      ]

  module _ (group : Group) where
    -- what its switches read, each node once, is what the group reads
    pub AreReads-firsts : AreReads g group (firsts (flat_map (λ place. reads_at g (place_at g.places place)) group.switches))
    AreReads-firsts =
        let pieces : ℕ → List ℕ = λ place. reads_at g (place_at g.places place) in
        let all = flat_map pieces group.switches in
        record {
          each = λ node. (
            λ there.
                let (place, inside, piece) = piece_of pieces group.switches node (Contains-from_firsts all node there) in
                let (switch, stands, reads) = at_reads (place_at g.places place) node piece in
                record { place = place; inside = inside; switch = switch; at_place = stands; reads = reads },
            λ reads.
                let piece = subst (λ stands. Contains (reads_at g stands) node) (sym reads.at_place) (reads_stand reads.switch node reads.reads) in
                Contains-firsts all node (Contains-flat_map pieces group.switches reads.place node reads.inside piece),
          );
          once = IsDistinct-from_AllPairs Decides-eqb (firsts all) (firsts-apart all);
        }

    -- so it is in another order
    pub AreReads-permuted : (nodes : List ℕ) →
        IsPermutation (firsts (flat_map (λ place. reads_at g (place_at g.places place)) group.switches)) nodes → AreReads g group nodes
    AreReads-permuted nodes permuted =
        let all = firsts (flat_map (λ (place : ℕ). reads_at g (place_at g.places place)) group.switches) in
        let are = AreReads-firsts in
        record {
          each = λ node. (
            λ there. (are.each node).0 (Contains-permutation nodes all node (IsPermutation-sym all nodes permuted) there),
            λ reads. Contains-permutation all nodes node permuted ((are.each node).1 reads),
          );
          once = IsDistinct-IsPermutation nat_eq eqb_flips all nodes permuted are.once;
        }

    -- a node that the group reads is there
    pub read_inside : IsWired g → (node : ℕ) → Reads g group node → node < nodes g
    read_inside wired node reads =
        let fits = switch_fits g wired reads.place reads.switch reads.at_place in
        let below : ℕ → Type 0 = λ n. n < nodes g in
        elim reads.reads [
          | inl gate ↦ subst below gate fits.gate
          | inr (end, input) ↦ elim end [ inl first ↦ subst below first fits.a | inr second ↦ subst below second fits.b ]
        ]
