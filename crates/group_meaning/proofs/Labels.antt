-- Labels of nodes that tell which storage nodes are linked.
-- Every node begins with itself as its label. Place after place, where a switch joins two storage nodes, the
-- lesser of their labels takes the place of the greater one. So a node's label is always a storage node that it
-- is linked with, and after the last place linked nodes have one label, which is the least of them.
use Rattle.std.proofs.Common.{◌≡◌, ℕ, zero, suc, ◌<◌, ◌≤◌, ◌⊎◌, ◌↔◌, inl, inr, Bool, true, ◌&&◌, cond, eqb, ltb, List, [], ◌∷◌, length, Option, Some, None, refl, sym, ap, subst, ◌∙◌, arith}
use Rattle.std.proofs.lemmas.Bool.{cases_lt, cases_Bool, ltb-true, lt-ltb, eqb-true, eq-eqb, and_parts, and_from, cond-true, cond-false}
use Rattle.strength_order.specs.declared.TheConstants.{INPUT_LEVEL}
use Rattle.switch_paths.specs.declared.switching.Switch.{Switch}
use Rattle.switch_paths.specs.Graphs.{GraphData, nodes, level_of, place_at, is_storage_level, IsStorage}
use Rattle.switch_paths.specs.Path.{Joins}
use Rattle.switch_paths.proofs.PathLemmas.{place_inside}
use Rattle.group_meaning.specs.Groups.{AreJoined, LinksOver, AreLinked}
use Rattle.group_meaning.proofs.LinkLemmas.{LinksOver-from, AreLinked-self, AreLinked-joined, AreLinked-trans, AreLinked-sym, AreLinked-from, AreLinked-to}

-- the test for a storage node
abbrev pub is_storage : GraphData → ℕ → Bool
is_storage g node = ltb node (nodes g) && is_storage_level (level_of g node)

-- what passes it is one
pub IsStorage-from_test : (g : GraphData) (node : ℕ) → is_storage g node ≡ true → IsStorage g node
IsStorage-from_test g node passes =
    let both = and_parts (ltb node (nodes g)) (is_storage_level (level_of g node)) passes in
    record { inside = ltb-true node (nodes g) both.0; below = ltb-true (level_of g node) INPUT_LEVEL both.1 }

-- and each one passes it
pub test-from_IsStorage : (g : GraphData) (node : ℕ) → IsStorage g node → is_storage g node ≡ true
test-from_IsStorage g node storage =
    and_from (ltb node (nodes g)) (is_storage_level (level_of g node))
    (lt-ltb node (nodes g) storage.inside) (lt-ltb (level_of g node) INPUT_LEVEL storage.below)

-- a label takes another's place
abbrev pub relabelled : (ℕ → ℕ) → ℕ → ℕ → ℕ → ℕ
relabelled labels from to node = cond (eqb (labels node) from) to (labels node)

-- a place is empty or holds a switch
empty_or_not : (place : Option Switch) → (place ≡ None) ⊎ ((switch : Switch) × (place ≡ Some switch))
empty_or_not None = inl refl
empty_or_not (Some switch) = inr (switch, refl)

module _ (g : GraphData) where
  -- storage nodes with one label are linked
  abbrev pub IsSound : (ℕ → ℕ) → Type 0
  IsSound labels = (m n : ℕ) → IsStorage g m → IsStorage g n → labels m ≡ labels n → AreLinked g m n

  -- storage nodes that the switch at a place joins have one label
  abbrev pub IsClosedAt : (ℕ → ℕ) → ℕ → Type 0
  IsClosedAt labels place = (m n : ℕ) → IsStorage g m → IsStorage g n → AreJoined g place m n → labels m ≡ labels n

  -- so at the first places
  abbrev pub IsClosedBelow : (ℕ → ℕ) → ℕ → Type 0
  IsClosedBelow labels count = (place : ℕ) → place < count → IsClosedAt labels place

  -- and so at all places
  abbrev pub IsClosed : (ℕ → ℕ) → Type 0
  IsClosed labels = (place : ℕ) → IsClosedAt labels place

  -- the label names a storage node that is linked with the node, and no greater
  pub record IsRootOf (node label : ℕ) : Type 0 where
    pub linked : AreLinked g node label
    pub low : label ≤ node

  -- the labels of all storage nodes are such labels
  abbrev pub AreRooted : (ℕ → ℕ) → Type 0
  AreRooted labels = (node : ℕ) → IsStorage g node → IsRootOf node (labels node)

  -- where labels are linked with their nodes, nodes with one label are linked with each other
  pub IsSound-from_rooted : (labels : ℕ → ℕ) → AreRooted labels → IsSound labels
  IsSound-from_rooted labels rooted m n storage other same =
      let there : AreLinked g m (labels n) = rw (← same) (rooted m storage).linked in
      AreLinked-trans g m (labels n) n there (AreLinked-sym g n (labels n) (rooted n other).linked)

  -- nodes that switches lead between have one label
  one_label-along : (labels : ℕ → ℕ) → IsClosed labels → (places : List ℕ) (m n : ℕ) → LinksOver g places m n →
      labels m ≡ labels n
  one_label-along labels closed [] m n links = ap labels links.1
  one_label-along labels closed (place ∷ places) m n links =
      let next = links.1.0 in
      let first = closed place m next links.0 (LinksOver-from g places next n links.1.2) links.1.1 in
      first ∙ one_label-along labels closed places next n links.1.2

  -- so linked nodes do
  pub one_label-from_linked : (labels : ℕ → ℕ) → IsClosed labels → (m n : ℕ) → AreLinked g m n → labels m ≡ labels n
  one_label-from_linked labels closed m n linked = one_label-along labels closed linked.places m n linked.links

  -- where labels are sound and closed, storage nodes have one label exactly if they are linked
  pub one_label-iff_linked : (labels : ℕ → ℕ) → IsSound labels → IsClosed labels → (m n : ℕ) → IsStorage g m → IsStorage g n →
      (labels m ≡ labels n) ↔ AreLinked g m n
  one_label-iff_linked labels sound closed m n storage other =
      (sound m n storage other, one_label-from_linked labels closed m n)

  -- so a node that is a label is its own label
  pub root_is_own : (labels : ℕ → ℕ) → AreRooted labels → IsClosed labels → (node : ℕ) → IsStorage g node →
      labels (labels node) ≡ labels node
  root_is_own labels rooted closed node storage =
      sym (one_label-from_linked labels closed node (labels node) (rooted node storage).linked)

  module _ (labels : ℕ → ℕ) (from to : ℕ) where
    -- nodes with one label still have one label
    pub relabelled-keeps : (m n : ℕ) → labels m ≡ labels n → relabelled labels from to m ≡ relabelled labels from to n
    relabelled-keeps m n same = ap (λ label. cond (eqb label from) to label) same

    -- a node's label is changed if it was the one, and otherwise as it was
    pub relabelled-cases : (node : ℕ) → ((labels node ≡ from) × (relabelled labels from to node ≡ to)) ⊎
        (relabelled labels from to node ≡ labels node)
    relabelled-cases node =
        elim (cases_Bool (eqb (labels node) from)) [
          | inl is_from ↦ inl (eqb-true (labels node) from is_from, cond-true (eqb (labels node) from) to (labels node) is_from)
          | inr other ↦ inr (cond-false (eqb (labels node) from) to (labels node) other)
        ]

    -- nodes with the one label and the other have one label now
    pub relabelled-joins : (m n : ℕ) → labels m ≡ from → labels n ≡ to →
        relabelled labels from to m ≡ relabelled labels from to n
    relabelled-joins m n one two =
        let changed : relabelled labels from to m ≡ to =
        cond-true (eqb (labels m) from) to (labels m) (eq-eqb (labels m) from one) in
        elim (relabelled-cases n) [ inl same ↦ changed ∙ sym same.1 | inr same ↦ changed ∙ (sym two ∙ sym same) ]

    -- labels still name linked nodes where a linked and lesser one takes another's place
    pub relabelled-rooted : AreRooted labels → AreLinked g from to → to ≤ from → AreRooted (relabelled labels from to)
    relabelled-rooted rooted linked lesser node storage =
        let before = rooted node storage in
        elim (relabelled-cases node) [
          | inl changed ↦
              let there : AreLinked g node from = rw changed.0 at before.linked in
              let root : IsRootOf node to = record {
                linked = AreLinked-trans g node from to there linked;
                low =
                    omega (arith, before.low, changed.0);
              } in
              subst (IsRootOf node) (sym changed.1) root
          | inr same ↦ subst (IsRootOf node) (sym same) before
        ]

  -- labels that name linked nodes, and are closed at the first places
  record IsLabelledBelow (count : ℕ) : Type 0 where
    labels : ℕ → ℕ
    rooted : AreRooted labels
    closed : IsClosedBelow labels count

  -- every node begins with itself as its label
  own_labels : IsLabelledBelow 0
  own_labels = record {
    labels = λ node. node;
    rooted = λ node storage. record { linked = AreLinked-self g node storage; low = omega arith };
    closed = λ place inside. absurd (omega arith);
  }

  -- labels that keep nodes together and are closed at one place more are closed at more places
  pub IsClosedBelow-more : (count : ℕ) (old new : ℕ → ℕ) → IsClosedBelow old count →
      ((m n : ℕ) → old m ≡ old n → new m ≡ new n) →
      IsClosedAt new count → IsClosedBelow new (suc count)
  IsClosedBelow-more count old new closed keeps here place inside =
      elim (cases_lt place count) [
        | inl before ↦ λ m n storage other joined. keeps m n (closed place before m n storage other joined)
        | inr after ↦ let same : count ≡ place = omega arith in subst (IsClosedAt new) same here
      ]

  -- over a switch between storage nodes the lesser label takes the greater one's place
  merged : (count a b : ℕ) → (before : IsLabelledBelow count) → AreLinked g a b → before.labels b ≤ before.labels a →
      ((m n : ℕ) → AreJoined g count m n → ((a ≡ m) × (b ≡ n)) ⊎ ((b ≡ m) × (a ≡ n))) → IsLabelledBelow (suc count)
  merged count a b before linked lesser ends =
      let old = before.labels in
      let from = old a in
      let to = old b in
      let root_a = before.rooted a (AreLinked-from g a b linked) in
      let root_b = before.rooted b (AreLinked-to g a b linked) in
      let roots : AreLinked g from to =
      AreLinked-trans g from a to (AreLinked-sym g a from root_a.linked) (AreLinked-trans g a b to linked root_b.linked) in
      let new = relabelled old from to in
      let joins : new a ≡ new b = relabelled-joins old from to a b refl refl in
      let here : IsClosedAt new count = λ m n storage other joined.
      elim (ends m n joined) [
        | inl ends ↦ rw (← ends.0, ← ends.1) joins
        | inr ends ↦ rw (← ends.0, ← ends.1) (sym joins)
      ] in
      record {
        labels = new;
        rooted = relabelled-rooted old from to before.rooted roots lesser;
        closed = IsClosedBelow-more count old new before.closed (relabelled-keeps old from to) here;
      }

  -- a place that joins no storage nodes with two labels leaves the labels as they are
  unchanged : (count : ℕ) → (before : IsLabelledBelow count) → IsClosedAt before.labels count → IsLabelledBelow (suc count)
  unchanged count before here = record {
    labels = before.labels;
    rooted = before.rooted;
    closed = IsClosedBelow-more count before.labels before.labels before.closed (λ m n same. same) here;
  }

  -- what a place joins are the ends of its switch
  ends_of : (place : ℕ) (switch : Switch) → place_at g.places place ≡ Some switch → (m n : ℕ) →
      AreJoined g place m n → Joins switch m n
  ends_of place switch stands m n joined = let same : joined.switch ≡ switch = cc in rw same at joined.joins

  -- both ends of the switch are storage nodes, or it joins no two of them
  storage_or_not : (switch : Switch) → (IsStorage g switch.a × IsStorage g switch.b)
      ⊎ ((m n : ℕ) → IsStorage g m → IsStorage g n → ¬ Joins switch m n)
  storage_or_not switch =
      let a = switch.a in
      let b = switch.b in
      elim (cases_Bool (is_storage g a && is_storage g b)) [
        | inl both ↦
            let parts = and_parts (is_storage g a) (is_storage g b) both in
            inl (IsStorage-from_test g a parts.0, IsStorage-from_test g b parts.1)
        | inr not_both ↦ inr (λ m n storage other joins.
            let one = test-from_IsStorage g m storage in
            let two = test-from_IsStorage g n other in
            let both : (is_storage g a && is_storage g b) ≡ true =
            elim joins [
              | inl ends ↦ and_from (is_storage g a) (is_storage g b) (rw ends.0 one) (rw ends.1 two)
              | inr ends ↦ and_from (is_storage g a) (is_storage g b) (rw ends.1 two) (rw ends.0 one)
            ] in
            absurd cc)
      ]

  -- one place more, with a switch between storage nodes
  over_link : (count : ℕ) (switch : Switch) → place_at g.places count ≡ Some switch → IsStorage g switch.a →
      IsStorage g switch.b →
      IsLabelledBelow count → IsLabelledBelow (suc count)
  over_link count switch stands from to before =
      let a = switch.a in
      let b = switch.b in
      let joined : AreJoined g count a b = record { switch = switch; at_place = stands; joins = inl (refl, refl) } in
      let linked = AreLinked-joined g count a b from to joined in
      let ends = ends_of count switch stands in
      elim (cases_lt (before.labels a) (before.labels b)) [
        | inl less ↦
            merged count b a before (AreLinked-sym g a b linked) (omega arith)
            (λ m n joined_too. elim (ends m n joined_too) [ inl straight ↦ inr straight | inr crossed ↦ inl crossed ])
        | inr more ↦ merged count a b before linked more ends
      ]

  -- one place more
  over_place : (count : ℕ) → IsLabelledBelow count → IsLabelledBelow (suc count)
  over_place count before =
      elim (empty_or_not (place_at g.places count)) [
        | inl empty ↦ unchanged count before (λ m n storage other joined. absurd (let stands = joined.at_place in cc))
        | inr stands ↦ elim (storage_or_not stands.0) [
          | inl both ↦ over_link count stands.0 stands.1 both.0 both.1 before
          | inr none ↦ unchanged count before (λ m n storage other joined.
              absurd (none m n storage other (ends_of count stands.0 stands.1 m n joined)))
        ]
      ]

  -- labels for the first places
  labelled_below : (count : ℕ) → IsLabelledBelow count
  labelled_below zero = own_labels
  labelled_below (suc count) = over_place count (labelled_below count)

  -- labels that tell which storage nodes are linked: each node's is the least node that it is linked with
  pub record AreLabels : Type 0 where
    pub labels : ℕ → ℕ
    pub rooted : AreRooted labels
    pub closed : IsClosed labels

  -- every graph has such labels
  pub labels_exist : AreLabels
  labels_exist =
      let all = labelled_below (length g.places) in
      let closed : IsClosed all.labels = λ place m n storage other joined.
      all.closed place (place_inside g.places place joined.switch joined.at_place) m n storage other joined in
      record { labels = all.labels; rooted = all.rooted; closed = closed }
