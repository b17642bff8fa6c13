-- The search from Gnd: how it begins, that a node more keeps what is known, and that at its end all distances are known.
-- The nodes that were found stand in an order in which distances rise, and none is more than one switch farther than the one that the search
-- has reached. So from each of them all that it joins is found at most one switch farther, and a way down is as long as the distance at least.
use Rattle.std.proofs.Common.{◌≡◌, ℕ, zero, suc, ◌+◌, ◌<◌, ◌≤◌, ◌⊎◌, inl, inr, List, [], ◌∷◌, ◌++◌, length, get_or, set, replicate, count_by, is_none, cond, Option, Some, None, refl, sym, ap, ◌∙◌, subst, arith, length-append, append-nil, append_assoc}
use Rattle.std.proofs.lemmas.Bool.{cases_eq, cases_lt}
use Rattle.std.proofs.lemmas.List.{get_or-set_other, length-set, length-replicate, get_or-replicate, get_or_past}
use Rattle.std.proofs.lemmas.List.Sums.{sum_by-cons}
use Rattle.std.proofs.lemmas.Grind.{get_or-set_at}
use Rattle.switch_paths.specs.declared.TheConstants.{GND, RAILS}
use Rattle.switch_paths.specs.Graphs.{GraphData, nodes, IsStorage}
use Rattle.circuit_lint.specs.Conducting.{IsClosedAcross}
use Rattle.circuit_lint.specs.Shorts.{LeadsDown}
use Rattle.circuit_lint.specs.Distances.{distance_at, IsSearched, HasSpread, Keeps, IsFound, AreDistances}
use Rattle.circuit_lint.proofs.ClosedLemmas.{some_same, across_back}

none_some : {X : Type 0} {x : X} → None ≡ Some x → ⊥
none_some e = cc

-- no node was found, of so many
abbrev pub unfound : ℕ → List (Option ℕ)
unfound n = replicate n None

unfound_count : (n : ℕ) → length (unfound n) ≡ n
unfound_count n = length-replicate n None

one_without : (xs : List (Option ℕ)) → count_by is_none (None ∷ xs) ≡ count_by is_none xs + 1
one_without xs = sum_by-cons (λ (o : Option ℕ). cond (is_none o) 1 0) None xs ∙ omega arith

one_with : (n : ℕ) (xs : List (Option ℕ)) → count_by is_none (Some n ∷ xs) ≡ count_by is_none xs
one_with n xs = sum_by-cons (λ (o : Option ℕ). cond (is_none o) 1 0) (Some n) xs ∙ omega arith

-- a node that is written isn't without a distance any more
count-set : (xs : List (Option ℕ)) (i n : ℕ) → i < length xs → get_or xs i None ≡ None → count_by is_none (set xs i (Some n)) + 1 ≡ count_by is_none xs
count-set [] i n inside none = absurd (omega (arith, inside))
count-set (None ∷ xs) zero n inside none = ap (λ k. k + 1) (one_with n xs) ∙ sym (one_without xs)
count-set (Some m ∷ xs) zero n inside none = absurd (none_some (sym none))
count-set (None ∷ xs) (suc i) n inside none =
    let more : count_by is_none (set xs i (Some n)) + 1 ≡ count_by is_none xs = count-set xs i n (omega (arith, inside)) none in
    ap (λ k. k + 1) (one_without (set xs i (Some n))) ∙ ap (λ k. k + 1) more ∙ sym (one_without xs)
count-set (Some m ∷ xs) (suc i) n inside none =
    ap (λ k. k + 1) (one_with m (set xs i (Some n))) ∙ count-set xs i n (omega (arith, inside)) none ∙ sym (one_with m xs)

count-all : (n : ℕ) → count_by is_none (unfound n) ≡ n
count-all zero = refl
count-all (suc n) = one_without (unfound n) ∙ ap (λ k. k + 1) (count-all n) ∙ omega arith

-- an item of the front of a longer list
front_item : (xs ys : List ℕ) (k : ℕ) → k < length xs → get_or (xs ++ ys) k 0 ≡ get_or xs k 0
front_item [] ys k inside = absurd (omega (arith, inside))
front_item (x ∷ xs) ys zero inside = refl
front_item (x ∷ xs) ys (suc k) inside = front_item xs ys k (omega (arith, inside))

last_item : (xs : List ℕ) (x k : ℕ) → k ≡ length xs → get_or (xs ++ x ∷ []) k 0 ≡ x
last_item [] x zero same = refl
last_item [] x (suc k) same = absurd (omega (arith, same))
last_item (y ∷ xs) x zero same = absurd (omega (arith, same))
last_item (y ∷ xs) x (suc k) same = last_item xs x k (omega (arith, same))

-- a place of a list of one item more
old_or_last : (xs : List ℕ) (x k : ℕ) → k < length (xs ++ x ∷ []) → (k < length xs) ⊎ (k ≡ length xs)
old_or_last xs x k inside =
    elim (cases_lt k (length xs)) [
      | inl low ↦ inl low
      | inr past ↦ inr (omega (arith, inside, past, length-append xs (x ∷ [])))
    ]

-- Gnd alone is found
module _ (g : GraphData) (rails : RAILS ≤ nodes g) where
  abbrev first : List (Option ℕ)
  first = set (unfound (nodes g)) GND (Some 0)

  gnd : GND < length (unfound (nodes g))
  gnd = omega (arith, rails, unfound_count (nodes g))

  at_gnd : distance_at first GND ≡ Some 0
  at_gnd = get_or-set_at (unfound (nodes g)) GND GND (Some 0) None refl gnd

  -- so a node with a distance is Gnd
  only_gnd : (node far : ℕ) → distance_at first node ≡ Some far → (node ≡ GND) × (far ≡ 0)
  only_gnd node far is =
      elim (cases_eq node GND) [
        | inl same ↦ (same, some_same (sym is ∙ ap (distance_at first) same ∙ at_gnd))
        | inr other ↦ absurd (none_some (sym (nothing node) ∙ sym (get_or-set_other (unfound (nodes g)) GND node (Some 0) None other) ∙ is))
      ]
    where
      nothing : (node : ℕ) → get_or (unfound (nodes g)) node None ≡ None
      nothing node =
          elim (cases_lt node (nodes g)) [
            | inl low ↦ get_or-replicate (nodes g) node None None low
            | inr past ↦ get_or_past (unfound (nodes g)) node None (omega (arith, past, unfound_count (nodes g)))
          ]

  pub IsSearched-first : (order : List ℕ) → order ≡ GND ∷ [] → IsSearched g 0 first order
  IsSearched-first order is = rw is (record {
    size = length-set (unfound (nodes g)) GND (Some 0) ∙ unfound_count (nodes g);
    root = at_gnd;
    way = λ node far at. let one = only_gnd node far at in ([], one.0, sym one.1);
    listed = λ node far at. let one = only_gnd node far at in (0, omega arith, sym one.0);
    known = λ k inside. (0, ap (distance_at first) (only k inside) ∙ at_gnd);
    low = λ node far at. let one = only_gnd node far at in omega (arith, one.1);
    counted = let more = count-set (unfound (nodes g)) GND 0 gnd (get_or-replicate (nodes g) GND None None (omega (arith, rails))) in
        omega (arith, more, count-all (nodes g));
    rising = λ j k near far below inside here there. let one = only_gnd (get_or (GND ∷ []) j 0) near here in omega (arith, one.1);
    close = λ node far here inside at there. let one = only_gnd node far there in omega (arith, one.1);
  })
    where
      only : (k : ℕ) → k < length (GND ∷ []) → get_or (GND ∷ []) k 0 ≡ GND
      only zero inside = refl
      only (suc k) inside = absurd (omega (arith, inside))

-- one node more is found, from the one that the search has reached
module _ (g : GraphData) (count : ℕ) (distance : List (Option ℕ)) (order : List ℕ) (place node here : ℕ) (inside : count < length order)
    (storage : IsStorage g node) (joined : IsClosedAcross g place (get_or order count 0) node) (fresh : distance_at distance node ≡ None)
    (at_here : distance_at distance (get_or order count 0) ≡ Some here) (so_far : IsSearched g count distance order) where
  abbrev more : List (Option ℕ)
  more = set distance node (Some (here + 1))

  abbrev longer : List ℕ
  longer = order ++ node ∷ []

  node_in : node < length distance
  node_in = omega (arith, so_far.size, storage.inside)

  at_node : distance_at more node ≡ Some (here + 1)
  at_node = get_or-set_at distance node node (Some (here + 1)) None refl node_in

  -- what was found stays
  stays : (n far : ℕ) → distance_at distance n ≡ Some far → distance_at more n ≡ Some far
  stays n far at =
      elim (cases_eq n node) [
        | inl same ↦ absurd (none_some (sym fresh ∙ ap (distance_at distance) (sym same) ∙ at))
        | inr other ↦ get_or-set_other distance node n (Some (here + 1)) None other ∙ at
      ]

  -- and what is found is that, or the node
  which : (n far : ℕ) → distance_at more n ≡ Some far → (distance_at distance n ≡ Some far) ⊎ ((n ≡ node) × (far ≡ here + 1))
  which n far at =
      elim (cases_eq n node) [
        | inl same ↦ inr (same, some_same (sym at ∙ ap (distance_at more) same ∙ at_node))
        | inr other ↦ inl (sym (get_or-set_other distance node n (Some (here + 1)) None other) ∙ at)
      ]

  count_is : length longer ≡ length order + 1
  count_is = length-append order (node ∷ [])

  -- an old place of the order has its old distance
  old_place : (k far : ℕ) → k < length order → distance_at more (get_or longer k 0) ≡ Some far → distance_at distance (get_or order k 0) ≡ Some far
  old_place k far low at =
      let known = so_far.known k low in
      let same : far ≡ known.0 = some_same (sym at ∙ ap (distance_at more) (front_item order (node ∷ []) k low) ∙ stays (get_or order k 0) known.0 known.1) in
      subst (λ f. distance_at distance (get_or order k 0) ≡ Some f) (sym same) known.1

  -- the last place is the node
  last_place : (k far : ℕ) → k ≡ length order → distance_at more (get_or longer k 0) ≡ Some far → far ≡ here + 1
  last_place k far same at = some_same (sym at ∙ ap (distance_at more) (last_item order node k same) ∙ at_node)

  way_more : (n far : ℕ) → distance_at more n ≡ Some far → (places : List ℕ) × LeadsDown g places n × (length places ≡ far)
  way_more n far at =
      elim (which n far at) [
        | inl old ↦ so_far.way n far old
        | inr new ↦
            let way = so_far.way (get_or order count 0) here at_here in
            let is : IsStorage g n = subst (IsStorage g) (sym new.0) storage in
            let across : IsClosedAcross g place n (get_or order count 0) =
            subst (λ (m : ℕ). IsClosedAcross g place m (get_or order count 0)) (sym new.0) (across_back g place (get_or order count 0) node joined) in
            (place ∷ way.0, (is, (get_or order count 0, across, way.1)), omega (arith, way.2, new.1))
      ]

  listed_more : (n far : ℕ) → distance_at more n ≡ Some far → (k : ℕ) × (k < length longer) × (get_or longer k 0 ≡ n)
  listed_more n far at =
      elim (which n far at) [
        | inl old ↦ let spot = so_far.listed n far old in (spot.0, omega (arith, spot.1, count_is), front_item order (node ∷ []) spot.0 spot.1 ∙ spot.2)
        | inr new ↦ (length order, omega (arith, count_is), last_item order node (length order) refl ∙ sym new.0)
      ]

  known_more : (k : ℕ) → k < length longer → (far : ℕ) × (distance_at more (get_or longer k 0) ≡ Some far)
  known_more k low =
      elim (old_or_last order node k low) [
        | inl old ↦ let known = so_far.known k old in (known.0, ap (distance_at more) (front_item order (node ∷ []) k old) ∙ stays (get_or order k 0) known.0 known.1)
        | inr new ↦ (here + 1, ap (distance_at more) (last_item order node k new) ∙ at_node)
      ]

  low_more : (n far : ℕ) → distance_at more n ≡ Some far → far < length longer
  low_more n far at =
      elim (which n far at) [
        | inl old ↦ omega (arith, so_far.low n far old, count_is)
        | inr new ↦ omega (arith, so_far.low (get_or order count 0) here at_here, count_is, new.1)
      ]

  rising_more : (j k near far : ℕ) → j ≤ k → k < length longer → distance_at more (get_or longer j 0) ≡ Some near →
      distance_at more (get_or longer k 0) ≡ Some far → near ≤ far
  rising_more j k near far below low at_j at_k =
      elim (old_or_last order node k low) [
        | inl old ↦ so_far.rising j k near far below old (old_place j near (omega (arith, below, old)) at_j) (old_place k far old at_k)
        | inr new ↦
            let top : far ≡ here + 1 = last_place k far new at_k in
            elim (old_or_last order node j (omega (arith, below, low))) [
              | inl old_j ↦ omega (arith, top, so_far.close (get_or order j 0) near here inside at_here (old_place j near old_j at_j))
              | inr new_j ↦ omega (arith, top, last_place j near new_j at_j)
            ]
      ]

  close_more : (n far now : ℕ) → count < length longer → distance_at more (get_or longer count 0) ≡ Some now → distance_at more n ≡ Some far → far ≤ now + 1
  close_more n far now low at_count at =
      let is : now ≡ here = some_same (sym (old_place count now inside at_count) ∙ at_here) in
      elim (which n far at) [
        | inl old ↦ omega (arith, is, so_far.close n far here inside at_here old)
        | inr new ↦ omega (arith, is, new.1)
      ]

  IsSearched-found : IsSearched g count (set distance node (Some (here + 1))) (order ++ node ∷ [])
  IsSearched-found = record {
    size = length-set distance node (Some (here + 1)) ∙ so_far.size;
    root = stays GND 0 so_far.root;
    way = way_more;
    listed = listed_more;
    known = known_more;
    low = low_more;
    counted = let one = count-set distance node (here + 1) node_in fresh in omega (arith, one, count_is, so_far.counted);
    rising = rising_more;
    close = close_more;
  }

  Keeps-found : Keeps distance (set distance node (Some (here + 1))) order (order ++ node ∷ [])
  Keeps-found = record { found = stays; grown = (node ∷ [], refl) }

  IsFound-found : IsFound (set distance node (Some (here + 1))) node
  IsFound-found = (here + 1, at_node)

  pub all-found : IsSearched g count (set distance node (Some (here + 1))) (order ++ node ∷ [])
      × Keeps distance (set distance node (Some (here + 1))) order (order ++ node ∷ [])
      × IsFound (set distance node (Some (here + 1))) node
  all-found = (IsSearched-found, Keeps-found, IsFound-found)

-- nothing was found
pub Keeps-none : (distance : List (Option ℕ)) (order : List ℕ) → Keeps distance distance order order
Keeps-none distance order = record { found = λ node far at. at; grown = ([], sym (append-nil order)) }

-- first this and then that
pub Keeps-then : (one two three : List (Option ℕ)) (short mid long : List ℕ) → Keeps one two short mid → Keeps two three mid long → Keeps one three short long
Keeps-then one two three short mid long first second = record {
  found = λ node far at. second.found node far (first.found node far at);
  grown = (
    first.grown.0 ++ second.grown.0,
    second.grown.1 ∙ ap (λ xs. xs ++ second.grown.0) first.grown.1 ∙ append_assoc short first.grown.0 second.grown.0,
  );
}

-- a node that was found is found still
pub IsFound-kept : (one two : List (Option ℕ)) (short long : List ℕ) (node : ℕ) → Keeps one two short long → IsFound one node → IsFound two node
IsFound-kept one two short long node keeps found = (found.0, keeps.found node found.0 found.1)

-- the place that the search has reached holds the same node
pub reached_same : (one two : List (Option ℕ)) (short long : List ℕ) (count : ℕ) → Keeps one two short long → count < length short →
    get_or long count 0 ≡ get_or short count 0
reached_same one two short long count keeps inside = ap (λ xs. get_or xs count 0) keeps.grown.1 ∙ front_item short keeps.grown.0 count inside

pub longer_still : (one two : List (Option ℕ)) (short long : List ℕ) (count : ℕ) → Keeps one two short long → count < length short → count < length long
longer_still one two short long count keeps inside = omega (arith, inside, ap length keeps.grown.1, length-append short keeps.grown.0)

-- the search goes on to the next node, after all at the one that it had reached was looked at
module _ (g : GraphData) (count : ℕ) (distance more : List (Option ℕ)) (order longer : List ℕ) (inside : count < length order)
    (before : IsSearched g count distance order) (spread : HasSpread g count distance order) (now : IsSearched g count more longer)
    (keeps : Keeps distance more order longer)
    (found : (place node : ℕ) → IsStorage g node → IsClosedAcross g place (get_or order count 0) node → IsFound more node) where
  within : count < length longer
  within = longer_still distance more order longer count keeps inside

  pub IsSearched-next : IsSearched g (count + 1) more longer
  IsSearched-next = record {
    size = now.size;
    root = now.root;
    way = now.way;
    listed = now.listed;
    known = now.known;
    low = now.low;
    counted = now.counted;
    rising = now.rising;
    close = λ node far here low at there.
        let known = now.known count within in
        omega (arith, now.close node far known.0 within known.1 there, now.rising count (count + 1) known.0 here (omega arith) low known.1 at);
  }

  pub HasSpread-next : HasSpread g (count + 1) more longer
  HasSpread-next k place node far below storage joined at =
      elim (cases_lt k count) [
        | inl low ↦
            let same : get_or longer k 0 ≡ get_or order k 0 = reached_same distance more order longer k keeps (omega (arith, low, inside)) in
            let known = before.known k (omega (arith, low, inside)) in
            let is : far ≡ known.0 = some_same (sym at ∙ ap (distance_at more) same ∙ keeps.found (get_or order k 0) known.0 known.1) in
            let old = spread k place node known.0 low storage (subst (λ (m : ℕ). IsClosedAcross g place m node) same joined) known.1 in
            (old.0, keeps.found node old.0 old.1, omega (arith, is, old.2))
        | inr past ↦
            let here : k ≡ count = omega (arith, below, past) in
            let there : get_or longer k 0 ≡ get_or order count 0 = ap (λ i. get_or longer i 0) here ∙ reached_same distance more order longer count keeps inside in
            let one = found place node storage (subst (λ (m : ℕ). IsClosedAcross g place m node) there joined) in
            (one.0, one.1, now.close node one.0 far within (ap (λ i. distance_at more (get_or longer i 0)) (sym here) ∙ at) one.1)
      ]

-- if the search has reached all, the distances are least
module _ (g : GraphData) (count : ℕ) (distance : List (Option ℕ)) (order : List ℕ) (all : count ≡ length order)
    (so_far : IsSearched g count distance order) (spread : HasSpread g count distance order) where
  least : (node : ℕ) (places : List ℕ) → LeadsDown g places node → (far : ℕ) × (distance_at distance node ≡ Some far) × (far ≤ length places)
  least node [] down = (0, ap (distance_at distance) down ∙ so_far.root, omega arith)
  least node (place ∷ places) (storage, (next, across, down)) =
      let behind = least next places down in
      let spot = so_far.listed next behind.0 behind.1 in
      let one = spread spot.0 place node behind.0 (omega (arith, all, spot.1)) storage
      (subst (λ (m : ℕ). IsClosedAcross g place m node) (sym spot.2) (across_back g place node next across))
      (ap (distance_at distance) spot.2 ∙ behind.1) in
      (one.0, one.1, omega (arith, one.2, behind.2))

  pub AreDistances-all : AreDistances g distance
  AreDistances-all = record { count = so_far.size; way = so_far.way; least = least }

-- the order is no longer than there are nodes
pub order_within : (g : GraphData) (count : ℕ) (distance : List (Option ℕ)) (order : List ℕ) → IsSearched g count distance order → length order ≤ nodes g
order_within g count distance order so_far = omega (arith, so_far.counted)

-- each node in the order is one of the graph
pub item_inside : (g : GraphData) (count : ℕ) (distance : List (Option ℕ)) (order : List ℕ) (k : ℕ) → IsSearched g count distance order → k < length order →
    get_or order k 0 < nodes g
item_inside g count distance order k so_far inside =
    let known = so_far.known k inside in
    elim (cases_lt (get_or order k 0) (nodes g)) [
      | inl low ↦ low
      | inr past ↦ absurd (none_some (sym (get_or_past distance (get_or order k 0) None (omega (arith, past, so_far.size))) ∙ known.1))
    ]
