-- The flood: what a look at places adds, and that a flood that has looked from all it found has found a group.
use Rattle.std.proofs.Common.{◌≡◌, ℕ, ◌+◌, ◌*◌, ◌<◌, ◌≤◌, Bool, true, false, ◌⊎◌, inl, inr, List, [], ◌∷◌, ◌++◌, length, get_or, take, drop, filter, cond, nat_eq, Contains, Option, Some, None, refl, sym, ap, subst, ◌∙◌, arith, if◌then◌else◌}
use Rattle.std.specs.Prelude.{slice_index}
use Rattle.std.specs.List.{list_any}
use Rattle.std.proofs.lemmas.Bool.{cases_lt, cases_eq, cases_Bool, eqb-true}
use Rattle.std.proofs.lemmas.Cmp.{nat_eq_equiv}
use Rattle.std.proofs.lemmas.List.{append-nil, append_assoc, get_or_append_left, get_or_default, length-append, length-take-le, take-append-le, take-append-drop}
use Rattle.std.proofs.lemmas.List.Elements.{Contains-append_left, Contains-push, Contains-push_cases, Contains-get_or, filter_more, filter-append}
use Rattle.list_facts.proofs.ContainsLemmas.{Contains-cons_cases}
use Rattle.indexmap.proofs.CallerLemmas.{Contains-insert_key, Contains-list_any}
use Rattle.indexmap.proofs.MapLemmas.{distinct-take}
use Rattle.indexmap.specs.IndexSet.{insert_key}
use Rattle.switch_paths.specs.Graphs.{GraphData, nodes, IsStorage}
use Rattle.group_meaning.specs.Groups.{AreJoined, AreLinked, LinksOver, Group, id_of, IsGroup}
use Rattle.group_meaning.proofs.GroupLemmas.{linked_member}
use Rattle.group_meaning.proofs.LinkLemmas.{AreLinked-self, AreLinked-trans, AreLinked-joined, AreLinked-sym, AreLinked-to, LinksOver-from}
use Rattle.std.specs.List.{flat_map, IsDistinct}
use Rattle.std.proofs.lemmas.Map.Steps.{length-le_from_distinct_below}
use Rattle.channel_groups.specs.Listing.{HasEndAt, AreListed, others_at}
use Rattle.channel_groups.proofs.CountLemmas.{few_places, count_more, length-le_from_contained}
use Rattle.channel_groups.specs.Flood.{Sees, IsFlooding, IsSortedFrom, IsPaid}

-- a number that is inserted goes last, unless it is there
pub insert_key-grown : (keys : List ℕ) (k : ℕ) → (rest : List ℕ) × (insert_key nat_eq keys k ≡ keys ++ rest)
insert_key-grown keys k =
    elim (cases_Bool (list_any (nat_eq k) keys)) [
      | inl there ↦ ([], rw there (sym (append-nil keys)))
      | inr new ↦ (k ∷ [], rw new refl)
    ]

pub insert_key-cases : (keys : List ℕ) (k n : ℕ) → Contains (insert_key nat_eq keys k) n → Contains keys n ⊎ (k ≡ n)
insert_key-cases keys k n there =
    elim (cases_Bool (list_any (nat_eq k) keys)) [
      | inl seen ↦ inl (rw seen at there)
      | inr new ↦ Contains-push_cases keys k n (rw new at there)
    ]

module _ (g : GraphData) (node : ℕ) where
  -- with nothing looked at nothing changes
  pub Sees-none : (Looked : ℕ → Type 0) (found places : List ℕ) → ((place n : ℕ) → Looked place → AreJoined g place node n → ⊥) →
      Sees g node Looked found found places places
  Sees-none Looked found places none = record {
    grown = ([], sym (append-nil found));
    found = λ n there. inl there;
    all = λ place n looked joined storage. absurd (none place n looked joined);
    kept = λ place there. there;
    touched = λ place there. inl there;
    listed = λ place n looked joined. absurd (none place n looked joined);
  }

  -- one look after another
  pub Sees-then : (One Two Both : ℕ → Type 0) (a b c p q r : List ℕ) → Sees g node One a b p q → Sees g node Two b c q r →
      ((place : ℕ) → Both place → One place ⊎ Two place) → Sees g node Both a c p r
  Sees-then One Two Both a b c p q r first second split = record {
    grown = (first.grown.0 ++ second.grown.0, second.grown.1 ∙ ap (λ xs. xs ++ second.grown.0) first.grown.1 ∙ append_assoc a first.grown.0 second.grown.0);
    found = λ n there. elim (second.found n there) [ inl before ↦ first.found n before | inr new ↦ inr new ];
    all = λ place n both joined storage.
        elim (split place both) [
          | inl one ↦ Sees-kept b c q r Two second n (first.all place n one joined storage)
          | inr two ↦ second.all place n two joined storage
        ];
    kept = λ place there. second.kept place (first.kept place there);
    touched = λ place there. elim (second.touched place there) [ inl before ↦ first.touched place before | inr new ↦ inr new ];
    listed = λ place n both joined.
        elim (split place both) [ inl one ↦ second.kept place (first.listed place n one joined) | inr two ↦ second.listed place n two joined ];
  }
    where
      Sees-kept : (a b p q : List ℕ) (Looked : ℕ → Type 0) → Sees g node Looked a b p q → (n : ℕ) → Contains a n → Contains b n
      Sees-kept a b p q Looked sees n there = rw sees.grown.1 (Contains-append_left a sees.grown.0 n there)

  -- what is looked at may be less
  pub Sees-less : (Looked Fewer : ℕ → Type 0) (a b p q : List ℕ) → Sees g node Looked a b p q → ((place n : ℕ) → Fewer place → AreJoined g place node n → Looked place) →
      Sees g node Fewer a b p q
  Sees-less Looked Fewer a b p q sees fewer = record {
    grown = sees.grown;
    found = sees.found;
    all = λ place n looked joined storage. sees.all place n (fewer place n looked joined) joined storage;
    kept = sees.kept;
    touched = sees.touched;
    listed = λ place n looked joined. sees.listed place n (fewer place n looked joined) joined;
  }

  module _ (place other : ℕ) (joined : AreJoined g place node other) (only : (n : ℕ) → AreJoined g place node n → other ≡ n) (found places : List ℕ) where
    -- the node at the other end is a storage node
    pub Sees-storage : IsStorage g other → (new : List ℕ) → new ≡ insert_key nat_eq found other →
        Sees g node (λ one. one ≡ place) found new places (places ++ place ∷ [])
    Sees-storage storage new is =
        let grown = insert_key-grown found other in
        record {
          grown = (grown.0, is ∙ grown.1);
          found = λ n there. elim (insert_key-cases found other n (rw is at there)) [
            | inl before ↦ inl before
            | inr same ↦ inr (place, rw (← same) joined, rw (← same) storage)
          ];
          all = λ one n looked to to_storage.
              let same : other ≡ n = only n (rw looked at to) in
              rw (is, ← same) (Contains-insert_key nat_eq (λ x y e. eqb-true x y e) found other);
          kept = λ one there. Contains-append_left places (place ∷ []) one there;
          touched = λ one there. elim (Contains-push_cases places place one there) [
            | inl before ↦ inl before
            | inr same ↦ inr (other, rw (← same) joined)
          ];
          listed = λ one n looked to. rw looked (Contains-push places place);
        }

    -- or an input node
    pub Sees-input : (¬ IsStorage g other) → Sees g node (λ one. one ≡ place) found found places (places ++ place ∷ [])
    Sees-input input = record {
      grown = ([], sym (append-nil found));
      found = λ n there. inl there;
      all = λ one n looked to storage.
          let same : other ≡ n = only n (rw looked at to) in
          absurd (input (rw same storage));
      kept = λ one there. Contains-append_left places (place ∷ []) one there;
      touched = λ one there. elim (Contains-push_cases places place one there) [
        | inl before ↦ inl before
        | inr same ↦ inr (other, rw (← same) joined)
      ];
      listed = λ one n looked to. rw looked (Contains-push places place);
    }

module _ (g : GraphData) (root : ℕ) where
  -- a flood begins at its root
  pub IsFlooding-start : IsStorage g root → IsFlooding g root 0 (root ∷ []) []
  IsFlooding-start storage = record {
    rooted = Contains-get_or (root ∷ []) 0 0 (omega arith);
    linked = λ n there. elim (Contains-cons_cases root [] n there) [
      | inl same ↦ rw (← same) (AreLinked-self g root storage)
      | inr none ↦ absurd (omega (arith, none.1))
    ];
    spread = λ k place n below joined storage. absurd (omega arith);
    listed = λ k place n below joined. absurd (omega arith);
    touched = λ place there. absurd (omega (arith, there.1));
  }

  -- one node more has been looked from
  pub IsFlooding-visit : (k node : ℕ) (found new places more : List ℕ) → IsFlooding g root k found places → k < length found → slice_index found k ≡ node →
      Sees g node (λ place. (n : ℕ) × AreJoined g place node n) found new places more → IsFlooding g root (k + 1) new more
  IsFlooding-visit k node found new places more so_far inside is sees =
      let kept : (n : ℕ) → Contains found n → Contains new n = λ n there. rw sees.grown.1 (Contains-append_left found sees.grown.0 n there) in
      let same : (j : ℕ) → j < length found → slice_index new j ≡ slice_index found j =
      λ j below. ap (λ (xs : List ℕ). slice_index xs j) sees.grown.1 ∙ get_or_append_left found sees.grown.0 0 j below in
      let here : Contains found node = subst (Contains found) is (Contains-get_or found k 0 inside) in
      record {
        rooted = kept root so_far.rooted;
        linked = λ n there. elim (sees.found n there) [
          | inl before ↦ so_far.linked n before
          | inr (place, joined, storage) ↦
              let from = so_far.linked node here in
              AreLinked-trans g root node n from (AreLinked-joined g place node n (AreLinked-to g root node from) storage joined)
        ];
        spread = λ j place n below joined storage.
            elim (cases_lt j k) [
              | inl before ↦ kept n (so_far.spread j place n before (rw (same j (omega arith)) at joined) storage)
              | inr last ↦
                  let at_k : j ≡ k = omega arith in
                  let joined_here : AreJoined g place node n = subst (λ m. AreJoined g place m n) (ap (slice_index new) at_k ∙ same k inside ∙ is) joined in
                  sees.all place n (n, joined_here) joined_here storage
            ];
        listed = λ j place n below joined.
            elim (cases_lt j k) [
              | inl before ↦ sees.kept place (so_far.listed j place n before (rw (same j (omega arith)) at joined))
              | inr last ↦
                  let at_k : j ≡ k = omega arith in
                  let joined_here : AreJoined g place node n = subst (λ m. AreJoined g place m n) (ap (slice_index new) at_k ∙ same k inside ∙ is) joined in
                  sees.listed place n (n, joined_here) joined_here
            ];
        touched = λ place there. elim (sees.touched place there) [
          | inl before ↦
              let touch = so_far.touched place before in
              (touch.0, touch.1, kept touch.0 touch.2, touch.3)
          | inr (n, joined) ↦ (node, n, kept node here, joined)
        ];
      }

  module _ (found places : List ℕ) (flood : IsFlooding g root (length found) found places) where
    -- what a found node joins is found
    joined_found : (place m n : ℕ) → Contains found m → AreJoined g place m n → IsStorage g n → Contains found n
    joined_found place m n there joined storage =
        let is : slice_index found there.0 ≡ m = get_or_default found there.0 0 m there.1 ∙ there.2 in
        flood.spread there.0 place n there.1 (rw is joined) storage

    -- and its places are listed
    joined_listed : (place m n : ℕ) → Contains found m → AreJoined g place m n → Contains places place
    joined_listed place m n there joined =
        let is : slice_index found there.0 ≡ m = get_or_default found there.0 0 m there.1 ∙ there.2 in
        flood.listed there.0 place n there.1 (rw is joined)

    -- so is all that switches lead to
    links_found : (links : List ℕ) (m n : ℕ) → LinksOver g links m n → Contains found m → Contains found n
    links_found [] m n over there = rw (← over.1) there
    links_found (place ∷ links) m n over there =
        let next = over.1.0 in
        links_found links next n over.1.2 (joined_found place m next there over.1.1 (LinksOver-from g links next n over.1.2))

    -- a flood that has looked from all it found has found a group
    pub IsGroup-flooded : (group : Group) → IsSortedFrom found group.members → IsSortedFrom places group.switches → IsGroup g group
    IsGroup-flooded group members switches =
        let rooted = members.all root flood.rooted in
        let some : 0 < length group.members = omega (arith, rooted.1) in
        let id = id_of group in
        let to_id = flood.linked id (members.only id (Contains-get_or group.members 0 0 some)) in
        record {
          some = some;
          class = λ node. (
            (λ member. AreLinked-trans g id root node (AreLinked-sym g root id to_id) (flood.linked node (members.only node member))),
            (λ linked. members.all node (links_found linked.places id node linked.links (members.only id (Contains-get_or group.members 0 0 some)))),
          );
          ascending = members.ascending;
          switches = λ place. (
            (λ there.
                let touch = flood.touched place (switches.only place there) in
                let m = touch.0 in
                let joined = touch.3 in
                record {
                  switch = joined.switch;
                  at_place = joined.at_place;
                  touches = elim joined.joins [
                    | inl ends ↦ inl (rw ends.0 (members.all m touch.2))
                    | inr ends ↦ inr (rw ends.0 (members.all m touch.2))
                  ];
                }),
            (λ touches.
                let switch = touches.switch in
                switches.all place (elim touches.touches [
                  | inl a ↦ joined_listed place switch.a switch.b (members.only switch.a a) (record { switch = switch; at_place = touches.at_place; joins = inl (refl, refl) })
                  | inr b ↦ joined_listed place switch.b switch.a (members.only switch.b b) (record { switch = switch; at_place = touches.at_place; joins = inr (refl, refl) })
                ])),
          );
          switches_ascending = switches.ascending;
        }

    pub Contains-root : (group : Group) → IsSortedFrom found group.members → Contains group.members root
    Contains-root group members = members.all root flood.rooted

-- one answer names one node
pub only_end : (one two : ℕ) → Some one ≡ Some two → one ≡ two
only_end one two same = cc

-- one item more is kept or not
pub filter-count_more : (test : ℕ → Bool) (xs : List ℕ) (i : ℕ) → i < length xs →
    length (filter test (take (i + 1) xs)) ≡ length (filter test (take i xs)) + (if test (get_or xs i 0) then 1 else 0)
filter-count_more test xs i inside =
    ap length (filter_more test xs i 0 inside)
    ∙ length-append (filter test (take i xs)) (cond (test (get_or xs i 0)) (get_or xs i 0 ∷ []) [])
    ∙ ap (λ n. length (filter test (take i xs)) + n)
    (elim (test (get_or xs i 0)) as (λ b. length (cond b (get_or xs i 0 ∷ []) []) ≡ (if b then 1 else 0)) [ true ↦ refl | false ↦ refl ])

-- of a part of a list no more passes
pub filter-part : (test : ℕ → Bool) (xs : List ℕ) (k : ℕ) → length (filter test (take k xs)) ≤ length (filter test xs)
filter-part test xs k =
    let whole : length (filter test (take k xs ++ drop k xs)) ≡ length (filter test xs) = ap (λ (ys : List ℕ). length (filter test ys)) (take-append-drop k xs) in
    let parts = ap length (filter-append test (take k xs) (drop k xs)) in
    omega (arith, whole, parts, length-append (filter test (take k xs)) (filter test (drop k xs)))

-- a place is the changed one or it isn't
changed_or_not : (changed : Option ℕ) (place : ℕ) → (changed ≡ Some place) ⊎ (¬ (changed ≡ Some place))
changed_or_not None place = inr (λ same. absurd (cc))
changed_or_not (Some one) place =
    elim (cases_eq one place) [ inl same ↦ inl (ap Some same) | inr other ↦ inr (λ same. other (only_end one place same)) ]

-- from a node all is seen where the places of its two lists are looked at, and the changed place
pub Sees-visit : (g : GraphData) (node : ℕ) (changed : Option ℕ) (firsts seconds : ℕ → List ℕ) →
    AreListed (λ switch. switch.a) g changed firsts → AreListed (λ switch. switch.b) g changed seconds →
    (xs ys : List ℕ) → xs ≡ firsts node → ys ≡ seconds node → (a b c d p q r s : List ℕ) →
    Sees g node (λ place. Contains xs place × ¬ (changed ≡ Some place)) a b p q →
    Sees g node (λ place. Contains ys place × ¬ (changed ≡ Some place)) b c q r →
    Sees g node (λ place. changed ≡ Some place) c d r s →
    Sees g node (λ place. (n : ℕ) × AreJoined g place node n) a d p s
Sees-visit g node changed firsts seconds by_first by_second xs ys is_first is_second a b c d p q r s one two three =
    let Along : List ℕ → ℕ → Type 0 = λ zs place. Contains zs place × ¬ (changed ≡ Some place) in
    let Both : ℕ → Type 0 = λ place. Along xs place ⊎ Along ys place in
    Sees-then g node Both (λ place. changed ≡ Some place) (λ place. (n : ℕ) × AreJoined g place node n) a c d p r s
    (Sees-then g node (Along xs) (Along ys) Both a b c p q r one two (λ place both. both)) three
    (λ place (n, joined). elim (changed_or_not changed place) [
      | inl same ↦ inr same
      | inr other ↦ inl (elim joined.joins [
        | inl ends ↦
            let at : HasEndAt (λ switch. switch.a) g place node = record { switch = joined.switch; at_place = joined.at_place; at_node = ends.0 } in
            inl ((elim (by_first.all place node at) [ inl there ↦ rw is_first there | inr same ↦ absurd (other same) ]), other)
        | inr ends ↦
            let at : HasEndAt (λ switch. switch.b) g place node = record { switch = joined.switch; at_place = joined.at_place; at_node = ends.0 } in
            inr ((elim (by_second.all place node at) [ inl there ↦ rw is_second there | inr same ↦ absurd (other same) ]), other)
      ])
    ])

-- the found nodes are nodes of the graph, each once
pub count_within : (g : GraphData) (root count : ℕ) (found places : List ℕ) → IsFlooding g root count found places → IsDistinct nat_eq found →
    length found ≤ nodes g
count_within g root count found places flood distinct =
    length-le_from_distinct_below found (nodes g) distinct
    (λ n there. (AreLinked-to g root n (flood.linked n (Contains-list_any nat_eq (λ a b e. eqb-true a b e) found n there))).inside)

-- nodes of one group, each once, have at most as many ticks as it has members and switches, each twice
pub few_ticks : (g : GraphData) (root : ℕ) (changed : Option ℕ) (firsts seconds : ℕ → List ℕ) →
    AreListed (λ switch. switch.a) g changed firsts → AreListed (λ switch. switch.b) g changed seconds →
    (looked : List ℕ) → ((n : ℕ) → Contains looked n → AreLinked g root n) → IsDistinct nat_eq looked → (old new : ℕ) →
    new ≤ old + 2 * length looked + length (flat_map (others_at changed firsts) looked) + length (flat_map (others_at changed seconds) looked) →
    IsPaid g root old new
few_ticks g root changed firsts seconds by_first by_second looked linked distinct old new bound = record {
  paid = λ group is rooted.
      let inside : (n : ℕ) → Contains looked n → Contains group.members n = λ n there. linked_member g group is root n rooted (linked n there) in
      let some : length looked ≤ length group.members = length-le_from_contained looked group.members distinct inside in
      let one : length (flat_map (others_at changed firsts) looked) ≤ length group.switches =
      few_places (λ switch. switch.a) g changed firsts by_first looked group.switches distinct
      (λ place node there at. (is.switches place).1
      (record { switch = at.switch; at_place = at.at_place; touches = inl (subst (Contains group.members) (sym at.at_node) (inside node there)) })) in
      let two : length (flat_map (others_at changed seconds) looked) ≤ length group.switches =
      few_places (λ switch. switch.b) g changed seconds by_second looked group.switches distinct
      (λ place node there at. (is.switches place).1
      (record { switch = at.switch; at_place = at.at_place; touches = inr (subst (Contains group.members) (sym at.at_node) (inside node there)) })) in
      omega arith;
}

-- so far as a flood has looked, it is paid by the group of its root
pub paid_so_far : (g : GraphData) (root : ℕ) (changed : Option ℕ) (firsts seconds : ℕ → List ℕ) →
    AreListed (λ switch. switch.a) g changed firsts → AreListed (λ switch. switch.b) g changed seconds →
    (found places : List ℕ) (spread count : ℕ) → IsFlooding g root spread found places → IsDistinct nat_eq found → count ≤ length found → (old new : ℕ) →
    new ≤ old + 2 * count + length (flat_map (others_at changed firsts) (take count found)) + length (flat_map (others_at changed seconds) (take count found)) →
    IsPaid g root old new
paid_so_far g root changed firsts seconds by_first by_second found places spread count flood distinct within old new bound =
    few_ticks g root changed firsts seconds by_first by_second (take count found)
    (λ n there. flood.linked n (subst (λ (ys : List ℕ). Contains ys n) (take-append-drop count found) (Contains-append_left (take count found) (drop count found) n there)))
    (distinct-take nat_eq_equiv count found distinct) old new
    (omega (arith, bound, length-take-le count found within))

-- one node more has been looked from: its places are ticked
pub ticks-visit : (f h : ℕ → List ℕ) (found new rest : List ℕ) → new ≡ found ++ rest → (count node start before after : ℕ) → count < length found →
    slice_index found count ≡ node →
    before ≤ start + 2 * count + length (flat_map f (take count found)) + length (flat_map h (take count found)) →
    after ≤ before + 2 + length (f node) + length (h node) →
    after ≤ start + 2 * (count + 1) + length (flat_map f (take (count + 1) new)) + length (flat_map h (take (count + 1) new))
ticks-visit f h found new rest grown count node start before after inside is so_far more =
    let same : take (count + 1) new ≡ take (count + 1) found = ap (take (count + 1)) grown ∙ take-append-le (count + 1) found rest (omega arith) in
    let first = count_more f found count inside in
    let second = count_more h found count inside in
    let at_f : length (f (get_or found count 0)) ≡ length (f node) = ap (λ n. length (f n)) is in
    let at_h : length (h (get_or found count 0)) ≡ length (h node) = ap (λ n. length (h n)) is in
    rw same (omega arith)

-- with what is seen there are no fewer nodes
pub Sees-longer : (g : GraphData) (node : ℕ) (Looked : ℕ → Type 0) (a b p q : List ℕ) → Sees g node Looked a b p q → length a ≤ length b
Sees-longer g node Looked a b p q sees = omega (arith, ap length sees.grown.1, length-append a sees.grown.0)
