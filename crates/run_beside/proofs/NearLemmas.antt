-- What is near the parts that are apart: a part enters with its nodes, and leaves with them and with all that entered later. A node that isn't near
-- follows the good run, and no part that is apart reads it.
use Rattle.std.proofs.Common.{◌≡◌, ◌≢◌, ℕ, ◌+◌, ◌<◌, ◌≤◌, inl, inr, ◌⊎◌, ◌↔◌, Bool, true, false, List, [], ◌∷◌, ◌++◌, length, take, get_or, map, Option, Some, None, Result, Ok, Err, refl, sym, ap, subst, ◌∙◌, arith}
use Rattle.std.specs.Prelude.{Contains, IfOk, IfSome, is_some, slice_index, slice_index_or, slice_set, vec_capacity}
use Rattle.std.specs.Bool.{OnTrue, OnFalse}
use Rattle.std.specs.Option.{IfNone}
use Rattle.std.specs.Result.{result_ok}
use Rattle.std.proofs.lemmas.Bool.{cases_eq, cases_lt}
use Rattle.std.proofs.lemmas.List.{append-nil, append_assoc, get_or_append_left, get_or_at, get_or-take, get_or_default, get_or_past, length-append, length-map, length-take, length-take-le, length_push, take-append-le, take-take, take_all, take_at}
use Rattle.std.proofs.lemmas.List.Elements.{Contains-append_left, Contains-get_or, Contains-push, Contains-push_cases}
use Rattle.smallvec.specs.SmallVec.{SmallVec}
use Rattle.part_words.specs.declared.change.Change.{Change}
use Rattle.machine_parts.specs.declared.part.MachinePart.{MachinePart}
use Rattle.machine_parts.specs.Evaluating.{IsSeated, Rooms}
use Rattle.machine_parts.specs.Marking.{IsMarked}
use Rattle.machine_parts.specs.Parts.{HasMember, Stands}
use Rattle.machine_parts.specs.Readers.{readers_of}
use Rattle.machine_parts.specs.Running.{AreOwners, IsRunnable}
use Rattle.machine_parts.proofs.PartLemmas.{same_part}
use Rattle.machine_parts.proofs.SetMarks.{marked-kept, marked-other, marked-set}
use Rattle.vicinity.specs.NodeSets.{IsIn, NodeSetData}
use Rattle.run_beside.specs.declared.near.Near.{Near}
use Rattle.run_beside.specs.Following.{FollowsAt}
use Rattle.run_beside.specs.Near.{IsOfPart, IsOfAny, IsNearTo, IsStart, AreNear, AreNearIn, IsFar, FitsParts, TellsOf, Enters, IsCut, StayFirst, start_at}

-- a part enters
module _ (parts : List MachinePart) (owners : List (Option ℕ)) (k : ℕ) (part : MachinePart) (stands : Stands parts k part) (old new : Near)
    (enters : Enters part k old new) (are : AreNear parts owners old) where
  becomes_near : (node : ℕ) → node < length owners → IsIn new.nodes.inside node → IsNearTo parts owners new.parts.items node
  becomes_near node inside is = elim (enters.nodes.only node is) [
    | inl was ↦ elim ((are.all node inside).0 was) [
      | inl none ↦ inl none
      | inr one ↦ inr (record {
        k = one.k;
        among = subst (λ xs. Contains xs one.k) (sym enters.parts) (Contains-append_left old.parts.items (k ∷ []) one.k one.among);
        part = one.part;
        stands = one.stands;
        of = one.of;
      })
    ]
    | inr mine ↦ inr (record {
      k = k;
      among = subst (λ xs. Contains xs k) (sym enters.parts) (Contains-push old.parts.items k);
      part = part;
      stands = stands;
      of = mine;
    })
  ]

  is_put_in : (node : ℕ) → node < length owners → IsNearTo parts owners new.parts.items node → IsIn new.nodes.inside node
  is_put_in node inside near = elim near [
    | inl none ↦ enters.nodes.stays node ((are.all node inside).1 (inl none))
    | inr one ↦ elim (Contains-push_cases old.parts.items k one.k (subst (λ xs. Contains xs one.k) enters.parts one.among)) [
      | inl was ↦
          let before : IsOfAny parts old.parts.items node =
          record { k = one.k; among = was; part = one.part; stands = one.stands; of = one.of } in
          enters.nodes.stays node ((are.all node inside).1 (inr before))
      | inr same ↦
          let stood : Stands parts k one.part = subst (λ n. Stands parts n one.part) (sym same) one.stands in
          enters.nodes.set node (subst (λ p. IsOfPart p node) (same_part parts k one.part part stood stands) one.of)
    ]
  ]

  -- the starts of those that were there are as before
  start_same : (place : ℕ) → place < length old.parts.items → start_at new place ≡ start_at old place
  start_same place before =
      ap (λ xs. slice_index xs place) enters.starts
      ∙ get_or_append_left old.starts.items (length old.nodes.list ∷ []) 0 place (omega (arith, before, are.started))

  first_same : (place : ℕ) → place < length old.parts.items → take place new.parts.items ≡ take place old.parts.items
  first_same place before = ap (take place) enters.parts ∙ take-append-le place old.parts.items (k ∷ []) (omega (arith, before))

  nodes_same : (count : ℕ) → count ≤ length old.nodes.list → take count new.nodes.list ≡ take count old.nodes.list
  nodes_same count most = ap (take count) enters.list.1 ∙ take-append-le count old.nodes.list enters.list.0 most

  -- its own start is behind all nodes that were there
  start_own : (place : ℕ) → place ≡ length old.parts.items → start_at new place ≡ length old.nodes.list
  start_own place is =
      ap (λ xs. slice_index xs place) enters.starts
      ∙ get_or_at old.starts.items (length old.nodes.list) [] 0 place (are.started ∙ sym is)

  first_own : (place : ℕ) → place ≡ length old.parts.items → take place new.parts.items ≡ old.parts.items
  first_own place is = ap (take place) enters.parts ∙ take_at old.parts.items (k ∷ []) place (sym is)

  nodes_own : take (length old.nodes.list) new.nodes.list ≡ old.nodes.list
  nodes_own = nodes_same (length old.nodes.list) (omega arith) ∙ take_all (length old.nodes.list) old.nodes.list (omega arith)

  longer : length new.nodes.list ≡ length old.nodes.list + length enters.list.0
  longer = ap length enters.list.1 ∙ length-append old.nodes.list enters.list.0

  starts_still : (place : ℕ) → place < length old.parts.items → IsStart parts owners new place
  starts_still place before =
      let was = are.starts place before in
      let start = start_same place before in
      let front : take (start_at new place) new.nodes.list ≡ take (start_at old place) old.nodes.list =
      ap (λ n. take n new.nodes.list) start ∙ nodes_same (start_at old place) was.most in
      record {
        most = omega (arith, was.most, start, longer);
        all = λ node inside.
            subst (λ xs. Contains xs node ↔ IsNearTo parts owners (take place new.parts.items) node) (sym front)
            (subst (λ xs. Contains (take (start_at old place) old.nodes.list) node ↔ IsNearTo parts owners xs node) (sym (first_same place before))
            (was.all node inside));
      }

  starts_own : (place : ℕ) → place ≡ length old.parts.items → IsStart parts owners new place
  starts_own place is =
      let start = start_own place is in
      let front : take (start_at new place) new.nodes.list ≡ old.nodes.list = ap (λ n. take n new.nodes.list) start ∙ nodes_own in
      record {
        most = omega (arith, start, longer);
        all = λ node inside.
            let whole : Contains old.nodes.list node ↔ IsNearTo parts owners old.parts.items node = (
              λ there. (are.all node inside).0 (enters.only node there),
              λ near. enters.listed node ((are.all node inside).1 near),
            ) in
            subst (λ xs. Contains xs node ↔ IsNearTo parts owners (take place new.parts.items) node) (sym front)
            (subst (λ xs. Contains old.nodes.list node ↔ IsNearTo parts owners xs node) (sym (first_own place is)) whole);
      }

  old_or_own : (place : ℕ) → place < length new.parts.items → (place < length old.parts.items) ⊎ (place ≡ length old.parts.items)
  old_or_own place inside = elim (cases_lt place (length old.parts.items)) [
    | inl before ↦ inl before
    | inr past ↦ inr (omega (arith, inside, past, ap length enters.parts, length_push old.parts.items k))
  ]

  pub AreNear-entered : AreNear parts owners new
  AreNear-entered = record {
    counted = enters.nodes.count ∙ are.counted;
    started = omega (
      arith,
      are.started,
      ap length enters.parts,
      length_push old.parts.items k,
      ap length enters.starts,
      length_push old.starts.items (length old.nodes.list),
    );
    room = omega (arith, are.room, enters.room);
    start_room = omega (arith, are.start_room, enters.start_room);
    all = λ node inside. (becomes_near node inside, is_put_in node inside);
    starts = λ place inside. elim (old_or_own place inside) [ inl before ↦ starts_still place before | inr is ↦ starts_own place is ];
    order = λ i j less inside. elim (old_or_own j inside) [
      | inl before ↦ omega (arith, are.order i j less before, start_same i (omega (arith, less, before)), start_same j before)
      | inr is ↦
          let earlier : i < length old.parts.items = omega (arith, less, is) in
          omega (arith, (are.starts i earlier).most, start_same i earlier, start_own j is)
    ];
  }

-- the parts behind the first leave
module _ (parts : List MachinePart) (owners : List (Option ℕ)) (first : ℕ) (old new : Near) (inside : first < length old.parts.items)
    (is_cut : IsCut (start_at old first) old.nodes new.nodes) (stay : StayFirst first old new) (are : AreNear parts owners old) where
  long : length new.nodes.list ≡ start_at old first
  long = ap length is_cut.list ∙ length-take-le (start_at old first) old.nodes.list (are.starts first inside).most

  few : length new.parts.items ≡ first
  few = ap length stay.parts ∙ length-take-le first old.parts.items (omega (arith, inside))

  start_stays : (place : ℕ) → place < first → start_at new place ≡ start_at old place
  start_stays place before = ap (λ xs. slice_index xs place) stay.starts ∙ get_or-take first old.starts.items place 0 before

  starts_stay : (place : ℕ) → place < first → IsStart parts owners new place
  starts_stay place before =
      let was = are.starts place (omega (arith, before, inside)) in
      let start = start_stays place before in
      let less = are.order place first before inside in
      let front : take (start_at new place) new.nodes.list ≡ take (start_at old place) old.nodes.list =
      ap (λ n. take n new.nodes.list) start
      ∙ (ap (take (start_at old place)) is_cut.list ∙ take-take (start_at old place) (start_at old first) old.nodes.list less) in
      let firsts : take place new.parts.items ≡ take place old.parts.items =
      ap (take place) stay.parts ∙ take-take place first old.parts.items (omega (arith, before)) in
      record {
        most = omega (arith, start, long, less);
        all = λ node there.
            subst (λ xs. Contains xs node ↔ IsNearTo parts owners (take place new.parts.items) node) (sym front)
            (subst (λ xs. Contains (take (start_at old place) old.nodes.list) node ↔ IsNearTo parts owners xs node) (sym firsts) (was.all node there));
      }

  pub AreNear-left : AreNear parts owners new
  AreNear-left = record {
    counted = is_cut.counted ∙ are.counted;
    started = omega (
      arith,
      few,
      ap length stay.starts,
      length-take-le first old.starts.items (omega (arith, inside, are.started)),
    );
    room = omega (arith, are.room, stay.room);
    start_room = omega (arith, are.start_room, stay.start_room);
    all = λ node there.
        let was = (are.starts first inside).all node there in
        subst (λ xs. IsIn new.nodes.inside node ↔ IsNearTo parts owners xs node) (sym stay.parts) (
          λ is. was.0 (subst (λ xs. Contains xs node) is_cut.list (is_cut.listed node is)),
          λ near. is_cut.only node (subst (λ xs. Contains xs node) (sym is_cut.list) (was.1 near)),
        );
    starts = λ place within. starts_stay place (omega (arith, within, few));
    order = λ i j less within.
        let before : j < first = omega (arith, within, few) in
        omega (arith, are.order i j less (omega (arith, before, inside)), start_stays i (omega (arith, less, before)), start_stays j before);
  }

-- a set in which something is loses its last node
pub popped : (old new : NodeSetData) (result : Option ℕ) → 0 < length old.list → ((node : ℕ) → Contains old.list node → IsIn old.inside node) →
    IfSome result (λ node. old.list ≡ new.list ++ node ∷ []) → IfSome result (λ node. new.inside ≡ slice_set old.inside node false) →
    IfNone result ((node : ℕ) → ¬ IsIn old.inside node) → (node : ℕ) × (old.list ≡ new.list ++ node ∷ []) × (new.inside ≡ slice_set old.inside node false)
popped old new None some only list inside empty =
    let first_node = get_or old.list 0 0 in
    absurd (empty first_node (only first_node (Contains-get_or old.list 0 0 some)))
popped old new (Some node) some only list inside empty = (node, list, inside)

-- a node that is put in stands at the end of the list, if it is new
pub grown : (result : Bool) (node : ℕ) (old new : List ℕ) → OnTrue result (new ≡ old ++ node ∷ []) → OnFalse result (new ≡ old) →
    (more : List ℕ) × (new ≡ old ++ more)
grown true node old new is_new same = (node ∷ [], is_new)
grown false node old new is_new same = ([], same ∙ sym (append-nil old))

-- so do more of them
pub grown_more : (old mid new : List ℕ) → (more : List ℕ) × (mid ≡ old ++ more) → (more : List ℕ) × (new ≡ mid ++ more) → (more : List ℕ) × (new ≡ old ++ more)
grown_more old mid new (first_ones, first_is) (then_ones, then_is) =
    (first_ones ++ then_ones, then_is ∙ (ap (λ xs. xs ++ then_ones) first_is ∙ append_assoc old first_ones then_ones))

-- whether it is current doesn't matter
pub AreNear-current : (parts : List MachinePart) (owners : List (Option ℕ)) (near : Near) (current : Bool) → AreNear parts owners near →
    AreNear parts owners (record near { is_current = current })
AreNear-current parts owners near current are = record {
  counted = are.counted;
  started = are.started;
  room = are.room;
  start_room = are.start_room;
  all = are.all;
  starts = λ place inside. let was = are.starts place inside in record { most = was.most; all = was.all };
  order = are.order;
}

-- near no part are the nodes without an owner
pub AreNear-none : (parts : List MachinePart) (owners : List (Option ℕ)) (near : Near) → length near.nodes.inside ≡ length owners →
    length parts ≤ vec_capacity near.parts → length parts ≤ vec_capacity near.starts → near.parts.items ≡ [] → near.starts.items ≡ [] →
    ((node : ℕ) → node < length owners → IsIn near.nodes.inside node ↔ (slice_index_or owners node None ≡ None)) → AreNear parts owners near
AreNear-none parts owners near counted room start_room empty none_started unowned = record {
  counted = counted;
  started = ap length none_started ∙ sym (ap length empty);
  room = room;
  start_room = start_room;
  all = λ node inside.
      subst (λ xs. IsIn near.nodes.inside node ↔ IsNearTo parts owners xs node) (sym empty) (
        λ is. inl ((unowned node inside).0 is),
        λ near. elim near [ inl none ↦ (unowned node inside).1 none | inr one ↦ absurd (omega (arith, one.among.1)) ],
      );
  starts = λ place inside. absurd (omega (arith, inside, ap length empty));
  order = λ i j less inside. absurd (omega (arith, inside, ap length empty));
}

-- if there was no memory nothing is known
pub known : {E : Type 0} (parts : List MachinePart) (owners : List (Option ℕ)) (count : ℕ) (result : Result Near E) →
    IfOk result (λ near. (list : List MachinePart) → length list ≡ count → AreNear list owners near) → length parts ≡ count →
    AreNearIn parts owners (result_ok result)
known {E} parts owners count (Ok near) are counted = are parts counted
known {E} parts owners count (Err none) are counted = tt

-- of the nodes below one those without an owner are in, and none later
module _ (owners : List (Option ℕ)) (marks : List Bool) (at : ℕ)
    (so_far : (node : ℕ) → node < at → IsIn marks node ↔ (slice_index_or owners node None ≡ None)) (later : (node : ℕ) → at ≤ node → ¬ IsIn marks node) where
  -- the next one is put in, if it has none
  pub unowned_in : at < length marks → slice_index_or owners at None ≡ None →
      (node : ℕ) → node < at + 1 → IsIn (slice_set marks at true) node ↔ (slice_index_or owners node None ≡ None)
  unowned_in inside none node below = elim (cases_eq node at) [
    | inl same ↦ (
      λ marked. subst (λ n. slice_index_or owners n None ≡ None) (sym same) none,
      λ is. subst (IsIn (slice_set marks at true)) (sym same) (marked-set marks at inside),
    )
    | inr other ↦
        let before : node < at = omega (arith, below, other) in (
          λ marked. (so_far node before).0 (marked-other marks at node true other marked),
          λ is. marked-kept marks at node true other ((so_far node before).1 is),
        )
  ]

  pub later_in : (node : ℕ) → at + 1 ≤ node → ¬ IsIn (slice_set marks at true) node
  later_in node past marked =
      let other : node ≢ at = λ same. absurd (omega (arith, past, same)) in
      later node (omega (arith, past)) (marked-other marks at node true other marked)

  -- else it isn't
  pub owned_out : slice_index_or owners at None ≢ None →
      (node : ℕ) → node < at + 1 → IsIn marks node ↔ (slice_index_or owners node None ≡ None)
  owned_out some node below = elim (cases_eq node at) [
    | inl same ↦ (
      λ marked. absurd (later node (omega (arith, same)) marked),
      λ is. absurd (some (subst (λ n. slice_index_or owners n None ≡ None) same is)),
    )
    | inr other ↦ so_far node (omega (arith, below, other))
  ]

-- what isn't something is nothing
pub none_of : (owner : Option ℕ) → is_some owner ≡ false → owner ≡ None
none_of None is = refl
none_of (Some k) is = absurd (cc)

-- and something isn't nothing
pub some_of : (owner : Option ℕ) → is_some owner ≡ true → owner ≢ None
some_of owner is none = let unset : is_some owner ≡ false = ap is_some none in absurd (cc (is, unset))

-- the part that has a node as a member is one that it is of
of_member : (parts : List MachinePart) (these : List ℕ) (k node : ℕ) → HasMember parts k node → Contains these k → IsOfAny parts these node
of_member parts these k node has among =
    let members = has.part.members in
    let items = has.part.map.items in
    record {
      k = k;
      among = among;
      part = has.part;
      stands = has.stands;
      of = inl (
        has.place,
        omega (arith, has.member.inside, has.member.within, length-take members items),
        get_or-take members items has.place node has.member.inside ∙ (get_or_default items has.place node 0 has.member.within ∙ has.member.here),
      );
    }

-- a node that is far follows: it has an owner, which isn't apart
pub far_follows : (parts : List MachinePart) (count : ℕ) (owners : List (Option ℕ)) → AreOwners parts count owners → (changes : List Change) (apart : NodeSetData)
    (near : Option Near) → AreNearIn parts owners near → IfSome near (TellsOf changes apart) → (node : ℕ) → node < length owners → IsFar near node →
    FollowsAt owners apart.inside node
far_follows parts count owners owned changes apart None are tells node inside far = absurd far
far_follows parts count owners owned changes apart (Some near) are tells node inside (current, out) = by_owner (slice_index_or owners node None) refl
  where
    by_owner : (owner : Option ℕ) → slice_index_or owners node None ≡ owner → FollowsAt owners apart.inside node
    by_owner None none = absurd (out ((are.all node inside).1 (inl none)))
    by_owner (Some k) is = (
      k,
      is,
      λ marked.
          out ((are.all node inside).1 (inr (of_member parts near.parts.items k node (owned.member node k is) ((tells.parts current k).1 marked)))),
    )

-- and no part that is apart reads it
pub far_unread : (parts : List MachinePart) (marks waiting : List Bool) (count : ℕ) (readers : List (SmallVec ℕ)) (room : Rooms) →
    IsRunnable parts marks waiting count readers room → (owners : List (Option ℕ)) (changes : List Change) (apart : NodeSetData) (near : Option Near) →
    AreNearIn parts owners near → IfSome near (TellsOf changes apart) → (node : ℕ) → node < length owners → IsFar near node →
    (k : ℕ) → Contains (readers_of readers node) k → ¬ IsMarked apart.inside k
far_unread parts marks waiting count readers room runs owners changes apart None are tells node inside far k there marked = far
far_unread parts marks waiting count readers room runs owners changes apart (Some near) are tells node inside (current, out) k there marked =
    let reads = runs.reads node k there in
    let one : IsOfAny parts near.parts.items node =
    record { k = k; among = (tells.parts current k).1 marked; part = reads.part; stands = reads.stands; of = inr reads.reads } in
    out ((are.all node inside).1 (inr one))

module _ (parts : List MachinePart) (marks waiting : List Bool) (count : ℕ) (readers : List (SmallVec ℕ)) (room : Rooms)
    (runs : IsRunnable parts marks waiting count readers room) where
  seat_at : (k : ℕ) (part : MachinePart) → Stands parts k part → IsSeated count room part
  seat_at k part stands = subst (IsSeated count room) stands.here (runs.seated k part stands.inside)

  -- what has readers is there
  read_there : (node k : ℕ) → Contains (readers_of readers node) k → node < count
  read_there node k there = elim (cases_lt node (length readers)) [
    | inl inside ↦ omega (arith, inside, runs.readers_counted)
    | inr past ↦
        let none : readers_of readers node ≡ [] =
        get_or_past (map (λ (list : SmallVec ℕ). list.items) readers) node []
        (omega (arith, past, length-map readers (λ (list : SmallVec ℕ). list.items))) in
        let (place, inside, here) = subst (λ xs. Contains xs k) none there in
        absurd (omega (arith, inside))
  ]

  -- what is of a part is there
  of_there : (k : ℕ) (part : MachinePart) → Stands parts k part → (node : ℕ) → IsOfPart part node → node < count
  of_there k part stands node of = elim of [
    | inl (place, inside, here) ↦
        let long = length-take part.members part.map.items in
        subst (λ n. n < count) (sym (get_or-take part.members part.map.items place node (omega (arith, inside, long))) ∙ here)
        ((seat_at k part stands).below place node (omega (arith, inside, long)))
    | inr reads ↦ read_there node k (runs.readers node k (record { part = part; stands = stands; reads = reads }))
  ]

  -- so the parts fit what is near
  pub fits_parts : (owners : List (Option ℕ)) → length owners ≡ count → (apart : List Bool) → length apart ≡ length parts → (near : Option Near) →
      AreNearIn parts owners near → IfSome near (FitsParts parts apart)
  fits_parts owners counted apart apart_counted None are = tt
  fits_parts owners counted apart apart_counted (Some near) are = record {
    counted = apart_counted;
    started = are.started;
    room = are.room;
    start_room = are.start_room;
    members = λ k part stands. (seat_at k part stands).members;
    inside = λ k part stands node of. omega (arith, of_there k part stands node of, counted, are.counted);
  }
