-- A machine in which a part lost its group, or a part for a new group came behind the others, can run.
use Rattle.std.proofs.Common.{◌≡◌, ◌≢◌, ℕ, zero, suc, ◌+◌, ◌<◌, ◌≤◌, Bool, true, false, cond, inl, inr, ◌⊎◌, List, [], ◌∷◌, ◌++◌, length, map, take, get_or, All, Option, None, Some, nat_lt, refl, sym, ap, subst, ◌∙◌, arith}
use Rattle.std.specs.Prelude.{Contains, slice_index, slice_index_or, slice_set}
use Rattle.std.proofs.lemmas.Bool.{cases_eq, cases_lt, lt-ltb}
use Rattle.std.proofs.lemmas.List.{get_or-set_same, get_or-set_other, get_or_default, get_or-take, get_or_past, length-map, length-set, length_push, length-take, take_all}
use Rattle.std.proofs.lemmas.List.Elements.{All-push}
use Rattle.std.proofs.lemmas.List.Sums.{sum_by-set, sum_by_push}
use Rattle.smallvec.specs.SmallVec.{SmallVec}
use Rattle.machine_parts.specs.declared.part.MachinePart.{MachinePart}
use Rattle.machine_parts.specs.Parts.{Stands, HasMember, ReadsAt, IsStale}
use Rattle.machine_parts.specs.Marking.{IsMarked, members_of}
use Rattle.machine_parts.specs.Evaluating.{Rooms, IsSeated}
use Rattle.machine_parts.specs.Running.{IsMachine}
use Rattle.machine_parts.specs.Readers.{readers_of, Unlists}
use Rattle.machine_parts.specs.Making.{Owns}
use Rattle.machine_laws.specs.Seating.{Disowns, IsVacant, IsStalePartOf, one_of}
use Rattle.machine_parts.proofs.PartLemmas.{same_part}
use Rattle.machine_parts.proofs.MarkLemmas.{marked-push, marked-push_cases, marked-last}
use Rattle.machine_parts.proofs.SetMarks.{marked-cleared, marked-cleared_was, marked-kept}
use Rattle.machine_parts.proofs.MakingLemmas.{member_at_front, front_of_member, contains_or_not}
use Rattle.machine_parts.proofs.MachineLemmas.{HaveSameReaders-refl, IsMachine-with}
use Rattle.machine_laws.proofs.SlotLemmas.{written, has_not_k, reads_not_k, stale_not_k, HasMember-was, ReadsAt-was, IsStale-was, HasMember-other, ReadsAt-other, IsStale-other, pushed, Stands-before, Stands-last, Stands-cases}

-- the members of a part are there
pub members_there : (count : ℕ) (part : MachinePart) → All (λ node. node < count) part.map.items → All (λ node. node < count) (take part.members part.map.items)
members_there count part below i d inside =
    let first : i < length part.map.items = omega (arith, inside, length-take part.members part.map.items) in
    let before : i < part.members = omega (arith, inside, length-take part.members part.map.items) in
    subst (λ node. node < count) (sym (get_or-take part.members part.map.items i d before)) (below i d first)

module _ (parts : List MachinePart) (marks waiting : List Bool) (count : ℕ) (lists : List (SmallVec ℕ)) (owners numbers : List (Option ℕ)) (held most : ℕ)
    (room : Rooms) (machine : IsMachine parts marks waiting count lists owners numbers held most room) where
  -- a part is seated
  pub seat_of : (k : ℕ) (part : MachinePart) → Stands parts k part → IsSeated count room part
  seat_of k part stands = subst (IsSeated count room) stands.here (machine.runs.seated k part stands.inside)

  -- what a part reads is there
  pub reads_there : (k : ℕ) (part : MachinePart) → Stands parts k part → All (λ node. node < count) part.reads.items
  reads_there k part stands i d inside =
      let node = get_or part.reads.items i d in
      let among : Contains part.reads.items node = (i, inside, get_or_default part.reads.items i node d inside) in
      let (j, within, here) = machine.runs.readers node k (record { part = part; stands = stands; reads = among }) in
      read_inside lists node j within machine.runs.readers_counted
    where
      read_inside : (lists : List (SmallVec ℕ)) (node j : ℕ) → j < length (readers_of lists node) → length lists ≡ count → node < count
      read_inside lists node j within counted =
          elim (cases_lt node (length lists)) [
            | inl inside ↦ omega (arith, inside, counted)
            | inr past ↦
                let none : readers_of lists node ≡ [] = get_or_past (map (λ (parts : SmallVec ℕ). parts.items) lists) node [] (omega (arith, past, length-map lists (λ (parts : SmallVec ℕ). parts.items))) in
                absurd (omega (arith, within, ap length none))
          ]

  module _ (k : ℕ) (part : MachinePart) (stands : Stands parts k part) (e : MachinePart) (vacant : IsVacant e) (lists' : List (SmallVec ℕ))
      (owners' : List (Option ℕ)) (disowns : Disowns (take part.members part.map.items) owners owners')
      (unlists : Unlists k part.reads.items lists lists') (held' most' : ℕ) (held_is : held' + one_of part ≡ held)
      (most_is : most' + part.members ≡ most) where
    few : part.members ≤ length part.map.items
    few = (seat_of k part stands).members

    vacant_seat : IsSeated count room e
    vacant_seat = record {
      below = λ i d inside. absurd (omega (arith, inside, ap length vacant.map));
      members = omega (arith, vacant.members);
      apart = λ i j i_inside j_inside same. absurd (omega (arith, i_inside, ap length vacant.map));
      coded = λ code is.
          let both : None ≡ Some code = sym vacant.code ∙ is in
          absurd cc;
    }

    seated_now : All (IsSeated count room) (written parts k e stands.inside)
    seated_now l d inside =
        elim (cases_eq l k) [
          | inl same ↦
              let here : get_or (slice_set parts k e) l d ≡ e =
              ap (λ n. get_or (slice_set parts k e) n d) same ∙ get_or-set_same parts k e d stands.inside in
              subst (IsSeated count room) (sym here) vacant_seat
          | inr differs ↦
              subst (IsSeated count room) (sym (get_or-set_other parts k l e d differs))
              (machine.runs.seated l d (omega (arith, inside, length-set parts k e)))
        ]

    not_waiting : (l : ℕ) → IsMarked (slice_set waiting k false) l → l ≢ k
    not_waiting l waits same = marked-cleared waiting k (subst (IsMarked (slice_set waiting k false)) same waits)

    reads_then : (node l : ℕ) → Contains (readers_of lists' node) l → (ReadsAt parts l node) × (l ≢ k)
    reads_then node l there =
        let reads = machine.runs.reads node l (unlists.only node l there) in (
          reads,
          λ same.
              let reads_k = subst (λ n. ReadsAt parts n node) same reads in
              let is = same_part parts k reads_k.part part reads_k.stands stands in
              let among = subst (λ (p : MachinePart). Contains p.reads.items node) is reads_k.reads in
              unlists.gone node among (subst (Contains (readers_of lists' node)) same there),
        )

    owner_then : (node l : ℕ) → slice_index_or owners' node None ≡ Some l → (HasMember parts l node) × (l ≢ k)
    owner_then node l is =
        elim (contains_or_not (take part.members part.map.items) node) [
          | inl there ↦
              let both : None ≡ Some l = sym (disowns.gone node there) ∙ is in
              absurd cc
          | inr none ↦
              let has = machine.own.member node l (sym (disowns.stays node none) ∙ is) in
              (has, λ same. none (front_of_member parts k part stands few node (subst (λ n. HasMember parts n node) same has)))
        ]

    pub IsMachine-vacated : IsMachine (slice_set parts k e) marks (slice_set waiting k false) count lists' owners' (slice_set numbers k None) held' most' room
    IsMachine-vacated =
        let inside = stands.inside in
        let members = sum_by-set members_of parts k e part inside in
        let ones = sum_by-set one_of parts k e part inside in
        let no_members : members_of e ≡ 0 = vacant.members in
        let no_one : one_of e ≡ 0 = ap (λ n. cond (nat_lt 0 n) 1 0) vacant.members in
        let members_was : members_of (get_or parts k part) ≡ part.members = ap members_of stands.here in
        let one_was : one_of (get_or parts k part) ≡ one_of part = ap one_of stands.here in
        record {
          runs = record {
            counted = machine.runs.counted ∙ sym (length-set parts k e);
            seated = seated_now;
            apart = λ l j node one two.
                machine.runs.apart l j node (HasMember-was parts k e inside vacant l node one) (HasMember-was parts k e inside vacant j node two);
            waits = λ l waits.
                IsStale-other parts k e inside l (not_waiting l waits) (machine.runs.waits l (marked-cleared_was waiting k l waits));
            stale = λ l stale.
                marked-kept waiting k l false (stale_not_k parts k e inside vacant l stale)
                (machine.runs.stale l (IsStale-was parts k e inside vacant l stale));
            readers_counted = unlists.count ∙ machine.runs.readers_counted;
            readers = λ node l reads.
                unlists.stays node l (machine.runs.readers node l (ReadsAt-was parts k e inside vacant l node reads))
                (reads_not_k parts k e inside vacant l node reads);
            reads = λ node l there. let (reads, differs) = reads_then node l there in ReadsAt-other parts k e inside l node differs reads;
            changes_room = omega (arith, machine.runs.changes_room, members, no_members);
            parts_room = omega (arith, machine.runs.parts_room, length-set parts k e);
          };
          own = record {
            counted = disowns.count ∙ machine.own.counted;
            owner = λ node l has.
                let was = HasMember-was parts k e inside vacant l node has in
                let differs = has_not_k parts k e inside vacant l node has in
                let none : ¬ Contains (take part.members part.map.items) node = λ there.
                differs (machine.runs.apart l k node was (member_at_front parts k part stands few node there)) in
                disowns.stays node none ∙ machine.own.owner node l was;
            member = λ node l is. let (has, differs) = owner_then node l is in HasMember-other parts k e inside l node differs has;
          };
          numbered = omega (arith, machine.numbered, length-set parts k e, length-set numbers k None);
          number = omega (arith, machine.number, ones, no_one, one_was, held_is);
          most_members = omega (arith, machine.most_members, members, no_members, members_was, most_is);
          most_room = omega (arith, machine.most_room, most_is);
        }

  -- the machine has more room, and more places for texts
  pub IsMachine-roomier : (numbers' : List (Option ℕ)) (room' : Rooms) → length numbers ≤ length numbers' → room'.values ≡ room.values →
      room.changes ≤ room'.changes → room.parts ≤ room'.parts → IsMachine parts marks waiting count lists owners numbers' held most room'
  IsMachine-roomier numbers' room' more values changes parts_more =
      IsMachine-with parts marks marks waiting count lists lists owners numbers numbers' held most room room' refl (HaveSameReaders-refl lists) more
      (omega (arith, values)) changes parts_more machine

  module _ (members : List ℕ) (e : MachinePart) (is_new : IsStalePartOf members e) (some : 0 < length members)
      (inside : All (λ node. node < count) members)
      (once : (i j : ℕ) → i < length members → j < length members → slice_index members i ≡ slice_index members j → i ≡ j)
      (free : (k node : ℕ) → Contains members node → ¬ HasMember parts k node) (owners' : List (Option ℕ))
      (owns : Owns (length parts) members owners owners') (numbers' : List (Option ℕ)) (more : length numbers' ≡ length numbers + 1)
      (most_room : most + length members ≤ room.changes) (parts_room : length parts + 1 ≤ room.parts) (waiting_counted : length waiting ≡ length parts) where
    new_seat : IsSeated count room e
    new_seat = record {
      below = subst (All (λ node. node < count)) (sym is_new.map) inside;
      members = omega (arith, is_new.members, ap length is_new.map);
      apart = λ i j i_inside j_inside same.
          once i j (omega (arith, i_inside, ap length is_new.map)) (omega (arith, j_inside, ap length is_new.map))
          (subst (λ xs. slice_index xs i ≡ slice_index xs j) is_new.map same);
      coded = λ code is.
          let both : None ≡ Some code = sym is_new.code ∙ is in
          absurd cc;
    }

    few' : e.members ≤ length e.map.items
    few' = new_seat.members

    all_members : take e.members e.map.items ≡ members
    all_members = ap (take e.members) is_new.map ∙ take_all e.members members (omega (arith, is_new.members))

    -- the members of the new part are these nodes
    new_member : (node : ℕ) → HasMember (pushed parts e) (length parts) node → Contains members node
    new_member node has =
        subst (λ xs. Contains xs node) all_members (front_of_member (pushed parts e) (length parts) e (Stands-last parts e) few' node has)

    old_member : (l node : ℕ) → HasMember (pushed parts e) l node → (HasMember parts l node) ⊎ ((l ≡ length parts) × Contains members node)
    old_member l node has =
        elim (Stands-cases parts e l has.part has.stands) [
          | inl before ↦ inl (record { part = has.part; stands = before; place = has.place; member = has.member })
          | inr (last, is) ↦ inr (last, new_member node (subst (λ n. HasMember (pushed parts e) n node) last has))
        ]

    kept_member : (l node : ℕ) → HasMember parts l node → HasMember (pushed parts e) l node
    kept_member l node has = record { part = has.part; stands = Stands-before parts e l has.part has.stands; place = has.place; member = has.member }

    last_stale : (l : ℕ) → l ≡ length parts → IsStale (pushed parts e) l
    last_stale l last = record {
      part = e;
      stands = subst (λ n. Stands (pushed parts e) n e) (sym last) (Stands-last parts e);
      some = omega (arith, some, is_new.members);
      none = is_new.code;
    }

    owner_now : (node l : ℕ) → slice_index_or owners' node None ≡ Some l → HasMember (pushed parts e) l node
    owner_now node l is =
        elim (contains_or_not members node) [
          | inl there ↦
              let both : Some (length parts) ≡ Some l = sym (owns.owned node there) ∙ is in
              let last : length parts ≡ l = cc in
              let front : Contains (take e.members e.map.items) node = subst (λ xs. Contains xs node) (sym all_members) there in
              subst (λ n. HasMember (pushed parts e) n node) last
              (member_at_front (pushed parts e) (length parts) e (Stands-last parts e) few' node front)
          | inr none ↦ kept_member l node (machine.own.member node l (sym (owns.stays node none) ∙ is))
        ]

    pub IsMachine-seated : IsMachine (pushed parts e) (marks ++ true ∷ []) (waiting ++ true ∷ []) count lists owners' numbers' (held + 1)
        (most + length members) room
    IsMachine-seated =
        let sum_more = sum_by_push members_of parts e in
        let ones_more = sum_by_push one_of parts e in
        let one : one_of e ≡ suc zero = ap (λ b. cond b 1 0) (lt-ltb 0 e.members (omega (arith, some, is_new.members))) in
        let members_are : members_of e ≡ length members = is_new.members in
        record {
          runs = record {
            counted = omega (arith, machine.runs.counted, length_push marks true, length_push parts e);
            seated = All-push (IsSeated count room) parts e machine.runs.seated new_seat;
            apart = λ l j node first second.
                elim (old_member l node first) [
                  | inl was ↦
                      elim (old_member j node second) [
                        | inl was_too ↦ machine.runs.apart l j node was was_too
                        | inr (last, there) ↦ absurd (free l node there was)
                      ]
                  | inr (last, there) ↦
                      elim (old_member j node second) [
                        | inl was_too ↦ absurd (free j node there was_too)
                        | inr (last_too, there_too) ↦ last ∙ sym last_too
                      ]
                ];
            waits = λ l waits.
                elim (marked-push_cases waiting l waits) [
                  | inl before ↦
                      let stale = machine.runs.waits l before in
                      record { part = stale.part; stands = Stands-before parts e l stale.part stale.stands; some = stale.some; none = stale.none }
                  | inr last ↦ last_stale l (last ∙ waiting_counted)
                ];
            stale = λ l stale.
                elim (Stands-cases parts e l stale.part stale.stands) [
                  | inl before ↦
                      marked-push waiting l (machine.runs.stale l (record { part = stale.part; stands = before; some = stale.some; none = stale.none }))
                  | inr (last, is) ↦ subst (IsMarked (waiting ++ true ∷ [])) (sym (last ∙ sym waiting_counted)) (marked-last waiting)
                ];
            readers_counted = machine.runs.readers_counted;
            readers = λ node l reads.
                elim (Stands-cases parts e l reads.part reads.stands) [
                  | inl before ↦ machine.runs.readers node l (record { part = reads.part; stands = before; reads = reads.reads })
                  | inr (last, is) ↦
                      let (i, within, here) = subst (λ xs. Contains xs node) (ap (λ (part : MachinePart). part.reads.items) is ∙ is_new.reads) reads.reads in
                      absurd (omega (arith, within))
                ];
            reads = λ node l there.
                let reads = machine.runs.reads node l there in
                record { part = reads.part; stands = Stands-before parts e l reads.part reads.stands; reads = reads.reads };
            changes_room = omega (arith, machine.most_members, sum_more, members_are, most_room);
            parts_room = omega (arith, length_push parts e, parts_room);
          };
          own = record {
            counted = owns.count ∙ machine.own.counted;
            owner = λ node l has.
                elim (old_member l node has) [
                  | inl was ↦ owns.stays node (λ there. free l node there was) ∙ machine.own.owner node l was
                  | inr (last, there) ↦ owns.owned node there ∙ ap Some (sym last)
                ];
            member = owner_now;
          };
          numbered = omega (arith, machine.numbered, length_push parts e, more);
          number = omega (arith, machine.number, ones_more, one);
          most_members = omega (arith, machine.most_members, sum_more, members_are);
          most_room = most_room;
        }
