-- The lists that begin at the starts are all the lists that join the rails.
-- A list that begins at a group's first start and goes on with the first way down goes before each list of the group: it is as short as any,
-- since no start is nearer, and of those as short none begins at a lower place, nor goes on before it.
use Rattle.std.proofs.Common.{◌≡◌, ℕ, zero, suc, ◌+◌, ◌<◌, ◌≤◌, ◌⊎◌, inl, inr, List, [], ◌∷◌, length, map, get_or, Any, Contains, Option, Some, refl, sym, ap, ◌∙◌, subst, arith}
use Rattle.std.specs.List.Sorted.{IsStrictlyIncreasing}
use Rattle.std.proofs.lemmas.Bool.{cases_lt}
use Rattle.std.proofs.lemmas.List.{get_or-map, length-map}
use Rattle.std.proofs.lemmas.List.Elements.{Contains-get_or, All-contains}
use Rattle.switch_paths.specs.declared.switching.Switch.{Switch}
use Rattle.switch_paths.specs.declared.TheConstants.{GND, VDD}
use Rattle.switch_paths.specs.Graphs.{GraphData, IsStorage}
use Rattle.switch_paths.specs.Path.{Joins}
use Rattle.group_meaning.specs.Groups.{Group, IsGroup, AreGroups, TouchesAny}
use Rattle.group_meaning.proofs.GroupLemmas.{member_storage}
use Rattle.group_meaning.proofs.UniqueGroups.{same_by_member}
use Rattle.circuit_lint.specs.declared.starts.Start.{Start}
use Rattle.circuit_lint.specs.Conducting.{IsClosedAcross}
use Rattle.circuit_lint.specs.Shorts.{LeadsDown, JoinsRails, GoesBefore, IsShortOf, IsShort, first_of, AreShorts}
use Rattle.circuit_lint.specs.Distances.{distance_at, AreDistances, IsFound}
use Rattle.circuit_lint.specs.Starts.{IsStartAt, IsFirstStart, BeginsShort, AreStarts}
use Rattle.circuit_lint.specs.Ways.{IsWayFrom, AreWays}
use Rattle.circuit_lint.proofs.ClosedLemmas.{some_same, across_same}
use Rattle.circuit_lint.proofs.WayLemmas.{same_by_order, not_longer, first_of_equal, first_length}

-- an item of a list, whatever stands for those past it
item_same : {X : Type 0} (xs : List X) (k : ℕ) (d e : X) → k < length xs → get_or xs k d ≡ get_or xs k e
item_same [] k d e inside = absurd (omega (arith, inside))
item_same (x ∷ xs) zero d e inside = refl
item_same (x ∷ xs) (suc k) d e inside = item_same xs k d e (omega (arith, inside))

module _ (g : GraphData) (distance : List (Option ℕ)) (are : AreDistances g distance) (vdd : ¬ IsStorage g VDD) where
  -- a switch from Vdd to a member is one of the group's
  among : (group : Group) → IsGroup g group → (place node : ℕ) → Contains group.members node → IsClosedAcross g place VDD node → Contains group.switches place
  among group is place node member enters = (is.switches place).1 (record { switch = enters.switch; at_place = enters.at_place; touches = by enters.joins })
    where
      by : Joins enters.switch VDD node → Contains group.members enters.switch.a ⊎ Contains group.members enters.switch.b
      by (inl one) = inr (subst (Contains group.members) (sym one.1) member)
      by (inr one) = inl (subst (Contains group.members) (sym one.1) member)

  -- and one of the group's from Vdd leads to a member
  to_member : (group : Group) → IsGroup g group → (place node : ℕ) → Contains group.switches place → IsClosedAcross g place VDD node → Contains group.members node
  to_member group is place node there enters = by touch.touches joins
    where
      touch : TouchesAny g group.members place
      touch = (is.switches place).0 there

      joins : Joins touch.switch VDD node
      joins = subst (λ (s : Switch). Joins s VDD node) (some_same (sym enters.at_place ∙ touch.at_place)) enters.joins

      no_rail : Contains group.members VDD → ⊥
      no_rail member = vdd (member_storage g group is VDD member)

      by : Contains group.members touch.switch.a ⊎ Contains group.members touch.switch.b → Joins touch.switch VDD node → Contains group.members node
      by (inl at_a) (inl one) = absurd (no_rail (subst (Contains group.members) one.0 at_a))
      by (inl at_a) (inr one) = subst (Contains group.members) one.1 at_a
      by (inr at_b) (inl one) = subst (Contains group.members) one.1 at_b
      by (inr at_b) (inr one) = absurd (no_rail (subst (Contains group.members) one.0 at_b))

  -- the list that begins at the group's first start goes before each of the group's
  module _ (group : Group) (is : IsGroup g group) (start : Start) (first : IsFirstStart g distance group.switches start) (way : List ℕ)
      (from : IsWayFrom g start.place way) where
    meets : from.node ≡ first.is.node
    meets = across_same g start.place VDD from.node first.is.node from.enters first.is.enters

    at : distance_at distance from.node ≡ Some start.distance
    at = ap (distance_at distance) meets ∙ first.is.far_is

    joins_rails : JoinsRails g group way
    joins_rails = record {
      first = start.place;
      rest = from.rest;
      splits = from.splits;
      node = from.node;
      member = to_member group is start.place from.node first.among from.enters;
      enters = from.enters;
      down = from.is.down;
    }

    count : length from.rest ≡ start.distance
    count = first_length g distance are from.node start.distance from.rest at from.is

    goes : (others : List ℕ) (other : JoinsRails g group others) → GoesBefore (start.place ∷ from.rest) (other.first ∷ other.rest)
    goes others other =
        let least = are.least other.node other.rest other.down in
        let leads : IsStartAt g distance other.first least.0 = record { node = other.node; enters = other.enters; far_is = least.1 } in
        elim (first.first other.first least.0 (among group is other.first other.node other.member other.enters) leads) [
          | inl near ↦ inl (omega (arith, near, least.2, count))
          | inr level ↦
              elim (cases_lt start.distance (length other.rest)) [
                | inl shorter ↦ inl (omega (arith, shorter, count))
                | inr as_long ↦
                    let equal : length from.rest ≡ length other.rest = omega (arith, as_long, level.0, least.2, count) in
                    inr (
                      omega (arith, equal),
                      elim (cases_lt start.place other.first) [
                        | inl lower ↦ inl lower
                        | inr not_lower ↦
                            let one : start.place ≡ other.first = omega (arith, level.1, not_lower) in
                            let meet : from.node ≡ other.node =
                            across_same g other.first VDD from.node other.node (subst (λ (p : ℕ). IsClosedAcross g p VDD from.node) one from.enters) other.enters in
                            inr (one, first_of_equal from.rest other.rest equal (from.is.first other.rest (subst (LeadsDown g other.rest) (sym meet) other.down)))
                      ],
                    )
              ]
        ]

    pub IsShortOf-way : IsShortOf g group way
    IsShortOf-way = record {
      joins = joins_rails;
      first = λ others other.
          subst (λ (xs : List ℕ). GoesBefore xs others) (sym from.splits)
          (subst (GoesBefore (start.place ∷ from.rest)) (sym other.splits) (goes others other));
    }

  -- the list that begins at a switch between the rails is that switch alone
  alone : (place : ℕ) (way : List ℕ) → IsClosedAcross g place VDD GND → IsWayFrom g place way → way ≡ place ∷ []
  alone place way joined from = from.splits ∙ ap (λ rest. place ∷ rest) (none from.rest shortest)
    where
      meets : from.node ≡ GND
      meets = across_same g place VDD from.node GND from.enters joined

      shortest : length from.rest ≤ 0
      shortest = not_longer from.rest [] (from.is.first [] meets)

      none : (rest : List ℕ) → length rest ≤ 0 → rest ≡ []
      none [] short = refl
      none (place ∷ places) short = absurd (omega (arith, short))

  -- so these lists are those that join the rails
  module _ (groups : List Group) (all : AreGroups g groups) (starts : List ℕ) (begins : AreStarts g distance groups starts) (ascending : IsStrictlyIncreasing starts)
      (ways : List (List ℕ)) (made : AreWays g starts ways) where
    abbrev way_at : ℕ → List ℕ
    way_at k = get_or ways k []

    IsShort-at : (k : ℕ) → k < length starts → IsShort g (way_at k)
    IsShort-at k inside = by (begins.only (get_or starts k 0) (Contains-get_or starts k 0 inside))
      where
        by : BeginsShort g distance groups (get_or starts k 0) → IsShort g (way_at k)
        by (inl joined) = inl (record { place = get_or starts k 0; alone = alone (get_or starts k 0) (way_at k) joined (made.each k inside); joins = joined })
        by (inr (group, there, (start, first, same))) =
            let is : IsGroup g group = All-contains (IsGroup g) groups group all.each there in
            inr (group, is, IsShortOf-way group is start first (way_at k) (subst (λ (p : ℕ). IsWayFrom g p (way_at k)) (sym same) (made.each k inside)))

    -- a start's list is among them
    there : (k : ℕ) (way : List ℕ) → k < length starts → way_at k ≡ way → Contains ways way
    there k way inside same =
        let within : k < length ways = omega (arith, inside, made.count) in
        (k, within, item_same ways k way [] within ∙ same)

    whole : (places : List ℕ) → IsShort g places → Contains ways places
    whole places (inl one) =
        let spot = begins.all one.place (inl one.joins) in
        let here : get_or starts spot.0 0 ≡ one.place = item_same starts spot.0 0 one.place spot.1 ∙ spot.2 in
        there spot.0 places spot.1
        (alone one.place (way_at spot.0) one.joins (subst (λ (p : ℕ). IsWayFrom g p (way_at spot.0)) here (made.each spot.0 spot.1)) ∙ sym one.alone)
    whole places (inr (group, is, short)) = by (first_of_group short.joins)
      where
        -- the group is one of these, and has a start
        first_of_group : JoinsRails g group places → (k : ℕ) × (k < length starts) × IsShortOf g group (way_at k)
        first_of_group joins = found_in (all.whole joins.node (member_storage g group is joins.node joins.member))
          where
            found_in : Any (λ (one : Group). Contains one.members joins.node) groups → (k : ℕ) × (k < length starts) × IsShortOf g group (way_at k)
            found_in found =
                let here : Contains groups found.1 = (found.0, found.2, found.3) in
                let other : IsGroup g found.1 = All-contains (IsGroup g) groups found.1 all.each here in
                let same : found.1 ≡ group = same_by_member g found.1 group other is joins.node found.4 joins.member in
                let within : Contains groups group = subst (Contains groups) same here in
                let least = are.least joins.node joins.rest joins.down in
                let leads : IsStartAt g distance joins.first least.0 = record { node = joins.node; enters = joins.enters; far_is = least.1 } in
                let start = begins.some group joins.first least.0 within (among group is joins.first joins.node joins.member joins.enters) leads in
                let spot = begins.all start.0.place (inr (group, within, (start.0, start.1, refl))) in
                let first : get_or starts spot.0 0 ≡ start.0.place = item_same starts spot.0 0 start.0.place spot.1 ∙ spot.2 in
                (spot.0, spot.1, IsShortOf-way group is start.0 start.1 (way_at spot.0) (subst (λ (p : ℕ). IsWayFrom g p (way_at spot.0)) first (made.each spot.0 spot.1)))

        by : (k : ℕ) × (k < length starts) × IsShortOf g group (way_at k) → Contains ways places
        by (k, inside, other) = there k places inside (same_by_order (way_at k) places (other.first places short.joins) (short.first (way_at k) other.joins))

    -- each list begins at its start
    begins_at : (k : ℕ) → k < length starts → get_or (map first_of ways) k 0 ≡ get_or starts k 0
    begins_at k inside =
        get_or-map first_of ways k [] 0 (omega (arith, inside, made.count)) ∙ ap first_of (made.each k inside).splits

    pub AreShorts-all : AreShorts g ways
    AreShorts-all = record {
      each = λ k d inside. subst (IsShort g) (item_same ways k [] d inside) (IsShort-at k (omega (arith, inside, made.count)));
      whole = whole;
      ascending = λ k inside.
          let count = length-map ways first_of in
          omega (
            arith,
            begins_at k (omega (arith, inside, count, made.count)),
            begins_at (k + 1) (omega (arith, inside, count, made.count)),
            ascending k (omega (arith, inside, count, made.count)),
          );
    }

-- from each of the starts a way leads down
pub start_leads : (g : GraphData) (distance : List (Option ℕ)) (groups : List Group) (starts : List ℕ) → AreDistances g distance → AreStarts g distance groups starts →
    (place : ℕ) → Contains starts place → (node : ℕ) × IsClosedAcross g place VDD node × IsFound distance node
start_leads g distance groups starts are begins place there = by (begins.only place there)
  where
    by : BeginsShort g distance groups place → (node : ℕ) × IsClosedAcross g place VDD node × IsFound distance node
    by (inl joined) = let least = are.least GND [] refl in (GND, joined, (least.0, least.1))
    by (inr (group, within, (start, first, same))) =
        (first.is.node, subst (λ (p : ℕ). IsClosedAcross g p VDD first.is.node) same first.is.enters, (start.distance, first.is.far_is))
