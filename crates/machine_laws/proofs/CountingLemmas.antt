-- As many parts have members as there are groups.
use Rattle.std.proofs.Common.{◌≡◌, ℕ, zero, suc, ◌<◌, true, false, cond, if◌then◌else◌, inl, inr, List, [], ◌∷◌, length, map, nat_eq, refl, sym, ap, subst, ◌∙◌, Some, arith}
use Rattle.std.specs.Prelude.{Contains, count_by, slice_get, slice_index}
use Rattle.std.specs.List.{IsDistinct, sum_by}
use Rattle.std.proofs.lemmas.Bool.{cases_Bool, lt-ltb, ltb-true}
use Rattle.std.proofs.lemmas.Bool.Decides.{Decides-eqb}
use Rattle.std.proofs.lemmas.Option.{slice_get_read, get_or_from_slice_get}
use Rattle.std.proofs.lemmas.List.{length-map, length-take}
use Rattle.std.proofs.lemmas.List.Elements.{recursion_from_All}
use Rattle.std.proofs.lemmas.List.Kept.{AllPairs-from_increasing}
use Rattle.std.proofs.lemmas.List.Sums.{sum_by-cons}
use Rattle.std.proofs.lemmas.Map.Made.{IsDistinct-from_AllPairs}
use Rattle.std.proofs.lemmas.Map.Keys.{IsDistinct-cons}
use Rattle.list_facts.proofs.ContainsLemmas.{Contains-cons_cases, Contains-cons_first, Contains-cons_later, unlike}
use Rattle.switch_paths.specs.Graphs.{GraphData}
use Rattle.group_meaning.specs.Groups.{Group, AreGroups, id_of}
use Rattle.group_meaning.proofs.MappedLists.{contains-map, contains-from_map}
use Rattle.channel_groups.proofs.CountLemmas.{length-le_from_contained}
use Rattle.machine_parts.specs.declared.part.MachinePart.{MachinePart}
use Rattle.machine_parts.specs.Parts.{Stands, HasMember, AreApart, has_members}
use Rattle.machine_laws.specs.Seating.{one_of}
use Rattle.machine_laws.specs.Fitting.{IsPartOf, HasPart}
use Rattle.machine_laws.proofs.PartGroups.{member_from_part}
use Rattle.machine_laws.proofs.KeptLemmas.{group_there}

-- the first member of a part
abbrev first_of : MachinePart → ℕ
first_of part = slice_index part.map.items 0

-- the first members of the parts that have some
abbrev firsts : List MachinePart → List ℕ
firsts [] = []
firsts (part ∷ parts) = if has_members part then first_of part ∷ firsts parts else firsts parts

firsts_some : (part : MachinePart) (parts : List MachinePart) → has_members part ≡ true → firsts (part ∷ parts) ≡ first_of part ∷ firsts parts
firsts_some part parts some = rw some refl

firsts_none : (part : MachinePart) (parts : List MachinePart) → has_members part ≡ false → firsts (part ∷ parts) ≡ firsts parts
firsts_none part parts none = rw none refl

length-firsts : (parts : List MachinePart) → length (firsts parts) ≡ sum_by one_of parts
length-firsts [] = refl
length-firsts (part ∷ parts) =
    elim (cases_Bool (has_members part)) [
      | inl some ↦
          let one : one_of part ≡ 1 = ap (λ b. cond b 1 0) some in
          omega (arith, ap length (firsts_some part parts some), length-firsts parts, sum_by-cons one_of part parts, one)
      | inr none ↦
          let no : one_of part ≡ 0 = ap (λ b. cond b 1 0) none in
          omega (arith, ap length (firsts_none part parts none), length-firsts parts, sum_by-cons one_of part parts, no)
    ]

-- a part that passes the test has members
has_some : (part : MachinePart) → has_members part ≡ true → 0 < part.members
has_some part is = ltb-true 0 part.members is

-- a part behind the first one
Stands-later : (first : MachinePart) (parts : List MachinePart) (k : ℕ) (part : MachinePart) → Stands parts k part →
    Stands (first ∷ parts) (suc k) part
Stands-later first parts k part stands = record { inside = omega (arith, stands.inside); here = stands.here }

-- which has its first member
record IsFirst (parts : List MachinePart) (n : ℕ) : Type 0 where
  pub k : ℕ
  pub part : MachinePart
  pub stands : Stands parts k part
  pub some : 0 < part.members
  pub is : first_of part ≡ n

from_firsts : (parts : List MachinePart) (n : ℕ) → Contains (firsts parts) n → IsFirst parts n
from_firsts [] n there = absurd (omega (arith, there.1))
from_firsts (part ∷ parts) n there =
    let later : Contains (firsts parts) n → IsFirst (part ∷ parts) n =
    λ behind. let at = from_firsts parts n behind in record { k = suc at.k; part = at.part; stands = Stands-later part parts at.k at.part at.stands; some = at.some; is = at.is } in
    elim (cases_Bool (has_members part)) [
      | inr none ↦ later (subst (λ xs. Contains xs n) (firsts_none part parts none) there)
      | inl some ↦
          elim (Contains-cons_cases (first_of part) (firsts parts) n (subst (λ xs. Contains xs n) (firsts_some part parts some) there)) [
            | inl is ↦
                record { k = 0; part = part; stands = record { inside = omega arith; here = refl }; some = has_some part some; is = is }
            | inr behind ↦ later behind
          ]
    ]

in_firsts : (parts : List MachinePart) (k : ℕ) (part : MachinePart) → Stands parts k part → 0 < part.members → Contains (firsts parts) (first_of part)
in_firsts [] k part stands some = absurd (omega (arith, stands.inside))
in_firsts (first ∷ parts) zero part stands some =
    let is : first ≡ part = stands.here in
    subst (λ (one : MachinePart). Contains (firsts (first ∷ parts)) (first_of one)) is
    (subst (λ xs. Contains xs (first_of first)) (sym (firsts_some first parts (ap has_members is ∙ lt-ltb 0 part.members some)))
    (Contains-cons_first (first_of first) (firsts parts) (first_of first) refl))
in_firsts (first ∷ parts) (suc k) part stands some =
    let behind = in_firsts parts k part (record { inside = omega (arith, stands.inside); here = stands.here }) some in
    elim (cases_Bool (has_members first)) [
      | inr none ↦ subst (λ xs. Contains xs (first_of part)) (sym (firsts_none first parts none)) behind
      | inl has ↦ subst (λ xs. Contains xs (first_of part)) (sym (firsts_some first parts has)) (Contains-cons_later (first_of first) (firsts parts) (first_of part) behind)
    ]

-- each part with members has a first one
abbrev AreFull : List MachinePart → Type 0
AreFull parts = (k : ℕ) (part : MachinePart) → Stands parts k part → 0 < part.members → 0 < length part.map.items

first_member : (parts : List MachinePart) → AreFull parts → (k : ℕ) (part : MachinePart) → Stands parts k part → 0 < part.members →
    HasMember parts k (first_of part)
first_member parts full k part stands some =
    record { part = part; stands = stands; place = 0; member = record { inside = some; within = full k part stands some; here = refl } }

member_later : (first : MachinePart) (parts : List MachinePart) (k node : ℕ) → HasMember parts k node → HasMember (first ∷ parts) (suc k) node
member_later first parts k node has =
    record { part = has.part; stands = Stands-later first parts k has.part has.stands; place = has.place; member = has.member }

firsts-distinct : (parts : List MachinePart) → AreFull parts → AreApart parts → IsDistinct nat_eq (firsts parts)
unfolding IsDistinct
firsts-distinct [] full apart = tt
firsts-distinct (part ∷ parts) full apart =
    let tail_full : AreFull parts = λ k one stands some. full (suc k) one (Stands-later part parts k one stands) some in
    let tail_apart : AreApart parts = λ k l node has too.
    let same = apart (suc k) (suc l) node (member_later part parts k node has) (member_later part parts l node too) in
    omega (arith, same) in
    let tail = firsts-distinct parts tail_full tail_apart in
    elim (cases_Bool (has_members part)) [
      | inr none ↦ subst (IsDistinct nat_eq) (sym (firsts_none part parts none)) tail
      | inl some ↦
          let none_again : ¬ Contains (firsts parts) (first_of part) = λ there.
          let at = from_firsts parts (first_of part) there in
          let here = first_member (part ∷ parts) full 0 part (record { inside = omega arith; here = refl }) (has_some part some) in
          let again = member_later part parts at.k (first_of part) (subst (HasMember parts at.k) at.is (first_member parts tail_full at.k at.part at.stands at.some)) in
          let same = apart 0 (suc at.k) (first_of part) here again in
          omega (arith, same) in
          subst (IsDistinct nat_eq) (sym (firsts_some part parts some))
          (IsDistinct-cons nat_eq (first_of part) (firsts parts)
          (recursion_from_All (λ y. nat_eq (first_of part) y ≡ false) (firsts parts) (unlike (first_of part) (firsts parts) none_again)) tail)
    ]

module _ (g : GraphData) (groups : List Group) (are : AreGroups g groups) (parts : List MachinePart)
    (each : (i : ℕ) (group : Group) → slice_get groups i ≡ Some group → HasPart g parts group)
    (whole : (k : ℕ) (part : MachinePart) → Stands parts k part → 0 < part.members → (group : Group) × IsPartOf g group part)
    (apart : AreApart parts) where
  full : AreFull parts
  full k part stands some =
      let (group, is_part) = whole k part stands some in
      omega (arith, length-take part.members part.map.items, ap length is_part.members, is_part.is_group.some)

  -- the first member of a group's part is the group's least node
  first_is_id : (group : Group) (part : MachinePart) (k : ℕ) → Stands parts k part → 0 < part.members → IsPartOf g group part → id_of group ≡ first_of part
  first_is_id group part k stands some is_part =
      member_from_part g group part is_part 0 (first_of part) (record { inside = some; within = full k part stands some; here = refl })

  firsts_are_ids : (n : ℕ) → Contains (firsts parts) n → Contains (map id_of groups) n
  firsts_are_ids n there =
      let at = from_firsts parts n there in
      let (group, is_part) = whole at.k at.part at.stands at.some in
      let (i, inside, stands) = group_there g groups are group is_part.is_group in
      subst (Contains (map id_of groups)) (first_is_id group at.part at.k at.stands at.some is_part ∙ at.is)
      (contains-map id_of groups i group inside (get_or_from_slice_get groups i group group stands))

  ids_are_firsts : (n : ℕ) → Contains (map id_of groups) n → Contains (firsts parts) n
  ids_are_firsts n there =
      let any = contains-from_map id_of groups n there in
      let group = any.1 in
      let has = each any.0 group (slice_get_read groups (length groups) any.0 group refl any.2 (sym any.3)) in
      let some : 0 < has.part.members = omega (arith, has.is_part.count, has.is_part.is_group.some) in
      subst (Contains (firsts parts)) (sym (first_is_id group has.part has.k has.stands some has.is_part) ∙ any.4) (in_firsts parts has.k has.part has.stands some)

  -- as many parts have members as there are groups
  pub count_parts : count_by has_members parts ≡ length groups
  count_parts =
      let ids = map id_of groups in
      let ids_distinct : IsDistinct nat_eq ids = IsDistinct-from_AllPairs Decides-eqb ids (λ i j d before inside same.
      omega (arith, same, AllPairs-from_increasing ids are.ascending i j d before inside)) in
      let most = length-le_from_contained (firsts parts) ids (firsts-distinct parts full apart) firsts_are_ids in
      let least = length-le_from_contained ids (firsts parts) ids_distinct ids_are_firsts in
      omega (arith, most, least, length-firsts parts, length-map groups id_of)
