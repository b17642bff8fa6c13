-- The texts of a machine's parts, in the order of the nodes at which the parts begin, are those of the graph's groups if the machine fits it.
use Rattle.std.proofs.Common.{None, ◌≡◌, ◌≢◌, ℕ, zero, suc, ◌<◌, List, [], ◌∷◌, length, map, Some, refl, sym, ap, ap₂, subst, ◌∙◌, arith}
use Rattle.std.specs.Prelude.{Contains, Option, slice_get, slice_index, slice_index_or}
use Rattle.std.specs.List.{AllZip}
use Rattle.std.proofs.lemmas.List.{get_or-take, length-take}
use Rattle.std.proofs.lemmas.Option.{slice_get_read, slice_get_within, get_or_from_slice_get}
use Rattle.switch_paths.specs.Graphs.{GraphData}
use Rattle.group_meaning.specs.Groups.{Group, IsGroup, id_of}
use Rattle.group_meaning.proofs.UniqueGroups.{same_by_id, unique}
use Rattle.group_meaning.proofs.AscendingLists.{same_ascending}
use Rattle.group_text.specs.Texts.{GroupTextData, text_of_group}
use Rattle.circuit_texts.specs.Sizes.{fault_in}
use Rattle.circuit_texts.specs.Told.{has_text, with_text, told}
use Rattle.circuit_texts.proofs.ToldLemmas.{text_from_fit, fit_from_text, ascending-filter}
use Rattle.circuit_texts.proofs.PairedLists.{partner_second}
use Rattle.machine_parts.specs.declared.part.MachinePart.{MachinePart}
use Rattle.machine_parts.specs.Parts.{IsMemberAt}
use Rattle.machine_laws.specs.Machines.{MachineData}
use Rattle.machine_laws.specs.Fitting.{IsPartOf, Covers, FitsGraph, AreTold}
use Rattle.machine_laws.specs.Beginnings.{Begins, AreInOrder, HasLast}
use Rattle.machine_laws.proofs.PartGroups.{member_from_part, some_members}
use Rattle.machine_laws.proofs.FilterLemmas.{filter_has, filter_keeps}
use Rattle.machine_laws.proofs.KeptLemmas.{group_there, made_at, numbered_told}
use Rattle.machine_laws.proofs.HeldLemmas.{held_at}
use Rattle.machine_laws.proofs.FittingLemmas.{fits_with}

-- the part of a group begins at the group's least node
pub first_member : (g : GraphData) (group : Group) (part : MachinePart) → IsPartOf g group part → IsMemberAt part 0 (id_of group)
first_member g group part is_part =
    let some = some_members is_part in
    let within : 0 < length part.map.items = omega (arith, length-take part.members part.map.items, ap length is_part.members, is_part.count, some) in
    record {
      inside = some;
      within = within;
      here = sym (get_or-take part.members part.map.items 0 0 some) ∙ ap (λ nodes. slice_index nodes 0) is_part.members;
    }

-- what stands at a place of a list is in it
at_Contains : {X : Type 0} (xs : List X) (i : ℕ) (x : X) → slice_get xs i ≡ Some x → Contains xs x
at_Contains xs i x at = (i, slice_get_within xs i x at, get_or_from_slice_get xs i x x at)

Contains-at : {X : Type 0} (xs : List X) (x : X) → Contains xs x → (i : ℕ) × (slice_get xs i ≡ Some x)
Contains-at xs x (i, inside, here) = (i, slice_get_read xs (length xs) i x refl inside (sym here))

-- what is made of an item stands in the list of what is made of all
map_item : {X Y : Type 0} (f : X → Y) (xs : List X) (i : ℕ) (y : Y) → slice_get (map f xs) i ≡ Some y → (x : X) × (slice_get xs i ≡ Some x) × (f x ≡ y)
map_item f [] i y at = absurd cc
map_item f (x ∷ xs) zero y at = let same : f x ≡ y = cc in (x, refl, same)
map_item f (x ∷ xs) (suc i) y at = map_item f xs i y at

-- texts that belong to the groups' least nodes, in order, are those of the groups
texts_along : (g : GraphData) (parts : List MachinePart) (uses : List (Option GroupTextData)) (groups : List Group) →
    ((i : ℕ) (group : Group) → slice_get groups i ≡ Some group → (text : GroupTextData) → Begins parts uses (id_of group) text → text ≡ text_of_group g group) →
    (places : List ℕ) (texts : List GroupTextData) → places ≡ map id_of groups → AllZip (Begins parts uses) places texts →
    texts ≡ map (text_of_group g) groups
texts_along g parts uses [] are [] [] same each = refl
texts_along g parts uses [] are [] (text ∷ texts) same each = absurd each
texts_along g parts uses [] are (place ∷ places) texts same each = absurd cc
texts_along g parts uses (group ∷ groups) are [] texts same each = absurd cc
texts_along g parts uses (group ∷ groups) are (place ∷ places) [] same each = absurd each
texts_along g parts uses (group ∷ groups) are (place ∷ places) (text ∷ texts) same each =
    let first : place ≡ id_of group = cc in
    let rest : places ≡ map id_of groups = cc in
    ap₂ (λ one more. one ∷ more) (are 0 group refl text (subst (λ node. Begins parts uses node text) first each.0))
    (texts_along g parts uses groups (λ i other at. are (suc i) other at) places texts rest each.1)

module _ (g : GraphData) (m : MachineData) (covers : Covers g m) (have_texts : AreTold g m) where
  abbrev all_groups : List Group
  all_groups = covers.groups.groups

  -- those that have a text
  abbrev groups : List Group
  groups = with_text all_groups

  is_group_at : (i : ℕ) (group : Group) → slice_get groups i ≡ Some group → Contains all_groups group × IsGroup g group × (fault_in group ≡ None)
  is_group_at i group at =
      let (there, has) = filter_has has_text all_groups group (at_Contains groups i group at) in
      (there, subst (IsGroup g) there.2 (covers.are.are.each there.0 group there.1), fit_from_text group has)

  -- where a part begins that has a text, a group does, and the text is the group's
  group_of_start : (node : ℕ) (text : GroupTextData) → Begins m.parts m.uses node text →
      (i : ℕ) × (group : Group) × (slice_get groups i ≡ Some group) × IsGroup g group × (id_of group ≡ node) × (text ≡ text_of_group g group)
  group_of_start node text begins =
      let part = begins.at.part in
      let stands = begins.at.stands in
      let some : 0 < part.members = begins.at.first.inside in
      let (group, is_part) = covers.whole begins.k part stands some in
      let numbered : slice_index_or m.uses begins.k None ≢ None = λ none.
      let no_text : None ≡ Some text = sym none ∙ begins.has in
      absurd cc in
      let known = covers.known begins.k part stands numbered group is_part in
      let both : Some text ≡ Some (text_of_group g group) = sym begins.has ∙ known.same in
      let same : text ≡ text_of_group g group = cc in
      let (n, within, at_all) = group_there g all_groups covers.are.are group is_part.is_group in
      let (i, at) = Contains-at groups group (filter_keeps has_text all_groups group (at_Contains all_groups n group at_all) (text_from_fit group known.fits)) in
      (i, group, at, is_part.is_group, member_from_part g group part is_part 0 node begins.at.first, same)

  -- and where a group with a text begins, a part does that has the group's text
  Begins-group : (i : ℕ) (group : Group) → slice_get groups i ≡ Some group → Begins m.parts m.uses (id_of group) (text_of_group g group)
  Begins-group i group at =
      let (there, is_group, fit) = is_group_at i group at in
      let (n, at_all) = Contains-at all_groups group there in
      let has = covers.each n group at_all in
      let numbered = numbered_told g m covers have_texts has.k has.part group has.stands has.is_part fit in
      record {
        k = has.k;
        at = record { part = has.part; stands = has.stands; first = first_member g group has.part has.is_part };
        has = (covers.known has.k has.part has.stands numbered group has.is_part).same;
      }

  -- so the texts in order are those of the groups
  pub HasLast-order : (last : List GroupTextData) → AreInOrder m.parts m.uses last → HasLast g last
  HasLast-order last order others others_are =
      texts_along g m.parts m.uses groups own order.places last places_are order.each
      ∙ ap (told g) (unique g all_groups others covers.are.are others_are)
    where
      to : (node : ℕ) → Contains order.places node → Contains (map id_of groups) node
      to node there =
          let (i, at) = Contains-at order.places node there in
          let (text, text_at, begins) = partner_second (Begins m.parts m.uses) order.places last i node order.each at in
          let (j, group, group_at, is_group, starts, same) = group_of_start node text begins in
          at_Contains (map id_of groups) j node (made_at id_of groups j group group_at ∙ ap Some starts)

      back : (node : ℕ) → Contains (map id_of groups) node → Contains order.places node
      back node there =
          let (i, at) = Contains-at (map id_of groups) node there in
          let (group, group_at, starts) = map_item id_of groups i node at in
          subst (Contains order.places) starts (order.all (id_of group) (text_of_group g group) (Begins-group i group group_at))

      places_are : order.places ≡ map id_of groups
      places_are =
          same_ascending order.places (map id_of groups) order.ascending (ascending-filter has_text all_groups covers.are.are.ascending) to back

      own : (i : ℕ) (group : Group) → slice_get groups i ≡ Some group → (text : GroupTextData) → Begins m.parts m.uses (id_of group) text →
          text ≡ text_of_group g group
      own i group at text begins =
          let (j, other, other_at, is_other, starts, same) = group_of_start (id_of group) text begins in
          let (there, is_group, fit) = is_group_at i group at in
          same ∙ ap (text_of_group g) (same_by_id g other group is_other is_group starts)

-- the texts of the last build may be any, for the machine to fit the graph
pub FitsGraph-last : (g : GraphData) (m : MachineData) → FitsGraph g m → (last : List GroupTextData) → FitsGraph g (record m { last = last })
FitsGraph-last g m fits last =
    fits_with g m fits m.marks m.state last m.moves m.placed m.wide fits.covers.counted fits.covers.waits fits.covers.rests fits.covers.stale_only
    (held_at g m fits) (λ is. is) fits.sound
