-- The parts of the texts of a graph's groups are parts of the groups, and fit the graph.
use Rattle.std.proofs.Common.{◌≡◌, ℕ, List, [], ◌∷◌, map, get_or, All}
use Rattle.std.specs.Prelude.{zip}
use Rattle.std.specs.List.{AllZip}
use Rattle.std.proofs.lemmas.Option.{slice_get-get_or}
use Rattle.switch_paths.specs.Graphs.{GraphData, IsWired, nodes}
use Rattle.group_meaning.specs.Groups.{Group, AreGroups}
use Rattle.group_text.specs.Texts.{GroupTextData, local_nodes, text_of_group}
use Rattle.straight_code.specs.declared.part.Part.{Part}
use Rattle.straight_code.specs.Parts.{IsPart}
use Rattle.circuit_texts.specs.Parts.{IsMadeOf, IsPartOf}
use Rattle.circuit_texts.proofs.MemberLemmas.{group_at}
use Rattle.circuit_texts.proofs.PairedLists.{partner_first}
use Rattle.circuit_texts.proofs.PartLemmas.{IsPart-from_group}

-- parts that are made of the groups' texts, over the nodes that the local nodes stand for, are parts of the groups
parts_of_pairs : (g : GraphData) (groups : List Group) (parts : List Part) →
    AllZip (λ made part. IsMadeOf made.0 made.1 part) (zip (map (text_of_group g) groups) (map (local_nodes g) groups)) parts →
    AllZip (IsPartOf g) groups parts
parts_of_pairs g [] [] made = made
parts_of_pairs g [] (part ∷ parts) made = absurd made
parts_of_pairs g (group ∷ groups) [] made = absurd made
parts_of_pairs g (group ∷ groups) (part ∷ parts) made = (made.0, parts_of_pairs g groups parts made.1)

pub parts_of_groups : (g : GraphData) (groups : List Group) (texts : List GroupTextData) (maps : List (List ℕ)) (parts : List Part) →
    texts ≡ map (text_of_group g) groups → maps ≡ map (local_nodes g) groups →
    AllZip (λ made part. IsMadeOf made.0 made.1 part) (zip texts maps) parts → AllZip (IsPartOf g) groups parts
parts_of_groups g groups texts maps parts texts_are maps_are made =
    parts_of_pairs g groups parts (rw (texts_are, maps_are) at made)

-- each part of a group fits the graph
pub parts_fit : (g : GraphData) → IsWired g → (groups : List Group) → AreGroups g groups → (parts : List Part) → AllZip (IsPartOf g) groups parts →
    All (IsPart (nodes g)) parts
parts_fit g wired groups are parts made = λ k d inside.
    let part = get_or parts k d in
    let partner = partner_first (IsPartOf g) groups parts k part made (slice_get-get_or parts k d inside) in
    IsPart-from_group g wired partner.0 (group_at g groups are parts made k partner.0 partner.1) part partner.2
