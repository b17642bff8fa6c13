-- What is built of the parts of a circuit's groups is a faithful listing of it.
use Rattle.std.proofs.Common.{◌≡◌, ℕ, ◌<◌, ◌≤◌, List, [], length, map, get_or, All, None, sym, ap, subst, ◌∙◌, arith}
use Rattle.std.specs.Prelude.{sum}
use Rattle.std.specs.List.{AllZip, range_with_len}
use Rattle.std.proofs.lemmas.List.{get_or-map, length-map}
use Rattle.std.proofs.lemmas.List.FromFn.{length-map-range_with_len, get_or-map-range_with_len}
use Rattle.std.proofs.lemmas.Option.{slice_get_within, get_or_from_slice_get}
use Rattle.switch_paths.specs.Graphs.{GraphData, IsWired, nodes}
use Rattle.netlist.specs.Circuits.{CircuitData, called, HasVisibleNames}
use Rattle.group_meaning.specs.Groups.{Group, AreGroups}
use Rattle.group_meaning.proofs.UniqueGroups.{unique}
use Rattle.straight_code.specs.declared.part.Part.{Part}
use Rattle.linear_code.specs.Listing.{ListingData}
use Rattle.line_words.specs.Visible.{IsVisibleName}
use Rattle.linear_code.specs.Built.{IsBuilt}
use Rattle.circuit_listing.specs.Faithful.{group_bound, IsFaithful}
use Rattle.circuit_texts.specs.Parts.{IsPartOf}
use Rattle.circuit_texts.specs.Sizes.{fault_in, AllFit}
use Rattle.circuit_texts.proofs.PairedLists.{sum_within}
use Rattle.circuit_listing.proofs.StepLemmas.{IsStep-from_listing}

-- what the nodes of a circuit are called can be a name of a listing
pub names_visible : {X : Type 0} (bytes : X → List ℕ) (c : CircuitData) (names : List X) → HasVisibleNames c →
    map bytes names ≡ map (called c) (range_with_len 0 (nodes c.graph)) → All (λ name. IsVisibleName (bytes name)) names
names_visible bytes c names visible are = λ k d inside.
    let below : k < nodes c.graph =
    omega (arith, length-map names bytes, ap length are, length-map-range_with_len (called c) 0 (nodes c.graph)) in
    let name : bytes (get_or names k d) ≡ called c k =
    sym (get_or-map bytes names k d [] inside)
    ∙ (ap (λ all. get_or all k []) are ∙ get_or-map-range_with_len (called c) 0 (nodes c.graph) k k [] below (omega arith)) in
    rw name (visible k below)

-- there are as many names as nodes
pub names_counted : {X : Type 0} (bytes : X → List ℕ) (c : CircuitData) (names : List X) →
    map bytes names ≡ map (called c) (range_with_len 0 (nodes c.graph)) → length names ≡ nodes c.graph
names_counted bytes c names are =
    sym (length-map names bytes) ∙ (ap length are ∙ length-map-range_with_len (called c) 0 (nodes c.graph))

-- where the groups that were found fit, no group of the graph is too large
pub AllFit-from_groups : (g : GraphData) (groups : List Group) → AreGroups g groups → All (λ group. fault_in group ≡ None) groups → AllFit g
AllFit-from_groups g groups are fits = λ others others_are k group stands.
    let here = rw (unique g others groups others_are are) at stands in
    subst (λ group. fault_in group ≡ None) (get_or_from_slice_get groups k group group here) (fits k group (slice_get_within groups k group here))

module _ (c : CircuitData) (wired : IsWired c.graph) (groups : List Group) (are : AreGroups c.graph groups) (parts : List Part)
    (made : AllZip (IsPartOf c.graph) groups parts) (listing : ListingData) where
  -- there are no more instructions than the bounds of the groups
  few_instructions : (names : List (List ℕ)) → IsBuilt c.graph names parts listing → (others : List Group) → AreGroups c.graph others →
      length listing.instructions ≤ sum (map (group_bound c.graph) others)
  few_instructions names built others others_are =
      let size : Part → ℕ = λ part. length part.code.value.instructions in
      let within = sum_within (IsPartOf c.graph) (group_bound c.graph) size (λ group part one. one.means.few) groups parts made in
      rw (unique c.graph others groups others_are are, built.count) within

  -- the listing is faithful
  pub IsFaithful-from_parts : (names : List (List ℕ)) → names ≡ map (called c) (range_with_len 0 (nodes c.graph)) →
      IsBuilt c.graph names parts listing → IsFaithful c listing
  IsFaithful-from_parts names names_are built = record {
    kinds = built.kinds;
    names = built.named ∙ names_are;
    steps = λ state next counted sound step.
        IsStep-from_listing c.graph wired groups are parts made names listing built state counted sound next step;
    few = few_instructions names built;
  }
