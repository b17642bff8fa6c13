-- A number that is removed stays so: its place is empty, and no edit fills an empty place or takes a place away.
use Rattle.std.proofs.Common.{◌≡◌, ◌≢◌, ℕ, ◌-◌, ◌<◌, ◌≤◌, Bool, true, false, List, [], ◌∷◌, ◌++◌, length, nat_lt, option_map, is_some, Option, Some, None, refl, sym, ap, subst, ◌∙◌, ◌⊎◌, inl, inr, arith, length-append}
use Rattle.std.specs.Prelude.{slice_set, if◌then◌else◌}
use Rattle.std.proofs.lemmas.Bool.{cases_eq, cases_lt}
use Rattle.std.proofs.lemmas.Bool.Decides.{nat_tests}
use Rattle.std.proofs.lemmas.List.{get_or_append_left, get_or_past, get_or-set_other, get_or-set_same, length-set}
use Rattle.switch_paths.specs.declared.switching.Switch.{Switch}
use Rattle.switch_paths.specs.Graphs.{place_at}
use Rattle.netlist.specs.Names.{node_of}
use Rattle.netlist.specs.Circuits.{CircuitData}
use Rattle.netlist.specs.Edits.{switch_numbered, with_alias, with_alias_by, with_changed, with_name_of, with_new_node, with_node, with_nodes, without_switch}
use Rattle.netlist.specs.Laws.{AreEdits, IsEdit, IsRemoved}
use Rattle.netlist.specs.Laws.AreEdits.{no_edit, one_more}
use Rattle.netlist.specs.Laws.IsEdit.{named, added, removed, set_strength, set_kind, rewired, made_input, made_store, aliased}
use Rattle.netlist.proofs.EditLemmas.{HasNewNodes, HasNewNodes-with_node, HasNewNodes-with_nodes, places-with_transistor}

-- a place is there, and is empty
record IsEmpty (places : List (Option Switch)) (place : ℕ) : Type 0 where
  inside : place < length places
  empty : place_at places place ≡ None

-- from the first number on, a transistor's number is that of its place
numbered : (c : CircuitData) (number : ℕ) → 1 ≤ number → switch_numbered c number ≡ place_at c.graph.places (number - 1)
numbered c number first = by (nat_lt 0 number) refl
  where
    by : (some : Bool) → nat_lt 0 number ≡ some → (if some then place_at c.graph.places (number - 1) else None) ≡ place_at c.graph.places (number - 1)
    by true is_low = refl
    by false is_low = absurd (grind (arith, nat_tests))

-- the place of a removed number is empty
to_place : (c : CircuitData) (number : ℕ) → IsRemoved c number → IsEmpty c.graph.places (number - 1)
to_place c number is = record {
  inside = omega (arith, is.first, is.given);
  empty = sym (numbered c number is.first) ∙ is.free;
}

-- and a number whose place is empty is removed
from_place : (c : CircuitData) (number : ℕ) → 1 ≤ number → IsEmpty c.graph.places (number - 1) → IsRemoved c number
from_place c number first is = record {
  first = first;
  given = omega (arith, first, is.inside);
  free = numbered c number first ∙ is.empty;
}

-- an empty place stays where others come behind it
empty-append : (places more : List (Option Switch)) (place : ℕ) → IsEmpty places place → IsEmpty (places ++ more) place
empty-append places more place is = record {
  inside = omega (arith, is.inside, length-append places more);
  empty = get_or_append_left places more None place is.inside ∙ is.empty;
}

-- and where something else is put at another place, or nothing at its own
empty-set : (places : List (Option Switch)) (other place : ℕ) (there : Option Switch) → (other ≡ place → there ≡ None) → IsEmpty places place →
    IsEmpty (slice_set places other there) place
empty-set places other place there own is = record {
  inside = omega (arith, is.inside, length-set places other there);
  empty = at (cases_eq other place);
}
  where
    at : (other ≡ place) ⊎ (other ≢ place) → place_at (slice_set places other there) place ≡ None
    at (inl same) =
        let inside : other < length places = omega (arith, is.inside, same) in
        ap (λ k. place_at (slice_set places other there) k) (sym same) ∙ get_or-set_same places other there None inside ∙ own same
    at (inr apart) = get_or-set_other places other place there None (λ same. apart (sym same)) ∙ is.empty

-- what is made of no switch is none
changed-empty : (c : CircuitData) (number : ℕ) (change : Switch → Switch) → place_at c.graph.places (number - 1) ≡ None →
    option_map change (switch_numbered c number) ≡ None
changed-empty c number change empty = by (nat_lt 0 number) (place_at c.graph.places (number - 1)) empty
  where
    by : (some : Bool) (place : Option Switch) → place ≡ None → option_map change (if some then place else None) ≡ None
    by true place none = ap (option_map change) none
    by false place none = refl

-- a change of a transistor fills no empty place
empty-changed : (c : CircuitData) (number place : ℕ) (change : Switch → Switch) → IsEmpty c.graph.places place →
    IsEmpty (with_changed c number change).graph.places place
empty-changed c number place change is =
    empty-set c.graph.places (number - 1) place (option_map change (switch_numbered c number))
    (λ same. changed-empty c number change (ap (place_at c.graph.places) same ∙ is.empty)) is

-- an alias leaves the places
places-with_alias : (c : CircuitData) (first second : List ℕ) → (with_alias c first second).graph.places ≡ c.graph.places
places-with_alias c first second = by (node_of c.names first) (node_of c.names second)
  where
    more : (d : CircuitData) (name : List ℕ) (node : ℕ) → (with_name_of d name node).graph.places ≡ d.graph.places
    more d name node = used (is_some (node_of d.names name))
      where
        used : (is : Bool) → (let e : CircuitData = if is then d else record d { names = d.names ++ (name, node) ∷ [] } in e.graph.places) ≡ d.graph.places
        used true = refl
        used false = refl

    by : (one other : Option ℕ) → (with_alias_by c first second one other).graph.places ≡ c.graph.places
    by None None = more (with_new_node c first) second _
    by None (Some node) = more c first node
    by (Some node) other = more c second node

-- an edit leaves an empty place empty
empty-edit : (old new : CircuitData) (place : ℕ) → IsEdit old new → IsEmpty old.graph.places place → IsEmpty new.graph.places place
empty-edit old new place (named name) is =
    let has : HasNewNodes old (with_node old name) = HasNewNodes-with_node old name in
    subst (λ ps. IsEmpty ps place) (sym has.places) is
empty-edit old new place (added kind strength gate source drain) is =
    subst (λ ps. IsEmpty ps place) (sym (places-with_transistor old kind strength gate source drain)) (empty-append old.graph.places _ place is)
empty-edit old new place (removed number) is = empty-set old.graph.places (number - 1) place None (λ same. refl) is
empty-edit old new place (set_strength number strength) is = empty-changed old number place _ is
empty-edit old new place (set_kind number kind) is = empty-changed old number place _ is
empty-edit old new place (rewired number gate source drain) is =
    let named = with_nodes old (gate ∷ source ∷ drain ∷ []) in
    let has : HasNewNodes old (with_nodes old (gate ∷ source ∷ drain ∷ [])) = HasNewNodes-with_nodes (gate ∷ source ∷ drain ∷ []) old in
    empty-changed named number place _ (subst (λ ps. IsEmpty ps place) (sym has.places) is)
empty-edit old new place (made_input node) is = is
empty-edit old new place (made_store node size) is = is
empty-edit old new place (aliased first second) is = subst (λ ps. IsEmpty ps place) (sym (places-with_alias old first second)) is

-- a transistor's number is removed with it
pub numbers_are_removed : (c : CircuitData) (number : ℕ) → is_some (switch_numbered c number) ≡ true → IsRemoved (without_switch c number) number
numbers_are_removed c number there = from_place (without_switch c number) number (first (nat_lt 0 number) refl there) (record {
  inside = omega (arith, within (cases_lt (number - 1) (length c.graph.places)), length-set c.graph.places (number - 1) None);
  empty = get_or-set_same c.graph.places (number - 1) None None (within (cases_lt (number - 1) (length c.graph.places)));
})
  where
    first : (some : Bool) → nat_lt 0 number ≡ some → is_some (if some then place_at c.graph.places (number - 1) else None) ≡ true → 1 ≤ number
    first true is_low there = grind (arith, nat_tests)
    first false is_low there = absurd (cc)

    nothing : (some : Bool) (place : Option Switch) → place ≡ None → is_some (if some then place else None) ≡ true → ⊥
    nothing true (Some switch) none there = cc
    nothing true None none there = cc
    nothing false place none there = cc

    within : (number - 1 < length c.graph.places) ⊎ (length c.graph.places ≤ number - 1) → number - 1 < length c.graph.places
    within (inl inside) = inside
    within (inr past) = absurd (nothing (nat_lt 0 number) (place_at c.graph.places (number - 1)) (get_or_past c.graph.places (number - 1) None past) there)

-- and stays removed
pub removed_numbers_stay : (old new : CircuitData) (number : ℕ) → AreEdits old new → IsRemoved old number → IsRemoved new number
removed_numbers_stay old new number (no_edit c) is = is
removed_numbers_stay old new number (one_more first mid last edit edits) is =
    removed_numbers_stay mid last number edits
    (from_place mid number is.first (empty-edit first mid (number - 1) edit (to_place first number is)))
