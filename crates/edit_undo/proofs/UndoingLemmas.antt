-- An edit that is taken back, and taken back again.
use Rattle.std.proofs.Common.{◌≡◌, ℕ, ◌<◌, List, length, take, get_or, refl, sym, ap, ap₂, subst, ◌∙◌, arith}
use Rattle.std.specs.Prelude.{Option, Some, None, IfSome, All}
use Rattle.std.proofs.Math.Seq.{take-length}
use Rattle.std.proofs.lemmas.List.{set-set, set-get_or, get_or-set_same, length-set}
use Rattle.strength_order.specs.Levels.{IsLevel}
use Rattle.switch_paths.specs.declared.switching.Switch.{Switch}
use Rattle.switch_paths.specs.Graphs.{GraphData, nodes, FitsPlace}
use Rattle.channel_groups.specs.declared.change.Change.{Change}
use Rattle.channel_groups.specs.Changes.{undo, with_place, with_level}
use Rattle.edit_undo.specs.Undoing.{IsInPlace, place_now, level_now}

-- as many places and levels are there
pub length-with_place : (place : Option (ℕ × Option Switch)) (places : List (Option Switch)) → length (with_place place places) ≡ length places
length-with_place None places = refl
length-with_place (Some old) places = length-set places old.0 old.1

pub length-with_level : (level : Option (ℕ × ℕ)) (levels : List ℕ) → length (with_level level levels) ≡ length levels
length-with_level None levels = refl
length-with_level (Some old) levels = length-set levels old.0 old.1

-- the place holds what it held
place_again : (g : GraphData) (place : Option (ℕ × Option Switch)) → with_place (place_now g place) (with_place place g.places) ≡ g.places
place_again g None = refl
place_again g (Some old) = set-set g.places old.0 old.1 (get_or g.places old.0 None) ∙ set-get_or g.places old.0 None

-- the node has the level that it had
level_again : (g : GraphData) (level : Option (ℕ × ℕ)) → with_level (level_now g level) (with_level level g.levels) ≡ g.levels
level_again g None = refl
level_again g (Some old) = set-set g.levels old.0 old.1 (get_or g.levels old.0 0) ∙ set-get_or g.levels old.0 0

-- of as many nodes as there are no level is left out
pub all_levels : (g : GraphData) (change : Change) → change.nodes ≡ nodes g → take change.nodes g.levels ≡ g.levels
all_levels g change same = ap (λ count. take count g.levels) same ∙ take-length g.levels

-- a graph with these levels and places
abbrev graph_of : List ℕ → List (Option Switch) → GraphData
graph_of levels places = record { levels = levels; places = places }

-- the graph before such an edit
pub undo_is : (g : GraphData) (change : Change) → change.nodes ≡ nodes g →
    undo g change ≡ record { levels = with_level change.level g.levels; places = with_place change.place g.places }
undo_is g change same = ap (λ levels. graph_of (with_level change.level levels) (with_place change.place g.places)) (all_levels g change same)

-- has as many nodes and places
pub undo_nodes : (g : GraphData) (change : Change) → change.nodes ≡ nodes g → nodes (undo g change) ≡ nodes g
undo_nodes g change same = ap nodes (undo_is g change same) ∙ length-with_level change.level g.levels

pub undo_places : (g : GraphData) (change : Change) → length (undo g change).places ≡ length g.places
undo_places g change = length-with_place change.place g.places

-- the way back leads to the graph
pub undone_again : (g : GraphData) (change back : Change) → IsInPlace g change → back.nodes ≡ nodes g → back.place ≡ place_now g change.place →
    back.level ≡ level_now g change.level → undo (undo g change) back ≡ g
undone_again g change back is count place level =
    let before = undo g change in
    let counted : back.nodes ≡ nodes before = count ∙ sym (undo_nodes g change is.same_nodes) in
    let levels : with_level back.level before.levels ≡ g.levels =
    ap (λ list. with_level back.level (with_level change.level list)) (all_levels g change is.same_nodes)
    ∙ (ap (λ old. with_level old (with_level change.level g.levels)) level ∙ level_again g change.level) in
    let places : with_place back.place before.places ≡ g.places =
    ap (λ old. with_place old (with_place change.place g.places)) place ∙ place_again g change.place in
    undo_is before back counted ∙ ap₂ graph_of levels places

-- and is in place there
place_within : (g : GraphData) (count : ℕ) → count ≡ length g.places → (place : Option (ℕ × Option Switch)) → IfSome place (λ old. old.0 < length g.places) →
    IfSome (place_now g place) (λ old. old.0 < count)
place_within g count same None inside = tt
place_within g count same (Some old) inside = omega (arith, same, inside)

level_within : (g : GraphData) (count : ℕ) → count ≡ nodes g → (level : Option (ℕ × ℕ)) → IfSome level (λ old. old.0 < nodes g) →
    IfSome (level_now g level) (λ old. old.0 < count)
level_within g count same None inside = tt
level_within g count same (Some old) inside = omega (arith, same, inside)

pub back_in_place : (g : GraphData) (change back : Change) → IsInPlace g change → back.nodes ≡ nodes g → back.place ≡ place_now g change.place →
    back.level ≡ level_now g change.level → IsInPlace (undo g change) back
back_in_place g change back is count place level = record {
  same_nodes = count ∙ sym (undo_nodes g change is.same_nodes);
  place = subst (λ there. IfSome there (λ old. old.0 < length (undo g change).places)) (sym place)
      (place_within g (length (undo g change).places) (undo_places g change) change.place is.place);
  level = subst (λ there. IfSome there (λ old. old.0 < nodes (undo g change))) (sym level)
      (level_within g (nodes (undo g change)) (undo_nodes g change is.same_nodes) change.level is.level);
}

-- what stood at the place fits, and what level the node had is a level
pub old_place_fits : (count : ℕ) (places : List (Option Switch)) (place : Option (ℕ × Option Switch)) → IfSome place (λ old. old.0 < length places) →
    All (FitsPlace count) (with_place place places) → IfSome place (λ old. FitsPlace count old.1)
old_place_fits count places None inside all = tt
old_place_fits count places (Some old) inside all =
    subst (FitsPlace count) (get_or-set_same places old.0 old.1 None inside)
    (all old.0 None (omega (arith, inside, length-set places old.0 old.1)))

pub old_level_is : (levels : List ℕ) (level : Option (ℕ × ℕ)) → IfSome level (λ old. old.0 < length levels) →
    All IsLevel (with_level level levels) → IfSome level (λ old. IsLevel old.1)
old_level_is levels None inside all = tt
old_level_is levels (Some old) inside all =
    subst IsLevel (get_or-set_same levels old.0 old.1 0 inside) (all old.0 0 (omega (arith, inside, length-set levels old.0 old.1)))
