-- The lines of names that are looked at, name by name: their room, and that none is of an expectation that isn't met.
use Rattle.std.proofs.Common.{◌≡◌, ℕ, ◌+◌, ◌<◌, ◌≤◌, Bool, true, false, ◌||◌, List, [], ◌∷◌, ◌++◌, length, get_or, drop, All, Option, None, Some, is_some, refl, sym, ap, subst, ◌∙◌}
use Rattle.std.specs.Prelude.{flat_map}
use Rattle.std.specs.List.{list_any}
use Rattle.std.proofs.lemmas.List.{drop_more}
use Rattle.std.proofs.lemmas.List.Elements.{All-nil, All-append, All-weaker}
use Rattle.std.proofs.lemmas.List.Folds.{list_any-append}
use Rattle.ternary.specs.declared.tern.Tern.{Tern}
use Rattle.switch_paths.specs.Graphs.{nodes}
use Rattle.netlist.specs.Circuits.{CircuitData, IsCircuit}
use Rattle.netlist.specs.Names.{node_of}
use Rattle.netlist.specs.Edits.{node_named}
use Rattle.netlist.proofs.KeptLemmas.{node_named-within}
use Rattle.told_lines.specs.Lines.{AreInRoom, is_unmet, room_of}
use Rattle.told_lines.specs.Hearing.{of_column}
use Rattle.told_lines.proofs.HearingLemmas.{of_column-append}
use Rattle.node_looks.specs.Looks.{node_lines, looked_lines}
use Rattle.node_looks.proofs.LookLemmas.{room-parts, node_met}
use Rattle.session_meaning.specs.Sessions.{SessionData}
use Rattle.session_meaning.specs.Refusals.{first_refusal, known_refusal}
use Rattle.session_meaning.specs.Effects.{with_told}
use Rattle.session_meaning.proofs.RefusalLemmas.{none_of_all}

-- ---- names

-- a name that isn't refused is in use
is_some-known : (found : Option ℕ) → known_refusal found ≡ None → is_some found ≡ true
is_some-known None none = absurd (cc)
is_some-known (Some node) none = refl

-- so are all of a list
pub nodes_known : (c : CircuitData) (names : List (List ℕ)) → first_refusal (λ name. known_refusal (node_of c.names name)) names ≡ None →
    All (λ name. is_some (node_of c.names name) ≡ true) names
nodes_known c names none =
    All-weaker (λ (name : List ℕ). known_refusal (node_of c.names name) ≡ None) (λ name. is_some (node_of c.names name) ≡ true)
    (λ name. is_some-known (node_of c.names name)) names (none_of_all (λ (name : List ℕ). known_refusal (node_of c.names name)) names none)

module _ (c : CircuitData) (state : List Tern) where
  -- ---- room

  -- room for the lines of each node is room for those of names
  pub looked_room : (is : IsCircuit c) (room : ℕ) → ((node : ℕ) → node < nodes c.graph → AreInRoom room (node_lines c state node)) →
      (names : List (List ℕ)) → AreInRoom room (flat_map (looked_lines c state) names)
  looked_room is room each [] = All-nil (λ line. room_of line ≤ room)
  looked_room is room each (name ∷ names) =
      All-append (λ line. room_of line ≤ room) (looked_lines c state name) (flat_map (looked_lines c state) names)
      (each (node_named c name) (node_named-within c name is)) (looked_room is room each names)

  module _ (names : List (List ℕ)) (place : ℕ) (name : List ℕ) (inside : place < length names) (is : name ≡ get_or names place name) where
    -- the lines from a name on are its own, and those after it
    next : flat_map (looked_lines c state) (drop place names) ≡ looked_lines c state name ++ flat_map (looked_lines c state) (drop (place + 1) names)
    next =
        ap (flat_map (looked_lines c state)) (drop_more names place name inside)
        ∙ ap (λ (first : List ℕ). flat_map (looked_lines c state) (first ∷ drop (place + 1) names)) (sym is)

    -- so if there is room for them, there is for both
    pub looked_room-next : (room : ℕ) → AreInRoom room (flat_map (looked_lines c state) (drop place names)) →
        AreInRoom room (looked_lines c state name) × AreInRoom room (flat_map (looked_lines c state) (drop (place + 1) names))
    looked_room-next room fit =
        room-parts room (looked_lines c state name) (flat_map (looked_lines c state) (drop (place + 1) names)) (subst (AreInRoom room) next fit)

    -- and they are told one after the other
    pub looked-next :
        of_column 0 (flat_map (looked_lines c state) (drop place names))
        ≡ of_column 0 (looked_lines c state name) ++ of_column 0 (flat_map (looked_lines c state) (drop (place + 1) names))
    looked-next =
        ap (of_column 0) next ∙ of_column-append 0 (looked_lines c state name) (flat_map (looked_lines c state) (drop (place + 1) names))

  -- ---- none is of an expectation

  looked_met : (names : List (List ℕ)) → false ≡ list_any is_unmet (flat_map (looked_lines c state) names)
  looked_met [] = refl
  looked_met (name ∷ names) =
      sym (list_any-append is_unmet (looked_lines c state name) (flat_map (looked_lines c state) names)
      ∙ rw (node_met c state (node_named c name)) (sym (looked_met names)))

-- so the data stay as they are
pub looked_told : (session : SessionData) (names : List (List ℕ)) →
    session ≡ with_told session (flat_map (looked_lines session.circuit session.state) names)
looked_told session names =
    by session.missed
    ∙ ap (λ (any : Bool). record session { missed = session.missed || any }) (looked_met session.circuit session.state names)
  where
    by : (missed : Bool) → record session { missed = missed } ≡ record session { missed = missed || false }
    by true = refl
    by false = refl
