-- A scope as it is kept: the calls that are open, the outermost first.
use Rattle.std.specs.Prelude.{ℕ, List, [], ◌∷◌, ◌++◌, Some}
use Rattle.spice_cards.specs.Decks.{DeckCards}
use Rattle.spice_read.specs.declared.open_call.OpenCall.{OpenCall}
use Rattle.spice_read.specs.Scopes.{Scope, below, dot, outside, port_nodes, with_each}

-- where parts are expanded: a deck, and the calls that are open
pub record FrameData : Type 0 where
  pub deck : DeckCards
  pub calls : List OpenCall

-- inside a call, by its name, the line of its subcircuit, and the subcircuit's ports with the words on the card of the call
abbrev pub inside : DeckCards → Scope → List ℕ → ℕ → List (List ℕ) → List (List ℕ) → Scope
inside deck scope name line ports words = record {
  path = Some (below scope.path name);
  expanding = scope.expanding ++ line ∷ [];
  ports = with_each [] (port_nodes deck scope ports words);
}

abbrev pub inside_call : DeckCards → Scope → OpenCall → Scope
inside_call deck scope call = inside deck scope call.name.now call.line call.ports.ports call.ports.words

-- inside these calls, from a scope on
abbrev pub scope_from : DeckCards → Scope → List OpenCall → Scope
scope_from deck scope [] = scope
scope_from deck scope (call ∷ calls) = scope_from deck (inside_call deck scope call) calls

-- the scope of a frame
abbrev pub scope_of : FrameData → Scope
scope_of frame = scope_from frame.deck outside frame.calls

-- what has this name in these calls: their names and its own, with a dot behind each but the last
abbrev pub name_below : List OpenCall → List ℕ → List ℕ
name_below [] name = name
name_below (call ∷ calls) name = call.name.now ++ dot ∷ name_below calls name
