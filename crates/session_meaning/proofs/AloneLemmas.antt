-- States of columns go to the nodes of their names alone: how such assignments are refused, and what they give, doesn't depend on vectors.
use Rattle.std.proofs.Common.{◌≡◌, ℕ, ◌≤◌, true, List, [], ◌∷◌, ◌++◌, map, All, Option, Some, None, is_some, option_map, refl, sym, ap, ap₂, ◌∙◌}
use Rattle.std.specs.Prelude.{unwrap_or}
use Rattle.std.proofs.lemmas.List.Elements.{All-nil, All-cons, All-head, All-tail}
use Rattle.ternary.specs.declared.tern.Tern.{Tern}
use Rattle.switch_paths.specs.declared.TheConstants.{RAILS}
use Rattle.netlist.specs.Names.{node_of}
use Rattle.netlist.specs.Circuits.{CircuitData}
use Rattle.netlist.specs.Edits.{node_named}
use Rattle.node_values.specs.Givings.{letters_given, states_given, with_state}
use Rattle.column_script.specs.Commands.{alone_of}
use Rattle.session_meaning.specs.declared.fault.Refusal.{Refusal}
use Rattle.session_meaning.specs.declared.fault.Refusal.TheVariants.{UnknownNode}
use Rattle.session_meaning.specs.Refusals.{first_refusal, given_refusal, givings_refusal, or_else, place_refusal, values_refusal}
use Rattle.session_meaning.specs.Effects.{letters_in, states_by}
use Rattle.session_meaning.proofs.RefusalLemmas.{first_refusal-none}
use Rattle.session_meaning.specs.Columns.{given_states}

-- the refusal of a name's node
abbrev pub alone_at : (ℕ → Option Refusal) → Option ℕ → Option Refusal
alone_at at None = Some UnknownNode
alone_at at (Some node) = or_else (at node) None

module _ (c : CircuitData) (vectors : List (List ℕ × List ℕ)) where
  -- no state stands where it may not
  places-alone : (items : List (List ℕ × Tern)) → first_refusal (place_refusal c vectors) (map alone_of items) ≡ None
  places-alone [] = refl
  places-alone (item ∷ items) = places-alone items

  module _ (at : ℕ → Option Refusal) where
    -- the refusal of a state is that of its name's node
    giving-alone : (item : List ℕ × Tern) → given_refusal at (letters_given c vectors (alone_of item)) ≡ alone_at at (node_of c.names item.0)
    giving-alone item = by (node_of c.names item.0)
      where
        by : (found : Option ℕ) → given_refusal at (with_state item.1 (option_map (λ node. node ∷ []) found)) ≡ alone_at at found
        by None = refl
        by (Some node) = refl

    givings-alone : (items : List (List ℕ × Tern)) →
        givings_refusal at c vectors (map alone_of items) ≡ first_refusal (λ item. alone_at at (node_of c.names item.0)) items
    givings-alone [] = refl
    givings-alone (item ∷ items) = ap₂ or_else (giving-alone item) (givings-alone items)

    pub values-alone : (items : List (List ℕ × Tern)) →
        values_refusal at c vectors (map alone_of items) ≡ first_refusal (λ item. alone_at at (node_of c.names item.0)) items
    values-alone items =
        ap (λ first. or_else first (givings_refusal at c vectors (map alone_of items))) (places-alone items) ∙ givings-alone items

    -- names that aren't refused are in use
    known-alone : (items : List (List ℕ × Tern)) → first_refusal (λ item. alone_at at (node_of c.names item.0)) items ≡ None →
        All (λ item. is_some (node_of c.names item.0) ≡ true) items
    known-alone [] none = All-nil (λ (item : List ℕ × Tern). is_some (node_of c.names item.0) ≡ true)
    known-alone (item ∷ items) none =
        let both = first_refusal-none (λ (one : List ℕ × Tern). alone_at at (node_of c.names one.0)) item items none in
        All-cons (λ (one : List ℕ × Tern). is_some (node_of c.names one.0) ≡ true) item items (by (node_of c.names item.0) both.0)
        (known-alone items both.1)
      where
        by : (found : Option ℕ) → alone_at at found ≡ None → is_some found ≡ true
        by None none = absurd (cc)
        by (Some node) none = refl

    pub names-alone : (items : List (List ℕ × Tern)) → values_refusal at c vectors (map alone_of items) ≡ None →
        All (λ item. is_some (node_of c.names item.0) ≡ true) items
    names-alone items none = known-alone items (sym (values-alone items) ∙ none)

  -- what they give
  state-alone : (item : List ℕ × Tern) → is_some (node_of c.names item.0) ≡ true →
      states_given (letters_in (letters_given c vectors (alone_of item))) ≡ (node_named c item.0, item.1) ∷ []
  state-alone item known = by (node_of c.names item.0) known
    where
      by : (found : Option ℕ) → is_some found ≡ true →
          states_given (letters_in (with_state item.1 (option_map (λ node. node ∷ []) found))) ≡ (unwrap_or found 0, item.1) ∷ []
      by None known = absurd (cc)
      by (Some node) known = refl

  pub states-alone : (items : List (List ℕ × Tern)) → All (λ item. is_some (node_of c.names item.0) ≡ true) items →
      states_by c vectors (map alone_of items) ≡ given_states c items
  states-alone [] known = refl
  states-alone (item ∷ items) known =
      ap₂ (λ (one other : List (ℕ × Tern)). one ++ other)
      (state-alone item (All-head (λ (one : List ℕ × Tern). is_some (node_of c.names one.0) ≡ true) item items known))
      (states-alone items (All-tail (λ (one : List ℕ × Tern). is_some (node_of c.names one.0) ≡ true) item items known))

  -- the nodes of given states past the rails are those of the names
  pub past-alone : (items : List (List ℕ × Tern)) → All (λ (pair : ℕ × Tern). RAILS ≤ pair.0) (given_states c items) →
      All (λ item. RAILS ≤ node_named c item.0) items
  past-alone [] past = All-nil (λ (item : List ℕ × Tern). RAILS ≤ node_named c item.0)
  past-alone (item ∷ items) past =
      All-cons (λ (one : List ℕ × Tern). RAILS ≤ node_named c one.0) item items
      (All-head (λ (pair : ℕ × Tern). RAILS ≤ pair.0) (node_named c item.0, item.1) (given_states c items) past)
      (past-alone items (All-tail (λ (pair : ℕ × Tern). RAILS ≤ pair.0) (node_named c item.0, item.1) (given_states c items) past))
