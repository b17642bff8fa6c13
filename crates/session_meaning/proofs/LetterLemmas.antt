-- Letters of columns: no cause of a refusal is a state, so each column refuses a command as every other does; the names of letters that aren't refused
-- are in use; and what a column is given of them.
use Rattle.std.proofs.Common.{◌≡◌, ℕ, suc, ◌≤◌, true, List, [], ◌∷◌, length, map, All, is_some, Option, None, refl, sym, ap, subst, ◌∙◌, arith}
use Rattle.std.specs.Prelude.{◌⊎◌}
use Rattle.std.proofs.lemmas.List.Elements.{All-cons, All-map, All-nil, All-weaker}
use Rattle.ternary.specs.declared.tern.Tern.{Tern}
use Rattle.switch_paths.specs.declared.TheConstants.{RAILS}
use Rattle.netlist.specs.Names.{node_of}
use Rattle.script_lang.specs.declared.command.Command.TheVariants as family
use Rattle.column_script.specs.declared.command.ColumnCommand.{ColumnCommand}
use Rattle.column_script.specs.declared.command.ColumnCommand.TheVariants.{Values, Shared}
use Rattle.column_script.specs.declared.command.ValueCommand.{ValueCommand}
use Rattle.column_script.specs.declared.command.ValueCommand.TheVariants as value
use Rattle.column_script.specs.Commands.{alone_of, in_column, value_in}
use Rattle.column_script.specs.Forms.{AreColumnValues, IsColumnValue}
use Rattle.session_meaning.specs.declared.fault.Refusal.{Refusal}
use Rattle.session_meaning.specs.Sessions.{SessionData}
use Rattle.session_meaning.specs.Refusals.{charge_at, first_refusal, or_else, refusal_of, set_at, values_refusal}
use Rattle.session_meaning.specs.Preparing.{builds}
use Rattle.session_meaning.specs.Effects.{Effect, assigned, states_by}
use Rattle.session_meaning.specs.Columns.{NamesFree, given_states}
use Rattle.session_meaning.proofs.AloneLemmas.{alone_at, names-alone, past-alone, states-alone, values-alone}
use Rattle.session_meaning.proofs.ValueLemmas.{charge-past, set-past}

-- ---- refusals

-- the first refusal of items that are made of others
first_refusal-map : {X Y : Type 0} (g : X → Y) (f : Y → Option Refusal) (items : List X) → first_refusal f (map g items) ≡ first_refusal (λ x. f (g x)) items
first_refusal-map g f [] = refl
first_refusal-map g f (item ∷ items) = ap (or_else (f (g item))) (first_refusal-map g f items)

module _ (session : SessionData) (state : List Tern) where
  values_alike : (at : ℕ → Option Refusal) (list : List (List ℕ × List Tern)) (column other : ℕ) →
      values_refusal at session.circuit session.vectors (map alone_of (map (value_in column) list))
      ≡ values_refusal at session.circuit session.vectors (map alone_of (map (value_in other) list))
  values_alike at list column other =
      let refusal : List ℕ × Tern → Option Refusal = λ item. alone_at at (node_of session.circuit.names item.0) in
      values-alone session.circuit session.vectors at (map (value_in column) list) ∙ first_refusal-map (value_in column) refusal list
      ∙ sym (values-alone session.circuit session.vectors at (map (value_in other) list) ∙ first_refusal-map (value_in other) refusal list)

  -- a session with other states refuses what a column is given of a command as another column is refused it
  pub refused_alike : (command : ColumnCommand) (column other : ℕ) →
      refusal_of (record session { state = state }) (in_column column command) ≡ refusal_of session (in_column other command)
  refused_alike (Values value.Set list) column other = values_alike (set_at session.circuit) list column other
  refused_alike (Values value.Charge list) column other = values_alike (charge_at session.circuit) list column other
  refused_alike (Shared (family.Edit edit)) column other = refl
  refused_alike (Shared command) column other = refl

-- whether a command builds doesn't depend on the column
pub builds_alike : (command : ColumnCommand) (column other : ℕ) → builds (in_column column command) ≡ builds (in_column other command)
builds_alike (Values kind list) column other = refl
builds_alike (Shared command) column other = refl

-- ---- names

-- what is so of what items make is so of the items, by what they make
All-unmap : {X Y : Type 0} (P : X → Type 0) (f : Y → X) (ys : List Y) → All P (map f ys) → All (λ y. P (f y)) ys
All-unmap P f [] all = All-nil (λ y. P (f y))
All-unmap P f (y ∷ ys) all = All-cons (λ y. P (f y)) y ys (all 0 (f y) (omega arith)) (All-unmap P f ys (λ k d inside. all (suc k) d (omega (arith, inside))))

module _ (session : SessionData) (columns : ℕ) (kind : ValueCommand) (list : List (List ℕ × List Tern)) where
  -- a value has one letter, or one for each column
  pub letters_fit : AreColumnValues columns list → All (λ item. (length item.1 ≡ 1) ⊎ (length item.1 ≡ columns)) list
  letters_fit formed =
      All-weaker (IsColumnValue columns) (λ (item : List ℕ × List Tern). (length item.1 ≡ 1) ⊎ (length item.1 ≡ columns)) (λ item is. is.states) list formed.1

  -- the names of letters that aren't refused are in use, and no rails'
  pub names_free : refusal_of session (in_column 0 (Values kind list)) ≡ None → All (λ item. NamesFree session.circuit item.0) list
  names_free allowed = All-unmap (λ (item : List ℕ × Tern). NamesFree session.circuit item.0) (value_in 0) list (free kind allowed)
    where
      free_of : (at : ℕ → Option Refusal) → values_refusal at session.circuit session.vectors (map alone_of (map (value_in 0) list)) ≡ None →
          All (λ (pair : ℕ × Tern). RAILS ≤ pair.0) (states_by session.circuit session.vectors (map alone_of (map (value_in 0) list))) →
          All (λ (item : List ℕ × Tern). NamesFree session.circuit item.0) (map (value_in 0) list)
      free_of at none past k d inside =
          let items : List (List ℕ × Tern) = map (value_in 0) list in
          let known = names-alone session.circuit session.vectors at items none in
          let given = subst (λ (states : List (ℕ × Tern)). All (λ (pair : ℕ × Tern). RAILS ≤ pair.0) states)
          (states-alone session.circuit session.vectors items known) past in
          (known k d inside, past-alone session.circuit session.vectors items given k d inside)

      free : (kind : ValueCommand) → refusal_of session (in_column 0 (Values kind list)) ≡ None →
          All (λ (item : List ℕ × Tern). NamesFree session.circuit item.0) (map (value_in 0) list)
      free value.Set none =
          free_of (set_at session.circuit) none (set-past session.circuit session.vectors (map alone_of (map (value_in 0) list)) none)
      free value.Charge none =
          free_of (charge_at session.circuit) none (charge-past session.circuit session.vectors (map alone_of (map (value_in 0) list)) none)

  pub names_known : refusal_of session (in_column 0 (Values kind list)) ≡ None →
      All (λ (item : List ℕ × List Tern). is_some (node_of session.circuit.names item.0) ≡ true) list
  names_known allowed =
      All-weaker (λ (item : List ℕ × List Tern). NamesFree session.circuit item.0)
      (λ (item : List ℕ × List Tern). is_some (node_of session.circuit.names item.0) ≡ true) (λ item free. free.0) list (names_free allowed)

-- ---- what a column is given

module _ (session : SessionData) (state : List Tern) (column : ℕ) (list : List (List ℕ × List Tern))
    (known : All (λ (item : List ℕ × List Tern). is_some (node_of session.circuit.names item.0) ≡ true) list) where
  given_is : given_states session.circuit (map (value_in column) list)
      ≡ states_by session.circuit session.vectors (map alone_of (map (value_in column) list))
  given_is =
      sym (states-alone session.circuit session.vectors (map (value_in column) list)
      (All-map (λ (item : List ℕ × Tern). is_some (node_of session.circuit.names item.0) ≡ true) (value_in column) list known))

  -- a column whose states were given so did what its command says
  pub letters_effect : (kind : ValueCommand) (new : SessionData) →
      new ≡ record session { state = assigned state (given_states session.circuit (map (value_in column) list)) } →
      Effect (record session { state = state }) (in_column column (Values kind list)) new []
  letters_effect value.Set new is =
      (is ∙ ap (λ (states : List (ℕ × Tern)). record session { state = assigned state states }) given_is, refl)
  letters_effect value.Charge new is =
      (is ∙ ap (λ (states : List (ℕ × Tern)). record session { state = assigned state states }) given_is, refl)
