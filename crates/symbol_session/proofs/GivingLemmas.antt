-- `set` and `charge` in all columns: what the session's columns do by the table, the script's columns do by their valuations, beside what was missed and kept.
use Rattle.std.proofs.Common.{◌≡◌, ℕ, ◌<◌, Bool, false, List, [], map, Some, Result, Ok, Err, refl, ap, ◌∙◌}
use Rattle.std.specs.Prelude.{IfErr}
use Rattle.ternary.specs.declared.tern.Tern.{Tern}
use Rattle.script_lang.specs.declared.value.Value.{Value}
use Rattle.column_script.specs.declared.command.ValueCommand.{ValueCommand}
use Rattle.column_script.specs.declared.command.ValueCommand.TheVariants as value
use Rattle.session_meaning.specs.Sessions.{SessionData}
use Rattle.session_meaning.specs.Columns.{column_of}
use Rattle.session_meaning.specs.Outcomes.{Does}
use Rattle.session_meaning.specs.Preparing.{builds}
use Rattle.session_meaning.specs.Refusals.{refusal_of}
use Rattle.session_meaning.specs.Truths.{give_of}
use Rattle.symbol_script.specs.declared.line.Assignment.{Assignment}
use Rattle.symbol_stage.specs.Stages.{columns_on, states_in}
use Rattle.symbol_meaning.specs.Readings.{plain_under}
use Rattle.symbol_giving.specs.declared.fault.GivingFault.{GivingFault}
use Rattle.symbol_giving.specs.declared.fault.GivingFault.TheVariants as giving
use Rattle.symbol_giving.specs.Giving as own_columns
use Rattle.symbol_giving.specs.Giving.{GivesInAll}
use Rattle.symbol_giving.specs.Letters.{named_in}
use Rattle.symbol_giving.proofs.PlainLemmas.{all_plain_alike}
use Rattle.symbol_session.specs.Asked.{GivesAsked, IsKnown, asked_values, command_in}
use Rattle.symbol_session.specs.Sessions.{IsSymbolSession, SymbolData, data_of, truths_by, valuations_by}
use Rattle.symbol_session.specs.Turns.{IsOwnFault, turn_given}
use Rattle.symbol_session.proofs.DataLemmas.{GoesOn, data_on, inside_columns}

-- these data with others of what was missed and kept
abbrev beside : SessionData → Bool → List (List ℕ × List Tern) → SessionData
beside s missed saves = record s { missed = missed; saves = saves }

-- what gives letters looks at neither
does_beside : (kind : ValueCommand) (list : List (List ℕ × Value)) (old new : SessionData) (missed : Bool) (saves : List (List ℕ × List Tern)) → Does old (give_of kind list) new [] →
    Does (beside old missed saves) (give_of kind list) (beside new missed saves) []
does_beside value.Set list old new missed saves does =
    record { allowed = does.allowed; effect = (ap (λ (s : SessionData). beside s missed saves) does.effect.0, refl) }
does_beside value.Charge list old new missed saves does =
    record { allowed = does.allowed; effect = (ap (λ (s : SessionData). beside s missed saves) does.effect.0, refl) }

refused_beside : (kind : ValueCommand) (list : List (List ℕ × Value)) (s : SessionData) (missed : Bool) (saves : List (List ℕ × List Tern)) →
    refusal_of (beside s missed saves) (give_of kind list) ≡ refusal_of s (give_of kind list)
refused_beside value.Set list s missed saves = refl
refused_beside value.Charge list s missed saves = refl

builds_none : (kind : ValueCommand) (list : List (List ℕ × Value)) → builds (give_of kind list) ≡ false
builds_none value.Set list = refl
builds_none value.Charge list = refl

module _ (old new : SymbolData) (own : IsSymbolSession old) (goes : GoesOn old new) (kind : ValueCommand) (list : List Assignment)
    (known : IsKnown (valuations_by old) old.names.names (truths_by old) (asked_values kind list)) where
  -- the assignments of a column by the table
  abbrev by_table : ℕ → List (List ℕ × Value)
  by_table column = map (plain_under (named_in old.session.stage old.names column) old.session.core.circuit old.session.core.vectors) list

  list_same : (column : ℕ) → column < (valuations_by old).columns →
      map (plain_under ((valuations_by old).values column) old.session.core.circuit old.session.core.vectors) list ≡ by_table column
  list_same column inside = by kind known
    where
      by : (one : ValueCommand) → IsKnown (valuations_by old) old.names.names (truths_by old) (asked_values one list) →
          map (plain_under ((valuations_by old).values column) old.session.core.circuit old.session.core.vectors) list ≡ by_table column
      by value.Set is = all_plain_alike ((valuations_by old).values column) (named_in old.session.stage old.names column) old.session.core.circuit old.session.core.vectors list
          (is.values column inside)
      by value.Charge is = all_plain_alike ((valuations_by old).values column) (named_in old.session.stage old.names column) old.session.core.circuit old.session.core.vectors list
          (is.values column inside)

  -- so the column's command is that by the table
  command_same : (column : ℕ) → column < (valuations_by old).columns →
      command_in (valuations_by old) (data_of old) (asked_values kind list) column ≡ Some (give_of kind (by_table column))
  command_same column inside = by kind (list_same column inside)
    where
      by : (one : ValueCommand) → map (plain_under ((valuations_by old).values column) old.session.core.circuit old.session.core.vectors) list ≡ by_table column →
          command_in (valuations_by old) (data_of old) (asked_values one list) column ≡ Some (give_of one (by_table column))
      by value.Set same = ap (λ (values : List (List ℕ × Value)). Some (give_of value.Set values)) same
      by value.Charge same = ap (λ (values : List (List ℕ × Value)). Some (give_of value.Charge values)) same

  pub gives_asked : (number : ℕ) (ended : Result (Unit {0}) GivingFault) →
      GivesInAll (columns_on old.session.stage) (own_columns.command_in kind old.names list old.session) (own_columns.data_of old.session)
      (own_columns.data_of new.session) ended → GivesAsked (valuations_by old) (data_of old) (asked_values kind list) (data_of new) (turn_given number ended)
  gives_asked number (Ok done) each = λ column inside.
      let within = inside_columns old own column inside in
      let missed = (data_of old column).missed in
      let saves = (data_of old column).saves in
      let does = does_beside kind (by_table column) (column_of states_in old.session column) (column_of states_in new.session column) missed saves (each column within) in (
        give_of kind (by_table column),
        command_same column inside,
        builds_none kind (by_table column),
        rw (data_on old new own goes column within) does,
      )
  gives_asked number (Err (giving.Refused refusal)) each = (
    record {
      refusal = refusal;
      coded = refl;
      each = λ column inside. record {
        own = give_of kind (by_table column);
        asks = command_same column inside;
        refused = refused_beside kind (by_table column) (column_of states_in old.session column) (data_of old column).missed (data_of old column).saves
            ∙ (each column (inside_columns old own column inside)).0;
      };
    },
    λ column inside.
        let within = inside_columns old own column inside in
        data_on old new own goes column within
        ∙ ap (λ (s : SessionData). beside s (data_of old column).missed (data_of old column).saves) (each column within).1,
  )
  gives_asked number (Err giving.Full) each = tt
  gives_asked number (Err giving.NoMemory) each = tt

-- memory ran out, or vertices
pub given_own : (number : ℕ) (ended : Result (Unit {0}) GivingFault) → IfErr (turn_given number ended) (IsOwnFault number)
given_own number (Ok done) = tt
given_own number (Err (giving.Refused refusal)) = tt
given_own number (Err giving.Full) = refl
given_own number (Err giving.NoMemory) = refl

-- what is given counts no waveform line
pub gives_counts : (kind : ValueCommand) (list : List (List ℕ × Value)) (old new : SessionData) → Does old (give_of kind list) new [] →
    (new.circuit ≡ old.circuit) × (new.count ≡ old.count)
gives_counts value.Set list old new does = (ap (λ (s : SessionData). s.circuit) does.effect.0, ap (λ (s : SessionData). s.count) does.effect.0)
gives_counts value.Charge list old new does = (ap (λ (s : SessionData). s.circuit) does.effect.0, ap (λ (s : SessionData). s.count) does.effect.0)

pub given_counts : (columns : ℕ) → 0 < columns → (kind : ValueCommand) (lists : ℕ → List (List ℕ × Value)) (old new : ℕ → SessionData)
    (ended : Result (Unit {0}) GivingFault) → GivesInAll columns (λ column. give_of kind (lists column)) old new ended →
    ((new 0).circuit ≡ (old 0).circuit) × ((new 0).count ≡ (old 0).count)
given_counts columns some kind lists old new (Ok done) each = gives_counts kind (lists 0) (old 0) (new 0) (each 0 some)
given_counts columns some kind lists old new (Err (giving.Refused refusal)) each =
    (ap (λ (s : SessionData). s.circuit) (each 0 some).1, ap (λ (s : SessionData). s.count) (each 0 some).1)
given_counts columns some kind lists old new (Err giving.Full) stays =
    (ap (λ (s : SessionData). s.circuit) (stays.stays.each 0 some), ap (λ (s : SessionData). s.count) (stays.stays.each 0 some))
given_counts columns some kind lists old new (Err giving.NoMemory) stays =
    (ap (λ (s : SessionData). s.circuit) (stays.each 0 some), ap (λ (s : SessionData). s.count) (stays.each 0 some))
