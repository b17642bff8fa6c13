-- Functions that are the rails of nodes have in each column the nodes' states.
use Rattle.std.proofs.Common.{◌≡◌, ℕ, ◌<◌, List, length, map, sym, ap, subst, ◌∙◌}
use Rattle.std.proofs.lemmas.List.{length-map}
use Rattle.ternary.specs.Tern.{may_zero}
use Rattle.switch_paths.specs.Switching.{state_at}
use Rattle.decision_graph.specs.declared.vertex.Function.{Function}
use Rattle.truth_columns.specs.Columns.{HasColumn}
use Rattle.truth_columns.proofs.ColumnLemmas.{high_counted, length-values_in}
use Rattle.truth_parts.specs.Columns.{AreColumns}
use Rattle.truth_parts.specs.Columns as truth
use Rattle.truth_parts.proofs.ColumnLemmas.{states-has}
use Rattle.truth_makers.specs.Makers.{function_holds}
use Rattle.symbol_stage.specs.Stages.{StageData, columns_on, states_in}
use Rattle.symbol_looking.specs.Letters.{AreRailsAt}
use Rattle.symbol_looking.proofs.MergingLemmas.{some_columns}

module _ (stage : StageData) (nodes : List ℕ) (highs lows : List Function) (are : AreRailsAt stage nodes highs lows) where
  -- they are as many
  even : length lows ≡ length highs
  even =
      let first = are.states 0 (some_columns stage) in
      let state = map (state_at (states_in stage 0)) nodes in
      sym (length-values_in (function_holds stage.machine.maker) 0 lows) ∙ ap length first.zeros ∙ length-map state may_zero
      ∙ sym (high_counted (function_holds stage.machine.maker) 0 highs lows state first)

  -- in each column their states are those of the nodes
  pub rails_states : (column : ℕ) → column < columns_on stage →
      truth.states_in (function_holds stage.machine.maker) column highs lows ≡ map (state_at (states_in stage column)) nodes
  rails_states column inside =
      states-has (function_holds stage.machine.maker) column highs lows even (map (state_at (states_in stage column)) nodes) (are.states column inside)

  -- so there is one for each node in each column
  pub rails_columns : AreColumns (columns_on stage) (function_holds stage.machine.maker) highs lows
  rails_columns = record {
    counted = even;
    each = λ column inside. subst (HasColumn (function_holds stage.machine.maker) column highs lows) (sym (rails_states column inside)) (are.states column inside);
  }
