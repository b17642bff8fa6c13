-- The nodes of a session over the stage of a symbolic script, and their rails: the stage has both for each of them.
use Rattle.std.proofs.Common.{◌≡◌, ℕ, ◌+◌, ◌<◌, ◌≤◌, Bool, List, [], ◌∷◌, ◌++◌, length, get_or, map, take, All, refl, sym, ap, subst, ◌∙◌, arith}
use Rattle.std.proofs.lemmas.List.{get_or_default, map-append, map_more}
use Rattle.std.proofs.lemmas.List.Elements.{All-nil, All-push, All-weaker}
use Rattle.ternary.specs.declared.tern.Tern.{Tern}
use Rattle.ternary.specs.Tern.{may_one, may_zero}
use Rattle.switch_paths.specs.Graphs.{nodes}
use Rattle.switch_paths.specs.Switching.{state_at}
use Rattle.decision_graph.specs.declared.vertex.Function.{Function}
use Rattle.truth_columns.specs.Columns.{values_in}
use Rattle.truth_parts.specs.Columns as truth
use Rattle.truth_makers.specs.Makers.{function_holds, IsFunctionOf}
use Rattle.session_meaning.specs.Sessions.{HeldSession, IsHeldSession}
use Rattle.symbol_stage.specs.Stages.{StageData, ServesIn, columns_on, states_in}
use Rattle.symbol_looking.specs.Letters.{AreRailsAt, nodes_on, rail_of}
use Rattle.symbol_looking.proofs.MergingLemmas.{some_columns}

-- ---- nodes

-- two lists of rails have no fewer functions than states
few_highs : {A : Type 0} (holds : A → ℕ → Bool) (column : ℕ) (hi lo : List A) → length (truth.states_in holds column hi lo) ≤ length hi
few_highs holds column [] lo = omega arith
few_highs holds column (high ∷ hi) [] = omega arith
few_highs holds column (high ∷ hi) (low ∷ lo) = omega (arith, few_highs holds column hi lo)

few_lows : {A : Type 0} (holds : A → ℕ → Bool) (column : ℕ) (hi lo : List A) → length (truth.states_in holds column hi lo) ≤ length lo
few_lows holds column [] lo = omega arith
few_lows holds column (high ∷ hi) [] = omega arith
few_lows holds column (high ∷ hi) (low ∷ lo) = omega (arith, few_lows holds column hi lo)

-- a node of a stage has both rails
pub high_inside : (stage : StageData) (node : ℕ) → node < nodes_on stage → node < length stage.machine.hi
unfolding nodes_on
high_inside stage node inside = omega (arith, inside, few_highs (function_holds stage.machine.maker) 0 stage.machine.hi stage.machine.lo)

pub low_inside : (stage : StageData) (node : ℕ) → node < nodes_on stage → node < length stage.machine.lo
unfolding nodes_on
low_inside stage node inside = omega (arith, inside, few_lows (function_holds stage.machine.maker) 0 stage.machine.hi stage.machine.lo)

module _ (session : HeldSession StageData) (held : IsHeldSession columns_on states_in ServesIn session) where
  -- a session's nodes are those of its stage
  pub nodes_inside : nodes session.core.circuit.graph ≤ nodes_on session.stage
  unfolding nodes_on
  nodes_inside = let count = (held.sound 0 (some_columns session.stage)).counted in omega (arith, count)

  -- so several of the one are of the other
  pub all_inside : (list : List ℕ) → All (λ node. node < nodes session.core.circuit.graph) list → All (λ node. node < nodes_on session.stage) list
  all_inside list within =
      let all = nodes_inside in
      All-weaker (λ (node : ℕ). node < nodes session.core.circuit.graph) (λ (node : ℕ). node < nodes_on session.stage)
      (λ node inside. omega (arith, inside, all)) list within

-- ---- rails

-- what stands at a node's place is its rail
pub rail_is : (rails : List Function) (node : ℕ) (rail : Function) → node < length rails → get_or rails node rail ≡ rail → rail ≡ rail_of rails node
rail_is rails node rail inside is = sym is ∙ get_or_default rails node rail (record { place = 0 }) inside

-- no nodes have no rails
pub no_rails : (stage : StageData) → AreRailsAt stage [] [] []
no_rails stage = record {
  own_highs = All-nil (IsFunctionOf stage.machine.maker);
  own_lows = All-nil (IsFunctionOf stage.machine.maker);
  states = λ column inside. record { ones = refl; zeros = refl };
}

module _ (stage : StageData) (list : List ℕ) (k : ℕ) (within : k < length list) where
  abbrev front : ℕ → List Tern
  front column = map (state_at (states_in stage column)) (take k list)

  -- the values of one rail more in a column
  values_more : (value : Tern → Bool) (column : ℕ) (rails more : List Function) (rail : Function) → more ≡ rails ++ rail ∷ [] →
      values_in (function_holds stage.machine.maker) column rails ≡ map value (map (state_at (states_in stage column)) (take k list)) →
      function_holds stage.machine.maker rail column ≡ value (state_at (states_in stage column) (get_or list k 0)) →
      values_in (function_holds stage.machine.maker) column more ≡ map value (map (state_at (states_in stage column)) (take (k + 1) list))
  values_more value column rails more rail is before here =
      let holds = λ (f : Function). function_holds stage.machine.maker f column in
      let state = state_at (states_in stage column) in
      ap (map holds) is ∙ map-append holds rails (rail ∷ []) ∙ ap (λ (values : List Bool). values ++ holds rail ∷ []) before
      ∙ ap (λ (own : Bool). map value (front column) ++ own ∷ []) here
      ∙ sym (ap (map value) (map_more state list k 0 within) ∙ map-append value (front column) (state (get_or list k 0) ∷ []))

  -- the rails of one node more
  pub rails_more : (highs lows more_highs more_lows : List Function) (high low : Function) → more_highs ≡ highs ++ high ∷ [] →
      more_lows ≡ lows ++ low ∷ [] → IsFunctionOf stage.machine.maker high → IsFunctionOf stage.machine.maker low →
      ((column : ℕ) → column < columns_on stage → function_holds stage.machine.maker high column ≡ may_one (state_at (states_in stage column) (get_or list k 0))) →
      ((column : ℕ) → column < columns_on stage → function_holds stage.machine.maker low column ≡ may_zero (state_at (states_in stage column) (get_or list k 0))) →
      AreRailsAt stage (take k list) highs lows → AreRailsAt stage (take (k + 1) list) more_highs more_lows
  rails_more highs lows more_highs more_lows high low high_is low_is high_own low_own ones zeros before = record {
    own_highs = subst (All (IsFunctionOf stage.machine.maker)) (sym high_is) (All-push (IsFunctionOf stage.machine.maker) highs high before.own_highs high_own);
    own_lows = subst (All (IsFunctionOf stage.machine.maker)) (sym low_is) (All-push (IsFunctionOf stage.machine.maker) lows low before.own_lows low_own);
    states = λ column inside. record {
      ones = values_more may_one column highs more_highs high high_is (before.states column inside).ones (ones column inside);
      zeros = values_more may_zero column lows more_lows low low_is (before.states column inside).zeros (zeros column inside);
    };
  }
