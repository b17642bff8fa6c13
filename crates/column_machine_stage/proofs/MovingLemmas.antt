-- The states of columns: as many of them in each, sound rails for a build, what a node's letters are in words, and what acts lead to.
use Rattle.std.proofs.Common.{◌≡◌, ℕ, ◌<◌, ◌≤◌, false, List, [], ◌∷◌, length, set, sym, ap, subst, ◌∙◌, arith}
use Rattle.std.specs.Prelude.{IfSome, IfNone, slice_index_or}
use Rattle.ternary.specs.declared.tern.Tern.{Tern}
use Rattle.switch_paths.specs.Graphs.{GraphData, nodes}
use Rattle.switch_paths.specs.Step.{IsStep}
use Rattle.settling.specs.declared.settling.Settled.{Settled}
use Rattle.settling.specs.Settling.{Settles}
use Rattle.column_machines.specs.Columns.{column_states, HasSoundColumn, HasStates}
use Rattle.column_machines.specs.declared.column_machine.ColumnMachine.{ColumnMachine}
use Rattle.column_machines.specs.Moving.{columns_of, highs_of, lows_of}
use Rattle.column_machines.specs.Running.{AreColumns}
use Rattle.column_machines.proofs.ColumnLemmas.{length-column_states}
use Rattle.column_stage.specs.Acts.{Act, Reserved, Placed, Edited, Built, Stepped, Rested, Leads}
use Rattle.column_stage.specs.Columns.{AreSound, letter_in}
use Rattle.column_machine_stage.specs.declared.words.Words.{Words}
use Rattle.column_machine_stage.specs.declared.stage.Held.{Held}
use Rattle.column_machine_stage.specs.declared.stage.Held.TheVariants as held_is
use Rattle.column_machines.specs.declared.rails.Rails.{Rails}
use Rattle.column_machine_stage.specs.Stages.{StageData, HasValue, MovesTogether, hi_held, lo_held, machine_held, states_in}
use Rattle.column_machine_stage.specs.Acts.{DidAct, SettlesIn}
use Rattle.column_machine_stage.proofs.ColumnLemmas.{HasStates-value, placed_value}

-- ---- what is held

-- the rails that stand alone are those of columns
pub columns_still : (columns : ℕ) (held : Held) (rails : Rails) → held ≡ held_is.Still rails →
    IfNone (machine_held held) (AreColumns columns (hi_held held) (lo_held held)) → AreColumns columns (hi_held held) (lo_held held)
columns_still columns held rails is columns_are =
    subst (λ (h : Held). AreColumns columns (hi_held h) (lo_held h)) (sym is)
    (subst (λ (h : Held). IfNone (machine_held h) (AreColumns columns (hi_held h) (lo_held h))) is columns_are)

-- and so are a machine's
pub columns_built : (columns : ℕ) (held : Held) (machine : ColumnMachine) → held ≡ held_is.Built machine →
    AreColumns (columns_of machine) (highs_of machine) (lows_of machine) → IfSome (machine_held held) (λ one. columns_of one ≡ columns) →
    AreColumns columns (hi_held held) (lo_held held)
columns_built columns held machine is columns_are same =
    subst (λ (h : Held). AreColumns columns (hi_held h) (lo_held h)) (sym is)
    (subst (λ (n : ℕ). AreColumns n (highs_of machine) (lows_of machine))
    (subst (λ (h : Held). IfSome (machine_held h) (λ one. columns_of one ≡ columns)) is same) columns_are)

-- ---- nodes

module _ (g : GraphData) (stage : StageData) (columns_are : AreColumns stage.columns stage.hi stage.lo) (some : 1 ≤ stage.columns)
    (sound : AreSound g stage.columns (states_in stage)) where
  -- each node has words
  pub node_highs : length stage.hi ≡ nodes g
  node_highs = sym (length-column_states 0 stage.hi stage.lo columns_are.counted) ∙ (sound 0 (omega (arith, some))).counted

  pub node_lows : length stage.lo ≡ nodes g
  node_lows = columns_are.counted ∙ node_highs

  -- and they are the rails of sound states
  pub sound_column : (column : ℕ) → column < stage.columns → HasSoundColumn g stage.hi stage.lo column
  sound_column column inside =
      let here = sound column inside in
      record { state = states_in stage column; has = columns_are.each column inside; counted = here.counted; sound = here.sound }

-- ---- letters

module _ (columns : ℕ) (letters : List Tern) (words : Words)
    (has : (column : ℕ) → column < columns → HasValue column (letter_in column letters) words) where
  -- the words of letters have a rail in each column
  pub letters_rail : HasStates columns words.hi words.lo
  letters_rail = HasStates-value columns (λ column. letter_in column letters) words has

  -- and a node that has them has the column's letter
  pub letters_placed : (node : ℕ) (hi lo new_hi new_lo : List ℕ) → new_hi ≡ set hi node words.hi → new_lo ≡ set lo node words.lo → (column : ℕ) →
      column < columns → column_states column new_hi new_lo ≡ set (column_states column hi lo) node (letter_in column letters)
  letters_placed node hi lo new_hi new_lo high low column inside =
      placed_value column node (letter_in column letters) words hi lo new_hi new_lo (has column inside) high low

-- ---- phases

-- all columns settled, each with its count
pub settle_together : (g : GraphData) (limit : ℕ) (counts : List Settled) (old new : StageData) →
    ((past : Settled) → MovesTogether g (λ column before after.
    Settles g before limit after (slice_index_or counts column past).steps (slice_index_or counts column past).joined) old new) →
    MovesTogether g (SettlesIn g limit counts) old new
settle_together g limit counts old new moves =
    let one = moves (record { steps = 0; joined = false }) in
    record { columns = one.columns; each = λ column inside past. (moves past).each column inside; fits = one.fits; kind = one.kind }

-- ---- acts

-- an act keeps the columns
columns_after : (act : Act) (old new : StageData) → DidAct act old new → new.columns ≡ old.columns
columns_after Reserved old new did = did.columns
columns_after (Placed g node letters) old new did = did.columns
columns_after (Edited g change) old new did = did.columns
columns_after (Built large g) old new did = did.same.columns
columns_after (Stepped g) old new did = did.columns
columns_after (Rested g limit counts) old new did = did.columns

-- so do acts, one after the other
pub columns_led : (acts : List Act) (old new : StageData) → Leads DidAct old acts new → new.columns ≡ old.columns
columns_led [] old new same = ap (λ (stage : StageData). stage.columns) same
columns_led (act ∷ acts) old new (mid, did, rest) = columns_led acts mid new rest ∙ columns_after act old mid did

-- a build and a step are a step in each column
pub step_led : (large : ℕ) (g : GraphData) (old new : StageData) → Leads DidAct old (Built large g ∷ Stepped g ∷ []) new → (column : ℕ) →
    column < old.columns → IsStep g (states_in old column) (states_in new column)
step_led large g old new (mid, built, (then, stepped, same)) column inside =
    let within : column < mid.columns = subst (λ (n : ℕ). column < n) (sym built.same.columns) inside in
    subst (λ (stage : StageData). IsStep g (states_in old column) (states_in stage column)) (sym same)
    (subst (λ (state : List Tern). IsStep g state (states_in then column)) (built.same.each column inside) (stepped.each column within))
