-- The waveform line of all columns together.
use Rattle.std.specs.Prelude.{◌≡◌, ℕ, ◌<◌, ◌≤◌, true, List, map, Option}
use Rattle.ternary.specs.declared.tern.Tern.{Tern}
use Rattle.settling.specs.declared.settling.Settled.{Settled}
use Rattle.decision_graph.specs.declared.vertex.Function.{Function}
use Rattle.session_meaning.specs.Sessions.{HeldSession}
use Rattle.symbol_meaning.specs.Told.{Wave}
use Rattle.symbol_told.specs.Lines.{Telling}
use Rattle.symbol_stage.specs.Stages.{StageData}
use Rattle.symbol_looking.specs.Letters.{letter_on, rail_of}

-- of the columns' counts this is told: the greatest number of steps, and whether some column joined, in one column
pub record AreCounted (columns : ℕ) (count : ℕ → Settled) (told : Settled) : Type 0 where
  pub few : (column : ℕ) → column < columns → (count column).steps ≤ told.steps
  pub joined : (column : ℕ) → column < columns → (count column).joined ≡ true → told.joined ≡ true
  pub greatest : (column : ℕ) × (column < columns) × (count column ≡ told)

-- the line with this number, behind a step or a phase that told this, with these letters and rails of nodes
abbrev pub wave_with : ℕ → Settled → List (Option Tern) → List Function → List Function → Telling
wave_with n told letters highs lows = record { line = Wave n told.steps told.joined letters; highs = highs; lows = lows }

-- with those of these nodes of a stage
abbrev pub wave_at : StageData → List ℕ → ℕ → Settled → Telling
wave_at stage nodes n told =
    wave_with n told (map (letter_on stage) nodes) (map (rail_of stage.machine.hi) nodes) (map (rail_of stage.machine.lo) nodes)

-- the line of a session's watched nodes
abbrev pub wave_of : HeldSession StageData → Settled → Telling
wave_of session told = wave_at session.stage session.core.watched session.core.count told
