-- From ready data every command has its steps and phases.
use Rattle.std.proofs.Common.{◌≡◌, ℕ, List, [], ◌∷◌, length, refl, ◌∙◌}
use Rattle.ternary.specs.declared.tern.Tern.{Tern}
use Rattle.switch_paths.specs.Graphs.{GraphData, IsWired, nodes}
use Rattle.settling.specs.Passing.{last_state}
use Rattle.settling.specs.Passes.{Pass, state_behind}
use Rattle.settling.proofs.PassingLemmas.{every_state_passes, passing_settles}
use Rattle.script_lang.specs.declared.command.Command.{Command}
use Rattle.script_lang.specs.declared.command.Command.TheVariants as family
use Rattle.script_lang.specs.declared.command.Run.{Run}
use Rattle.script_lang.specs.declared.command.Run.TheVariants.{Step, Phase, Cycle, Report}
use Rattle.session_meaning.specs.Sessions.{SessionData, ClockData, IsReady, places_of}
use Rattle.session_meaning.specs.Effects.{states_with, places_in}
use Rattle.session_meaning.specs.Passing.{IsStepPass, IsPhasePass, BeatsThrough, RunThrough, PassesThrough}
use Rattle.session_meaning.proofs.StateLemmas.{length-settles, length-states_with}

module _ (g : GraphData) (wired : IsWired g) (limit : ℕ) where
  -- a phase, behind which there are as many nodes
  phase_passes : (old : List Tern) → length old ≡ nodes g → (pass : Pass) × IsPhasePass g limit old pass × (length (state_behind pass) ≡ nodes g)
  phase_passes old count =
      let found = every_state_passes g wired old count limit in
      let pass : Pass = record { before = old; states = found.0; steps = length found.0 } in (
        pass,
        record { before = refl; through = (found.1, found.2, refl) },
        length-settles g old limit (last_state old found.0) (length found.0) found.1 count (passing_settles g old limit found.0 found.1 found.2),
      )

  -- a phase at each place of the clocks
  beats_pass : (clocks : List ClockData) (places : List ℕ) (old : List Tern) → length old ≡ nodes g →
      (passes : List Pass) × BeatsThrough g clocks limit places old passes
  beats_pass clocks [] old count = ([], refl)
  beats_pass clocks (place ∷ places) old count =
      let first = phase_passes (states_with clocks place old) (length-states_with clocks place old ∙ count) in
      let others = beats_pass clocks places (state_behind first.0) first.2 in
      (first.0 ∷ others.0, (first.0, others.0, first.1, others.1, refl))

-- a unit step
step_passes : (g : GraphData) → IsWired g → (old : List Tern) → length old ≡ nodes g → (pass : Pass) × IsStepPass g old pass
step_passes g wired old count =
    let found = every_state_passes g wired old count 1 in
    (record { before = old; states = found.2.plain; steps = 1 }, record { before = refl; through = found.2.stepping; steps = refl })

run_passes : (session : SessionData) → IsReady session → (run : Run) → (passes : List Pass) × RunThrough session run passes
run_passes session ready Step =
    let found = step_passes session.circuit.graph ready.netlist.wired session.state ready.states in
    (found.0 ∷ [], (found.0, found.1, refl))
run_passes session ready Phase =
    let found = phase_passes session.circuit.graph ready.netlist.wired session.limit session.state ready.states in
    (found.0 ∷ [], (found.0, found.1, refl))
run_passes session ready (Cycle times) =
    beats_pass session.circuit.graph ready.netlist.wired session.limit session.clocks (places_in (places_of session.clocks) times) session.state ready.states
run_passes session ready Report = ([], refl)

pub command_passes : (session : SessionData) → IsReady session → (command : Command) → (passes : List Pass) × PassesThrough session command passes
command_passes session ready (family.Edit edit) = ([], refl)
command_passes session ready (family.Give give) = ([], refl)
command_passes session ready (family.Setup setup) = ([], refl)
command_passes session ready (family.Run run) = run_passes session ready run
command_passes session ready (family.Tell tell) = ([], refl)
