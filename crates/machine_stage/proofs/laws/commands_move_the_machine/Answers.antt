-- By families: the acts of each say what the machine went through. That a command isn't refused says that the nodes which a `set` and a cycle place
-- are input nodes.
use Rattle.std.proofs.Common.{◌≡◌, ℕ, List, map, None, sym, ap, subst, ◌∙◌}
use Rattle.ternary.specs.declared.tern.Tern.{Tern}
use Rattle.group_text.specs.Texts.{GroupTextData}
use Rattle.script_lang.specs.declared.command.Command.{Command}
use Rattle.script_lang.specs.declared.command.Command.TheVariants as family
use Rattle.script_lang.specs.declared.command.Give.{Give}
use Rattle.script_lang.specs.declared.command.Give.TheVariants.{Set, Charge, Back}
use Rattle.script_lang.specs.declared.command.Run.{Run}
use Rattle.script_lang.specs.declared.command.Run.TheVariants.{Step, Phase, Cycle, Report}
use Rattle.told_lines.specs.Lines.{Line}
use Rattle.session_meaning.specs.Sessions.{SessionData, HeldSession}
use Rattle.session_meaning.specs.Refusals.{refusal_of}
use Rattle.session_meaning.specs.Effects.{states_by}
use Rattle.session_meaning.specs.Outcomes.{Performs}
use Rattle.session_meaning.specs.Stages.{GivesOn, IsStageAfter, RunsOn}
use Rattle.session_meaning.proofs.OutcomeLemmas.{refusal_of-built}
use Rattle.session_meaning.proofs.ValueLemmas.{set-inputs}
use Rattle.machine_stage.specs.Machines.{StageData, GivesMachine, IsHeldMachine, IsMachineAfter, RunsMachine}
use Rattle.machine_stage.specs.Stages.{DidAct}
use Rattle.machine_stage.proofs.ActLemmas.{assigns_by, by_cycle, by_phase, by_report, by_step, edits_by, others_by, survives-same}
use Rattle.machine_stage.proofs.OtherLemmas.{none_put-in, places-put}
use Rattle.session_meaning.proofs.ClockLemmas.{cycle_inputs}
use Rattle.machine_stage.proofs.PlacingLemmas.{assigns_in-none, covers-serves, places-assigned, unplaced-assigned}
use Rattle.machine_stage.proofs.laws.commands_move_the_machine.Goals as goal

module _ (old new : HeldSession StageData) (lines : List Line) (texts : List GroupTextData) (held : IsHeldMachine old) where
  -- nodes were given states
  by_give : (give : Give) → Performs old.core (family.Give give) new.core lines texts → GivesOn DidAct old give new → GivesMachine old give new
  by_give (Set list) performs leads =
      let c = old.core.circuit in
      let g = c.graph in
      let pairs = states_by c old.core.vectors list in
      let given : List ℕ = map (λ (pair : ℕ × Tern). pair.0) pairs in
      let allowed = subst (λ (s : SessionData). refusal_of s (family.Give (Set list)) ≡ None) performs.prepares.0 performs.does.allowed in
      let assigned = assigns_by g pairs old.stage new.stage (assigns_in-none g given old.stage.machine) leads in (
        places-assigned g given old.stage.machine new.stage.machine assigned,
        unplaced-assigned g given old.stage.machine new.stage.machine (covers-serves g old.stage.state old.core.kept old.stage.machine held.served)
            assigned (set-inputs c old.core.vectors list allowed),
      )
  by_give (Charge list) performs leads =
      let g = old.core.circuit.graph in
      let pairs = states_by old.core.circuit old.core.vectors list in
      let given : List ℕ = map (λ (pair : ℕ × Tern). pair.0) pairs in
      places-assigned g given old.stage.machine new.stage.machine
      (assigns_by g pairs old.stage new.stage (assigns_in-none g given old.stage.machine) leads)
  by_give (Back name) performs by =
      let g = old.core.circuit.graph in
      places-put g old.core.state new.core.state old.stage.machine new.stage.machine
      (others_by g old.core.state new.core.state by.acts old.stage.machine old.stage new.stage by.each
      (none_put-in g old.core.state new.core.state old.stage.machine) by.leads)

  -- the circuit was built, and more was done
  by_run : (run : Run) → IsHeldMachine new → Performs old.core (family.Run run) new.core lines texts → RunsOn DidAct old run new → RunsMachine old run new
  by_run Step held_new performs leads =
      by_step old new held held_new
      (ap (λ (s : SessionData). s.circuit.graph) performs.does.effect.moved ∙ ap (λ (s : SessionData). s.circuit.graph) performs.prepares.used) leads
  by_run Phase held_new performs settles = by_phase old new settles
  by_run (Cycle times) held_new performs settles =
      let command = family.Run (Cycle times) in
      let allowed : refusal_of old.core command ≡ None =
      sym (refusal_of-built old.core performs.mid command texts performs.prepares) ∙ performs.does.allowed in
      by_cycle old new times (cycle_inputs old.core.circuit old.core.clocks allowed) settles
  by_run Report held_new performs leads =
      by_report old new held held_new
      (ap (λ (s : SessionData). s.circuit.graph) performs.does.effect.moved ∙ ap (λ (s : SessionData). s.circuit.graph) performs.prepares.used) leads

by_command : (old new : HeldSession StageData) (command : Command) (lines : List Line) (texts : List GroupTextData) → IsHeldMachine old → IsHeldMachine new →
    Performs old.core command new.core lines texts → IsStageAfter DidAct old command new → IsMachineAfter old command new
by_command old new (family.Edit edit) lines texts held held_new performs by =
    edits_by by.acts old.stage.machine old.stage new.stage by.each (survives-same old.stage.machine) by.leads
by_command old new (family.Give give) lines texts held held_new performs by = by_give old new lines texts held give performs by
by_command old new (family.Setup setup) lines texts held held_new performs same = ap (λ (s : StageData). s.machine) same
by_command old new (family.Run run) lines texts held held_new performs by = by_run old new lines texts held run held_new performs by
by_command old new (family.Tell tell) lines texts held held_new performs same = ap (λ (s : StageData). s.machine) same

pub returns : goal.returns
returns c = by_command
