-- All parts are marked, all nodes are given, and nothing is counted.
use Rattle.std.proofs.Common.{ap, length, subst, sym, ◌∙◌}
use Rattle.machine_laws.specs.Machines.{MachineData}
use Rattle.switch_paths.specs.Rails.{IsSound}
use Rattle.unit_step.specs.Restarting.{Restarts}
use Rattle.unit_step.proofs.RestartingLemmas.{marked_parts, rails_alike, restarted}
use Rattle.unit_step.proofs.machine.Machine.restart.Goals as goal

pub give_all-requires : goal.give_all-requires
give_all-requires c = record {
  counted = c.requires.counted ∙ sym (ap (λ (m : MachineData). length m.state) c.mark_all_parts.ensures.rest);
  rails = rails_alike c.mark_all_parts.new.self.state c.args.state.now
      (subst (λ (m : MachineData). IsSound m.state) (sym c.mark_all_parts.ensures.rest) c.requires.sound) c.requires.sound_again;
  marked = marked_parts c.args.self.now c.mark_all_parts.new.self c.mark_all_parts.ensures;
}

pub returns : goal.returns
returns c =
    subst (Restarts c.args.graph.now c.args.state.now c.args.self.now) (sym c.forget_counts.ensures)
    (restarted c.args.graph.now c.args.state.now c.args.self.now c.mark_all_parts.new.self c.give_all.new.self c.requires.counted c.mark_all_parts.ensures
    c.give_all.ensures.gives c.give_all.ensures.marks)
