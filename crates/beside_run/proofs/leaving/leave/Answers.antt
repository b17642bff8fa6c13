-- All parts are marked, and the machine starts again in the state.
use Rattle.std.proofs.Common.{length, sym, ap, subst, ◌∙◌}
use Rattle.switch_paths.specs.Rails.{IsSound}
use Rattle.machine_laws.specs.Machines.{MachineData}
use Rattle.beside_run.proofs.RunningLemmas.{leaves_so}
use Rattle.beside_run.proofs.leaving.leave.Goals as goal

pub restart-requires : goal.restart-requires
restart-requires c =
    let rest = c.mark_all_parts.ensures.rest in
    record {
      counted = c.requires.counted ∙ sym (ap (λ (m : MachineData). length m.state) rest);
      sound = subst (λ (m : MachineData). IsSound m.state) (sym rest) c.requires.fits.sound;
      sound_again = c.requires.sound;
    }

pub returns : goal.returns
returns c =
    leaves_so c.args.graph.now c.args.state.now c.args.machine.now c.mark_all_parts.new.self c.restart.new.self c.requires.fits
    c.has_a_mark_for_each_part.ensures c.mark_all_parts.ensures c.restart.ensures
