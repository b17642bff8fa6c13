-- The machine goes on, or waits as before.
use Rattle.std.proofs.Common.{true, Some, Err, refl, sym, subst}
use Rattle.std.specs.Prelude.{All}
use Rattle.std.proofs.lemmas.List.Elements.{All-nil}
use Rattle.analysis_cache.specs.Keeping.{texts_of}
use Rattle.machine_laws.specs.Machines.{MachineData}
use Rattle.fault_stage.specs.declared.held.Held.TheVariants as held
use Rattle.fault_stage.specs.Building.{BuildsHeld}
use Rattle.fault_stage.specs.Passing.{IsPassed}
use Rattle.fault_stage.specs.Stages.{Waits, data_of, wait_of}
use Rattle.fault_stage.proofs.FrontLemmas.{front_cut}
use Rattle.fault_stage.proofs.HeldLemmas.{held_ready, held_still}
use Rattle.fault_stage.proofs.building.finish.Goals as goal

pub finish_beside-requires-clause-led : goal.finish_beside-requires-clause-led
finish_beside-requires-clause-led g c = rw c.deref.ensures.value c.requires.led

pub finish_beside-requires-clause-railed : goal.finish_beside-requires-clause-railed
finish_beside-requires-clause-railed g c = c.requires.starts.railed

pub returns-in-Ok : goal.returns-in-Ok
returns-in-Ok g c =
    let made = c.in-Ok.ensures.made in
    let old = Waits (wait_of (record {
      state = c.args.state;
      last_run = Some (record { machine = Some c.args.machine; covered = true; graph = c.args.graph; good = c.args.good; apart = c.args.apart });
    })) in
    held_ready c.args.large c.args.graph c.args.kept.now c.finish_beside.new.kept _ _ old refl _ c.in-Ok.fresh
    (record {
      counted = c.requires.starts.sound.counted;
      railed = c.requires.starts.railed;
      sound = c.requires.starts.sound.sound;
      known = made.known;
      goes = rw (← c.deref.ensures.value) made.goes;
      passes = subst (All (IsPassed c.args.graph)) (sym c.no_passes.ensures) (All-nil _);
      apart = c.requires.apart;
    }) refl refl refl made.builds made.front c.finish_beside.ensures.leaves.bound

pub returns-in-Err : goal.returns-in-Err
returns-in-Err g c =
    let waits = λ (m : MachineData). held.Waiting (record {
      state = c.args.state;
      last_run = Some (record { machine = Some m; covered = true; graph = c.args.graph; good = c.args.good; apart = c.args.apart });
    }) in
    subst (λ (m : MachineData). BuildsHeld c.args.large c.args.graph (data_of (waits c.args.machine)) (waits m) c.args.kept.now c.finish_beside.new.kept
    (g.A.Analyst.analysed c.args.analyst.now) (g.A.Analyst.analysed c.finish_beside.new.analyst) (Err c.in-Err.fault)) (sym c.in-Err.ensures.err)
    (held_still c.args.large c.args.graph c.args.kept.now c.finish_beside.new.kept _ _ (waits c.args.machine) c.finish_beside.result c.in-Err.fault refl
    (λ covered. record { machine = c.requires.led.covered; apart = c.requires.apart }) c.in-Err.is c.finish_beside.ensures.leaves
    (front_cut c.args.large c.args.graph c.args.machine.last (texts_of c.args.kept.now) (texts_of c.finish_beside.new.kept) _ _ c.requires.front))
