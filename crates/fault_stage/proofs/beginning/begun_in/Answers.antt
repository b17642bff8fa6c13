-- The run begins beside the good one, or the machine goes by itself.
use Rattle.std.proofs.Common.{◌≡◌, Option, length, sym, ap, subst, ◌∙◌}
use Rattle.machine_laws.specs.Fitting.{FitsGraph}
use Rattle.beside_run.specs.Running.{BesideData, GoesBeside, IsRunBeside}
use Rattle.fault_stage.proofs.beginning.begun_in.Goals as goal

pub begin-requires : goal.begin-requires
begin-requires c = rw (c.graph.ensures, c.run.ensures) (record {
  fits = c.requires.fits;
  state = c.requires.state;
  counted = c.requires.counted ∙ sym (ap length c.requires.state);
  sound = c.requires.sound;
  touched = c.requires.touched.counted;
  alike = c.requires.touched.alike;
})

pub returns-in-Some-clause-goes : goal.returns-in-Some-clause-goes
returns-in-Some-clause-goes c =
    let goes : IsRunBeside c.graph.result.now c.run.result.now c.args.graph.now c.begin.new.machine c.args.machine.now.state c.in-Some.run' =
    subst (λ (told : Option BesideData). GoesBeside c.graph.result.now c.run.result.now c.args.graph.now c.begin.new.machine c.args.machine.now.state told)
    c.in-Some.is c.begin.ensures.goes in
    rw (← c.graph.ensures, ← c.run.ensures, ← c.requires.state) goes

pub returns-in-Some-clause-build : goal.returns-in-Some-clause-build
returns-in-Some-clause-build c = c.begin.ensures.build

pub returns-in-Some-clause-held : goal.returns-in-Some-clause-held
returns-in-Some-clause-held c = c.begin.ensures.held

pub returns-in-None-clause-goes : goal.returns-in-None-clause-goes
returns-in-None-clause-goes c =
    let goes : FitsGraph c.args.graph.now c.begin.new.machine × (c.begin.new.machine.state ≡ c.args.machine.now.state) =
    subst (λ (told : Option BesideData). GoesBeside c.graph.result.now c.run.result.now c.args.graph.now c.begin.new.machine c.args.machine.now.state told)
    c.in-None.is c.begin.ensures.goes in
    record { fits = goes.0; state_is = goes.1 ∙ c.requires.state }

pub returns-in-None-clause-build : goal.returns-in-None-clause-build
returns-in-None-clause-build c = c.begin.ensures.build

pub returns-in-None-clause-held : goal.returns-in-None-clause-held
returns-in-None-clause-held c = c.begin.ensures.held
