-- The machine goes by itself, takes the step, and its state is taken over.
use Rattle.std.proofs.Common.{◌∙◌, List, length, refl, sym, ap, subst, arith}
use Rattle.ternary.specs.declared.tern.Tern.{Tern}
use Rattle.switch_paths.specs.Rails.{IsSound}
use Rattle.switch_paths.specs.Step.{IsStep}
use Rattle.settling.specs.Passing.{SteppingThrough}
use Rattle.column_stage.specs.Seeing.{SeesStates}
use Rattle.fault_stage.specs.Runs.{GoesAlone, GoesIn}
use Rattle.fault_stage.proofs.CourseLemmas.{fits_anyway, fits_marked}
use Rattle.fault_stage.proofs.KnownLemmas.{known_on}
use Rattle.fault_stage.proofs.built.Built.step.Goals as goal

pub go_alone-requires : goal.go_alone-requires
go_alone-requires g c = rw (c.deref.ensures.value, c.replace-course.ensures.value) (record { goes = c.requires.built.goes; sound = c.requires.built.sound })

pub take_step-requires : goal.take_step-requires
take_step-requires g c =
    let goes = c.go_alone.ensures.goes in record {
      fits = goes.fits;
      knows = subst (λ (s : List Tern). g.O.Observer.knows c.args.onlooker.now s) (sym (goes.state_is ∙ c.deref.ensures.value)) c.requires.knows;
    }

pub take_over-requires : goal.take_over-requires
take_over-requires g c = omega (arith, c.requires.built.counted, c.take_step.ensures.takes.fits.covers.counted)

pub returns-clause-built : goal.returns-clause-built
returns-clause-built g c =
    let b = c.args.self.now in
    let takes = c.take_step.ensures.takes in
    let alone = c.go_alone.ensures in
    let items = c.take_over.ensures.items in
    let goes : GoesAlone b.graph c.take_step.new.machine c.take_over.new.state.items = record { fits = takes.fits; state_is = sym items } in
    record {
      counted = ap length items ∙ takes.fits.covers.counted;
      railed = c.requires.built.railed;
      sound = subst IsSound (sym items) takes.fits.sound;
      known = known_on b.graph b.machine c.take_step.new.machine (fits_anyway b.good b.graph b.machine b.state.items b.course c.requires.built.goes)
          (fits_marked b.graph c.take_step.new.machine takes.fits) (takes.last ∙ alone.last) c.requires.built.known;
      goes = subst (GoesIn b.good b.graph c.take_step.new.machine c.take_over.new.state.items) (sym c.replace-course.ensures.after) goes;
      passes = c.requires.built.passes;
      apart = c.requires.built.apart;
    }

pub returns-clause-same : goal.returns-clause-same
returns-clause-same g c = rw (c.take_over.ensures.room, c.take_step.ensures.takes.last ∙ c.go_alone.ensures.last) refl

pub returns-clause-step : goal.returns-clause-step
returns-clause-step g c =
    rw c.take_over.ensures.items (subst (λ (s : List Tern). IsStep c.args.self.now.graph s c.take_step.new.machine.state)
    (c.go_alone.ensures.goes.state_is ∙ c.deref.ensures.value) c.take_step.ensures.takes.step)

pub returns-clause-seen : goal.returns-clause-seen
returns-clause-seen g c =
    rw c.take_over.ensures.items (subst (λ (s : List Tern). SeesStates g.O.Observer.see (SteppingThrough c.args.self.now.graph 1 s) s c.take_step.new.machine.state
    (g.O.Observer.seen c.args.onlooker.now) (g.O.Observer.seen c.take_step.new.onlooker)) (c.go_alone.ensures.goes.state_is ∙ c.deref.ensures.value) c.take_step.ensures.seen)

pub returns-clause-knows : goal.returns-clause-knows
returns-clause-knows g c = rw c.take_over.ensures.items c.take_step.ensures.knows
