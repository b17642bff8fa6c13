-- The machine gets the state to which the phase led.
use Rattle.std.proofs.Common.{◌∙◌, sym}
use Rattle.fault_stage.proofs.CourseLemmas.{fits_marked}
use Rattle.fault_stage.proofs.passing.go_to.Goals as goal

pub leave-requires : goal.leave-requires
leave-requires c = rw c.deref.ensures.value (record {
  fits = fits_marked c.args.graph.now c.args.machine.now c.requires.fits;
  counted = c.requires.passed.counted ∙ sym c.requires.fits.covers.counted;
  sound = c.requires.passed.sound;
})

pub returns-clause-goes : goal.returns-clause-goes
returns-clause-goes c = record { fits = c.leave.ensures.fits; state_is = c.leave.ensures.state_is ∙ c.deref.ensures.value }

pub returns-clause-last : goal.returns-clause-last
returns-clause-last c = c.leave.ensures.build.last
