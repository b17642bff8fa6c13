-- A build of the stage is one of its one column.
use Rattle.std.proofs.Common.{arith}
use Rattle.fault_stage.proofs.columns.FaultStageColumns.build.Goals as goal

pub make-requires-clause-sound : goal.make-requires-clause-sound
make-requires-clause-sound g c = c.requires.sound 0 (omega arith)

pub returns-clause-fits : goal.returns-clause-fits
returns-clause-fits g c = c.make.ensures.builds.fits

pub returns-clause-serves : goal.returns-clause-serves
returns-clause-serves g c = c.make.ensures.builds.serves

pub returns-clause-states : goal.returns-clause-states
returns-clause-states g c = λ column inside. c.make.ensures.builds.state

pub returns-clause-builds : goal.returns-clause-builds
returns-clause-builds g c = c.make.ensures.builds.builds

pub returns-clause-last : goal.returns-clause-last
returns-clause-last g c = c.make.ensures.builds.last

pub returns-clause-cut_off : goal.returns-clause-cut_off
returns-clause-cut_off g c = c.make.ensures.builds.cut_off

pub returns-clause-err : goal.returns-clause-err
returns-clause-err g c = c.make.ensures.builds.err
