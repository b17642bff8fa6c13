-- The one column has the first letter.
use Rattle.std.proofs.Common.{◌≡◌, inl, inr, arith}
use Rattle.fault_stage.proofs.columns.FaultStageStage.place.Goals as goal

pub put-requires-clause-sound : goal.put-requires-clause-sound
put-requires-clause-sound c = c.requires.sound 0 (omega arith)

pub put-requires-clause-letters : goal.put-requires-clause-letters
put-requires-clause-letters c = elim c.requires.letters [ inl one ↦ one | inr one ↦ one ]

pub returns-clause-states : goal.returns-clause-states
returns-clause-states c = λ column inside. let first : column ≡ 0 = omega (arith, inside) in rw first c.put.ensures.state

pub returns-clause-last : goal.returns-clause-last
returns-clause-last c = c.put.ensures.stays.last

pub returns-clause-serves : goal.returns-clause-serves
returns-clause-serves c = c.put.ensures.stays.serves

pub returns-clause-fits : goal.returns-clause-fits
returns-clause-fits c = c.put.ensures.stays.fits
