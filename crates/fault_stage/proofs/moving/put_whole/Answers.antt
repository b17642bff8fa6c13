-- The one column has the first letter.
use Rattle.std.proofs.Common.{inl, arith}
use Rattle.fault_stage.proofs.moving.put_whole.Goals as goal

pub place-requires-clause-sound : goal.place-requires-clause-sound
place-requires-clause-sound c = λ column inside. c.requires.sound

pub place-requires-clause-letters : goal.place-requires-clause-letters
place-requires-clause-letters c = inl c.requires.letters

pub returns-clause-state : goal.returns-clause-state
returns-clause-state c = c.place.ensures.states 0 (omega arith)

pub returns-clause-stays : goal.returns-clause-stays
returns-clause-stays c = record { last = c.place.ensures.last; serves = c.place.ensures.serves; fits = c.place.ensures.fits }
