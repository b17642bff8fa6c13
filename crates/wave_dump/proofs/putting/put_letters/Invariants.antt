-- What is left to be put follows what was put.
use Rattle.std.proofs.Common.{◌≡◌, ◌++◌, drop, map}
use Rattle.wave_dump.specs.Values.{letter}
use Rattle.wave_dump.proofs.putting.put_letters.Given as goal

abbrev pub invariant-loop-state : goal.invariant-loop-state
invariant-loop-state g l = record {
  left : l.fn.pen.text ++ map letter l.states ≡ l.pen.text ++ map letter (drop l.state-index l.states);
  before : l.pen.before ≡ l.fn.pen.before;
}
