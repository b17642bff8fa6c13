-- The digits of what is left follow what was put.
use Rattle.std.proofs.Common.{◌≡◌, ◌++◌}
use Rattle.wave_dump.specs.Codes.{code_of}
use Rattle.wave_dump.proofs.putting.put_code.Given as goal

abbrev pub invariant-loop-rest : goal.invariant-loop-rest
invariant-loop-rest g l = record {
  left : l.fn.pen.text ++ code_of l.number ≡ l.pen.text ++ code_of l.rest;
  before : l.pen.before ≡ l.fn.pen.before;
}

abbrev pub decreases-loop-rest : goal.decreases-loop-rest
decreases-loop-rest g l = l.rest
