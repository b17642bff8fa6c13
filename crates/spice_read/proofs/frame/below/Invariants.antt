use Rattle.std.proofs.Common.{◌≡◌, ◌++◌, drop}
use Rattle.spice_read.specs.Frames.{name_below}
use Rattle.spice_read.proofs.frame.below.Given as goal

-- with the calls that are left and the name it is the whole name
abbrev pub invariant-loop-call : goal.invariant-loop-call
invariant-loop-call l = l.bytes.items ++ name_below (drop l.call-index l.calls) l.name ≡ name_below l.fn.calls l.fn.name
