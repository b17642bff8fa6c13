use Rattle.std.proofs.Common.{◌≡◌}
use Rattle.spice_read.specs.Frames.{scope_of}
use Rattle.spice_read.specs.Making.{after}
use Rattle.spice_read.specs.Steps.{expand}
use Rattle.spice_read.proofs.expansion.+expand.Given as goal

-- with the parts that are left what was made gives what all parts give
abbrev pub invariant-loop-part : goal.invariant-loop-part
invariant-loop-part l =
    (after l.made (expand l.room l.frame.deck (scope_of l.frame) l.part-iterator)
    ≡ after l.fn.made (expand l.fn.room l.fn.frame.deck (scope_of l.fn.frame) l.fn.parts)) × (l.frame ≡ l.fn.frame)

-- the room that is left
abbrev pub decreases-expand : goal.decreases-expand
decreases-expand l = l.room
