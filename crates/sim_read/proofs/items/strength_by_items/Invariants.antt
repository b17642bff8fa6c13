use Rattle.std.proofs.Common.{◌≡◌}
use Rattle.sim_read.specs.Items.{strength_after, strength_texts}
use Rattle.sim_read.proofs.items.strength_by_items.Given as goal

-- the items left give from the strength so far what all items give from the usual one
abbrev pub invariant-loop-item : goal.invariant-loop-item
invariant-loop-item l =
    strength_after l.profile l.strength (strength_texts l.item-iterator) ≡ strength_after l.profile l.usual (strength_texts l.fn.items)
