use Rattle.std.proofs.Common.{◌≡◌}
use Rattle.sim_read.specs.Items.{IsAccepted, setting_after}
use Rattle.sim_read.proofs.items.setting_by_items.Given as goal

-- the items left set from what is set so far what all items set from the start, and a size so far is accepted
abbrev pub invariant-loop-item : goal.invariant-loop-item
invariant-loop-item l =
    (setting_after l.profile l.setting l.item-iterator ≡ setting_after l.profile l.fn.start l.fn.items) × IsAccepted l.profile l.setting
