use Rattle.std.proofs.Common.{◌≡◌}
use Rattle.std.specs.List.{flat_map}
use Rattle.sim_read.specs.Items.{IsAccepted, items_of, setting_after, setting_of}
use Rattle.sim_read.proofs.items.setting_by_words.Given as goal

-- the words left set from what is set so far what all words set, and a size so far is accepted
abbrev pub invariant-loop-word : goal.invariant-loop-word
invariant-loop-word l =
    (setting_after l.profile l.setting (flat_map items_of l.word-iterator) ≡ setting_of l.profile l.fn.words) × IsAccepted l.profile l.setting
