use Rattle.std.proofs.Common.{◌≡◌, ◌+◌, drop}
use Rattle.std.specs.List.{position_or_len}
use Rattle.spice_cards.specs.CardSorts.{ends_names}
use Rattle.spice_cards.proofs.cards.count_before.Given as goal

-- the words that are left end where all end
abbrev pub invariant-loop-place : goal.invariant-loop-place
invariant-loop-place l = l.place + position_or_len (ends_names l.settings) (drop l.place l.words) ≡ position_or_len (ends_names l.settings) l.words
