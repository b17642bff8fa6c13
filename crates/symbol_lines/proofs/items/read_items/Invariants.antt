-- The items so far and the rest of the text come to what the text does.
use Rattle.std.proofs.Common.{◌≡◌, [], length}
use Rattle.symbol_lines.specs.Items.{with_words, words_of_list}
use Rattle.symbol_lines.proofs.items.read_items.Given as goal

abbrev pub invariant-loop-part : goal.invariant-loop-part
invariant-loop-part l = with_words l.dashes (words_of_list l.rest) l.items ≡ with_words l.dashes (words_of_list l.text) []

abbrev pub decreases-loop-part : goal.decreases-loop-part
decreases-loop-part l = length l.rest
