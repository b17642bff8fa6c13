-- The items so far and the words that are left come to what all words do.
use Rattle.std.proofs.Common.{◌≡◌}
use Rattle.node_words.specs.Ranges.{words_in}
use Rattle.node_words.proofs.WordLemmas.{words_from}
use Rattle.symbol_lines.specs.Items.{with_words}
use Rattle.symbol_lines.proofs.items.read_range.Given as goal

abbrev pub invariant-loop-place : goal.invariant-loop-place
invariant-loop-place l = with_words l.dashes (words_from l.range l.place) l.items ≡ with_words l.dashes (words_in l.range) l.fn.items
