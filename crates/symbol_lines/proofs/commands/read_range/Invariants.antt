-- The names so far and those of the words that are left come to what all words do.
use Rattle.std.proofs.Common.{◌≡◌}
use Rattle.script_lang.specs.Parts.{all_of}
use Rattle.node_words.specs.Ranges.{words_in}
use Rattle.node_words.proofs.WordLemmas.{words_from}
use Rattle.symbol_lines.specs.Commands.{variable_of, with_front}
use Rattle.symbol_lines.proofs.commands.read_range.Given as goal

abbrev pub invariant-loop-place : goal.invariant-loop-place
invariant-loop-place l =
    with_front l.names (all_of variable_of (words_from l.range l.place)) ≡ with_front l.fn.names (all_of variable_of (words_in l.range))
