-- The names so far and those of the words that are left are those of all words.
use Rattle.std.proofs.Common.{◌≡◌}
use Rattle.symbol_lines.specs.Commands.{names_of_words, with_front}
use Rattle.symbol_lines.proofs.commands.all_names.Given as goal

abbrev pub invariant-loop-word : goal.invariant-loop-word
invariant-loop-word l = names_of_words l.fn.words ≡ with_front l.names (names_of_words l.word-iterator)
