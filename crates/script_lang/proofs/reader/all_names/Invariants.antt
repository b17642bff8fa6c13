use Rattle.std.proofs.Common.{◌≡◌, ◌++◌}
use Rattle.script_lang.proofs.reader.all_names.Given as goal

abbrev pub invariant-loop-word : goal.invariant-loop-word
invariant-loop-word l = l.names ++ l.word-iterator ≡ l.fn.words
