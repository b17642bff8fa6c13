use Rattle.std.proofs.Common.{◌≡◌}
use Rattle.script_lang.specs.Parts.{all_of}
use Rattle.script_lang.proofs.ListLemmas.{with_front}
use Rattle.column_script.specs.Values.{column_value_of}
use Rattle.column_script.proofs.reader.all_values.Given as goal

abbrev pub invariant-loop-word : goal.invariant-loop-word
invariant-loop-word l = all_of (column_value_of l.columns) l.fn.words ≡ with_front l.list (all_of (column_value_of l.columns) l.word-iterator)
