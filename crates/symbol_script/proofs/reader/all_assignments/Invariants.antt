-- The assignments so far and those of the words that are left come to what all words do.
use Rattle.std.proofs.Common.{◌≡◌}
use Rattle.script_lang.specs.Parts.{all_of}
use Rattle.script_lang.proofs.ListLemmas.{with_front}
use Rattle.symbol_script.specs.Lines.{assignment_of}
use Rattle.symbol_script.proofs.reader.all_assignments.Given as goal

abbrev pub invariant-loop-word : goal.invariant-loop-word
invariant-loop-word l = all_of (assignment_of l.fn.dashes) l.fn.words ≡ with_front l.list (all_of (assignment_of l.fn.dashes) l.word-iterator)
