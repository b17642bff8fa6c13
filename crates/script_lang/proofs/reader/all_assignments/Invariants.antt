use Rattle.std.proofs.Common.{◌≡◌}
use Rattle.script_lang.specs.Parts.{all_of, assignment_of}
use Rattle.script_lang.proofs.ListLemmas.{with_front}
use Rattle.script_lang.proofs.reader.all_assignments.Given as goal

abbrev pub invariant-loop-word : goal.invariant-loop-word
invariant-loop-word l = all_of (assignment_of l.fn.dashes) l.fn.words ≡ with_front l.list (all_of (assignment_of l.fn.dashes) l.word-iterator)
