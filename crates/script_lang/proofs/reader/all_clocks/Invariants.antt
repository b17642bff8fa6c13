use Rattle.std.proofs.Common.{◌≡◌}
use Rattle.script_lang.specs.Parts.{all_of, beats_of}
use Rattle.script_lang.proofs.ListLemmas.{with_front}
use Rattle.script_lang.proofs.reader.all_clocks.Given as goal

abbrev pub invariant-loop-word : goal.invariant-loop-word
invariant-loop-word l = all_of beats_of l.fn.words ≡ with_front l.list (all_of beats_of l.word-iterator)
