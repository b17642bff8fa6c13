use Rattle.std.proofs.Common.{◌≡◌, drop}
use Rattle.vector_values.specs.Values.{letters_of}
use Rattle.vector_values.proofs.ValueLemmas.{with_front}
use Rattle.vector_values.proofs.reading.letters_of.Given as goal

abbrev pub invariant-loop-byte : goal.invariant-loop-byte
invariant-loop-byte l = letters_of l.dashes l.text ≡ with_front l.letters.items (letters_of l.dashes (drop l.byte-index l.text))
