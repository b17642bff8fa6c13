use Rattle.std.proofs.Common.{◌≡◌, drop}
use Rattle.script_lang.specs.Parts.{states_of}
use Rattle.script_lang.proofs.ListLemmas.{with_front}
use Rattle.script_lang.proofs.parts.states.Given as goal

abbrev pub invariant-loop-letter : goal.invariant-loop-letter
invariant-loop-letter l = states_of l.letters ≡ with_front l.states (states_of (drop l.letter-index l.letters))
