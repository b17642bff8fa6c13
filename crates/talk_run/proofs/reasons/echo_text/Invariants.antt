use Rattle.std.proofs.Common.{◌≡◌, ◌++◌, ◌∷◌}
use Rattle.std.specs.Prelude.{codes}
use Rattle.talk_run.specs.Asking.{words_text}
use Rattle.talk_run.proofs.reasons.echo_text.Given as goal

-- what is put and the words that are left are the line, but for its LF
abbrev pub invariant-loop-word : goal.invariant-loop-word
invariant-loop-word l = l.text.items ++ words_text l.word-iterator ≡ codes "echo" ++ words_text (l.fn.first ∷ l.fn.words)
