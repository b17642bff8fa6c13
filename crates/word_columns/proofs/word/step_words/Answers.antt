use Rattle.std.proofs.Common.{◌∙◌}
use Rattle.word_columns.proofs.RunLemmas.{step_in_column}
use Rattle.word_columns.proofs.word.step_words.Goals as goal

pub returns : goal.returns
returns c column inside =
    c.kind_word.ensures column inside ∙ step_in_column column c.args.values.now c.args.step c.requires.a c.requires.b
