use Rattle.std.proofs.Common.{sym, ◌∙◌}
use Rattle.script_lang.proofs.FormLemmas.{formed_words}
use Rattle.script_lang.proofs.reader.read_command.Goals as goal

pub returns-in-Ok-2-clause-formed : goal.returns-in-Ok-2-clause-formed
returns-in-Ok-2-clause-formed c =
    formed_words c.args.bytes.now c.read_words.result c.in-Ok-2.ensures.fault
    (sym c.is_comment.ensures.test ∙ c.if-is_comment.false)
    (rw c.words.ensures.parts at c.read_words.ensures.ok)
