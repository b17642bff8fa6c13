-- Words are alike in all columns if they agree in those whose bits are used.
use Rattle.std.proofs.Common.{sym, ◌∙◌, arith}
use Rattle.std.proofs.lemmas.Bool.{lt-ltb, ltb-true}
use Rattle.truth_makers.proofs.words.WordTruthsTruths.same.Goals as goal

pub returns : goal.returns
returns c =
    let used = c.used.ensures in (
      λ yes column inside. c.agree.ensures.0 yes column (omega (arith, inside, used.few)) (used.used column ∙ lt-ltb column c.args.self.now inside),
      λ alike. c.agree.ensures.1 (λ column few is. alike column (ltb-true column c.args.self.now (sym (used.used column) ∙ is))),
    )
