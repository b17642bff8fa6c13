-- A word holds in no column if it agrees with 0 in all of them.
use Rattle.std.proofs.Common.{sym, ◌∙◌, arith}
use Rattle.std.proofs.lemmas.Bool.{lt-ltb, ltb-true}
use Rattle.word_columns.proofs.ColumnLemmas.{column-none}
use Rattle.truth_makers.proofs.words.WordTruthsTruths.is_never.Goals as goal

pub returns : goal.returns
returns c =
    let used = c.used.ensures in (
      λ never column inside.
          c.agree.ensures.0 never column (omega (arith, inside, used.few)) (used.used column ∙ lt-ltb column c.args.self.now inside) ∙ column-none column,
      λ none. c.agree.ensures.1 (λ column few is.
          none column (ltb-true column c.args.self.now (sym (used.used column) ∙ is)) ∙ sym (column-none column)),
    )
