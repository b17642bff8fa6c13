use Rattle.std.proofs.Common.{◌≡◌, false, ap, sym, ◌∙◌, inl, inr}
use Rattle.word_columns.specs.Words.{is_not}
use Rattle.word_columns.proofs.ColumnLemmas.{column-all, column-none}
use Rattle.word_columns.proofs.word.not_mask.Goals as goal

pub returns-in-Not : goal.returns-in-Not
returns-in-Not c column inside = column-all column inside ∙ sym (ap is_not c.in-Not.is)

pub returns-in-And : goal.returns-in-And
returns-in-And c column inside =
    column-none column ∙ sym (elim c.in-And.is as (λ _. is_not c.args.kind ≡ false) [ inl e ↦ ap is_not e | inr e ↦ ap is_not e ])
