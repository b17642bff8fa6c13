use Rattle.std.proofs.Common.{◌∙◌}
use Rattle.part_words.proofs.column.with_state.Goals as goal

pub returns : goal.returns
returns c column inside left =
    let second = c.agreeing.ensures column inside left in
    let first = c.agreeing-ones.ensures column inside second.0 in (
      first.0,
      record {
        one = first.1 ∙ (c.spread.ensures column inside ∙ c.may_one.ensures);
        other = second.1 ∙ (c.spread-2.ensures column inside ∙ c.may_zero.ensures);
      },
    )
