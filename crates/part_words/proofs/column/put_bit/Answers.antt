use Rattle.std.proofs.Common.{◌||◌, ap, ◌∙◌}
use Rattle.part_words.proofs.column.put_bit.Goals as goal

pub returns : goal.returns
returns c = c.with_bit.ensures.same ∙ ap (λ x. x || c.args.set) c.cleared.ensures
