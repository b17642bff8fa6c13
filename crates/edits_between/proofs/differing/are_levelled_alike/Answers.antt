-- What compares as the same is the same.
use Rattle.std.proofs.Common.{sym, ◌∙◌}
use Rattle.std.proofs.lemmas.Bool.{OnTrue_at, OnTrue_from}
use Rattle.edits_between.proofs.differing.are_levelled_alike.Goals as goal

pub returns : goal.returns
returns c = OnTrue_from c.are_same_levels.result _ (λ set.
    sym c.level-has.ensures.value ∙ (OnTrue_at set c.are_same_levels.ensures ∙ c.level-had.ensures.value))
