-- What compares as the same is the same.
use Rattle.std.proofs.Common.{sym, ◌∙◌}
use Rattle.std.proofs.lemmas.Bool.{OnTrue_at, OnTrue_from}
use Rattle.edits_between.proofs.differing.stand_alike.Goals as goal

pub returns : goal.returns
returns c = OnTrue_from c.are_same.result _ (λ set.
    sym c.switch_at-stands.ensures.value ∙ (OnTrue_at set c.are_same.ensures ∙ c.switch_at-stood.ensures.value))
