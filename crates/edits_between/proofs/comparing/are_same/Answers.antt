use Rattle.std.proofs.Common.{sym, ◌∙◌}
use Rattle.std.proofs.lemmas.Bool.{OnTrue_at, OnTrue_from}
use Rattle.edits_between.proofs.comparing.are_same.Goals as goal

pub returns-in-Some : goal.returns-in-Some
returns-in-Some c = OnTrue_from c.stands_at.result _ (λ set. c.in-Some.is ∙ sym (OnTrue_at set c.stands_at.ensures))

pub returns-in-None : goal.returns-in-None
returns-in-None c = OnTrue_from c.is_empty.result _ (λ set. c.in-None.is ∙ sym (OnTrue_at set c.is_empty.ensures))
