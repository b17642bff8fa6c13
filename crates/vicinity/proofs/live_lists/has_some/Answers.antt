-- There is no place in front.
use Rattle.std.proofs.Common.{ap, length, sym, ◌∙◌}
use Rattle.std.proofs.lemmas.Bool.{eqb-true}
use Rattle.vicinity.proofs.live_lists.has_some.Goals as goal

pub returns-then-is_empty : goal.returns-then-is_empty
returns-then-is_empty c =
    sym (ap length c.listed.ensures.value) ∙ eqb-true (length c.listed.result.now) 0 (sym c.is_empty.ensures ∙ c.if-is_empty.true)
