-- As many counts aren't 0 as the parts have distinct texts.
use Rattle.std.proofs.Common.{ap, ◌∙◌}
use Rattle.kept_parts.specs.Uses.{texts_used, count_distinct}
use Rattle.kept_parts.proofs.NumberLemmas.{distinct_is}
use Rattle.kept_parts.proofs.uses.TextUses.distinct.Goals as goal

pub returns : goal.returns
returns c =
    let i = c.self.inside in
    distinct_is i.known.keys i.counts.items i.numbers.items i.distinct c.self.invariant
    ∙ ap (λ uses. count_distinct (texts_used uses)) c.self.view_is
