-- What stands in front is at least what isn't open.
use Rattle.std.proofs.Common.{List, sym, subst}
use Rattle.std.specs.Prelude.{Contains}
use Rattle.vicinity.specs.Lists.{LiveListData, places_of}
use Rattle.vicinity.proofs.evaluation.evaluate.Goals as goal

pub evaluate_in-requires-clause-lists : goal.evaluate_in-requires-clause-lists
evaluate_in-requires-clause-lists g c = λ place node other leads.
    subst (λ (lists : List LiveListData). Contains (places_of lists node) place) (sym c.ends.ensures) ((c.requires.lists.live node place).1 (other, leads))
