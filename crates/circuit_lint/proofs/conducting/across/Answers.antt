-- The switch at the place is the one that is always closed, or there is none.
use Rattle.std.proofs.Common.{◌≡◌, subst, sym, ◌∙◌}
use Rattle.switch_paths.specs.declared.switching.Switch.{Switch}
use Rattle.switch_paths.specs.Path.{Joins}
use Rattle.circuit_lint.proofs.ClosedLemmas.{some_same}
use Rattle.circuit_lint.proofs.conducting.across.Goals as goal

pub returns-then-is_always_closed-clause-all : goal.returns-then-is_always_closed-clause-all
returns-then-is_always_closed-clause-all c other across =
    let same : across.switch ≡ c.in_ok-switch.switch = some_same (sym across.at_place ∙ sym c.switch_at.ensures.value ∙ c.in_ok-switch.was) in
    c.other_end.ensures.all other (subst (λ (s : Switch). Joins s c.args.node other) same across.joins)
