-- One text goes, and the others stay with their formulas.
use Rattle.std.proofs.Common.{None, ap, ◌∙◌}
use Rattle.std.specs.Map.{keys_of}
use Rattle.group_analysis.specs.Held.{set_of, without_text}
use Rattle.node_elimination.specs.Holding.{AreFormulasOf}
use Rattle.node_elimination.proofs.HoldingLemmas.{each_updated, set-taken}
use Rattle.node_elimination.proofs.analyst.SymbolicAnalystAnalyst.release.Goals as goal

pub invariant_of-self : goal.invariant_of-self
invariant_of-self c = (
  c.self.invariant.0,
  each_updated (λ entry. AreFormulasOf c.self.inside.pool entry.0 entry.1) c.self.inside.held c.swap_remove.new.self
      c.args.text.now None c.swap_remove.ensures.unique c.swap_remove.ensures.updates.0 c.self.invariant.1 (λ ids put. cc),
)

pub returns-clause-holds : goal.returns-clause-holds
returns-clause-holds c =
    set-taken c.self.inside.held c.swap_remove.new.self c.args.text.now c.swap_remove.ensures.updates.0
    ∙ ap (λ analyst. without_text (set_of (keys_of analyst.held)) c.args.text.now) c.self.view_is
