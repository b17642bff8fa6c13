-- One level more.
use Rattle.std.proofs.Common.{inl, inr, subst, sym, arith}
use Rattle.std.proofs.lemmas.Bool.{cases_eq}
use Rattle.node_elimination.specs.Levels.{IsUnused}
use Rattle.node_elimination.proofs.descent.lowest_level.Goals as goal

pub loop-level-preserved : goal.loop-level-preserved
loop-level-preserved c = λ s low below.
    elim (cases_eq s c.loop-level.level) [
      | inl same ↦ subst (IsUnused c.args.graph.now) (sym same) (c.is_used.ensures c.if-is_used.false)
      | inr other ↦ c.loop-level.invariant s low (omega arith)
    ]
