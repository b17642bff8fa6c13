-- The graph hasn't grown, and all is as before.
use Rattle.std.proofs.Common.{refl}
use Rattle.symbol_stage.proofs.TidyLemmas.{IsTidied-none}
use Rattle.symbol_stage.proofs.stage.SymbolStage.tidy.Goals as goal

pub returns-then-not-has_grown-clause-tidied : goal.returns-then-not-has_grown-clause-tidied
returns-then-not-has_grown-clause-tidied c =
    IsTidied-none c.args.self.now c.args.self.now c.args.names.now c.args.kept.now c.requires.named c.requires.inside refl refl
