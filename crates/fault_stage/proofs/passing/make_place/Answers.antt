-- Of no phase all is so.
use Rattle.std.proofs.Common.{sym, subst}
use Rattle.std.specs.Prelude.{All}
use Rattle.std.proofs.lemmas.List.Elements.{All-nil}
use Rattle.fault_stage.specs.Passing.{IsPassed}
use Rattle.fault_stage.proofs.passing.make_place.Goals as goal

pub returns : goal.returns
returns c = subst (All (IsPassed c.args.graph.now)) (sym c.clear.ensures.items) (All-nil _)
