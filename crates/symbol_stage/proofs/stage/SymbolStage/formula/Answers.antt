-- The machine makes the function of a formula, and is else as before.
use Rattle.std.proofs.Common.{refl}
use Rattle.symbol_stage.proofs.ServingLemmas.{serves_made}
use Rattle.symbol_stage.proofs.stage.SymbolStage.formula.Goals as goal

pub formula-requires : goal.formula-requires
formula-requires c = rw (← c.self.view_is) at c.requires

pub returns : goal.returns
returns c =
    let e = c.formula.ensures in rw (← c.self.view_is) (record { makes = e.makes; full = e.full; inside = e.inside; value = e.value; built = refl; serves = serves_made refl _ e.makes })
