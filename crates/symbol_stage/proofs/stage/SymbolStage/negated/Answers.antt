-- The machine makes it: it holds where the other doesn't; all else is as before.
use Rattle.std.proofs.Common.{refl}
use Rattle.symbol_stage.proofs.ServingLemmas.{serves_made}
use Rattle.symbol_stage.proofs.stage.SymbolStage.negated.Goals as goal

pub negated-requires : goal.negated-requires
negated-requires c = rw (← c.self.view_is) at c.requires

pub returns : goal.returns
returns c =
    let e = c.negated.ensures in rw (← c.self.view_is) (record { makes = e.makes; full = e.full; inside = e.inside; value = e.value; built = refl; serves = serves_made refl _ e.makes })
