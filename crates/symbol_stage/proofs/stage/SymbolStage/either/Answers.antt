-- The machine makes it, and is else as before.
use Rattle.std.proofs.Common.{refl}
use Rattle.symbol_stage.proofs.ServingLemmas.{serves_made}
use Rattle.symbol_stage.proofs.stage.SymbolStage.either.Goals as goal

pub either-requires : goal.either-requires
either-requires c = record {
  first = rw (← c.self.view_is) at c.requires.first;
  second = rw (← c.self.view_is) at c.requires.second;
}

pub returns : goal.returns
returns c =
    let e = c.either.ensures in rw (← c.self.view_is) (record { makes = e.makes; full = e.full; inside = e.inside; value = e.value; built = refl; serves = serves_made refl _ e.makes })
