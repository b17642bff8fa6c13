-- The machine makes it, and is else as before.
use Rattle.std.proofs.Common.{refl}
use Rattle.symbol_stage.proofs.ServingLemmas.{serves_made}
use Rattle.symbol_stage.proofs.stage.SymbolStage.missed.Goals as goal

pub missed-requires : goal.missed-requires
missed-requires c = record {
  hi = rw (← c.self.view_is) at c.requires.hi;
  lo = rw (← c.self.view_is) at c.requires.lo;
  wanted = rw (← c.self.view_is) at c.requires.wanted;
}

pub returns : goal.returns
returns c =
    let e = c.missed.ensures in rw (← c.self.view_is) (record { makes = e.makes; full = e.full; inside = e.inside; missed = e.missed; built = refl; serves = serves_made refl _ e.makes })
