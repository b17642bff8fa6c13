-- The machine places them, and fits as before.
use Rattle.symbol_stage.proofs.ServingLemmas.{serves_next}
use Rattle.symbol_stage.proofs.stage.SymbolStage.place.Goals as goal

pub place-requires : goal.place-requires
place-requires c = record {
  inside = rw (← c.self.view_is) at c.requires.inside;
  no_rail = c.requires.no_rail;
  high_has = rw (← c.self.view_is) at c.requires.high_has;
  low_has = rw (← c.self.view_is) at c.requires.low_has;
  states = rw (← c.self.view_is) at c.requires.states;
}

pub returns-clause-places : goal.returns-clause-places
returns-clause-places c = rw (← c.self.view_is) c.place.ensures.places

pub returns-clause-serves : goal.returns-clause-serves
returns-clause-serves c = serves_next c.self.view_is c.place.new.self c.args.graph.now c.place.ensures.fits

pub returns-clause-fits : goal.returns-clause-fits
returns-clause-fits c = rw (← c.self.view_is) c.place.ensures.fits
