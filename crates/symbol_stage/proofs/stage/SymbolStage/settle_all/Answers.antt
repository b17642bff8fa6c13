-- There is a valuation, and the machine settles each column.
use Rattle.std.proofs.lemmas.Nat.{pow_pos}
use Rattle.symbol_stage.proofs.ServingLemmas.{serves_next}
use Rattle.symbol_stage.proofs.StayingLemmas.{given_next}
use Rattle.symbol_stage.proofs.stage.SymbolStage.settle_all.Goals as goal

pub settle-requires : goal.settle-requires
settle-requires c = record {
  fits = rw (← c.self.view_is) at c.requires.fits;
  some = pow_pos c.self.inside.machine.maker.graph.variables;
  high = c.requires.high;
}

pub returns-clause-columns : goal.returns-clause-columns
returns-clause-columns c = rw (← c.self.view_is) c.settle.ensures.columns

pub returns-clause-settles : goal.returns-clause-settles
returns-clause-settles c = rw (← c.self.view_is) c.settle.ensures.settles

pub returns-clause-serves : goal.returns-clause-serves
returns-clause-serves c = serves_next c.self.view_is c.settle.new.self c.args.graph.now (λ was. c.settle.ensures.fits)

pub returns-clause-fits : goal.returns-clause-fits
returns-clause-fits c = c.settle.ensures.fits

pub returns-clause-kept : goal.returns-clause-kept
returns-clause-kept c = given_next c.self.view_is c.settle.new.self c.settle.ensures.kept c.settle.ensures.bound

pub returns-clause-spent : goal.returns-clause-spent
returns-clause-spent c = c.settle.ensures.spent
