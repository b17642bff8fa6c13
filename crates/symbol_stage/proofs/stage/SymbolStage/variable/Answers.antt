-- The machine makes it, and is else as before.
use Rattle.symbol_stage.proofs.ServingLemmas.{serves_made}
use Rattle.symbol_stage.proofs.stage.SymbolStage.variable.Goals as goal

pub variable-requires : goal.variable-requires
variable-requires c = rw (← c.self.view_is) at c.requires

pub returns-clause-makes : goal.returns-clause-makes
returns-clause-makes c = rw (← c.self.view_is) c.variable.ensures.makes

pub returns-clause-serves : goal.returns-clause-serves
returns-clause-serves c = serves_made c.self.view_is c.variable.new.self c.variable.ensures.makes
