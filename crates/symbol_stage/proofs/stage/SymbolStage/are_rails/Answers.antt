-- The rails are the machine's.
use Rattle.symbol_stage.proofs.stage.SymbolStage.are_rails.Goals as goal

pub returns : goal.returns
returns c = rw (← c.self.view_is) c.are_rails.ensures.columns
