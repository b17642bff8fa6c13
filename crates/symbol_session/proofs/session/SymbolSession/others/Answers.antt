-- The names are the session's.
use Rattle.symbol_session.proofs.session.SymbolSession.others.Goals as goal

pub returns : goal.returns
returns c = rw (← c.self.view_is) (rw (c.deref.ensures.value, c.items.ensures) at c.other_saves.ensures)
