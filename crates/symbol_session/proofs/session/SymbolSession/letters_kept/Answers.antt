-- The functions are the session's.
use Rattle.symbol_session.proofs.session.SymbolSession.letters_kept.Goals as goal

pub back_letters-requires-clause-within : goal.back_letters-requires-clause-within
back_letters-requires-clause-within c = rw c.deref.ensures.value (rw (← c.self.view_is) at c.requires.within)

pub returns : goal.returns
returns c = rw (← c.self.view_is) (rw c.deref.ensures.value at c.back_letters.ensures)
