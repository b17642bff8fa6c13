-- A symbolic script's plain command that gives states is a back.
use Rattle.symbol_session.proofs.session.SymbolSession.give_back.Goals as goal

pub returns-clause-quiet : goal.returns-clause-quiet
returns-clause-quiet c = rw c.in-Back.is c.back.ensures.quiet
