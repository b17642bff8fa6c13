-- A name is there exactly if the table has a function for it.
use Rattle.symbol_session.proofs.DefiningLemmas.{named_by_answer}
use Rattle.symbol_session.proofs.session.SymbolSession.defined.Goals as goal

pub returns : goal.returns
returns c =
    let table = c.self.inside.outside.names in
    rw (← c.self.view_is, c.is_some.ensures)
    (named_by_answer table.names table.functions c.args.name.now c.function.result c.functions-functions.ensures.counted (rw c.items.ensures at c.function.ensures.value))
