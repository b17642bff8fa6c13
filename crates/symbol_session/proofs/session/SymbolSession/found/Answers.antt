-- All that is kept fits a list.
use Rattle.std.proofs.Common.{arith}
use Rattle.symbol_session.specs.Sessions.{SymbolData}
use Rattle.symbol_session.proofs.KeptLemmas.{all_count}
use Rattle.symbol_session.proofs.session.SymbolSession.found.Goals as goal

pub found_save-requires : goal.found_save-requires
found_save-requires c =
    let i = c.self.inside in
    let old : SymbolData = record { session = i.session; names = i.outside.names; kept = i.outside.kept.items; saves = i.saves.items; count = i.count; quiet = i.quiet; text = i.text.text } in
    rw c.deref.ensures.value (omega (arith, all_count old c.self.invariant.0, i.outside.kept.ok))

pub returns-clause-there : goal.returns-clause-there
returns-clause-there c = rw (← c.self.view_is) (rw (c.deref.ensures.value, c.items.ensures) at c.found_save.ensures.there)

pub returns-clause-place : goal.returns-clause-place
returns-clause-place c = rw (← c.self.view_is) (rw (c.deref.ensures.value, c.items.ensures) at c.found_save.ensures.place)

pub returns-clause-nodes : goal.returns-clause-nodes
returns-clause-nodes c = rw (← c.self.view_is) (rw (c.deref.ensures.value, c.items.ensures) at c.found_save.ensures.nodes)
