-- Names are shown, or nodes looked at: both tell what the columns tell together.
use Rattle.symbol_session.proofs.session.SymbolSession.tell_names.Goals as goal

pub returns-in-Show-clause-tells : goal.returns-in-Show-clause-tells
returns-in-Show-clause-tells g c = rw (c.in-Show.is, ← c.self.view_is) (rw c.items.ensures at c.show.ensures.tells)

pub returns-in-Show-clause-merged : goal.returns-in-Show-clause-merged
returns-in-Show-clause-merged g c = rw (c.in-Show.is, ← c.self.view_is) (rw c.items.ensures at c.show.ensures.merged)

pub returns-in-Look-clause-tells : goal.returns-in-Look-clause-tells
returns-in-Look-clause-tells g c = rw (c.in-Look.is, ← c.self.view_is) (rw c.items-in-Look.ensures at c.look.ensures.tells)

pub returns-in-Look-clause-merged : goal.returns-in-Look-clause-merged
returns-in-Look-clause-merged g c = rw (c.in-Look.is, ← c.self.view_is) (rw c.items-in-Look.ensures at c.look.ensures.merged)

pub unreachable-requires : goal.unreachable-requires
unreachable-requires g c = let never : ⊥ = rw c.in-Expect.is at c.requires in absurd never
