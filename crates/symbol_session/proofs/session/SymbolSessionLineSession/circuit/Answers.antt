-- The circuit is that of each column.
use Rattle.std.proofs.Common.{◌≡◌, ℕ, ◌<◌, sym, subst}
use Rattle.symbol_session.specs.Sessions.{SymbolData, data_of, valuations_by}
use Rattle.symbol_session.proofs.session.SymbolSessionLineSession.circuit.Goals as goal

pub returns : goal.returns
returns c =
    subst (λ (d : SymbolData). (column : ℕ) → column < (valuations_by d).columns → (data_of d column).circuit ≡ c.circuit.result.now) c.self.view_is
    (λ column inside. sym c.circuit.ensures.value)
