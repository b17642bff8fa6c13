-- A `let` alone does anything.
use Rattle.std.proofs.Common.{refl}
use Rattle.symbol_session.specs.Sessions.{maker_of}
use Rattle.symbol_session.proofs.DataLemmas.{keeps_same}
use Rattle.symbol_session.proofs.MadeLemmas.{next_none}
use Rattle.symbol_session.proofs.session.SymbolSession.name.Goals as goal

pub returns-in-Let-clause-names : goal.returns-in-Let-clause-names
returns-in-Let-clause-names c = rw c.in-Let.is c.define.ensures.names

pub returns-in-Let-clause-next : goal.returns-in-Let-clause-next
returns-in-Let-clause-next c = rw c.in-Let.is c.define.ensures.next

pub returns-in-Variables-clause-same : goal.returns-in-Variables-clause-same
returns-in-Variables-clause-same c = λ column inside. refl

pub returns-in-Variables-clause-next : goal.returns-in-Variables-clause-next
returns-in-Variables-clause-next c = rw c.in-Variables.is (λ accepted. next_none c.args.self.now _ refl)

pub returns-in-Variables-clause-keeps : goal.returns-in-Variables-clause-keeps
returns-in-Variables-clause-keeps c = keeps_same (maker_of c.args.self.now)

pub returns-in-Vertices-clause-same : goal.returns-in-Vertices-clause-same
returns-in-Vertices-clause-same c = λ column inside. refl

pub returns-in-Vertices-clause-next : goal.returns-in-Vertices-clause-next
returns-in-Vertices-clause-next c = rw c.in-Vertices.is (λ accepted. next_none c.args.self.now _ refl)

pub returns-in-Vertices-clause-keeps : goal.returns-in-Vertices-clause-keeps
returns-in-Vertices-clause-keeps c = keeps_same (maker_of c.args.self.now)
