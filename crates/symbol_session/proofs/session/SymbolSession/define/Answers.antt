-- A name that is there isn't defined again.
use Rattle.std.proofs.Common.{refl, sym, ◌∙◌}
use Rattle.symbol_session.specs.Sessions.{maker_of}
use Rattle.symbol_session.proofs.DataLemmas.{keeps_same}
use Rattle.symbol_session.proofs.session.SymbolSession.define.Goals as goal

pub returns-then-defined-clause-same : goal.returns-then-defined-clause-same
returns-then-defined-clause-same c = λ column inside. refl

pub returns-then-defined-clause-names : goal.returns-then-defined-clause-names
returns-then-defined-clause-names c = ((c.args.name.now, c.args.formula.now), refl, sym c.defined.ensures ∙ c.if-defined.true)

pub returns-then-defined-clause-next : goal.returns-then-defined-clause-next
returns-then-defined-clause-next c = λ accepted. absurd (cc)

pub returns-then-defined-clause-keeps : goal.returns-then-defined-clause-keeps
returns-then-defined-clause-keeps c = keeps_same (maker_of c.args.self.now)

pub define_new-requires : goal.define_new-requires
define_new-requires c = sym c.defined.ensures ∙ c.if-defined.false
