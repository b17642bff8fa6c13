-- There is nothing to be remembered, or it is noted.
use Rattle.std.proofs.Common.{List, All, refl, sym, subst}
use Rattle.symbol_script.specs.declared.line.Assignment.{Assignment}
use Rattle.symbol_giving.specs.StandIns.{IsGiven}
use Rattle.symbol_session.specs.Sessions.{maker_of}
use Rattle.symbol_session.proofs.DataLemmas.{keeps_same, stays_same}
use Rattle.symbol_session.proofs.FaultLemmas.{graph_own}
use Rattle.symbol_session.proofs.session.SymbolSession.remember.Goals as goal

pub returns-then-not-missed-clause-notes : goal.returns-then-not-missed-clause-notes
returns-then-not-missed-clause-notes c = rw c.if-not-missed.true refl

pub returns-then-not-missed-clause-stays : goal.returns-then-not-missed-clause-stays
returns-then-not-missed-clause-stays c = stays_same c.args.self.now

pub returns-then-not-missed-clause-keeps : goal.returns-then-not-missed-clause-keeps
returns-then-not-missed-clause-keeps c = keeps_same (maker_of c.args.self.now)

pub note_missed-requires : goal.note_missed-requires
note_missed-requires c =
    let core = c.args.self.now.session.core in
    subst (λ (list : List Assignment). All (IsGiven core.circuit core.vectors) list) (sym c.items.ensures) c.requires

pub returns-in-Ok-clause-notes : goal.returns-in-Ok-clause-notes
returns-in-Ok-clause-notes c = rw c.if-not-missed.false (rw c.items.ensures at c.in-Ok.ensures.notes)

pub returns-in-Err-clause-notes : goal.returns-in-Err-clause-notes
returns-in-Err-clause-notes c = rw c.if-not-missed.false refl

pub returns-in-Err-clause-own : goal.returns-in-Err-clause-own
returns-in-Err-clause-own c = rw c.fault_at.ensures (graph_own c.args.number c.in-Err.fault)
