-- The first column's letters are those of the plain command.
use Rattle.std.proofs.Common.{sym, subst, ◌∙◌}
use Rattle.std.specs.Prelude.{Option}
use Rattle.std.proofs.lemmas.Result.{err_from_is_err_and}
use Rattle.session_meaning.specs.declared.fault.Refusal.{Refusal}
use Rattle.session_meaning.specs.Preparing.{IsFaultFor}
use Rattle.cosmos_session.proofs.LetterLemmas.{asked_of}
use Rattle.cosmos_session.proofs.session.Session.allow_letters.Goals as goal

pub returns-in_err-first-clause-refused : goal.returns-in_err-first-clause-refused
returns-in_err-first-clause-refused g c =
    let stopped = err_from_is_err_and c.from_residual.result c.from_residual.ensures.1 in
    rw (stopped.1, stopped.2) tt

pub returns-in-Ok-clause-allowed : goal.returns-in-Ok-clause-allowed
returns-in-Ok-clause-allowed g c =
    sym (asked_of c.args.self.now.core c.args.kind c.args.list.now)
    ∙ (rw (c.target_of.ensures, c.in_ok-first.ensures, c.items.ensures) at c.in-Ok.ensures.allowed)

pub returns-clause-refused : goal.returns-clause-refused
returns-clause-refused g c =
    subst (λ (found : Option Refusal). IsFaultFor found c.in-Err.fault) (asked_of c.args.self.now.core c.args.kind c.args.list.now)
    (rw (c.target_of.ensures, c.in_ok-first.ensures, c.items.ensures) at c.in-Err.ensures.refused)
