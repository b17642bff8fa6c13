-- The refusal is that of the plain command.
use Rattle.std.proofs.Common.{◌≡◌, None, subst}
use Rattle.std.specs.Prelude.{Option, OnOk, IfErr}
use Rattle.session_meaning.specs.declared.fault.Refusal.{Refusal}
use Rattle.session_meaning.specs.Preparing.{IsFaultFor}
use Rattle.cosmos_session.proofs.LetterLemmas.{values_asked}
use Rattle.cosmos_session.proofs.session.Session.values_guessed.Goals as goal

pub returns-clause-allowed : goal.returns-clause-allowed
returns-clause-allowed g c =
    subst (λ (found : Option Refusal). OnOk c.states_guessed.result (found ≡ None))
    (values_asked c.args.self.now.core c.args.kind c.target_of-target.result c.args.list.now c.target_of-target.ensures) c.states_guessed.ensures.allowed

pub returns-clause-refused : goal.returns-clause-refused
returns-clause-refused g c =
    subst (λ (found : Option Refusal). IfErr c.states_guessed.result (IsFaultFor found))
    (values_asked c.args.self.now.core c.args.kind c.target_of-target.result c.args.list.now c.target_of-target.ensures) c.states_guessed.ensures.refused
