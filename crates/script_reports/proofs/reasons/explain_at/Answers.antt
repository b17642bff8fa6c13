-- Where all lines were obeyed the node is explained, and else the refusal that cut them short is told.
use Rattle.std.proofs.Common.{◌≢◌, ℕ, List, Option, Result, refl, subst, sym}
use Rattle.session_meaning.specs.Sessions.{SessionData}
use Rattle.script_meaning.specs.declared.halt.Halt.{Halt}
use Rattle.script_meaning.specs.declared.halt.Halt.TheVariants.{End, Refused, TooLarge}
use Rattle.run_ends.specs.declared.stop.End as end
use Rattle.run_ends.specs.declared.stop.Stop.{Stop}
use Rattle.run_ends.specs.Ends.{IsTold}
use Rattle.script_reports.specs.Explaining.{IsHaltExplained, IsHaltRefused}
use Rattle.script_reports.proofs.reasons.explain_at.Goals as goal

told_short : (name : List ℕ) (session : SessionData) (halt : Halt) (old last : Option (List ℕ)) (result : Result end.End Stop) → halt ≢ End →
    IsTold (IsHaltRefused session halt) old last result → IsTold (IsHaltExplained name session halt) old last result
told_short name session End old last result other told = absurd (other refl)
told_short name session (Refused number code) old last result other told = told
told_short name session (TooLarge number fault) old last result other told = told

pub returns-in-End-clause-told : goal.returns-in-End-clause-told
returns-in-End-clause-told g c =
    subst (λ (halt : Halt). IsTold (IsHaltExplained c.args.name.now c.args.session.now.core halt) c.args.out.now.page.written
    c.explain_name.new.out.page.written c.explain_name.result) (sym c.in-End.is) c.explain_name.ensures.told

pub returns-in_default-clause-told : goal.returns-in_default-clause-told
returns-in_default-clause-told g c =
    told_short c.args.name.now c.args.session.now.core c.args.halt c.args.out.now.page.written c.refuse_at.new.out.page.written c.refuse_at.result
    c.in_default.not-End c.refuse_at.ensures.told
