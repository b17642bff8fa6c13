-- Where all lines were obeyed the cover is told, and else the refusal that cut them short.
use Rattle.std.proofs.Common.{◌≢◌, ℕ, List, Option, Result, refl, subst, sym}
use Rattle.state_cover.specs.declared.had.Had.{Had}
use Rattle.session_meaning.specs.Sessions.{SessionData}
use Rattle.script_meaning.specs.declared.halt.Halt.{Halt}
use Rattle.script_meaning.specs.declared.halt.Halt.TheVariants.{End, Refused, TooLarge}
use Rattle.run_ends.specs.declared.stop.End as end
use Rattle.run_ends.specs.declared.stop.Stop.{Stop}
use Rattle.run_ends.specs.Ends.{IsTold}
use Rattle.script_reports.specs.Covering.{IsHaltCovered}
use Rattle.script_reports.specs.Explaining.{IsHaltRefused}
use Rattle.script_reports.proofs.covering.cover_at.Goals as goal

told_short : (hads : List Had) (session : SessionData) (halt : Halt) (old last : Option (List ℕ)) (result : Result end.End Stop) → halt ≢ End →
    IsTold (IsHaltRefused session halt) old last result → IsTold (IsHaltCovered hads session halt) old last result
told_short hads session End old last result other told = absurd (other refl)
told_short hads session (Refused number code) old last result other told = told
told_short hads session (TooLarge number fault) old last result other told = told

pub tell_cover-requires : goal.tell_cover-requires
tell_cover-requires g c = c.requires.noted c.in-End.is

pub returns-in-End-clause-told : goal.returns-in-End-clause-told
returns-in-End-clause-told g c =
    subst (λ (halt : Halt). IsTold (IsHaltCovered c.args.cover.now c.args.session.now.core halt) c.args.out.now.page.written
    c.tell_cover.new.out.page.written c.tell_cover.result) (sym c.in-End.is) c.tell_cover.ensures.told

pub returns-in_default-clause-told : goal.returns-in_default-clause-told
returns-in_default-clause-told g c =
    told_short c.args.cover.now c.args.session.now.core c.args.halt c.args.out.now.page.written c.refuse_at.new.out.page.written c.refuse_at.result
    c.in_default.not-End c.refuse_at.ensures.told
