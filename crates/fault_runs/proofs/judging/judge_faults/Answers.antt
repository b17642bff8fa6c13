-- The faults that were read are those of the list; if the list is refused its line is the answer.
use Rattle.std.proofs.Common.{sym, ap, subst, ◌∙◌}
use Rattle.printed_lines.specs.declared.faults.FaultPlace.TheVariants as place
use Rattle.run_ends.specs.declared.status.Status.TheVariants as status
use Rattle.run_ends.specs.Answers.{Answer, IsRefusal}
use Rattle.run_ends.specs.Ends.{IsToldBy}
use Rattle.run_ends.proofs.EndLemmas.{told_by_none}
use Rattle.fault_meaning.specs.Judging.{AnswersList}
use Rattle.fault_runs.proofs.judging.judge_faults.Goals as goal

pub returns-in-Ok-clause-told : goal.returns-in-Ok-clause-told
returns-in-Ok-clause-told g c =
    subst (λ read. IsToldBy (AnswersList c.args.circuit c.args.script.now read)
    c.args.out.now.page.written c.judge_listed.new.out.page.written
    (g.A.Analyst.analysed c.args.analyst.now) (g.A.Analyst.analysed c.judge_listed.new.analyst) c.judge_listed.result)
    (sym (c.in_ok-faults.ensures.value ∙ c.in-Ok.is)) c.judge_listed.ensures.told

pub returns-in-Err-clause-told : goal.returns-in-Err-clause-told
returns-in-Err-clause-told g c =
    let old = c.args.out.now.page.written in
    let new = c.refuse.new.out.page.written in
    let asked = g.A.Analyst.analysed c.args.analyst.now in
    let refusal = c.in-Err.refusal in
    subst (λ read. IsToldBy (AnswersList c.args.circuit c.args.script.now read) old new asked asked c.refuse.result)
    (sym (c.in_ok-faults.ensures.value ∙ c.in-Err.is))
    (told_by_none (IsRefusal (place.List refusal.line) refusal.code status.ScriptRefused) (IsRefusal (place.List refusal.line) refusal.code status.ScriptRefused)
    old new asked c.refuse.result (λ answer right. (right, ap (λ (told : Answer). told.texts) right)) c.refuse.ensures.told)
