-- What is told of the meaning of the netlist is told of its text.
use Rattle.std.proofs.Common.{sym, ap, subst, ◌∙◌}
use Rattle.net_gen.specs.declared.families.GenPart.TheVariants.{Script}
use Rattle.run_ends.specs.Answers.{Answer}
use Rattle.command_line.specs.Samples.{sample_seen, text_of}
use Rattle.circuit_reports.specs.Answers.{IsOver, IsNetRefusal}
use Rattle.script_reports.specs.Answers.{IsSummary}
use Rattle.run_ends.specs.Ends.{IsToldBy}
use Rattle.run_ends.proofs.EndLemmas.{told_by_none}
use Rattle.script_reports.proofs.summary.sum_up.Goals as goal

pub returns-in-Ok-clause-told : goal.returns-in-Ok-clause-told
returns-in-Ok-clause-told g c =
    subst (λ meaning. IsToldBy (IsOver (IsSummary (text_of Script (sample_seen c.args.sample))) meaning)
    (g.S.Sink.written c.args.out.now) (g.S.Sink.written c.sum_up_in.new.out)
    (g.A.Analyst.analysed c.args.analyst.now) (g.A.Analyst.analysed c.sum_up_in.new.analyst) c.sum_up_in.result)
    (sym (c.in_ok-circuit.ensures.means ∙ c.in-Ok.is)) c.sum_up_in.ensures.told

pub returns-in-Err-clause-told : goal.returns-in-Err-clause-told
returns-in-Err-clause-told g c =
    let result = c.refuse_net.result in
    let old = g.S.Sink.written c.args.out.now in
    let new = g.S.Sink.written c.refuse_net.new.out in
    let asked = g.A.Analyst.analysed c.args.analyst.now in
    let refusal = c.in-Err.refusal in
    subst (λ meaning. IsToldBy (IsOver (IsSummary (text_of Script (sample_seen c.args.sample))) meaning) old new asked asked result)
    (sym (c.in_ok-circuit.ensures.means ∙ c.in-Err.is))
    (told_by_none (IsNetRefusal refusal) (IsNetRefusal refusal) old new asked result (λ answer right. (right, ap (λ (told : Answer). told.texts) right))
    c.refuse_net.ensures.told)
