-- The fault's commands have their effects, and then the lines of the script are judged: that is a run under the fault.
use Rattle.std.proofs.Common.{ℕ, List, Option, Some, IfOk, subst}
use Rattle.ternary.specs.declared.tern.Tern.{Tern}
use Rattle.group_text.specs.Texts.{GroupTextData}
use Rattle.session_meaning.specs.Sessions.{SessionData}
use Rattle.fault_meaning.specs.Traces.{AreDone, commands_under, stuck_under}
use Rattle.fault_meaning.specs.Early.{JudgesLines}
use Rattle.fault_meaning.proofs.BenchLemmas.{judges_under}
use Rattle.fault_runs.proofs.early.judge_under.Goals as goal

pub returns : goal.returns
returns g c =
    let start = c.args.start.now in
    let script = c.args.script.now in
    let mid = c.put_fault.new.session.core in
    let end = c.judge_lines.new.session.core in
    let good = c.args.good.now in
    let told = g.A.Analyst.analysed c.judge_lines.new.analyst in
    let begins = subst (λ (first : SessionData). AreDone first (commands_under start (Some c.args.fault)) mid) c.requires.stands c.in_ok-put_fault.ensures.done in
    let stuck = subst (λ (at : Option (ℕ × Tern)). IfOk c.judge_lines.result (JudgesLines at script mid good end
    (g.A.Analyst.analysed c.put_fault.new.analyst) told)) c.stuck_node-stuck.ensures c.judge_lines.ensures in
    let lines = subst (λ (texts : List GroupTextData). IfOk c.judge_lines.result (JudgesLines (stuck_under (Some c.args.fault)) script mid good end texts told))
    c.in_ok-put_fault.ensures.analysed stuck in
    judges_under start script c.args.session.now.core.kept c.args.fault mid end good (g.A.Analyst.analysed c.args.analyst.now) told c.judge_lines.result begins lines
