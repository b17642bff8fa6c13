-- What was counted of the script is told by its summary, and the line that ended it by its refusal.
use Rattle.std.proofs.Common.{◌≡◌, inr, subst, sym}
use Rattle.line_words.specs.Files as file
use Rattle.circuit_texts.specs.Sizes.{TellsRefused}
use Rattle.netlist.specs.Circuits.{CircuitData}
use Rattle.run_ends.specs.Causes.{plain_cause}
use Rattle.told_lines.specs.Sums.{counted}
use Rattle.script_meaning.specs.declared.halt.Halt.{Halt}
use Rattle.script_meaning.specs.Runs.{plain_reading}
use Rattle.script_meaning.specs.Halts.{HaltsAt}
use Rattle.script_reports.proofs.SummedLemmas.{told_counted, told_halted, told_outgrown}
use Rattle.script_reports.proofs.summary.sum_up_lines.Given.{Over}
use Rattle.script_reports.proofs.summary.sum_up_lines.Goals.{In_ok-count_lines}
use Rattle.script_reports.proofs.summary.sum_up_lines.Goals as goal

-- how the lines ended
ended : (g : Over) (c : In_ok-count_lines g) (halt : Halt) → c.in_ok-count_lines.field-0 ≡ halt →
    HaltsAt counted plain_reading (file.cut_line c.args.text.now) c.args.session.now.core (file.lines_in c.args.text.now) c.count_lines.new.session.core
    c.args.summary c.count_lines.new.sums.summary (g.A.Analyst.analysed c.args.analyst.now) (g.A.Analyst.analysed c.count_lines.new.analyst) halt
ended g c halt is = rw is at c.in_ok-count_lines.ensures.halts

pub refuse_size-requires : goal.refuse_size-requires
refuse_size-requires g c =
    let halts = ended g (goal.at.refuse_size-requires g c).In_ok-count_lines _ c.in-TooLarge.is in
    let large = c.count_lines.new.session.core.large in
    inr (large, subst (λ (circuit : CircuitData). TellsRefused large circuit.graph c.in-TooLarge.fault) (sym c.circuit.ensures.value) halts.first)

pub returns-in-End-clause-told : goal.returns-in-End-clause-told
returns-in-End-clause-told g c =
    told_counted _ _ _ _ _ _ _ _ _ _ c.write_summary.result c.requires.blank
    (ended g (goal.at.returns-in-End-clause-told g c).In_ok-count_lines _ c.in-End.is) c.write_summary.ensures.told

pub returns-in-Refused-clause-told : goal.returns-in-Refused-clause-told
returns-in-Refused-clause-told g c =
    told_halted _ _ _ _ _ _ _ _ _ _ c.in-Refused.line (plain_cause c.in-Refused.code) c.refuse.result
    (ended g (goal.at.returns-in-Refused-clause-told g c).In_ok-count_lines _ c.in-Refused.is) c.refuse.ensures.told

pub returns-in-TooLarge-clause-told : goal.returns-in-TooLarge-clause-told
returns-in-TooLarge-clause-told g c =
    let halts = ended g (goal.at.returns-in-TooLarge-clause-told g c).In_ok-count_lines _ c.in-TooLarge.is in
    told_outgrown _ _ _ _ _ _ _ _ _ _ c.in-TooLarge.line c.in-TooLarge.fault c.refuse_size.result halts
    ((rw c.circuit.ensures.value at c.refuse_size.ensures.told) c.count_lines.new.session.core.large (inr halts.first))
