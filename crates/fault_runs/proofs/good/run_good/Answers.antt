-- At the start the session has run nothing, and then the script is obeyed as it is read while no node is stuck: that is a run without a fault.
use Rattle.std.proofs.Common.{[], None, sym, subst}
use Rattle.line_words.specs.Files as file
use Rattle.told_lines.specs.Noting.{NotesData, note}
use Rattle.script_meaning.specs.Runs.{Reading, plain_reading}
use Rattle.script_meaning.specs.Halts.{HaltsAt}
use Rattle.fault_meaning.proofs.ReadingLemmas.{masked-plain}
use Rattle.fault_meaning.proofs.RunLemmas.{runs_to}
use Rattle.fault_runs.proofs.good.run_good.Goals as goal

pub returns : goal.returns
returns g c =
    let start = c.args.session.now.core in
    let new = c.obey_lines.new.session.core in
    let asked = g.A.Analyst.analysed c.args.analyst.now in
    let told = g.A.Analyst.analysed c.obey_lines.new.analyst in
    let script = c.args.script.now in
    let plain = subst (λ (notes : NotesData). HaltsAt note plain_reading (file.cut_line script) start (file.lines_in script) new notes.rows
    c.obey_lines.new.out.rows asked told c.in-Ok.halt) c.new-notes.ensures c.in-Ok.ensures.told in
    let halts = subst (λ (reading : Reading). HaltsAt note reading (file.cut_line script) start (file.lines_in script) new []
    c.obey_lines.new.out.rows asked told c.in-Ok.halt) (sym masked-plain) plain in
    runs_to start.circuit script start.kept None start new c.obey_lines.new.out.rows asked told c.in_ok-good.good c.in-Ok.halt c.requires
    c.in_ok-good.ensures halts
