-- The list is read after the script, and what was told of what was read is told of both files.
use Rattle.std.proofs.Common.{inr, ap, ◌∙◌}
use Rattle.ports.specs.Ports.{with_name}
use Rattle.ports.proofs.ResultLemmas.{at_ok}
use Rattle.ports.proofs.TakenLemmas.{files_both}
use Rattle.run_ends.proofs.EndLemmas.{read_none}
use Rattle.cosmos_app.proofs.FaultLemmas.{told_judged, starts_late, whole_two}
use Rattle.cosmos_app.proofs.faults.judge_list.Goals as goal

pub returns-clause-told : goal.returns-clause-told
returns-clause-told g c =
    told_judged (g.F.Files.holds c.args.files.now) (g.F.Files.holds c.read_file.new.files) c.args.script.now c.args.list.now c.args.circuit
    c.in_ok-text.text.items c.deref.result.now c.in_ok-faults.faults.items c.deref-2.result.now
    c.args.out.now.page.written c.judge_faults.new.out.page.written
    (g.A.Analyst.analysed c.args.analyst.now) (g.A.Analyst.analysed c.judge_faults.new.analyst) c.judge_faults.result
    c.in_ok-text.ensures.bytes c.in_ok-text.ensures.holds c.in_ok-faults.ensures.bytes c.deref.ensures.value c.deref-2.ensures.value
    c.judge_faults.ensures.told

pub returns-clause-started : goal.returns-clause-started
returns-clause-started g c =
    inr (c.in_ok-faults.ensures.started ∙ ap (λ names. with_name names c.args.list.now) c.in_ok-text.ensures.started)

pub returns-clause-taken : goal.returns-clause-taken
returns-clause-taken g c =
    files_both (g.F.Files.taken c.args.files.now) (g.F.Files.taken c.read_file.new.files) (g.F.Files.taken c.read_file-2.new.files) _
    c.in_ok-text.ensures.taken c.in_ok-faults.ensures.taken

pub returns-clause-whole : goal.returns-clause-whole
returns-clause-whole g c =
    at_ok c.judge_faults.result
    (whole_two (g.F.Files.holds c.args.files.now) (g.F.Files.holds c.read_file.new.files) c.args.script.now c.args.list.now
    c.in_ok-text.text.items c.in_ok-faults.faults.items (g.F.Files.taken c.args.files.now) (g.F.Files.taken c.read_file.new.files)
    (g.F.Files.taken c.read_file-2.new.files) c.in_ok-text.ensures.bytes c.in_ok-text.ensures.holds c.in_ok-faults.ensures.bytes
    c.in_ok-text.ensures.whole c.in_ok-faults.ensures.whole)

pub returns-clause-read : goal.returns-clause-read
returns-clause-read g c =
    c.in_ok-faults.ensures.read ∙ c.in_ok-text.ensures.read
    ∙ read_none (g.F.Files.faults c.args.files.now) c.judge_faults.result c.judge_faults.ensures.no_read

pub returns-in_err-faults-clause-started : goal.returns-in_err-faults-clause-started
returns-in_err-faults-clause-started g c =
    starts_late (g.F.Files.started c.args.files.now) (g.F.Files.started c.read_file.new.files) (g.F.Files.started c.read_file-2.new.files)
    c.args.script.now c.args.list.now c.in_ok-text.ensures.started c.in_err-faults.ensures.started

pub returns-in_err-faults-clause-taken : goal.returns-in_err-faults-clause-taken
returns-in_err-faults-clause-taken g c =
    files_both (g.F.Files.taken c.args.files.now) (g.F.Files.taken c.read_file.new.files) (g.F.Files.taken c.read_file-2.new.files) _
    c.in_ok-text.ensures.taken c.in_err-faults.ensures.taken
