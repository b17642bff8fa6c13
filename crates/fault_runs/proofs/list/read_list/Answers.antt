-- Each line takes the faults one step on; at each exit what was read so far is what the whole list says.
use Rattle.std.proofs.Common.{◌≡◌, ℕ, List, Option, Ok, Err, sym, ap, ◌∙◌, subst}
use Rattle.std.specs.List.{enumerate_from}
use Rattle.line_words.specs.Lines.{lines_of}
use Rattle.line_words.specs.Files as file
use Rattle.fault_meaning.specs.declared.listed.ListedFault.{ListedFault}
use Rattle.fault_meaning.specs.Lists.{faults_of}
use Rattle.fault_meaning.proofs.ListLemmas.{HasRead, read_first, read_on, read_refused, read_last}
use Rattle.fault_runs.proofs.list.read_list.Goals as goal

pub loop-line-init : goal.loop-line-init
loop-line-init c =
    let all = file.lines_in c.args.text.now in
    let cut = c.cut_line-cut.result in
    let circuit = c.args.circuit.now in
    let first = c.into_iter-line-iterator.ensures.into_iter_gives ∙ c.lines-line-items.ensures.numbered
    ∙ ap (λ (front : List ℕ). enumerate_from 1 (lines_of front)) c.front.ensures in
    subst (λ left. HasRead circuit cut all c.new-faults.result left) (sym first)
    (subst (λ (faults : List ListedFault). HasRead circuit cut all faults all) (sym c.new-faults.ensures) (read_first circuit cut all))

pub loop-line-preserved : goal.loop-line-preserved
loop-line-preserved c =
    let all = file.lines_in c.args.text.now in
    let cut = c.cut_line-cut.result in
    let circuit = c.args.circuit.now in
    let come = subst (λ left. HasRead circuit cut all c.loop-line.faults left) c.in-Some.ensures.steps c.loop-line.invariant in
    read_on circuit cut all c.loop-line.faults (c.in-Some.line.number, c.in-Some.line.bytes.now) c.next.new.self come c.in-Ok.found
    c.add_found.new.faults (sym c.in-Ok.ensures.value) c.in-Ok.ensures.fault c.in_ok-add_found-in-Ok.ensures

pub returns-in-Err-clause-value : goal.returns-in-Err-clause-value
returns-in-Err-clause-value c =
    let all = file.lines_in c.args.text.now in
    let cut = c.cut_line-cut.result in
    let circuit = c.args.circuit.now in
    let come = subst (λ left. HasRead circuit cut all c.loop-line.faults left) c.in-Some.ensures.steps c.loop-line.invariant in
    subst (λ (at : Option ℕ). faults_of circuit at all ≡ Err (record { line = c.in-Some.line.number; code = c.in-Err.code })) c.cut_line-cut.ensures
    (read_refused circuit cut all c.loop-line.faults (c.in-Some.line.number, c.in-Some.line.bytes.now) c.next.new.self come c.in-Err.code
    (sym c.in-Err.ensures.value))

pub returns-clause-value : goal.returns-clause-value
returns-clause-value c =
    let all = file.lines_in c.args.text.now in
    let cut = c.cut_line-cut.result in
    let circuit = c.args.circuit.now in
    let come = subst (λ left. HasRead circuit cut all c.loop-line.faults left) c.in-None.ensures.steps.0 c.loop-line.invariant in
    subst (λ (at : Option ℕ). faults_of circuit at all ≡ Ok c.loop-line.faults) c.cut_line-cut.ensures
    (read_last circuit cut all c.loop-line.faults come)

pub returns-clause-faults : goal.returns-clause-faults
returns-clause-faults c = c.loop-line.invariant.faulty
