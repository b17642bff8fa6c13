-- A line inside the list is what it is read as.
use Rattle.script_meaning.proofs.TurnLemmas.{is_inside}
use Rattle.std.proofs.Common.{ap, ◌∙◌, Err}
use Rattle.fault_meaning.proofs.ListLemmas.{listed_inside}
use Rattle.fault_runs.proofs.list.read_line.Goals as goal

pub returns-in-Ok-clause-value : goal.returns-in-Ok-clause-value
returns-in-Ok-clause-value c =
    let inside = is_inside c.args.cut c.args.line.number c.eq.result c.eq.ensures c.if-eq.false in
    listed_inside c.args.circuit.now c.args.cut (c.args.line.number, c.args.line.bytes.now) _ inside c.in-Ok.ensures.value

pub returns-in-Err-clause-value : goal.returns-in-Err-clause-value
returns-in-Err-clause-value c =
    let inside = is_inside c.args.cut c.args.line.number c.eq.result c.eq.ensures c.if-eq.false in
    ap Err c.list_code.ensures
    ∙ listed_inside c.args.circuit.now c.args.cut (c.args.line.number, c.args.line.bytes.now) _ inside c.in-Err.ensures.value
