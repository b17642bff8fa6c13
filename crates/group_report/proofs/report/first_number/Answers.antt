-- A text that is noted keeps its number, and one that isn't gets this one.
use Rattle.std.proofs.Common.{◌≡◌, None, Some, rules}
use Rattle.group_report.specs.Noted.{number_at}
use Rattle.group_report.proofs.NumberLemmas.{NotesText-known, NotesText-new}
use Rattle.group_report.proofs.report.first_number.Goals as goal
use Rattle.group_report.proofs.report.first_number.Goals.{in-Ok, in-Err}

pub returns-in-Some-clause-noted : goal.returns-in-Some-clause-noted
returns-in-Some-clause-noted c =
    let known : number_at c.args.noted.now c.args.text ≡ Some c.in-Some.first = search rules in
    NotesText-known c.args.noted.now c.args.text c.args.number c.in-Some.first known

pub returns-after-insert-clause-noted : goal.returns-after-insert-clause-noted
returns-after-insert-clause-noted c =
    let absent : number_at c.args.noted.now c.args.text ≡ None = search rules in
    elim c.match-insert.branch [
      | in-Ok w ↦ rw w.result-is (NotesText-new c.args.noted.now c.insert.new.self c.args.text c.args.number absent w.in-Ok.ensures.updates)
      | in-Err w ↦ rw w.result-is tt
    ]
