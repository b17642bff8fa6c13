-- What can go on followed the edit.
use Rattle.std.proofs.Common.{arith}
use Rattle.column_machines.proofs.EditLemmas.{Follows-gone_on, last_left}
use Rattle.column_machines.proofs.edits.follow_edit.Goals as goal

pub go_on-requires-clause-covers : goal.go_on-requires-clause-covers
go_on-requires-clause-covers c = c.in-Ok.ensures.edits.covers

pub go_on-requires-clause-counted : goal.go_on-requires-clause-counted
go_on-requires-clause-counted c = omega (arith, c.requires.counted, c.in-Ok.ensures.edits.count)

pub returns-in-Ok-clause-ok : goal.returns-in-Ok-clause-ok
returns-in-Ok-clause-ok c =
    let made = c.go_on.ensures in
    Follows-gone_on c.args.graph.now c.args.change.now c.args.machine c.in-Ok.machine c.args.agenda c.go_on.result c.in-Ok.ensures.edits
    made.machine made.fit made.marks made.runs made.rails

pub returns-in-Ok-clause-err : goal.returns-in-Ok-clause-err
returns-in-Ok-clause-err c = last_left c.args.machine c.in-Ok.machine c.go_on.result c.in-Ok.ensures.edits.last c.go_on.ensures.err
