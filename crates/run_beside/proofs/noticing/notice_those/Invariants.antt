-- What is noticed of the changes so far.
use Rattle.std.proofs.Common.{◌≡◌, take}
use Rattle.run_beside.specs.Noticing.{NoticesGood}
use Rattle.run_beside.proofs.noticing.notice_those.Given as goal

abbrev pub invariant-loop-change : goal.invariant-loop-change
invariant-loop-change l = record {
  notices : NoticesGood (take l.change-index l.changes) l.owners l.readers l.good l.bad l.fn.apart.inside l.apart.inside l.fn.agenda.marks l.agenda.marks;
  waiting : l.agenda.waiting ≡ l.fn.agenda.waiting;
}
