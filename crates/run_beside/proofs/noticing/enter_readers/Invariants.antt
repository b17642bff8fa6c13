-- The parts so far are apart, and those are marked that weren't.
use Rattle.std.proofs.Common.{◌≡◌, take}
use Rattle.std.specs.Prelude.{Contains}
use Rattle.run_beside.specs.Noticing.{Notices}
use Rattle.run_beside.proofs.noticing.enter_readers.Given as goal

abbrev pub invariant-loop-k : goal.invariant-loop-k
invariant-loop-k l = record {
  notices : Notices (Contains (take l.k-index l.parts)) (λ k. ⊥) l.fn.apart.inside l.apart.inside l.fn.agenda.marks l.agenda.marks;
  waiting : l.agenda.waiting ≡ l.fn.agenda.waiting;
}
