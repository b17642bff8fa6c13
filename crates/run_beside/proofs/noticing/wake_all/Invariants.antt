-- Those of the parts so far that are apart are marked.
use Rattle.std.proofs.Common.{◌≡◌, take}
use Rattle.std.specs.Prelude.{Contains}
use Rattle.run_beside.specs.Noticing.{Notices}
use Rattle.run_beside.proofs.noticing.wake_all.Given as goal

abbrev pub invariant-loop-k : goal.invariant-loop-k
invariant-loop-k l = record {
  notices : Notices (λ k. ⊥) (Contains (take l.k-index l.parts)) l.apart.inside l.apart.inside l.fn.agenda.marks l.agenda.marks;
  waiting : l.agenda.waiting ≡ l.fn.agenda.waiting;
}
