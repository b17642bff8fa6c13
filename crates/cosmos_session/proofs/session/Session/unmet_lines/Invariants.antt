-- The assignments before this one aren't refused, and their lines are there.
use Rattle.std.proofs.Common.{◌≡◌, ◌++◌, drop}
use Rattle.session_meaning.specs.Refusals.{givings_refusal, none_at}
use Rattle.session_meaning.specs.Effects.{unmet_lines}
use Rattle.cosmos_session.proofs.session.Session.unmet_lines.Given as goal

abbrev pub invariant-loop-name : goal.invariant-loop-name
invariant-loop-name g l = record {
  allowed : givings_refusal none_at l.self.core.circuit l.self.core.vectors (drop l.name-index l.list)
      ≡ givings_refusal none_at l.self.core.circuit l.self.core.vectors l.list;
  lines : l.lines.items ++ unmet_lines l.self.core (drop l.name-index l.list) ≡ unmet_lines l.self.core l.list;
}
