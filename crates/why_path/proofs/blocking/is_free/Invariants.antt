-- The walk so far isn't blocked, and what is left of it leads on.
use Rattle.std.proofs.Common.{take, drop}
use Rattle.switch_paths.specs.Path.{Stand, Leads, at_root}
use Rattle.switch_paths.specs.Walks.{stand_of}
use Rattle.switch_paths.proofs.PathLemmas.{Goes}
use Rattle.why_path.proofs.blocking.is_free.Given as goal

abbrev pub invariant-loop-place : goal.invariant-loop-place
invariant-loop-place l = record {
  goes : Goes l.graph l.state (at_root l.graph l.walk.root) (take l.place-index l.place-items) (stand_of l.facts);
  leads : (there : Stand) × Leads l.graph l.state (stand_of l.facts) (drop l.place-index l.place-items) there;
}
