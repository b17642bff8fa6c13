-- The hops so far are told, and what is left of the walk leads on.
use Rattle.std.proofs.Common.{◌≡◌, ℕ, List, ◌++◌, take, drop}
use Rattle.switch_paths.specs.Path.{Stand, Leads, at_root}
use Rattle.switch_paths.specs.Walks.{stand_of}
use Rattle.why_path.specs.Lines.{AreTold, hops_text}
use Rattle.why_path.proofs.line.append_hops.Given as goal

abbrev pub invariant-loop-place : goal.invariant-loop-place
invariant-loop-place l = record {
  told : (told : List (ℕ × List ℕ))
      × AreTold l.circuit l.state (at_root l.circuit.graph l.walk.root) (take l.place-index l.place-items) (stand_of l.facts) told
      × (l.line.items ≡ l.initial.line.items ++ hops_text told);
  leads : (there : Stand) × Leads l.circuit.graph l.state (stand_of l.facts) (drop l.place-index l.place-items) there;
}
