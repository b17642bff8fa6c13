-- The nodes so far have their states.
use Rattle.std.proofs.Common.{◌≡◌, ◌≤◌}
use Rattle.switch_paths.specs.declared.TheConstants.{RAILS}
use Rattle.unit_step.specs.Restarting.{GivesBelow}
use Rattle.unit_step.proofs.machine.Machine.give_all.Given as goal

abbrev pub invariant-loop-node : goal.invariant-loop-node
invariant-loop-node l = record {
  gives : GivesBelow l.graph l.state l.node l.fn.self l.self;
  marks : l.self.marks ≡ l.fn.self.marks;
  low : RAILS ≤ l.node;
}
