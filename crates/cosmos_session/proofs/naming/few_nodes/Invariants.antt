use Rattle.std.proofs.Common.{◌≡◌, ◌≤◌, ◌++◌, drop, length}
use Rattle.session_meaning.specs.Refusals.{all_named}
use Rattle.cosmos_session.proofs.naming.few_nodes.Given as goal

abbrev pub invariant-loop-name : goal.invariant-loop-name
invariant-loop-name l = record {
  nodes : l.list.items ++ all_named l.circuit l.vectors (drop l.name-index l.names) ≡ all_named l.circuit l.vectors l.names;
  few : length l.list.items ≤ l.most;
}
