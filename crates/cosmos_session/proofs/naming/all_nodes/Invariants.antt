use Rattle.std.proofs.Common.{◌≡◌, ◌++◌, drop}
use Rattle.session_meaning.specs.Refusals.{all_named}
use Rattle.cosmos_session.proofs.naming.all_nodes.Given as goal

abbrev pub invariant-loop-name : goal.invariant-loop-name
invariant-loop-name l = l.list.items ++ all_named l.circuit l.vectors (drop l.name-index l.names) ≡ all_named l.circuit l.vectors l.names
