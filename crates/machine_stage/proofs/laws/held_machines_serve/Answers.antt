-- The stage's state is the session's.
use Rattle.std.proofs.Common.{List, subst}
use Rattle.std.specs.Prelude.{IfSome}
use Rattle.ternary.specs.declared.tern.Tern.{Tern}
use Rattle.machine_stage.specs.Machines.{Serves}
use Rattle.machine_stage.proofs.laws.held_machines_serve.Goals as goal

pub returns : goal.returns
returns c = λ session held.
    subst (λ (state : List Tern). IfSome session.stage.machine (Serves session.core.circuit.graph state session.core.kept)) held.same held.served
