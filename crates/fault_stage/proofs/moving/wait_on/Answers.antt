-- A stage that waits goes on waiting.
use Rattle.std.proofs.Common.{refl, ap, subst, ◌∙◌, arith}
use Rattle.std.specs.Prelude.{◌+◌, ◌≤◌, length}
use Rattle.switch_paths.specs.Graphs.{nodes}
use Rattle.column_stage.specs.Columns.{with_new_nodes}
use Rattle.fault_stage.specs.declared.held.Held.{Held}
use Rattle.fault_stage.specs.Runs.{IsWell}
use Rattle.fault_stage.specs.Stages.{data_of, spare_in, state_of}
use Rattle.fault_stage.proofs.moving.wait_on.Goals as goal

pub grow-requires : goal.grow-requires
grow-requires c =
    let room = subst (λ (held : Held). nodes c.args.graph.now ≤ length (state_of (data_of held)) + spare_in (data_of held)) c.in-Waiting.is c.requires.room in
    let state = c.in-Waiting.waiting.state in
    omega (arith, room, c.nodes.ensures, state.ok.0, state.ok.1)

pub returns-in-Waiting-clause-well : goal.returns-in-Waiting-clause-well
returns-in-Waiting-clause-well c = subst IsWell c.in-Waiting.is c.requires.well

pub returns-in-Waiting-clause-waits : goal.returns-in-Waiting-clause-waits
returns-in-Waiting-clause-waits c =
    rw c.in-Waiting.is (c.grow.ensures.state ∙ ap (with_new_nodes c.in-Waiting.waiting.state.items) c.nodes.ensures, refl)
