-- There is room for the part, and it waits.
use Rattle.std.proofs.Common.{◌≡◌, ℕ, ◌+◌, arith}
use Rattle.part_steps.specs.Waiting.{waiting_sum, with_seat}
use Rattle.part_steps.specs.Together.{outputs_at, instructions_at}
use Rattle.part_steps.proofs.WaitingLemmas.{slot_inside, waiting_sum-with_seat}
use Rattle.part_steps.proofs.CodesLemmas.{TakesIn-from_RunsSome}
use Rattle.part_steps.proofs.evaluation.take_in.Given.{Over}
use Rattle.part_steps.proofs.evaluation.take_in.Goals.{After-make_room}
use Rattle.part_steps.proofs.evaluation.take_in.Goals as goal

pub returns-clause-takes : goal.returns-clause-takes
returns-clause-takes g c =
    let between = c.make_room.new.workspace.bundles in
    let seat = c.args.seat in
    let made = c.make_room.ensures in
    rw c.add.ensures (TakesIn-from_RunsSome c.args.joining c.args.dense.now.codes.items c.args.dense.now.nodes.items c.args.state.now seat
    c.args.workspace.now.bundles between c.args.workspace.now.changes.items c.make_room.new.workspace.changes.items
    (slot_inside between seat.code made.counted)
    made.has_room made.runs)

-- with the part so much more waits
more : (g : Over) (c : After-make_room g) (per_code : ℕ → ℕ) →
    waiting_sum per_code (with_seat c.make_room.new.workspace.bundles c.args.seat) ≡ waiting_sum per_code c.make_room.new.workspace.bundles + per_code c.args.seat.code
more g c per_code =
    let between = c.make_room.new.workspace.bundles in
    waiting_sum-with_seat between c.args.seat (slot_inside between c.args.seat.code c.make_room.ensures.counted) c.make_room.ensures.has_room per_code

pub returns-clause-room : goal.returns-clause-room
returns-clause-room g c =
    let added = more g (goal.at.returns-clause-room g c).After-make_room (outputs_at c.args.dense.now.codes.items) in
    rw c.add.ensures (omega (arith, c.make_room.ensures.room, added))

pub returns-clause-steps : goal.returns-clause-steps
returns-clause-steps g c =
    let added = more g (goal.at.returns-clause-steps g c).After-make_room (instructions_at c.args.dense.now.codes.items) in
    rw c.add.ensures (omega (arith, c.make_room.ensures.steps, added))
