-- The parts that wait in a slot can be run together, and what is noted of them is what each of them notes.
use Rattle.std.proofs.Common.{◌≡◌, ℕ, List, ◌+◌, ◌*◌, ◌<◌, length, sym, ap, ◌∙◌, arith}
use Rattle.std.proofs.lemmas.Bool.{eqb-true, eqb-false}
use Rattle.std.proofs.lemmas.Option.{slice_get_within}
use Rattle.part_steps.specs.Workspaces.{rooms}
use Rattle.part_steps.specs.Waiting.{starts_in, code_in, cleared_at, waiting_sum}
use Rattle.part_steps.specs.Together.{outputs_at, instructions_at}
use Rattle.part_steps.proofs.WaitingLemmas.{cleared_same, waiting_sum-cleared}
use Rattle.part_steps.proofs.CodesLemmas.{RunsTogether, RunsTogether-from_all, RunsSome-slot, code_read, one_of_some, outputs_there, instructions_there}
use Rattle.part_steps.proofs.KnownLemmas.{KnowsRuns-at, Knows-kept}
use Rattle.part_steps.proofs.evaluation.run_slot.Given.{Over}
use Rattle.part_steps.proofs.evaluation.run_slot.Goals.{After-code-number, After-deref}
use Rattle.part_steps.proofs.evaluation.run_slot.Goals as goal

pub returns-then-is_empty-clause-cleared : goal.returns-then-is_empty-clause-cleared
returns-then-is_empty-clause-cleared g c =
    let slots = c.args.workspace.now.bundles in
    let place = c.args.place in
    let inside : place < length slots = omega (arith, c.requires.inside, c.starts-starts.ensures.counted) in
    let none = eqb-true (length c.starts-starts.result.now) 0 (sym c.is_empty.ensures ∙ c.if-is_empty.true) in
    cleared_same slots place inside (ap (λ (xs : List ℕ). length xs) (sym c.starts-starts.ensures.starts) ∙ none)

pub index-code-requires : goal.index-code-requires
index-code-requires g c =
    let slots = c.args.workspace.now.bundles in
    let place = c.args.place in
    let codes = c.args.dense.now.codes.items in
    let inside : place < length slots = omega (arith, c.requires.inside, c.starts-starts.ensures.counted) in
    let differs = eqb-false (length c.starts-starts.result.now) 0 (sym c.is_empty.ensures ∙ c.if-is_empty.false) in
    let some : 0 < length (starts_in slots place) = omega (arith, differs, ap (λ (xs : List ℕ). length xs) c.starts-starts.ensures.starts) in
    let together = RunsTogether-from_all (length c.args.state.now) (rooms c.args.workspace.now) codes c.args.dense.now.nodes.items slots place inside
    c.requires.all some in
    omega (arith, c.code-number.ensures, slice_get_within codes (code_in slots place) together.code together.there)

-- the slot is one of the slots
slot_inside : (g : Over) (c : After-code-number g) → c.args.place < length c.args.workspace.now.bundles
slot_inside g c = omega (arith, c.requires.inside, c.starts-starts.ensures.counted)

-- some part waits in it
slot_some : (g : Over) (c : After-code-number g) → 0 < length (starts_in c.args.workspace.now.bundles c.args.place)
slot_some g c =
    let differs = eqb-false (length c.starts-starts.result.now) 0 (sym c.is_empty.ensures ∙ c.if-is_empty.false) in
    omega (arith, differs, ap (λ (xs : List ℕ). length xs) c.starts-starts.ensures.starts)

-- and all that do can be run together
together : (g : Over) (c : After-code-number g) →
    RunsTogether (length c.args.state.now) (rooms c.args.workspace.now) c.args.dense.now.codes.items c.args.dense.now.nodes.items
    (code_in c.args.workspace.now.bundles c.args.place) (starts_in c.args.workspace.now.bundles c.args.place)
together g c =
    RunsTogether-from_all (length c.args.state.now) (rooms c.args.workspace.now) c.args.dense.now.codes.items c.args.dense.now.nodes.items
    c.args.workspace.now.bundles c.args.place (slot_inside g c) c.requires.all (slot_some g c)

-- the code that is run is theirs
code_run : (g : Over) (c : After-deref g) (waits : RunsTogether (length c.args.state.now) (rooms c.args.workspace.now) c.args.dense.now.codes.items
    c.args.dense.now.nodes.items (code_in c.args.workspace.now.bundles c.args.place) (starts_in c.args.workspace.now.bundles c.args.place)) →
    c.deref.result.now ≡ waits.code.value
code_run g c waits =
    code_read c.args.dense.now.codes.items (code_in c.args.workspace.now.bundles c.args.place) c.code-number.result waits.code c.index-code.result.now
    c.deref.result.now c.code-number.ensures waits.there c.index-code.ensures c.deref.ensures

pub run_known-requires : goal.run_known-requires
run_known-requires g c =
    let at_run = goal.at.run_known-requires g c in
    let slots = c.args.workspace.now.bundles in
    let place = c.args.place in
    let codes = c.args.dense.now.codes.items in
    let waits = together g at_run.After-code-number in
    let code = code_run g at_run.After-deref waits in
    let costs = ap (λ n. length (starts_in slots place) * n) (outputs_there codes (code_in slots place) waits.code waits.there) in
    record {
      columns = c.starts-starts.ensures.few;
      inside = rw (c.starts-starts.ensures.starts, code, c.deref-2.ensures.value) waits.inside;
      below = rw (c.starts-starts.ensures.starts, code, c.deref-2.ensures.value) waits.below;
      front = rw code waits.front;
      values = rw (code, c.deref_mut.ensures.value) waits.value_room;
      known = rw (c.code-number.ensures, code) (KnowsRuns-at codes (code_in slots place) waits.code waits.there c.args.known.now.codes.items c.requires.known);
      room = rw (c.starts-starts.ensures.starts, code)
          (omega (arith, c.requires.room, costs, waiting_sum-cleared slots place (slot_inside g at_run.After-code-number) (outputs_at codes)));
    }

pub returns-clause-runs : goal.returns-clause-runs
returns-clause-runs g c =
    let at_end = goal.at.returns-clause-runs g c in
    let waits = together g at_end.After-code-number in
    let code = code_run g at_end.After-deref waits in
    let notes = rw (c.starts-starts.ensures.starts, code, c.deref-2.ensures.value) at c.run_known.ensures.notes in
    rw c.clear.ensures (RunsSome-slot c.args.joining c.args.dense.now.codes.items c.args.dense.now.nodes.items c.args.state.now c.args.workspace.now.bundles
    c.args.place waits.code c.args.workspace.now.changes.items c.run_known.new.changes.items (slot_inside g at_end.After-code-number) waits.there notes)

-- without the parts of the slot so much less waits
fewer : (g : Over) (c : After-code-number g) (per_code : ℕ → ℕ) →
    waiting_sum per_code (cleared_at c.args.workspace.now.bundles c.args.place)
    + length (starts_in c.args.workspace.now.bundles c.args.place) * per_code (code_in c.args.workspace.now.bundles c.args.place)
    ≡ waiting_sum per_code c.args.workspace.now.bundles
fewer g c per_code = waiting_sum-cleared c.args.workspace.now.bundles c.args.place (slot_inside g c) per_code

pub returns-clause-room : goal.returns-clause-room
returns-clause-room g c =
    let at_end = goal.at.returns-clause-room g c in
    let waits = together g at_end.After-code-number in
    let few = rw (c.starts-starts.ensures.starts, code_run g at_end.After-deref waits) at c.run_known.ensures.few in
    let costs = ap (λ n. length (starts_in c.args.workspace.now.bundles c.args.place) * n)
    (outputs_there c.args.dense.now.codes.items (code_in c.args.workspace.now.bundles c.args.place) waits.code waits.there) in
    rw c.clear.ensures (omega (arith, few, costs, fewer g at_end.After-code-number (outputs_at c.args.dense.now.codes.items)))

pub returns-clause-steps : goal.returns-clause-steps
returns-clause-steps g c =
    let at_end = goal.at.returns-clause-steps g c in
    let codes = c.args.dense.now.codes.items in
    let code_at = code_in c.args.workspace.now.bundles c.args.place in
    let waits = together g at_end.After-code-number in
    let steps = rw (code_run g at_end.After-deref waits) at c.run_known.ensures.steps in
    let most = one_of_some (length (starts_in c.args.workspace.now.bundles c.args.place)) (instructions_at codes code_at) (slot_some g at_end.After-code-number) in
    rw c.clear.ensures
    (omega (arith, steps, instructions_there codes code_at waits.code waits.there, most, fewer g at_end.After-code-number (instructions_at codes)))

pub returns-clause-known : goal.returns-clause-known
returns-clause-known g c =
    let at_end = goal.at.returns-clause-known g c in
    let waits = together g at_end.After-code-number in
    let keeps = rw (c.code-number.ensures, code_run g at_end.After-deref waits) at c.run_known.ensures.known in
    Knows-kept c.args.dense.now.codes.items (code_in c.args.workspace.now.bundles c.args.place) waits.code waits.there c.args.known.now.codes.items c.run_known.new.known.codes.items
    c.requires.known keeps
