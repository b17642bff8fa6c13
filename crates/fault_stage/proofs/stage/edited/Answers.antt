-- A stage that holds on to nothing follows the edit as ever; one that is built is let go; and one that waits goes on waiting.
use Rattle.std.proofs.Common.{refl, ap, subst, ◌∙◌, arith}
use Rattle.std.specs.Prelude.{◌+◌, ◌≤◌}
use Rattle.switch_paths.specs.Graphs.{GraphData, nodes}
use Rattle.group_analysis.specs.Using.{used_texts}
use Rattle.analysis_cache.specs.Keeping.{KeptData, texts_of}
use Rattle.channel_groups.specs.declared.change.Change.{Change}
use Rattle.column_stage.specs.Columns.{AreAmong, IsSoundState, with_new_nodes}
use Rattle.column_stage.specs.Edits.{IsUndone}
use Rattle.fault_stage.specs.declared.held.Held.{Held}
use Rattle.fault_stage.specs.Runs.{IsWell}
use Rattle.fault_stage.specs.Stages.{ServesIn, data_of, last_in, ready_of, spare_in, state_of, wait_of}
use Rattle.fault_stage.proofs.StayingLemmas.{ready_edited, waits_edited}
use Rattle.fault_stage.proofs.stage.edited.Goals as goal

-- what is asked of what is held
abbrev Asked : GraphData → Change → KeptData → Held → Type 0
Asked g change kept held = (before : GraphData) × IsUndone before g change × IsSoundState before (state_of (data_of held))
    × (nodes g ≤ nodes before + spare_in (data_of held)) × ServesIn (data_of held) before (used_texts (last_in (data_of held)) (texts_of kept))

pub edit-requires-clause-before : goal.edit-requires-clause-before
edit-requires-clause-before c =
    let (before, undone, sound, room, serves) = subst (Asked c.args.graph.now c.args.change.now c.args.kept.now) c.in-Whole.is c.requires.before in
    (before, undone, λ column inside. sound, room, serves)

pub edit-requires-clause-last : goal.edit-requires-clause-last
edit-requires-clause-last c = subst (λ (held : Held). AreAmong (last_in (data_of held)) (texts_of c.args.kept.now)) c.in-Whole.is c.requires.last

pub returns-in-Whole-clause-edits : goal.returns-in-Whole-clause-edits
returns-in-Whole-clause-edits c =
    let edit = c.edit.ensures in
    rw c.in-Whole.is (record {
      state = edit.states 0 (omega arith);
      kept_is = edit.kept;
      last = edit.last;
      serves = edit.serves;
    })

pub let_go-requires : goal.let_go-requires
let_go-requires c =
    let (before, undone, sound, room, serves) = subst (Asked c.args.graph.now c.args.change.now c.args.kept.now) c.in-Built.is c.requires.before in
    let state = c.in-Built.built.state in
    omega (arith, room, sound.counted, state.ok.0, state.ok.1)

pub returns-in-Built-clause-edits : goal.returns-in-Built-clause-edits
returns-in-Built-clause-edits c =
    rw c.in-Built.is
    (ready_edited c.args.graph.now (ready_of c.in-Built.built) c.let_go.result (texts_of c.args.kept.now) c.let_go.ensures.state c.let_go.ensures.last
    c.let_go.ensures.serves)

pub grow-requires : goal.grow-requires
grow-requires c =
    let (before, undone, sound, room, serves) = subst (Asked c.args.graph.now c.args.change.now c.args.kept.now) c.in-Waiting.is c.requires.before in
    let state = c.in-Waiting.waiting.state in
    omega (arith, room, sound.counted, c.nodes.ensures, state.ok.0, state.ok.1)

pub returns-in-Waiting-clause-well : goal.returns-in-Waiting-clause-well
returns-in-Waiting-clause-well c = subst IsWell c.in-Waiting.is c.requires.well

pub returns-in-Waiting-clause-edits : goal.returns-in-Waiting-clause-edits
returns-in-Waiting-clause-edits c =
    let (before, undone, sound, room, serves) = subst (Asked c.args.graph.now c.args.change.now c.args.kept.now) c.in-Waiting.is c.requires.before in
    let state = c.grow.ensures.state ∙ ap (with_new_nodes c.in-Waiting.waiting.state.items) c.nodes.ensures in
    rw c.in-Waiting.is (waits_edited c.args.graph.now before (wait_of c.in-Waiting.waiting) _ (texts_of c.args.kept.now) state refl serves)
