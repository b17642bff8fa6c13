-- What is gathered runs, and what ran is noted.
use Rattle.std.proofs.Common.{◌≡◌, ◌+◌, ◌*◌, ◌<◌, ◌≤◌, List, length, take, subst, ◌∙◌, arith}
use Rattle.std.proofs.lemmas.List.{length-map}
use Rattle.std.proofs.lemmas.Option.{slice_get_within}
use Rattle.ternary.specs.declared.tern.Tern.{Tern}
use Rattle.switch_paths.specs.Switching.{state_at}
use Rattle.straight_code.specs.Code.{results}
use Rattle.straight_code.specs.Flat.{flat_values}
use Rattle.word_columns.specs.Columns.{column_bits}
use Rattle.part_words.specs.Noting.{map_at, states_at}
use Rattle.part_words.proofs.GatherLemmas.{All-read, length-map_at}
use Rattle.part_words.proofs.together.run_together.Goals as goal

pub gather-requires-clause-inside : goal.gather-requires-clause-inside
gather-requires-clause-inside g c = rw c.inputs.ensures c.requires.inside

pub gather-requires-clause-below : goal.gather-requires-clause-below
gather-requires-clause-below g c = rw c.inputs.ensures c.requires.below

pub gather-requires-clause-room : goal.gather-requires-clause-room
gather-requires-clause-room g c = omega (arith, c.inputs.ensures)

pub returns-clause-notes : goal.returns-clause-notes
returns-clause-notes g c =
    let code = c.args.code.now in
    let nodes = c.args.nodes.now in
    let starts = c.args.starts.now in
    let state = c.args.state.now in
    c.note_all.ensures.notes state
    (λ column at found.
    let room = All-read (λ at. at + code.inputs ≤ length nodes) starts column at c.requires.inside found in
    let input : List Tern = states_at state nodes code.inputs at in
    let many : length input ≡ code.inputs = length-map (map_at nodes code.inputs at) (state_at state) ∙ length-map_at nodes code.inputs at room in
    let under : column < 64 = omega (arith, slice_get_within starts column at found, c.requires.columns) in
    let here : column ≡ 0 + column = omega arith in
    let gathered = rw c.inputs.ensures at c.gather.ensures.gathered column at found in
    subst (λ n. take (2 + 2 * code.inputs + length code.instructions) (column_bits n c.run_steps.new.values) ≡ flat_values input (results input code.instructions))
    here (c.run_steps.ensures.ran column input under many gathered))
