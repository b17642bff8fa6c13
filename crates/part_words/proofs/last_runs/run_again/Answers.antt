-- The column has the run on the states of the part's nodes, and what ran is noted.
use Rattle.std.proofs.Common.{◌≡◌, ◌+◌, ◌*◌, ◌≤◌, List, [], length, take, get_or, sym, ap, subst, ◌∙◌, arith}
use Rattle.std.proofs.lemmas.List.{length-map}
use Rattle.std.proofs.lemmas.Option.{slice_get_within, get_or_from_slice_get}
use Rattle.ternary.specs.declared.tern.Tern.{Tern}
use Rattle.switch_paths.specs.Switching.{state_at}
use Rattle.straight_code.specs.Code.{results}
use Rattle.straight_code.specs.Flat.{flat_values}
use Rattle.word_columns.specs.Columns.{column_bits}
use Rattle.part_words.specs.Noting.{map_at, states_at}
use Rattle.part_words.proofs.GatherLemmas.{All-read, length-map_at}
use Rattle.part_words.proofs.last_runs.run_again.Goals as goal

pub returns-clause-notes : goal.returns-clause-notes
returns-clause-notes g c =
    let code = c.args.code.now in
    let nodes = c.args.nodes.now in
    let starts = c.args.starts.now in
    let state = c.args.state.now in
    let found = c.column_of-column in
    c.note_all.ensures.notes state
    (λ column at start.
    let room = All-read (λ at. at + code.inputs ≤ length nodes) starts column at c.requires.inside start in
    let input : List Tern = states_at state nodes code.inputs at in
    let many : length input ≡ code.inputs = length-map (map_at nodes code.inputs at) (state_at state) ∙ length-map_at nodes code.inputs at room in
    let first : column ≡ 0 = omega (arith, slice_get_within starts column at start, c.requires.one) in
    let here : found.result ≡ found.result + column = omega (arith, first) in
    let own = get_or_from_slice_get starts column at 0 start in
    let begins : take (2 + 2 * code.inputs) (column_bits found.result found.new.runs.values.items) ≡ flat_values input [] =
    found.ensures.begins ∙ ap (λ at. flat_values (states_at state nodes code.inputs at) []) (ap (λ k. get_or starts k 0) (sym first) ∙ own) in
    let ran = found.ensures.known found.result input found.ensures.inside many begins in
    rw c.deref.ensures.value
    (subst (λ n. take (2 + 2 * code.inputs + length code.instructions) (column_bits n found.new.runs.values.items) ≡ flat_values input (results input code.instructions))
    here ran))
