-- One member more is noted, whose old rails stand in the array.
use Rattle.std.proofs.Common.{◌≡◌, ℕ, ◌+◌, ◌*◌, ◌<◌, ◌≤◌, List, length, Some, subst, ◌∙◌, arith}
use Rattle.std.specs.Prelude.{slice_get, slice_index}
use Rattle.std.proofs.lemmas.List.{length-map}
use Rattle.std.proofs.lemmas.Option.{slice_get_within}
use Rattle.ternary.specs.declared.tern.Tern.{Tern}
use Rattle.switch_paths.specs.Switching.{state_at}
use Rattle.straight_code.specs.Code.{code_value, results}
use Rattle.part_words.specs.Members.{HasState}
use Rattle.part_words.specs.Noting.{map_at, states_at}
use Rattle.part_words.proofs.ColumnStates.{HasState-shifted}
use Rattle.part_words.proofs.GatherLemmas.{All-read, length-map_at, times_more}
use Rattle.part_words.proofs.NotingLemmas.{NotesBelow-more, NotesAll-from, rails_at, input_at, state_before, state_next}
use Rattle.part_words.proofs.note.note_all.Goals as goal

pub loop-k-preserved : goal.loop-k-preserved
loop-k-preserved c =
    let code = c.args.code.now in
    let nodes = c.args.nodes.now in
    let starts = c.args.starts.now in
    let values = c.args.values.now in
    let shift = c.args.shift in
    let k = c.loop-k.k in
    let joining = c.args.joining in
    let inside : k < length code.outputs = omega (arith, c.outputs-k-end.ensures) in
    let within : k < code.inputs = omega (arith, inside, c.requires.front) in
    record {
      notes = λ state run.
          let has = λ (column at : ℕ) (found : slice_get starts column ≡ Some at).
          let room = All-read (λ at. at + code.inputs ≤ length nodes) starts column at c.requires.inside found in
          let input : List Tern = states_at state nodes code.inputs at in
          let many : length input ≡ code.inputs = length-map (map_at nodes code.inputs at) (state_at state) ∙ length-map_at nodes code.inputs at room in
          HasState-shifted shift column (slice_index values (2 + 2 * k)) (slice_index values (3 + 2 * k)) (state_before nodes state k at)
          (subst (HasState (shift + column) (slice_index values (2 + 2 * k)) (slice_index values (3 + 2 * k)))
          (input_at state nodes code.inputs at k room within)
          (rails_at (shift + column) code.inputs (length code.instructions) values input (results input code.instructions) k many within c.requires.values
          (run column at found))) in
          NotesBelow-more joining code nodes state c.requires.front starts k inside c.args.changes.now.items c.loop-k.changes.items
          c.note_member.new.changes.items (c.loop-k.invariant.notes state run)
          (c.note_member.ensures.notes (state_before nodes state k) (state_next joining code nodes state k) has
          (λ column at found.
          let room = All-read (λ at. at + code.inputs ≤ length nodes) starts column at c.requires.inside found in
          let input : List Tern = states_at state nodes code.inputs at in
          let many : length input ≡ code.inputs = length-map (map_at nodes code.inputs at) (state_at state) ∙ length-map_at nodes code.inputs at room in
          let under : shift + column < 64 = omega (arith, slice_get_within starts column at found, c.requires.columns) in
          c.after-new.ensures column (state_before nodes state k at) (state_at (code_value code input) k) (has column at found)
          (HasState-shifted shift column c.output_words-given.result.0 c.output_words-given.result.1 (state_at (code_value code input) k) (record {
            one = c.output_words-given.ensures.hi (shift + column) input under many (run column at found);
            other = c.output_words-given.ensures.lo (shift + column) input under many (run column at found);
          }))));
      few = omega (arith, times_more (length starts) k, c.loop-k.invariant.few, c.note_member.ensures.few);
      capacity = c.note_member.ensures.capacity ∙ c.loop-k.invariant.capacity;
    }

pub returns-clause-notes : goal.returns-clause-notes
returns-clause-notes c state run =
    NotesAll-from c.args.joining c.args.code.now c.args.nodes.now state c.requires.front c.args.starts.now c.loop-k.k (omega (arith, c.outputs-k-end.ensures))
    c.args.changes.now.items c.loop-k.changes.items (c.loop-k.invariant.notes state run)
