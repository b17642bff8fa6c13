-- In each column both rails of the next input stand behind those of the earlier ones.
use Rattle.std.proofs.Common.{◌≡◌, ◌+◌, ◌*◌, ◌<◌, ◌≤◌, ◌∷◌, ◌++◌, [], length, map, drop, get_or, set, sym, ap, subst, ◌∙◌, arith}
use Rattle.std.specs.Prelude.{slice_index}
use Rattle.std.proofs.lemmas.List.{map_more, get_or-drop, length-set, length-drop}
use Rattle.std.proofs.lemmas.Option.{slice_get_within}
use Rattle.switch_paths.specs.Switching.{state_at}
use Rattle.straight_code.specs.Flat.{flat_values}
use Rattle.word_columns.proofs.RunLemmas.{constants_in_column, rails_in_column}
use Rattle.part_words.specs.Noting.{map_at}
use Rattle.part_words.proofs.GatherLemmas.{All-read, map_at-at, length-map_at}
use Rattle.part_words.proofs.gather.gather.Goals as goal

pub loop-j-init : goal.loop-j-init
loop-j-init c column at found =
    constants_in_column column c.args.values.now (omega (arith, slice_get_within c.args.starts.now column at found, c.requires.columns)) (omega arith)

pub rails_of-hi-requires-clause-below : goal.rails_of-hi-requires-clause-below
rails_of-hi-requires-clause-below c = λ k d lt.
    let nodes = c.args.nodes.now in
    let at = get_or c.args.starts.now k d in
    let long = length-map_at nodes c.args.inputs at (c.requires.inside k d lt) in
    subst (λ node. node < length c.args.state.now) (map_at-at nodes c.args.inputs at c.loop-j.j (omega arith))
    (c.requires.below k d lt c.loop-j.j 0 (omega (arith, long)))

pub loop-j-preserved : goal.loop-j-preserved
loop-j-preserved c column at found =
    let nodes = c.args.nodes.now in
    let state = c.args.state.now in
    let j = c.loop-j.j in
    let inside = All-read (λ at. at + c.args.inputs ≤ length nodes) c.args.starts.now column at c.requires.inside found in
    let has = c.rails_of-hi.ensures column at found in
    let input = map (state_at state) (map_at nodes j at) in
    let node : get_or (drop at nodes) j 0 ≡ slice_index nodes (at + j) = get_or-drop at nodes j 0 in
    let more : map (state_at state) (map_at nodes (j + 1) at) ≡ input ++ state_at state (slice_index nodes (at + j)) ∷ [] =
    map_more (state_at state) (drop at nodes) j 0 (omega (arith, inside, length-drop at nodes)) ∙ ap (λ n. input ++ state_at state n ∷ []) node in
    let room : 4 + 2 * j ≤ length c.loop-j.values =
    omega (arith, length-set (set c.args.values.now 0 0) 1 18446744073709551615, length-set c.args.values.now 0 0) in
    rails_in_column column input (state_at state (slice_index nodes (at + j))) c.loop-j.values j c.rails_of-hi.result.0 c.rails_of-hi.result.1 room
    has.one has.other (c.loop-j.invariant column at found)
    ∙ ap (λ states. flat_values states []) (sym more)
