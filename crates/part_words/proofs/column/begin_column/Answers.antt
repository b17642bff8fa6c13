-- Both rails of the next state stand behind those of the earlier ones.
use Rattle.std.proofs.Common.{◌≡◌, ◌+◌, ◌*◌, ◌≤◌, ◌∷◌, ◌++◌, [], length, map, drop, get_or, set, sym, ap, ◌∙◌, arith}
use Rattle.std.specs.Prelude.{slice_index}
use Rattle.std.proofs.lemmas.List.{map_more, get_or-drop, length-set, length-drop}
use Rattle.switch_paths.specs.Switching.{state_at}
use Rattle.straight_code.specs.Flat.{flat_values}
use Rattle.word_columns.proofs.RunLemmas.{constants_in_column, rails_in_column}
use Rattle.part_words.specs.Noting.{map_at}
use Rattle.part_words.proofs.column.begin_column.Goals as goal

pub loop-j-init : goal.loop-j-init
loop-j-init c = constants_in_column c.args.column c.args.all.now c.requires.column (omega arith)

pub loop-j-preserved : goal.loop-j-preserved
loop-j-preserved c =
    let nodes = c.args.nodes.now in
    let state = c.args.state.now in
    let at = c.args.at in
    let column = c.args.column in
    let j = c.loop-j.j in
    let input = map (state_at state) (map_at nodes j at) in
    let node : get_or (drop at nodes) j 0 ≡ slice_index nodes (at + j) = get_or-drop at nodes j 0 in
    let more : map (state_at state) (map_at nodes (j + 1) at) ≡ input ++ state_at state (slice_index nodes (at + j)) ∷ [] =
    map_more (state_at state) (drop at nodes) j 0 (omega (arith, c.requires.inside, length-drop at nodes)) ∙ ap (λ n. input ++ state_at state n ∷ []) node in
    let room : 4 + 2 * j ≤ length c.loop-j.all =
    omega (arith, length-set (set c.args.all.now 0 0) 1 18446744073709551615, length-set c.args.all.now 0 0) in
    rails_in_column column input (state_at state (slice_index nodes (at + j))) c.loop-j.all j c.put_bit-hi.result c.put_bit-lo.result room
    (c.put_bit-hi.ensures ∙ c.may_one.ensures) (c.put_bit-lo.ensures ∙ c.may_zero.ensures) c.loop-j.invariant
    ∙ ap (λ states. flat_values states []) (sym more)
