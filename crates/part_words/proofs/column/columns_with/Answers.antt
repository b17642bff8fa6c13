-- A column that is left has the rails of the next state too.
use Rattle.std.proofs.Common.{◌≡◌, ◌+◌, ◌∷◌, ◌++◌, [], map, drop, get_or, sym, ap, ◌∙◌, arith}
use Rattle.std.specs.Prelude.{slice_index}
use Rattle.std.proofs.lemmas.List.{map_more, get_or-drop, length-drop}
use Rattle.switch_paths.specs.Switching.{state_at}
use Rattle.straight_code.specs.Flat.{flat_values}
use Rattle.word_columns.proofs.ColumnLemmas.{column-all, column-none}
use Rattle.part_words.specs.Noting.{map_at}
use Rattle.part_words.proofs.LastRunsLemmas.{constants_from, rails_from}
use Rattle.part_words.proofs.column.columns_with.Goals as goal

pub loop-j-init : goal.loop-j-init
loop-j-init c column inside left =
    let second = c.agreeing-columns.ensures column inside left in
    let first = c.agreeing.ensures column inside second.0 in
    constants_from column c.args.all.now (omega arith) (first.1 ∙ column-none column) (second.1 ∙ column-all column inside)

pub returns-then-columns-eq0 : goal.returns-then-columns-eq0
returns-then-columns-eq0 c column inside left = absurd (cc (column-none column, left))

pub loop-j-preserved : goal.loop-j-preserved
loop-j-preserved c column inside left =
    let nodes = c.args.nodes.now in
    let state = c.args.state.now in
    let at = c.args.at in
    let j = c.loop-j.j in
    let both = c.with_state-columns.ensures column inside left in
    let input = map (state_at state) (map_at nodes j at) in
    let node : get_or (drop at nodes) j 0 ≡ slice_index nodes (at + j) = get_or-drop at nodes j 0 in
    let more : map (state_at state) (map_at nodes (j + 1) at) ≡ input ++ state_at state (slice_index nodes (at + j)) ∷ [] =
    map_more (state_at state) (drop at nodes) j 0 (omega (arith, c.requires.inside, length-drop at nodes)) ∙ ap (λ n. input ++ state_at state n ∷ []) node in
    rails_from column input (state_at state (slice_index nodes (at + j))) c.args.all.now j (omega arith) both.1 (c.loop-j.invariant column inside both.0)
    ∙ ap (λ states. flat_values states []) (sym more)
