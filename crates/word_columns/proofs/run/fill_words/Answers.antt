-- Both rails of the next input stand behind those of the earlier ones.
use Rattle.std.proofs.Common.{◌≡◌, ◌+◌, ◌*◌, ◌≤◌, ◌∷◌, ◌++◌, [], length, map, take, get_or, set, arith}
use Rattle.std.proofs.lemmas.List.{map_more, length-set, take_all}
use Rattle.switch_paths.specs.Switching.{state_at}
use Rattle.word_columns.proofs.RunLemmas.{constants_in_column, rails_in_column, high_at_node, low_at_node}
use Rattle.word_columns.proofs.run.fill_words.Goals as goal

pub loop-j-init : goal.loop-j-init
loop-j-init c column state inside has = constants_in_column column c.args.values.now inside (omega arith)

pub loop-j-preserved : goal.loop-j-preserved
loop-j-preserved c column state inside has =
    let nodes = c.args.nodes.now in
    let hi = c.args.hi.now in
    let lo = c.args.lo.now in
    let j = c.loop-j.j in
    let node = get_or nodes j 0 in
    let within = c.requires.below j 0 (omega arith) in
    let more : map (state_at state) (take (j + 1) nodes) ≡ map (state_at state) (take j nodes) ++ state_at state node ∷ [] =
    map_more (state_at state) nodes j 0 (omega arith) in
    let room : 4 + 2 * j ≤ length c.loop-j.values =
    omega (arith, length-set (set c.args.values.now 0 0) 1 18446744073709551615, length-set c.args.values.now 0 0) in
    rw more
    (rails_in_column column (map (state_at state) (take j nodes)) (state_at state node) c.loop-j.values j (get_or hi node 0) (get_or lo node 0) room
    (high_at_node column hi lo state has node within) (low_at_node column hi lo state has c.requires.counted node within)
    (c.loop-j.invariant column state inside has))

pub returns : goal.returns
returns c column state inside has =
    let nodes = c.args.nodes.now in
    let last : c.loop-j.j ≡ length nodes = omega arith in
    let so_far = rw last at c.loop-j.invariant column state inside has in
    rw (take_all (length nodes) nodes (omega arith)) at so_far
