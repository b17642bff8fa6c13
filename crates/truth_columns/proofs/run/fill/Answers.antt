-- Both rails of the next input stand behind those of the earlier ones.
use Rattle.std.proofs.Common.{◌≡◌, ◌+◌, ◌*◌, ◌<◌, ◌≤◌, ◌∷◌, ◌++◌, [], length, map, take, get_or, set, subst, sym, ap, ◌∙◌, arith}
use Rattle.std.proofs.lemmas.List.{map_more, length-set, take_all}
use Rattle.std.proofs.lemmas.List.Elements.{All-set}
use Rattle.switch_paths.specs.Switching.{state_at}
use Rattle.truth_columns.proofs.ColumnLemmas.{constants_in_column, rails_in_column, high_at_node, low_at_node}
use Rattle.truth_columns.proofs.run.fill.Goals as goal

pub loop-j-init : goal.loop-j-init
loop-j-init g c =
    let has = g.T.Truths.has c.args.truths.now in
    record {
      has = All-set has (set c.args.values.now 0 c.constant.result) 1 c.constant-2.result c.constant-2.ensures.has
          (All-set has c.args.values.now 0 c.constant.result c.constant.ensures.has c.requires.has);
      filled = λ column state inside is.
          constants_in_column (g.T.Truths.holds c.args.truths.now) column c.args.values.now c.constant.result c.constant-2.result
          (c.constant.ensures.value column inside) (c.constant-2.ensures.value column inside) (omega arith);
    }

pub loop-j-preserved : goal.loop-j-preserved
loop-j-preserved g c =
    let has = g.T.Truths.has c.args.truths.now in
    let holds = g.T.Truths.holds c.args.truths.now in
    let nodes = c.args.nodes.now in
    let hi = c.args.hi.now in
    let lo = c.args.lo.now in
    let j = c.loop-j.j in
    let node = get_or nodes j 0 in
    let one = c.index-hi-node.result in
    let other = c.index-lo-node.result in
    let within : node < length hi = c.requires.below j 0 (omega arith) in
    let low_within : node < length lo = omega (arith, c.requires.counted, within) in
    let one_has : has one = subst has (sym c.index-hi-node.is) (c.requires.highs node one within) in
    let other_has : has other = subst has (sym c.index-lo-node.is) (c.requires.lows node other low_within) in
    let room : 4 + 2 * j ≤ length c.loop-j.values =
    omega (arith, length-set (set c.args.values.now 0 c.constant.result) 1 c.constant-2.result, length-set c.args.values.now 0 c.constant.result) in
    record {
      has = All-set has (set c.loop-j.values (2 + 2 * j) one) (3 + 2 * j) other other_has
          (All-set has c.loop-j.values (2 + 2 * j) one one_has c.loop-j.invariant.has);
      filled = λ column state inside is.
          let more : map (state_at state) (take (j + 1) nodes) ≡ map (state_at state) (take j nodes) ++ state_at state node ∷ [] =
          map_more (state_at state) nodes j 0 (omega arith) in
          rw more
          (rails_in_column holds column (map (state_at state) (take j nodes)) (state_at state node) c.loop-j.values j one other room
          (ap (λ x. holds x column) c.index-hi-node.is ∙ high_at_node holds column hi lo state is node one within)
          (ap (λ x. holds x column) c.index-lo-node.is ∙ low_at_node holds column hi lo state is c.requires.counted node other within)
          (c.loop-j.invariant.filled column state inside is));
    }

pub returns-clause-filled : goal.returns-clause-filled
returns-clause-filled g c = λ column state inside is.
    let nodes = c.args.nodes.now in
    let last : c.loop-j.j ≡ length nodes = omega arith in
    let so_far = rw last at c.loop-j.invariant.filled column state inside is in
    rw (take_all (length nodes) nodes (omega arith)) at so_far
