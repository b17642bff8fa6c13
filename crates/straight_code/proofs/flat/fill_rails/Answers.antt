-- Both rails of the next input stand behind those of the earlier ones.
use Rattle.std.proofs.Common.{◌≡◌, true, false, set, ◌+◌, ◌*◌, ◌≤◌, ◌∷◌, ◌++◌, [], length, map, take, get_or, arith}
use Rattle.std.proofs.lemmas.List.{map_more, length-set, take_all}
use Rattle.switch_paths.specs.Switching.{state_at}
use Rattle.straight_code.proofs.FlatLemmas.{rails_written, constants_written}
use Rattle.straight_code.proofs.flat.fill_rails.Goals as goal

pub loop-j-preserved : goal.loop-j-preserved
loop-j-preserved c =
    let state = c.args.state.now in
    let nodes = c.args.nodes.now in
    let j = c.loop-j.j in
    let room : 4 + 2 * j ≤ length c.loop-j.values =
    omega (arith, length-set (set c.args.values.now 0 false) 1 true, length-set c.args.values.now 0 false) in
    let node = get_or nodes j 0 in
    let more : map (state_at state) (take (j + 1) nodes) ≡ map (state_at state) (take j nodes) ++ state_at state node ∷ [] =
    map_more (state_at state) nodes j 0 (omega arith) in
    rw (c.may_one.ensures, c.may_zero.ensures, more)
    (rails_written (map (state_at state) (take j nodes)) (state_at state node) c.loop-j.values j room c.loop-j.invariant)

pub loop-j-init : goal.loop-j-init
loop-j-init c = constants_written c.args.values.now (omega arith)

pub returns-clause-rails : goal.returns-clause-rails
returns-clause-rails c =
    let nodes = c.args.nodes.now in
    let last : c.loop-j.j ≡ length nodes = omega arith in
    let so_far = rw last at c.loop-j.invariant in
    rw (take_all (length nodes) nodes (omega arith)) at so_far
