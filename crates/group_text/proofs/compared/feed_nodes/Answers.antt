-- One local node more; at the end all are fed, since there are as many constants as levels.
use Rattle.std.proofs.Common.{◌≡◌, ◌+◌, ◌*◌, ◌<◌, ◌≤◌, length, get_or, None, refl, ap, ◌∙◌, arith}
use Rattle.std.specs.List.{zip}
use Rattle.std.proofs.lemmas.Slice.Zip.{get_or-zip, length-zip}
use Rattle.switch_paths.specs.Graphs.{nodes}
use Rattle.group_text.specs.Compared.{constant_code, node_word}
use Rattle.group_text.proofs.WriteLemmas.{fed_all, fed_more}
use Rattle.group_text.proofs.compared.feed_nodes.Goals as goal

pub loop-node-preserved : goal.loop-node-preserved
loop-node-preserved g c =
    let levels = c.args.text.now.graph.levels in
    let constants = c.args.text.now.constants in
    let items = zip levels constants in
    let node = c.loop-node.node in
    let alike : length constants ≡ length levels = c.graph.ensures.text.constants in
    let end : c.nodes-node-end.result ≡ length levels = c.nodes-node-end.ensures ∙ ap nodes c.graph.ensures.value in
    let inside : node < length items = rw (length-zip levels constants) (omega (arith, alike, end)) in
    let here : get_or items node (0, None) ≡ (get_or levels node 0, get_or constants node None) =
    get_or-zip levels constants node (0, None) (omega (arith, end)) (omega (arith, alike, end)) in
    let level : c.from.result ≡ get_or levels node 0 =
    rw (c.from.ensures, c.level-level.ensures.value, c.graph-in-loop-node.ensures.value) refl in
    let code : c.constant_code.result ≡ constant_code (get_or constants node None) =
    rw (c.constant_code.ensures.value, c.constant.ensures) refl in
    let word : node_word (get_or items node (0, None)) ≡ c.from.result + 256 * c.constant_code.result =
    rw (here, level, code) refl in (
      omega (arith, end),
      fed_more g.H.Hasher.write node_word c.args.state.now items node (0, None)
          (c.from.result + 256 * c.constant_code.result) c.loop-node.state c.write_u64.new.self inside word
          c.loop-node.invariant.1 c.write_u64.ensures,
    )

pub returns : goal.returns
returns g c =
    let levels = c.args.text.now.graph.levels in
    let constants = c.args.text.now.constants in
    let alike : length constants ≡ length levels = c.graph.ensures.text.constants in
    let end : c.nodes-node-end.result ≡ length levels = c.nodes-node-end.ensures ∙ ap nodes c.graph.ensures.value in
    let past : length (zip levels constants) ≤ c.loop-node.node =
    rw (length-zip levels constants) (omega (arith, alike, end)) in
    fed_all g.H.Hasher.write node_word c.args.state.now (zip levels constants) c.loop-node.node c.loop-node.state past
    c.loop-node.invariant.1
