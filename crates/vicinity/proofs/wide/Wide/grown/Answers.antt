-- The graph, the lists and the sets have the new nodes, and the lists are those of the graph.
use Rattle.std.proofs.Common.{◌≡◌, ◌+◌, ◌-◌, ◌≤◌, ◌++◌, false, length, refl, sym, ap, subst, ◌∙◌, arith}
use Rattle.std.specs.Prelude.{replicate}
use Rattle.strength_order.specs.declared.TheConstants.{INPUT_LEVEL}
use Rattle.switch_paths.specs.Graphs.{GraphData, nodes}
use Rattle.vicinity.specs.LiveLists.{AreListsOf}
use Rattle.vicinity.specs.Growing.{grown_graph, with_lists}
use Rattle.vicinity.specs.Wides.{WideData}
use Rattle.vicinity.proofs.GrowingLemmas.{filled_count, count_grown, AreListsOf-grown}
use Rattle.vicinity.proofs.wide.Wide.grown.Goals as goal

pub grown-requires : goal.grown-requires
grown-requires c = omega (arith, c.requires, ap (λ (wide : WideData). nodes wide.graph) c.self.view_is, c.self.invariant.counted)

pub grown-requires-2 : goal.grown-requires-2
grown-requires-2 c = omega (arith, c.requires, ap (λ (wide : WideData). nodes wide.graph) c.self.view_is, c.self.invariant.enough)

pub invariant_of-result : goal.invariant_of-result
invariant_of-result c =
    let i = c.self.inside in
    let few : nodes i.graph ≤ c.args.count = omega (arith, c.requires, ap (λ (wide : WideData). nodes wide.graph) c.self.view_is) in
    let graph : c.add_nodes.new.self ≡ grown_graph i.graph c.args.count =
    c.in_ok-add_nodes.ensures.ok ∙ ap (λ n. record i.graph { levels = i.graph.levels ++ replicate (c.args.count - n) INPUT_LEVEL }) c.nodes.ensures in
    let count : nodes c.add_nodes.new.self ≡ c.args.count = omega (arith, ap nodes graph, count_grown i.graph c.args.count, few) in
    record {
      counted = ap length c.in_ok-touched.ensures.inside
          ∙ (filled_count i.touched.inside false c.args.count (omega (arith, few, c.self.invariant.counted)) ∙ sym count);
      enough = c.in_ok-room.ensures ∙ sym count;
    }

pub returns : goal.returns
returns c =
    let i = c.self.inside in
    let graph : c.add_nodes.new.self ≡ grown_graph i.graph c.args.count =
    c.in_ok-add_nodes.ensures.ok ∙ ap (λ n. record i.graph { levels = i.graph.levels ++ replicate (c.args.count - n) INPUT_LEVEL }) c.nodes.ensures in
    let lists : c.grow.new.self ≡ with_lists i.lists (c.args.count - nodes i.graph) =
    c.in_ok-grow.ensures ∙ ap (λ n. with_lists i.lists (c.args.count - n)) c.nodes.ensures in
    rw (← c.self.view_is) (record {
      large = refl;
      graph = graph;
      wired = c.graphs_are_wired-2.ensures;
      live = λ state more counted are.
          subst (λ (g : GraphData). AreListsOf g (state ++ more) c.grow.new.self) (sym graph)
          (subst (AreListsOf (grown_graph i.graph c.args.count) (state ++ more)) (sym lists)
          (AreListsOf-grown i.graph c.graphs_are_wired.ensures c.args.count state more counted i.lists are));
      touched = c.in_ok-touched.ensures.list;
    })
