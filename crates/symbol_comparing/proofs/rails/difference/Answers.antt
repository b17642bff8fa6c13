-- One node more.
use Rattle.std.proofs.Common.{ap, ◌∙◌}
use Rattle.decision_graph.specs.declared.vertex.Function.{Function}
use Rattle.decision_graph.proofs.VertexLemmas.{Extends-trans}
use Rattle.symbol_comparing.specs.Rails.{rails_of}
use Rattle.symbol_comparing.proofs.RailLemmas.{alike_more}
use Rattle.symbol_comparing.proofs.rails.difference.Goals as goal

pub loop-k-preserved : goal.loop-k-preserved
loop-k-preserved c =
    let k = c.loop-k.k in
    let old = c.args.graph.now.vertices in
    let now = c.loop-k.graph.vertices in
    let new = c.with_difference.new.graph.vertices in
    record {
      shape = record {
        variables = c.with_difference.ensures.shape.variables ∙ c.loop-k.invariant.shape.variables;
        most = c.with_difference.ensures.shape.most ∙ c.loop-k.invariant.shape.most;
      };
      extends = Extends-trans old now new c.loop-k.invariant.extends c.with_difference.ensures.extends;
      inside = c.in_ok-more.ensures.inside;
      value = λ vars. alike_more old now new vars (rails_of c.args.one.highs.now c.args.one.lows.now)
          (rails_of c.args.other.highs.now c.args.other.lows.now) k c.loop-k.made.place c.in_ok-more.more.place
          c.at-high.result.place c.at-other_high.result.place c.at-low.result.place c.at-other_low.result.place c.loop-k.invariant.extends
          (ap (λ (f : Function). f.place) c.at-high.ensures) (ap (λ (f : Function). f.place) c.at-other_high.ensures)
          (ap (λ (f : Function). f.place) c.at-low.ensures) (ap (λ (f : Function). f.place) c.at-other_low.ensures)
          (c.requires.one_inside k c.loop-k-test.true) (c.requires.other_inside k c.loop-k-test.true) (c.loop-k.invariant.value vars)
          (c.in_ok-more.ensures.value vars);
    }
