-- What is chosen from the results on both parts is the result.
use Rattle.std.proofs.Common.{◌≡◌, refl, sym, ◌∙◌, subst, arith}
use Rattle.decision_graph.specs.Making.{IsCombined, IsChosen, IsRight}
use Rattle.decision_graph.proofs.CombineLemmas.{IsCombined-chosen}
use Rattle.decision_graph.proofs.graph.DecisionGraph.+combine.Goals as goal

pub note-requires : goal.note-requires
note-requires t c =
    let shape_1 = c.combine.ensures.shape.variables in
    let shape_2 : c.combine-2.new.self.variables ≡ c.args.self.now.variables = c.combine-2.ensures.shape.variables ∙ shape_1 in
    let shape_3 : c.choose.new.self.variables ≡ c.args.self.now.variables = c.choose.ensures.shape.variables ∙ shape_2 in
    subst (λ n. IsRight n c.choose.new.self.vertices c.args.kind c.args.a.place c.args.b.place c.in_ok-made.made.place) (sym shape_3)
    (record {
      first = omega (arith, c.requires.first, c.combine.ensures.extends.longer, c.combine-2.ensures.extends.longer, c.choose.ensures.extends.longer);
      second = omega (arith, c.requires.second, c.combine.ensures.extends.longer, c.combine-2.ensures.extends.longer, c.choose.ensures.extends.longer);
      combined = IsCombined-chosen c.args.self.now.variables c.args.self.now.vertices c.combine.new.self.vertices c.combine-2.new.self.vertices
          c.choose.new.self.vertices c.args.kind c.min-variable.result c.args.a.place c.args.b.place c.part.result.0.place c.part.result.1.place
          c.part-2.result.0.place c.part-2.result.1.place c.in_ok-high.high.place c.in_ok-low.low.place c.in_ok-made.made.place
          c.combine.ensures.extends c.combine-2.ensures.extends c.choose.ensures.extends c.requires.first c.requires.second
          (c.min-variable.ensures ∙ rw (c.level.ensures.level, c.level-2.ensures.level) refl)
          c.part.ensures c.part-2.ensures
          (subst (λ n. IsCombined n c.combine.new.self.vertices c.args.kind c.part.result.0.place c.part-2.result.0.place c.in_ok-high.high.place) shape_1 c.in_ok-high.ensures.combined)
          (subst (λ n. IsCombined n c.combine-2.new.self.vertices c.args.kind c.part.result.1.place c.part-2.result.1.place c.in_ok-low.low.place) shape_2 c.in_ok-low.ensures.combined)
          (subst (λ n. IsChosen n c.choose.new.self.vertices c.min-variable.result c.in_ok-high.high.place c.in_ok-low.low.place c.in_ok-made.made.place) shape_3 c.in_ok-made.ensures.chosen);
    })
