-- A function was moved, is a leaf, or is a branch over functions that are moved first.
use Rattle.std.proofs.Common.{◌≡◌, sym, ap, ◌∙◌, subst, arith}
use Rattle.decision_graph.specs.Vertices.{level_at, level_of}
use Rattle.decision_graph.specs.Making.{IsChosen}
use Rattle.decision_graph.proofs.CanonLemmas.{level-leaf}
use Rattle.decision_graph.proofs.MovingLemmas.{AreMoved-extends, AreMoved-noted, IsMoved-chosen}
use Rattle.decision_graph.proofs.graph.DecisionGraph.+copy.Goals as goal

pub returns-in-Some-clause-copied : goal.returns-in-Some-clause-copied
returns-in-Some-clause-copied t c = c.requires.moved.each c.args.function.place c.in-Some.done c.in-Some.ensures

pub returns-in_err-made-in-Branch-clause-moved : goal.returns-in_err-made-in-Branch-clause-moved
returns-in_err-made-in-Branch-clause-moved t c =
    AreMoved-extends c.args.self.now.variables c.args.self.now.vertices c.copy-in-Branch.new.graph.vertices c.choose.new.self.vertices c.copy-in-Branch.new.moved
    c.choose.ensures.extends c.copy-in-Branch.ensures.moved

pub returns-in-Leaf-clause-moved : goal.returns-in-Leaf-clause-moved
returns-in-Leaf-clause-moved t c =
    let old = c.args.self.now in
    let new = c.args.graph.now in
    let level : level_at old.variables old.vertices c.args.function.place ≡ old.variables =
    level-leaf old.variables old.vertices c.args.function.place c.in-Leaf.value (sym c.in-Leaf.ensures.vertex) in
    let other : level_at old.variables new.vertices c.constant-made.result.place ≡ old.variables =
    subst (λ n. level_at n new.vertices c.constant-made.result.place ≡ n) c.requires.variables c.constant-made.ensures.level in
    rw c.note_moved.ensures
    (AreMoved-noted old.variables old.vertices new.vertices c.args.moved.now c.args.function.place c.constant-made.result
    (omega (arith, c.requires.inside, c.requires.moved.count)) c.requires.moved (record {
      inside = c.constant-made.ensures.inside;
      value_is = λ vars. c.constant-made.ensures.value vars ∙ sym (c.in-Leaf.ensures.value vars);
      later = omega (arith, level, other);
    }))

-- the branch over what was moved is moved
pub returns-in_ok-made-in-Branch-clause-copied : goal.returns-in_ok-made-in-Branch-clause-copied
returns-in_ok-made-in-Branch-clause-copied t c =
    let old = c.args.self.now in
    let first : c.copy.new.graph.variables ≡ old.variables = c.copy.ensures.shape.variables ∙ c.requires.variables in
    let second : c.copy-in-Branch.new.graph.variables ≡ old.variables = c.copy-in-Branch.ensures.shape.variables ∙ first in
    let third : c.choose.new.self.variables ≡ old.variables = c.choose.ensures.shape.variables ∙ second in
    IsMoved-chosen old.variables old.vertices c.copy.new.graph.vertices c.copy-in-Branch.new.graph.vertices c.choose.new.self.vertices
    c.args.function.place c.in-Branch.variable c.in-Branch.high.place c.in-Branch.low.place c.in_ok-new_high-in-Branch.new_high.place
    c.in_ok-new_low-in-Branch.new_low.place c.in_ok-made-in-Branch.made.place c.copy-in-Branch.ensures.extends c.choose.ensures.extends
    (ap (level_of old.variables) (sym c.in-Branch.ensures.vertex)) c.in-Branch.ensures.value
    c.in_ok-new_high-in-Branch.ensures.copied c.in_ok-new_low-in-Branch.ensures.copied
    (subst (λ n. IsChosen n c.choose.new.self.vertices c.in-Branch.variable c.in_ok-new_high-in-Branch.new_high.place
    c.in_ok-new_low-in-Branch.new_low.place c.in_ok-made-in-Branch.made.place) third c.in_ok-made-in-Branch.ensures.chosen)

pub returns-in_ok-made-in-Branch-clause-moved : goal.returns-in_ok-made-in-Branch-clause-moved
returns-in_ok-made-in-Branch-clause-moved t c =
    let old = c.args.self.now in
    rw c.note_moved-in-Branch.ensures
    (AreMoved-noted old.variables old.vertices c.choose.new.self.vertices c.copy-in-Branch.new.moved c.args.function.place c.in_ok-made-in-Branch.made
    (omega (arith, c.requires.inside, c.copy-in-Branch.ensures.moved.count))
    (AreMoved-extends old.variables old.vertices c.copy-in-Branch.new.graph.vertices c.choose.new.self.vertices c.copy-in-Branch.new.moved
    c.choose.ensures.extends c.copy-in-Branch.ensures.moved)
    (returns-in_ok-made-in-Branch-clause-copied t c))
