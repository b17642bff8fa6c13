-- It is the constant true if the variable is true, and false elsewhere.
use Rattle.std.proofs.Common.{◌≡◌, ℕ, ◌<◌, Bool, true, false, List, length, Ok, Err, Result, IfOk, refl, ap, ◌∙◌, if◌then◌else◌}
use Rattle.decision_graph.specs.declared.vertex.Vertex.{Vertex}
use Rattle.decision_graph.specs.declared.vertex.Function.{Function}
use Rattle.decision_graph.specs.declared.graph.GraphFault.{GraphFault}
use Rattle.decision_graph.specs.Vertices.{Extends}
use Rattle.decision_graph.specs.Meaning.{holds}
use Rattle.decision_graph.specs.Making.{IsChosen}
use Rattle.decision_graph.proofs.ValueLemmas.{holds-extends}
use Rattle.decision_graph.proofs.graph.DecisionGraph.variable.Goals as goal

-- a truth value is true if it is true, and false elsewhere
itself : (t : Bool) → (if t then true else false) ≡ t
itself true = refl
itself false = refl

-- what was chosen between both constants
chosen : (variables v high low : ℕ) (old new : List Vertex) (result : Result Function GraphFault) → Extends old new
    → high < length old → low < length old → ((vars : ℕ → Bool) → holds old vars high ≡ true) → ((vars : ℕ → Bool) → holds old vars low ≡ false)
    → IfOk result (λ r. IsChosen variables new v high low r.place) → IfOk result (λ r. (vars : ℕ → Bool) → holds new vars r.place ≡ vars v)
chosen variables v high low old new (Ok r) extends high_inside low_inside at_high at_low is = λ vars.
    is.value_is vars
    ∙ ap (λ x. if vars v then x else holds new vars low) (holds-extends old new vars high extends high_inside ∙ at_high vars)
    ∙ ap (λ x. if vars v then true else x) (holds-extends old new vars low extends low_inside ∙ at_low vars)
    ∙ itself (vars v)
chosen variables v high low old new (Err why) extends high_inside low_inside at_high at_low is = tt

pub returns-clause-value : goal.returns-clause-value
returns-clause-value c =
    chosen c.choose.new.self.variables c.args.number c.constant-high.result.place c.constant-low.result.place c.args.self.now.vertices
    c.choose.new.self.vertices c.choose.result c.choose.ensures.extends c.constant-high.ensures.inside c.constant-low.ensures.inside
    c.constant-high.ensures.value c.constant-low.ensures.value c.choose.ensures.chosen
