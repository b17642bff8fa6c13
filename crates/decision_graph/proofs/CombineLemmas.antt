-- An operation on the parts of two functions gives the parts of the operation on both.
use Rattle.std.proofs.Common.{◌≡◌, ℕ, ◌<◌, ◌≤◌, Bool, true, false, not, List, length, min, Ok, Err, Result, IfOk, refl, sym, ap, ◌∙◌, subst, if◌then◌else◌}
use Rattle.decision_graph.specs.declared.vertex.Vertex.{Vertex}
use Rattle.decision_graph.specs.declared.combining.Kind.{Kind}
use Rattle.decision_graph.specs.declared.combining.Kind.TheVariants.{Differ}
use Rattle.decision_graph.specs.declared.vertex.Function.{Function}
use Rattle.decision_graph.specs.declared.graph.GraphFault.{GraphFault}
use Rattle.decision_graph.specs.Vertices.{level_at, Extends}
use Rattle.decision_graph.specs.Meaning.{holds, kind_value}
use Rattle.decision_graph.specs.Making.{IsCombined, IsParted, IsChosen}
use Rattle.decision_graph.proofs.ValueLemmas.{holds-extends}
use Rattle.decision_graph.proofs.VertexLemmas.{level-extends, Extends-trans}

-- a function that is one of two by a variable's value
taken_high : (t : Bool) (x y : Bool) → t ≡ true → (if t then x else y) ≡ x
taken_high t x y e = ap (λ s. if s then x else y) e

taken_low : (t : Bool) (x y : Bool) → t ≡ false → (if t then x else y) ≡ y
taken_low t x y e = ap (λ s. if s then x else y) e

-- an operation of equal truth values
same_kind : (kind : Kind) (a b c d : Bool) → a ≡ c → b ≡ d → kind_value kind a b ≡ kind_value kind c d
same_kind kind a b c d e f = ap (λ x. kind_value kind x b) e ∙ ap (λ y. kind_value kind c y) f

-- what was chosen from the results on both parts is the result on both functions
pub IsCombined-chosen : (variables : ℕ) (first second third last : List Vertex) (kind : Kind) (v a b a_high a_low b_high b_low high low made : ℕ)
    → Extends first second → Extends second third → Extends third last → a < length first → b < length first
    → v ≡ min (level_at variables first a) (level_at variables first b)
    → IsParted variables first v a a_high a_low → IsParted variables first v b b_high b_low
    → IsCombined variables second kind a_high b_high high → IsCombined variables third kind a_low b_low low
    → IsChosen variables last v high low made → IsCombined variables last kind a b made
IsCombined-chosen variables first second third last kind v a b a_high a_low b_high b_low high low made to_second to_third to_last a_inside b_inside least part_a part_b on_high on_low chosen =
    record {
      inside = chosen.inside;
      value_is = λ vars. by vars (vars v) refl;
      later = rw (level-extends variables first last a to_end a_inside, level-extends variables first last b to_end b_inside)
          (subst (λ n. n ≤ level_at variables last made) least chosen.later);
    }
  where
    second_last : Extends second last
    second_last = Extends-trans second third last to_third to_last

    first_third : Extends first third
    first_third = Extends-trans first second third to_second to_third

    to_end : Extends first last
    to_end = Extends-trans first third last first_third to_last

    whole : (vars : ℕ → Bool) (a' b' : Bool) → holds first vars a ≡ a' → holds first vars b ≡ b'
        → kind_value kind a' b' ≡ kind_value kind (holds last vars a) (holds last vars b)
    whole vars a' b' e f = same_kind kind a' b' (holds last vars a) (holds last vars b)
        (sym (holds-extends first last vars a to_end a_inside ∙ e)) (sym (holds-extends first last vars b to_end b_inside ∙ f))

    -- what a side gives at the end is the operation on the parts of that side at the start
    side : (vars : ℕ → Bool) (at : List Vertex) (x y made : ℕ) → Extends first at → Extends at last → x < length first → y < length first
        → IsCombined variables at kind x y made → holds last vars made ≡ kind_value kind (holds first vars x) (holds first vars y)
    side vars at x y made to_at at_last x_inside y_inside is =
        holds-extends at last vars made at_last is.inside ∙ is.value_is vars
        ∙ same_kind kind _ _ (holds first vars x) (holds first vars y)
        (holds-extends first at vars x to_at x_inside) (holds-extends first at vars y to_at y_inside)

    by : (vars : ℕ → Bool) (t : Bool) → vars v ≡ t
        → holds last vars made ≡ kind_value kind (holds last vars a) (holds last vars b)
    by vars true e =
        chosen.value_is vars ∙ taken_high (vars v) (holds last vars high) (holds last vars low) e
        ∙ side vars second a_high b_high high to_second second_last part_a.high_inside part_b.high_inside on_high
        ∙ whole vars _ _ (part_a.value_is vars ∙ taken_high (vars v) (holds first vars a_high) (holds first vars a_low) e)
        (part_b.value_is vars ∙ taken_high (vars v) (holds first vars b_high) (holds first vars b_low) e)
    by vars false e =
        chosen.value_is vars ∙ taken_low (vars v) (holds last vars high) (holds last vars low) e
        ∙ side vars third a_low b_low low first_third to_last part_a.low_inside part_b.low_inside on_low
        ∙ whole vars _ _ (part_a.value_is vars ∙ taken_low (vars v) (holds first vars a_high) (holds first vars a_low) e)
        (part_b.value_is vars ∙ taken_low (vars v) (holds first vars b_high) (holds first vars b_low) e)

-- what a combined function holds, by what both functions held before
pub told-combined : (variables : ℕ) (old new : List Vertex) (kind : Kind) (a b : ℕ) (result : Result Function GraphFault) → Extends old new
    → a < length old → b < length old → IfOk result (λ r. IsCombined variables new kind a b r.place)
    → IfOk result (λ r. (vars : ℕ → Bool) → holds new vars r.place ≡ kind_value kind (holds old vars a) (holds old vars b))
told-combined variables old new kind a b (Ok r) extends first second is = λ vars.
    is.value_is vars ∙ same_kind kind (holds new vars a) (holds new vars b) (holds old vars a) (holds old vars b)
    (holds-extends old new vars a extends first) (holds-extends old new vars b extends second)
told-combined variables old new kind a b (Err why) extends first second is = tt

-- a truth value differs from true if it is false
differ-true : (a : Bool) → kind_value Differ a true ≡ not a
differ-true true = refl
differ-true false = refl

-- the same of the function that differs from the constant true
pub told-not : (variables : ℕ) (old new : List Vertex) (a b : ℕ) (result : Result Function GraphFault) → Extends old new
    → a < length old → b < length old → ((vars : ℕ → Bool) → holds old vars b ≡ true) → IfOk result (λ r. IsCombined variables new Differ a b r.place)
    → IfOk result (λ r. (vars : ℕ → Bool) → holds new vars r.place ≡ not (holds old vars a))
told-not variables old new a b (Ok r) extends first second always is = λ vars.
    told-combined variables old new Differ a b (Ok r) extends first second is vars
    ∙ ap (λ t. kind_value Differ (holds old vars a) t) (always vars) ∙ differ-true (holds old vars a)
told-not variables old new a b (Err why) extends first second always is = tt
