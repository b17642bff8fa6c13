-- A state of a graph has at most one step.
-- Two steps have, at each node, states with the same rails, for each rail is set exactly if some root sets
-- it; and states with the same rails are equal.
use Rattle.std.proofs.Common.{◌≡◌, ℕ, ◌<◌, ◌↔◌, Bool, true, false, List, refl, sym, ◌∙◌}
use Rattle.std.proofs.lemmas.List.{ext_get_or}
use Rattle.ternary.specs.declared.tern.Tern.{Tern}
use Rattle.ternary.specs.declared.tern.Tern.TheVariants.{Zero}
use Rattle.ternary.specs.Tern.{may_one, may_zero}
use Rattle.ternary.proofs.TernLemmas.{same_rails}
use Rattle.switch_paths.specs.Switching.{state_at}
use Rattle.switch_paths.specs.Graphs.{GraphData, nodes}
use Rattle.switch_paths.specs.Step.{IsResponse}
use Rattle.switch_paths.specs.Laws.{StepIsUnique}

-- two tests that hold for the same reason are one
same_tests : {P : Type 0} (a b : Bool) → ((a ≡ true) ↔ P) → ((b ≡ true) ↔ P) → a ≡ b
same_tests true true one two = refl
same_tests true false one two = sym (two.1 (one.0 refl))
same_tests false true one two = one.1 (two.0 refl)
same_tests false false one two = refl

-- a node has one steady state
pub response_is_unique : (g : GraphData) (state : List Tern) (node : ℕ) (s t : Tern) →
    IsResponse g state node s → IsResponse g state node t → s ≡ t
response_is_unique g state node s t one two =
    same_rails s t (same_tests (may_one s) (may_one t) one.one two.one) (same_tests (may_zero s) (may_zero t) one.zero two.zero)

-- a state of a graph has at most one step
pub unique : StepIsUnique
unique g state next other one two =
    ext_get_or Zero next other (one.count ∙ sym two.count) (λ node inside.
    let in_range : node < nodes g = rw (← one.count) inside in
    response_is_unique g state node (state_at next node) (state_at other node) (one.each node in_range)
    (two.each node in_range))
