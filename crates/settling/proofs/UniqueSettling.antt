-- A state settles in one way alone.
-- Each replacement has one outcome, and the next is taken exactly if it changed something.
use Rattle.std.proofs.Common.{◌≡◌, ℕ, zero, suc, ◌+◌, ◌<◌, ◌↔◌, Bool, true, false, IsTrue, inl, inr, List, refl, sym, ◌∙◌, ap, arith, rules}
use Rattle.std.proofs.lemmas.List.{ext_get_or}
use Rattle.ternary.specs.declared.tern.Tern.{Tern}
use Rattle.ternary.specs.declared.tern.Tern.TheVariants.{Zero}
use Rattle.switch_paths.specs.Graphs.{GraphData}
use Rattle.switch_paths.proofs.UniqueSteps.{unique}
use Rattle.settling.specs.Settling.{Stepping, IsJoinStep, Joining}
use Rattle.settling.specs.Laws.{SettlingIsUnique}

-- a state has one joining step at most
pub JoinStep-unique : (g : GraphData) (old new other : List Tern) → IsJoinStep g old new → IsJoinStep g old other → new ≡ other
JoinStep-unique g old new other one two =
    let same : one.response ≡ two.response = unique g old one.response two.response one.step two.step in
    ext_get_or Zero new other (one.joins.left ∙ sym two.joins.left) (λ node inside.
    one.joins.each node inside ∙ (rw same (sym (two.joins.each node (omega (arith, one.joins.left, two.joins.left))))))

-- plain replacements lead one way
Stepping-unique : (g : GraphData) (limit : ℕ) (old : List Tern) (count : ℕ) (new : List Tern) (other_count : ℕ)
    (other : List Tern) →
    Stepping g limit old count new → Stepping g limit old other_count other → (count ≡ other_count) × (new ≡ other)
Stepping-unique g zero old count new other_count other one two = (one.0 ∙ sym two.0, one.1 ∙ sym two.1)
Stepping-unique g (suc left) old count new other_count other one two =
    let same : one.0 ≡ two.0 = unique g old one.0 two.0 one.1 two.1 in
    elim one.2 [
      | inl rests ↦ elim two.2 [
        | inl also ↦ (rests.1 ∙ sym also.1, rests.2 ∙ sym also.2)
        | inr moves ↦ absurd (moves.0 (sym same ∙ rests.0))
      ]
      | inr moves ↦ elim two.2 [
        | inl rests ↦ absurd (moves.0 (same ∙ rests.0))
        | inr also ↦
            let rest = Stepping-unique g left one.0 moves.1.0 new also.1.0 other moves.1.2 (rw (← same) at also.1.2) in
            (moves.1.1 ∙ (ap (λ count. count + 1) rest.0 ∙ sym also.1.1), rest.1)
      ]
    ]

-- joining replacements lead one way
Joining-unique : (g : GraphData) (old : List Tern) (count : ℕ) (new : List Tern) (other_count : ℕ) (other : List Tern) →
    Joining g old count new → Joining g old other_count other → (count ≡ other_count) × (new ≡ other)
Joining-unique g old zero new zero other one two = (refl, one.1 ∙ sym two.1)
Joining-unique g old zero new (suc other_count) other one two =
    absurd (two.2 (JoinStep-unique g old two.0 old two.1 one.0))
Joining-unique g old (suc count) new zero other one two =
    absurd (one.2 (JoinStep-unique g old one.0 old one.1 two.0))
Joining-unique g old (suc count) new (suc other_count) other one two =
    let same : one.0 ≡ two.0 = JoinStep-unique g old one.0 two.0 one.1 two.1 in
    let rest = Joining-unique g one.0 count new other_count other one.3 (rw (← same) at two.3) in
    (ap suc rest.0, rest.1)

-- two tests that say whether a count is above 0 agree
pub same_joined : (joined other : Bool) (count : ℕ) → (IsTrue joined ↔ (0 < count)) → (IsTrue other ↔ (0 < count)) → joined ≡ other
same_joined true true count one two = refl
same_joined true false count one two = search rules
same_joined false true count one two = search rules
same_joined false false count one two = refl

-- settling is a function
pub settling_is_unique : SettlingIsUnique
settling_is_unique g old limit new other steps other_steps joined other_joined one two =
    let first = Stepping-unique g limit old one.first one.mid two.first two.mid one.stepping two.stepping in
    let second = Joining-unique g one.mid one.second new two.second other one.joining (rw (← first.1) at two.joining) in (
      second.1,
      omega (arith, one.total, two.total, first.0, second.0),
      same_joined joined other_joined one.second one.was_joined (rw (← second.0) at two.was_joined),
    )
