-- A circuit has one list of findings: its groups are one, what goes by them is one, and the lists that join the rails are determined by where
-- they begin.
use Rattle.std.proofs.Common.{◌≡◌, ℕ, suc, ◌+◌, ◌<◌, inl, inr, List, [], ◌∷◌, map, Contains, refl, sym, ap, ap₂, ◌∙◌, arith}
use Rattle.std.specs.List.Sorted.{IsStrictlyIncreasing}
use Rattle.std.proofs.lemmas.List.{get_or-map, length-map}
use Rattle.std.proofs.lemmas.List.Elements.{All-contains}
use Rattle.std.proofs.lemmas.List.Kept.{AllPairs-from_increasing}
use Rattle.list_facts.proofs.ContainsLemmas.{Contains-cons_cases, Contains-cons_first, Contains-cons_later}
use Rattle.netlist.specs.Circuits.{CircuitData}
use Rattle.switch_paths.specs.Graphs.{GraphData}
use Rattle.group_meaning.proofs.UniqueGroups.{unique}
use Rattle.circuit_lint.specs.declared.sides.SideFault.TheVariants.{Undriven, NeverOne, NeverZero, Wide}
use Rattle.circuit_lint.specs.Sides.{showing}
use Rattle.circuit_lint.specs.Shorts.{first_of, IsShort, AreShorts}
use Rattle.circuit_lint.specs.Findings.{FindingsData, AreFindings}

-- the first list begins before each other
below : (x z : List ℕ) (xs : List (List ℕ)) → IsStrictlyIncreasing (map first_of (x ∷ xs)) → Contains xs z → first_of x < first_of z
below x z xs up within =
    let behind = AllPairs-from_increasing (map first_of (x ∷ xs)) up 0 (suc within.0) 0 (omega arith)
    (omega (arith, within.1, length-map xs first_of)) in
    omega (arith, behind, get_or-map first_of xs within.0 z 0 within.1 ∙ ap first_of within.2)

-- without it the others still ascend
rest_ascends : (x : List ℕ) (xs : List (List ℕ)) → IsStrictlyIncreasing (map first_of (x ∷ xs)) → IsStrictlyIncreasing (map first_of xs)
rest_ascends x xs up k inside = AllPairs-from_increasing (map first_of (x ∷ xs)) up (suc k) (suc (k + 1)) 0 (omega arith) (omega (arith, inside))

-- a list that isn't the first is among the others
later_too : (x y z : List ℕ) (xs ys : List (List ℕ)) → IsStrictlyIncreasing (map first_of (x ∷ xs)) → x ≡ y → Contains xs z → Contains (y ∷ ys) z → Contains ys z
later_too x y z xs ys up same within there =
    let behind = below x z xs up within in
    elim (Contains-cons_cases y ys z there) [
      | inl first ↦ absurd (omega (arith, behind, ap first_of (same ∙ first)))
      | inr later ↦ later
    ]

none_there : (x : List ℕ) → Contains [] x → ⊥
none_there x within = omega (arith, within.1)

-- lists that ascend by their first numbers and contain the same are one
same_by_first : (xs ys : List (List ℕ)) → IsStrictlyIncreasing (map first_of xs) → IsStrictlyIncreasing (map first_of ys) →
    ((x : List ℕ) → Contains xs x → Contains ys x) → ((x : List ℕ) → Contains ys x → Contains xs x) → xs ≡ ys
same_by_first [] [] up up_too there back = refl
same_by_first [] (y ∷ ys) up up_too there back = absurd (none_there y (back y (Contains-cons_first y ys y refl)))
same_by_first (x ∷ xs) [] up up_too there back = absurd (none_there x (there x (Contains-cons_first x xs x refl)))
same_by_first (x ∷ xs) (y ∷ ys) up up_too there back =
    let same : x ≡ y =
    elim (Contains-cons_cases y ys x (there x (Contains-cons_first x xs x refl))) [
      | inl one ↦ sym one
      | inr later ↦
          elim (Contains-cons_cases x xs y (back y (Contains-cons_first y ys y refl))) [
            | inl one ↦ one
            | inr later_y ↦ let low = below y x ys up_too later in let high = below x y xs up later_y in absurd (omega (arith, low, high))
          ]
    ] in
    ap₂ (λ z zs. z ∷ zs) same (same_by_first xs ys (rest_ascends x xs up) (rest_ascends y ys up_too)
    (λ z within. later_too x y z xs ys up same within (there z (Contains-cons_later x xs z within)))
    (λ z within. later_too y x z ys xs up_too (sym same) within (back z (Contains-cons_later y ys z within))))

-- so the lists that join the rails are one
shorts_unique : (g : GraphData) (one two : List (List ℕ)) → AreShorts g one → AreShorts g two → one ≡ two
shorts_unique g one two first second =
    same_by_first one two first.ascending second.ascending
    (λ places within. second.whole places (All-contains (IsShort g) one places first.each within))
    (λ places within. first.whole places (All-contains (IsShort g) two places second.each within))

pub findings_unique : (c : CircuitData) (one two : FindingsData) → AreFindings c one → AreFindings c two → one ≡ two
findings_unique c one two first second =
    let groups : first.groups ≡ second.groups = unique c.graph first.groups second.groups first.are second.are in
    let shorted : one.shorted ≡ two.shorted = shorts_unique c.graph one.shorted two.shorted first.shorted second.shorted in
    let floating : one.floating ≡ two.floating = first.floating ∙ sym second.floating in
    let undriven : one.undriven ≡ two.undriven = first.undriven ∙ ap (showing Undriven c.graph) groups ∙ sym second.undriven in
    let never_one : one.never_one ≡ two.never_one = first.never_one ∙ ap (showing NeverOne c.graph) groups ∙ sym second.never_one in
    let never_zero : one.never_zero ≡ two.never_zero = first.never_zero ∙ ap (showing NeverZero c.graph) groups ∙ sym second.never_zero in
    let dead : one.dead ≡ two.dead = first.dead ∙ sym second.dead in
    let supply : one.supply ≡ two.supply = first.supply ∙ sym second.supply in
    let wide : one.wide ≡ two.wide = first.wide ∙ ap (showing Wide c.graph) groups ∙ sym second.wide in
    let unused : one.unused ≡ two.unused = first.unused ∙ sym second.unused in
    λ i. record {
      shorted = shorted i;
      floating = floating i;
      undriven = undriven i;
      never_one = never_one i;
      never_zero = never_zero i;
      dead = dead i;
      supply = supply i;
      wide = wide i;
      unused = unused i;
    }
