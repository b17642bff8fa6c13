-- How many replacements may change something yet: plain ones up to the limit, and joining ones while nodes are known.
use Rattle.std.proofs.Common.{◌≡◌, ◌≢◌, ℕ, ◌+◌, ◌-◌, ◌<◌, ◌≤◌, inl, inr, Bool, true, cond, nat_lt, List, length, ap, arith}
use Rattle.std.proofs.lemmas.Bool.{cases_lt, lt-ltb, le-ltb}
use Rattle.ternary.specs.declared.tern.Tern.{Tern}
use Rattle.switch_paths.specs.Graphs.{GraphData}
use Rattle.settling.proofs.KnownStates.{known, known-all}
use Rattle.settling.proofs.SettlingLemmas.{all-falls}
use Rattle.run_beside.specs.Replacing.{IsReplacement}
use Rattle.run_beside.proofs.CountedReplacements.{is_joining}
use Rattle.beside.proofs.PhaseLemmas.{join_fades}

-- how many nodes are known
abbrev pub known_nodes : List Tern → ℕ
known_nodes state = known (λ _. true) state

-- once so many were taken: what is left of the limit, and then as many as nodes are known
abbrev pub work_left : ℕ → ℕ → List Tern → ℕ
work_left limit count state = (limit - count) + cond (nat_lt count limit) (length state + 1) (known_nodes state)

-- below the limit
left_plain : (limit count : ℕ) (state : List Tern) → count < limit → work_left limit count state ≡ (limit - count) + (length state + 1)
left_plain limit count state less = ap (λ (below : Bool). (limit - count) + cond below (length state + 1) (known_nodes state)) (lt-ltb count limit less)

-- from the limit on
left_joining : (limit count : ℕ) (state : List Tern) → limit ≤ count → work_left limit count state ≡ (limit - count) + known_nodes state
left_joining limit count state most = ap (λ (below : Bool). (limit - count) + cond below (length state + 1) (known_nodes state)) (le-ltb count limit most)

-- there are no more than these
pub work_most : (limit count : ℕ) (state : List Tern) → work_left limit count state ≤ limit + (length state + 1)
work_most limit count state =
    elim (cases_lt count limit) [
      | inl less ↦ omega (arith, left_plain limit count state less)
      | inr most ↦ omega (arith, left_joining limit count state most, known-all (λ _. true) state)
    ]

-- a replacement that changes something leaves fewer
pub work_falls : (g : GraphData) (limit count : ℕ) (old new : List Tern) → length new ≡ length old → IsReplacement g limit count old new → new ≢ old →
    work_left limit (count + 1) new < work_left limit count old
work_falls g limit count old new counted move differs =
    elim (cases_lt count limit) [
      | inl less ↦
          elim (cases_lt (count + 1) limit) [
            | inl later ↦ omega (arith, less, counted, left_plain limit count old less, left_plain limit (count + 1) new later)
            | inr most ↦
                omega (arith, less, most, counted, left_plain limit count old less, left_joining limit (count + 1) new most, known-all (λ _. true) new)
          ]
      | inr most ↦
          let beyond : limit ≤ count + 1 = omega (arith, most) in
          let fewer = all-falls old new counted (join_fades g old new (is_joining g limit count old new most move)) differs in
          omega (arith, most, left_joining limit count old most, left_joining limit (count + 1) new beyond, fewer)
    ]
