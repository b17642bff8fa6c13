-- A column's settling, as far as all columns have come.
use Rattle.std.proofs.Common.{◌≡◌, ◌≢◌, ℕ, ◌+◌, ◌-◌, ◌<◌, ◌≤◌, ◌⊎◌, inl, inr, List, refl, sym, subst, arith}
use Rattle.std.proofs.lemmas.Bool.{cases_lt}
use Rattle.ternary.specs.declared.tern.Tern.{Tern}
use Rattle.ternary.proofs.TernLemmas.{all_same_or_other}
use Rattle.switch_paths.specs.Graphs.{GraphData}
use Rattle.switch_paths.specs.Step.{IsStep}
use Rattle.switch_paths.proofs.UniqueSteps.{unique}
use Rattle.settling.specs.Settling.{Stepping}
use Rattle.settling.proofs.SettlingLemmas as one
use Rattle.column_settling.specs.Together.{StepsWithin}

-- so many steps were taken together, and the column counts those that changed it: what steps it takes from here on go on from them, and it
-- moved in each of them, or rests
pub record Going (g : GraphData) (limit taken : ℕ) (old : List Tern) (count : ℕ) (now : List Tern) : Type 0 where
  pub goes : (more : ℕ) (new : List Tern) → Stepping g (limit - count) now more new → Stepping g limit old (count + more) new
  pub within : count ≤ taken
  pub moved : (count ≡ taken) ⊎ IsStep g now now

pub Going-start : (g : GraphData) (limit : ℕ) (old : List Tern) → Going g limit 0 old 0 old
Going-start g limit old = record {
  goes = λ more new rest.
      let same : 0 + more ≡ more = omega arith in
      let all : limit - 0 ≡ limit = omega arith in
      subst (λ (n : ℕ). Stepping g limit old n new) (sym same) (subst (λ (n : ℕ). Stepping g n old more new) all rest);
  within = omega arith;
  moved = inl refl;
}

pub Going-moves : (g : GraphData) (limit taken : ℕ) (old : List Tern) (count : ℕ) (now next : List Tern) → taken < limit →
    Going g limit taken old count now → IsStep g now next → next ≢ now → Going g limit (taken + 1) old (count + 1) next
Going-moves g limit taken old count now next left going step changed =
    let within : count ≤ taken = going.within in
    elim going.moved [
      | inl each ↦ record {
        goes = λ more new rest. one.counted count more (λ n. Stepping g limit old n new)
            (going.goes (more + 1) new (one.Stepping-more g limit count now next more new (omega arith) step changed rest));
        within = omega arith;
        moved = inl (omega arith);
      }
      | inr rests ↦ absurd (changed (unique g now next now step rests))
    ]

pub Going-stays : (g : GraphData) (limit taken : ℕ) (old : List Tern) (count : ℕ) (now next : List Tern) →
    Going g limit taken old count now → IsStep g now next → next ≡ now → Going g limit (taken + 1) old count next
Going-stays g limit taken old count now next going step same =
    let within : count ≤ taken = going.within in
    record {
      goes = λ more new rest. going.goes more new (subst (λ (s : List Tern). Stepping g (limit - count) s more new) same rest);
      within = omega arith;
      moved = inr (subst (λ (s : List Tern). IsStep g s next) (sym same) step);
    }

-- a column that rests has stepped
pub Going-rests : (g : GraphData) (limit taken : ℕ) (old : List Tern) (count : ℕ) (now : List Tern) → taken ≤ limit →
    Going g limit taken old count now → IsStep g now now → Stepping g limit old count now
Going-rests g limit taken old count now few going rests =
    let within : count ≤ taken = going.within in
    one.counted_none count (λ n. Stepping g limit old n now)
    (going.goes 0 now (elim (cases_lt count limit) [
      | inl below ↦ one.Stepping-rests g limit count now now below rests refl
      | inr reached ↦ one.Stepping-ends g limit count now reached
    ]))

-- and so has each at the limit
pub Going-ends : (g : GraphData) (limit : ℕ) (old : List Tern) (count : ℕ) (now : List Tern) →
    Going g limit limit old count now → Stepping g limit old count now
Going-ends g limit old count now going =
    elim going.moved [
      | inl each ↦ one.counted_none count (λ n. Stepping g limit old n now)
          (going.goes 0 now (one.Stepping-ends g limit count now (omega arith)))
      | inr rests ↦ Going-rests g limit limit old count now (omega arith) going rests
    ]

-- some count of a column
pub record GoesOn (g : GraphData) (limit taken : ℕ) (old now : List Tern) : Type 0 where
  pub count : ℕ
  pub going : Going g limit taken old count now

-- each column goes on with a step, whether it changes or not
pub GoesOn-steps : (g : GraphData) (limit taken : ℕ) (old now next : List Tern) → taken < limit → GoesOn g limit taken old now → IsStep g now next
    → GoesOn g limit (taken + 1) old next
GoesOn-steps g limit taken old now next left on step = elim (all_same_or_other next now) [
  | inl same ↦ record { count = on.count; going = Going-stays g limit taken old on.count now next on.going step same }
  | inr changed ↦ record { count = on.count + 1; going = Going-moves g limit taken old on.count now next left on.going step changed }
]

-- a column that a step changes has moved in each one so far
pub Going-front : (g : GraphData) (limit taken : ℕ) (old now next : List Tern) → taken < limit → GoesOn g limit taken old now → IsStep g now next → next ≢ now
    → Going g limit (taken + 1) old (taken + 1) next
Going-front g limit taken old now next left on step changed = elim on.going.moved [
  | inl each ↦ subst (λ n. Going g limit (taken + 1) old (n + 1) next) each (Going-moves g limit taken old on.count now next left on.going step changed)
  | inr rests ↦ absurd (changed (unique g now next now step rests))
]

-- if all columns rest, each has stepped
pub StepsWithin-rests : (g : GraphData) (limit taken : ℕ) (old now : List Tern) → taken ≤ limit → GoesOn g limit taken old now → IsStep g now now
    → StepsWithin g limit old now taken
StepsWithin-rests g limit taken old now few on rests = record {
  count = on.count;
  stepping = Going-rests g limit taken old on.count now few on.going rests;
  few = on.going.within;
  reached = inr rests;
}

-- and at the limit
pub StepsWithin-ends : (g : GraphData) (limit : ℕ) (old now : List Tern) → GoesOn g limit limit old now → StepsWithin g limit old now limit
StepsWithin-ends g limit old now on = record {
  count = on.count;
  stepping = Going-ends g limit old on.count now on.going;
  few = on.going.within;
  reached = on.going.moved;
}
