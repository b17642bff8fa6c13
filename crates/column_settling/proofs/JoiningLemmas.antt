-- A column's joining steps, as far as all columns have come, and what is left of nodes that can still become X.
use Rattle.std.proofs.Common.{◌≡◌, ◌≢◌, ℕ, zero, suc, ◌+◌, ◌<◌, ◌≤◌, ◌↔◌, true, false, IsTrue, ◌⊎◌, inl, inr, List, length, rules, refl, sym, ◌∙◌, ap, subst, arith}
use Rattle.std.proofs.lemmas.Bool.{cases_lt}
use Rattle.std.proofs.Math.Dec.{ltb}
use Rattle.std.proofs.lemmas.List.{ext_get_or}
use Rattle.ternary.specs.declared.tern.Tern.{Tern}
use Rattle.ternary.specs.declared.tern.Tern.TheVariants.{Zero}
use Rattle.ternary.proofs.TernLemmas.{all_same_or_other}
use Rattle.switch_paths.specs.Graphs.{GraphData}
use Rattle.switch_paths.specs.Step.{IsStep}
use Rattle.switch_paths.proofs.UniqueSteps.{unique}
use Rattle.settling.specs.Settling.{Stepping, IsJoinStep, Joining, Settles, StaysOrBecomesX}
use Rattle.settling.proofs.KnownStates.{known}
use Rattle.settling.proofs.SettlingLemmas as one
use Rattle.column_settling.specs.Together.{StepTogether, JoinsWithin, JoinTogether, SettleTogether}

-- a state has one joining step at most
JoinStep-unique : (g : GraphData) (old new other : List Tern) → IsJoinStep g old new → IsJoinStep g old other → new ≡ other
JoinStep-unique g old new other one two =
    let same : one.response ≡ two.response = unique g old one.response two.response one.step two.step in
    ext_get_or Zero new other (one.joins.left ∙ sym two.joins.left) (λ node inside.
    one.joins.each node inside ∙ (rw same (sym (two.joins.each node (omega (arith, one.joins.left, two.joins.left))))))

-- how many nodes of a column are 0 or 1
abbrev pub known_in : List Tern → ℕ
known_in state = known (λ _. true) state

-- the column goes on from the joining steps that changed it: it moved in each of them, or rests; one that rested before them stays
pub record JoinsOn (g : GraphData) (taken : ℕ) (old : List Tern) (now : List Tern) : Type 0 where
  pub count : ℕ
  pub goes : (more : ℕ) (new : List Tern) → Joining g now more new → Joining g old (count + more) new
  pub few : count ≤ taken
  pub moved : (count ≡ taken) ⊎ IsJoinStep g now now
  pub rested : IsStep g old old → (now ≡ old) × (count ≡ 0)
  pub left : count + known_in now ≤ known_in old

pub JoinsOn-start : (g : GraphData) (old : List Tern) → JoinsOn g 0 old old
JoinsOn-start g old = record {
  count = 0;
  goes = λ more new rest. let same : 0 + more ≡ more = omega arith in subst (λ (n : ℕ). Joining g old n new) (sym same) rest;
  few = omega arith;
  moved = inl refl;
  rested = λ rests. (refl, refl);
  left = omega arith;
}

pub JoinsOn-stays : (g : GraphData) (taken : ℕ) (old now next : List Tern) → JoinsOn g taken old now → IsJoinStep g now next → next ≡ now
    → JoinsOn g (taken + 1) old next
JoinsOn-stays g taken old now next on step same = record {
  count = on.count;
  goes = λ more new rest. on.goes more new (subst (λ (s : List Tern). Joining g s more new) same rest);
  few = omega (arith, on.few);
  moved = inr (subst (λ (s : List Tern). IsJoinStep g s next) (sym same) step);
  rested = λ rests. (same ∙ (on.rested rests).0, (on.rested rests).1);
  left = omega (arith, on.left, ap known_in same);
}

-- a column that a joining step changes moved in each of them, and didn't rest before them
pub JoinsOn-moves : (g : GraphData) (taken : ℕ) (old now next : List Tern) → JoinsOn g taken old now → IsJoinStep g now next → known_in next < known_in now → next ≢ now
    → (on : JoinsOn g (taken + 1) old next) × (on.count ≡ taken + 1) × (IsStep g old old → ⊥)
JoinsOn-moves g taken old now next on step falls changed =
    let unrested : IsStep g old old → ⊥ = λ rests.
    let still : IsStep g now now = subst (λ (s : List Tern). IsStep g s s) (sym (on.rested rests).0) rests in
    changed (JoinStep-unique g now next now step (one.Joining-steady g now still).0) in
    elim on.moved [
      | inl each ↦ (
        record {
          count = on.count + 1;
          goes = λ more new rest. one.counted on.count more (λ n. Joining g old n new) (on.goes (more + 1) new (one.Joining-more g now next more new step changed rest));
          few = omega (arith, on.few);
          moved = inl (omega arith);
          rested = λ rests. absurd (unrested rests);
          left = omega (arith, on.left, falls);
        },
        omega arith,
        unrested,
      )
      | inr rests ↦ absurd (changed (JoinStep-unique g now next now step rests))
    ]

-- each column goes on with a joining step, whether it changes or not
pub JoinsOn-steps : (g : GraphData) (taken : ℕ) (old now next : List Tern) → JoinsOn g taken old now → IsJoinStep g now next → (next ≢ now → known_in next < known_in now)
    → JoinsOn g (taken + 1) old next
JoinsOn-steps g taken old now next on step falls = elim (all_same_or_other next now) [
  | inl same ↦ JoinsOn-stays g taken old now next on step same
  | inr changed ↦ (JoinsOn-moves g taken old now next on step (falls changed) changed).0
]

-- the front of the columns: no joining step changed one, or this column moved in each of them
abbrev pub JoinFront : GraphData → ℕ → ℕ → (ℕ → List Tern) → (ℕ → List Tern) → Type 0
JoinFront g columns taken old now =
    (taken ≡ 0) ⊎ ((column : ℕ) × (column < columns) × (on : JoinsOn g taken (old column) (now column)) × (on.count ≡ taken) × (IsStep g (old column) (old column) → ⊥))

-- if no column moves, each has joined
pub JoinsWithin-ends : (g : GraphData) (taken : ℕ) (old now next : List Tern) → JoinsOn g taken old now → IsJoinStep g now next → next ≡ now → JoinsWithin g old next taken
JoinsWithin-ends g taken old now next on step same = record {
  count = on.count;
  joining = one.counted_none on.count (λ n. Joining g old n next) (on.goes 0 next (one.Joining-rests g now next step same));
  few = on.few;
  rested = λ rests. (on.rested rests).1;
}

pub front-ends : (g : GraphData) (taken : ℕ) (old now next : List Tern) → (on : JoinsOn g taken old now) → on.count ≡ taken → IsJoinStep g now next → next ≡ now
    → Joining g old taken next
front-ends g taken old now next on is step same =
    subst (λ n. Joining g old n next) is (one.counted_none on.count (λ n. Joining g old n next) (on.goes 0 next (one.Joining-rests g now next step same)))

-- ---- what is left

-- the sum over the first so many columns
abbrev pub sum_below : ℕ → (ℕ → ℕ) → ℕ
sum_below zero f = 0
sum_below (suc count) f = sum_below count f + f count

sum_below-low : (count : ℕ) (f h : ℕ → ℕ) → ((k : ℕ) → k < count → f k ≤ h k) → sum_below count f ≤ sum_below count h
sum_below-low zero f h each = omega arith
sum_below-low (suc count) f h each =
    omega (arith, sum_below-low count f h (λ k inside. each k (omega arith)), each count (omega arith))

-- if no term is more and some term is less, so is the sum
pub sum_below-falls : (count : ℕ) (f h : ℕ → ℕ) → ((k : ℕ) → k < count → f k ≤ h k) → (k : ℕ) → k < count → f k < h k →
    sum_below count f < sum_below count h
sum_below-falls zero f h each k inside less = absurd (omega arith)
sum_below-falls (suc count) f h each k inside less =
    elim (cases_lt k count) [
      | inl below ↦ omega (arith, sum_below-falls count f h (λ j within. each j (omega arith)) k below less, each count (omega arith))
      | inr above ↦
          let same : k ≡ count = omega arith in
          let last : f count < h count = subst (λ (j : ℕ). f j < h j) same less in
          omega (arith, sum_below-low count f h (λ j within. each j (omega arith)), last)
    ]

-- a column that changed by becoming X has fewer
pub known_in-falls : (old new : List Tern) → length new ≡ length old → StaysOrBecomesX old new → new ≢ old → known_in new < known_in old
known_in-falls old new count fades changed = one.all-falls old new count fades changed

-- and none has more
pub known_in-low : (old new : List Tern) → length new ≡ length old → StaysOrBecomesX old new → known_in new ≤ known_in old
known_in-low old new count fades = elim (all_same_or_other new old) [
  | inl same ↦ omega (arith, ap known_in same)
  | inr changed ↦ omega (arith, known_in-falls old new count fades changed)
]

-- ---- both

-- plain steps that came to rest settle all columns
pub together-rests : (g : GraphData) (columns limit taken : ℕ) (old new : ℕ → List Tern) → StepTogether g columns limit old new taken
    → ((column : ℕ) → column < columns → IsStep g (new column) (new column)) → SettleTogether g columns old limit new (record { steps = taken; joined = false })
together-rests g columns limit taken old new stepped rests = record {
  each = λ column inside.
      let one_column = stepped.each column inside in
      record {
        own = record { steps = one_column.count; joined = false };
        settles = at_rest (old column) (new column) one_column.count one_column.stepping (rests column inside);
        few = one_column.few;
        joined = λ e. e;
      };
  greatest = (stepped.front.0, stepped.front.1, at_rest (old stepped.front.0) (new stepped.front.0) taken stepped.front.2 (rests stepped.front.0 stepped.front.1));
}
  where
    at_rest : (before after : List Tern) (count : ℕ) → Stepping g limit before count after → IsStep g after after → Settles g before limit after count false
    at_rest before after count stepping still = record {
      first = count;
      second = 0;
      mid = after;
      stepping = stepping;
      joining = one.Joining-steady g after still;
      total = omega arith;
      was_joined = ((λ yes. absurd (let same : false ≡ true = yes in cc)), (λ more. absurd (omega (arith, more))));
    }

-- a test that says whether a count is above 0
tested : (count : ℕ) → IsTrue (ltb 0 count) ↔ (0 < count)
tested count = search rules

-- a column that joined after its plain steps
joined_settles : (g : GraphData) (limit first second : ℕ) (old mid new : List Tern) → Stepping g limit old first mid → Joining g mid second new
    → Settles g old limit new (first + second) (ltb 0 second)
joined_settles g limit first second old mid new stepping joining = record {
  first = first;
  second = second;
  mid = mid;
  stepping = stepping;
  joining = joining;
  total = refl;
  was_joined = tested second;
}

-- plain steps up to the limit and joining ones settle all columns
pub together-joins : (g : GraphData) (columns limit more : ℕ) (old mid new : ℕ → List Tern) → StepTogether g columns limit old mid limit
    → JoinTogether g columns mid new more → SettleTogether g columns old limit new (record { steps = limit + more; joined = ltb 0 more })
together-joins g columns limit more old mid new stepped joined = record {
  each = λ column inside.
      let first = stepped.each column inside in
      let second = joined.each column inside in
      record {
        own = record { steps = first.count + second.count; joined = ltb 0 second.count };
        settles = joined_settles g limit first.count second.count (old column) (mid column) (new column) first.stepping second.joining;
        few = omega (arith, first.few, second.few);
        joined = λ e. let some : 0 < second.count = (tested second.count).0 e in (tested more).1 (omega (arith, some, second.few));
      };
  greatest = elim joined.front [
    | inl none ↦
        let front = stepped.front in
        let second = joined.each front.0 front.1 in
        let no_more : second.count ≡ more = omega (arith, none, second.few) in (
          front.0,
          front.1,
          subst (λ n. Settles g (old front.0) limit (new front.0) (limit + n) (ltb 0 n)) no_more
              (joined_settles g limit limit second.count (old front.0) (mid front.0) (new front.0) front.2 second.joining),
        )
    | inr lead ↦
        let first = stepped.each lead.0 lead.1 in
        elim first.reached [
          | inl all ↦ (
            lead.0,
            lead.1,
            subst (λ n. Settles g (old lead.0) limit (new lead.0) (n + more) (ltb 0 more)) all
                (joined_settles g limit first.count more (old lead.0) (mid lead.0) (new lead.0) first.stepping lead.3),
          )
          | inr rests ↦ absurd (lead.2 rests)
        ]
  ];
}
