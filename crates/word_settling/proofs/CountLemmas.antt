-- A column's settling, as far as all columns have come, and what is left of nodes that can still become X.
use Rattle.std.proofs.Common.{◌≡◌, ◌≢◌, ℕ, zero, suc, ◌+◌, ◌<◌, ◌≤◌, ◌↔◌, Bool, true, false, IsTrue, ◌⊎◌, inl, inr, List, length, refl, sym, ◌∙◌, ap, subst, arith}
use Rattle.std.proofs.lemmas.Bool.{cases_lt}
use Rattle.std.proofs.lemmas.Nat.Bits.{same_from_bits, bit_at-lt, bit_at-zero}
use Rattle.std.specs.Prelude.{◌==◌}
use Rattle.std.specs.Int.{bit_at}
use Rattle.ternary.specs.declared.tern.Tern.{Tern}
use Rattle.switch_paths.specs.Graphs.{GraphData}
use Rattle.switch_paths.specs.Step.{IsStep}
use Rattle.settling.specs.declared.settling.Settled.{Settled}
use Rattle.settling.specs.Settling.{Stepping, IsJoinStep, Joining, Settles, StaysOrBecomesX}
use Rattle.settling.proofs.KnownStates.{known}
use Rattle.settling.proofs.SettlingLemmas as one
use Rattle.column_settling.proofs.GoingLemmas.{Going, Going-moves, Going-stays}
use Rattle.column_settling.proofs.JoiningLemmas.{known_in, known_in-falls}
use Rattle.word_columns.specs.Columns.{is_in_column}
use Rattle.word_settling.specs.Settling.{counted, Joins}

-- ---- joining steps

-- the column counts the joining steps that changed it: those that it takes from here on go on from them
pub record JoiningOn (g : GraphData) (old : List Tern) (first : ℕ) (now : List Tern) (settled : Settled) : Type 0 where
  pub second : ℕ
  pub goes : (more : ℕ) (new : List Tern) → Joining g now more new → Joining g old (second + more) new
  pub total : settled.steps ≡ first + second
  pub was_joined : IsTrue settled.joined ↔ (0 < second)

pub JoiningOn-start : (g : GraphData) (old : List Tern) (settled : Settled) → settled.joined ≡ false → JoiningOn g old settled.steps old settled
JoiningOn-start g old settled unjoined = record {
  second = 0;
  goes = λ more new rest.
      let same : 0 + more ≡ more = omega arith in
      subst (λ (n : ℕ). Joining g old n new) (sym same) rest;
  total = omega arith;
  was_joined = ((λ yes. absurd (let no : false ≡ true = subst IsTrue unjoined yes in cc)), (λ more. absurd (omega (arith, more))));
}

pub JoiningOn-moves : (g : GraphData) (old : List Tern) (first : ℕ) (now next : List Tern) (settled : Settled) → JoiningOn g old first now settled →
    IsJoinStep g now next → next ≢ now → JoiningOn g old first next (counted true true settled)
JoiningOn-moves g old first now next settled on step changed = record {
  second = on.second + 1;
  goes = λ more new rest. one.counted on.second more (λ n. Joining g old n new) (on.goes (more + 1) new (one.Joining-more g now next more new step changed rest));
  total = omega (arith, on.total);
  was_joined = ((λ yes. omega arith), (λ more. refl));
}

pub JoiningOn-stays : (g : GraphData) (old : List Tern) (first : ℕ) (now next : List Tern) (settled : Settled) → JoiningOn g old first now settled →
    next ≡ now → JoiningOn g old first next settled
JoiningOn-stays g old first now next settled on same = subst (λ (s : List Tern). JoiningOn g old first s settled) (sym same) on

pub JoiningOn-ends : (g : GraphData) (old : List Tern) (first : ℕ) (now next : List Tern) (settled : Settled) → JoiningOn g old first now settled →
    IsJoinStep g now next → next ≡ now → Joins g old first next settled
JoiningOn-ends g old first now next settled on step same = record {
  second = on.second;
  joining = one.counted_none on.second (λ n. Joining g old n next) (on.goes 0 next (one.Joining-rests g now next step same));
  total = on.total;
  was_joined = on.was_joined;
}

-- ---- by a column's bit

module _ (bit : Bool) (now next : List Tern) where
  pub Going-counts : (g : GraphData) (limit taken : ℕ) (old : List Tern) (settled new : Settled) → new ≡ counted bit false settled → taken < limit →
      (bit ≡ true → next ≢ now) → (bit ≡ false → next ≡ now) →
      Going g limit taken old settled.steps now → IsStep g now next → Going g limit (taken + 1) old new.steps next
  Going-counts g limit taken old settled new is left changed same going step =
      subst (λ (s : Settled). Going g limit (taken + 1) old s.steps next) (sym is) (by bit changed same)
    where
      by : (set : Bool) → (set ≡ true → next ≢ now) → (set ≡ false → next ≡ now) → Going g limit (taken + 1) old (counted set false settled).steps next
      by true changed same = Going-moves g limit taken old settled.steps now next left going step (changed refl)
      by false changed same = Going-stays g limit taken old settled.steps now next going step (same refl)

  pub JoiningOn-counts : (g : GraphData) (old : List Tern) (first : ℕ) (settled new : Settled) → new ≡ counted bit true settled →
      (bit ≡ true → next ≢ now) → (bit ≡ false → next ≡ now) →
      JoiningOn g old first now settled → IsJoinStep g now next → JoiningOn g old first next new
  JoiningOn-counts g old first settled new is changed same on step =
      subst (JoiningOn g old first next) (sym is) (by bit changed same)
    where
      by : (set : Bool) → (set ≡ true → next ≢ now) → (set ≡ false → next ≡ now) → JoiningOn g old first next (counted set true settled)
      by true changed same = JoiningOn-moves g old first now next settled on step (changed refl)
      by false changed same = JoiningOn-stays g old first now next settled on (same refl)

  -- the count and the nodes that can still become X don't grow together
  pub bound-counts : (settled new : Settled) (most : ℕ) → new ≡ counted bit true settled → (bit ≡ true → next ≢ now) → (bit ≡ false → next ≡ now) →
      length next ≡ length now → StaysOrBecomesX now next → settled.steps + known (λ _. true) now ≤ most → new.steps + known (λ _. true) next ≤ most
  bound-counts settled new most is changed same long fades low =
      subst (λ (s : Settled). s.steps + known (λ _. true) next ≤ most) (sym is) (by bit changed same)
    where
      by : (set : Bool) → (set ≡ true → next ≢ now) → (set ≡ false → next ≡ now) → (counted set true settled).steps + known (λ _. true) next ≤ most
      by true changed same = omega (arith, one.all-falls now next long fades (changed refl))
      by false changed same = omega (arith, ap (λ (s : List Tern). known (λ _. true) s) (same refl))

-- the count after a plain step
pub within-counts : (bit : Bool) (settled new : Settled) (taken : ℕ) → new ≡ counted bit false settled → settled.steps ≤ taken → new.steps ≤ taken + 1
within-counts true settled new taken is low = subst (λ (s : Settled). s.steps ≤ taken + 1) (sym is) (omega arith)
within-counts false settled new taken is low = subst (λ (s : Settled). s.steps ≤ taken + 1) (sym is) (omega arith)

pub unjoined-counts : (bit : Bool) (settled new : Settled) → new ≡ counted bit false settled → settled.joined ≡ false → new.joined ≡ false
unjoined-counts true settled new is un = ap (λ (s : Settled). s.joined) is ∙ un
unjoined-counts false settled new is un = ap (λ (s : Settled). s.joined) is ∙ un

-- ---- bits

-- where no column's bit is set, the word is 0
pub no_bits : (columns word : ℕ) → ((column : ℕ) → column < columns → is_in_column column word ≡ false) → ((column : ℕ) → columns ≤ column → is_in_column column word ≡ false) → word ≡ 0
unfolding is_in_column
no_bits columns word inside beyond = same_from_bits word 0 (λ i. none (bit_at word i) (bit_at-lt word i) (unset i) ∙ sym (bit_at-zero i))
  where
    none : (bit : ℕ) → bit < 2 → (bit == 1) ≡ false → bit ≡ 0
    none zero few is = refl
    none (suc zero) few is = cc
    none (suc (suc bit)) few is = absurd (omega arith)

    unset : (i : ℕ) → (bit_at word i == 1) ≡ false
    unset i = elim (cases_lt i columns) [ inl below ↦ inside i below | inr above ↦ beyond i above ]

-- and 0 has no bit set
pub zero_bits : (column : ℕ) → is_in_column column 0 ≡ false
unfolding is_in_column
zero_bits column = ap (λ bit. bit == 1) (bit_at-zero column)

-- some of so many tests hold, or none
pub some_or_none : (count : ℕ) (test : ℕ → Bool) → ((k : ℕ) × (k < count) × (test k ≡ true)) ⊎ ((k : ℕ) → k < count → test k ≡ false)
some_or_none zero test = inr (λ k inside. absurd (omega arith))
some_or_none (suc count) test = by (test count) refl (some_or_none count test)
  where
    by : (last : Bool) → test count ≡ last → ((k : ℕ) × (k < count) × (test k ≡ true)) ⊎ ((k : ℕ) → k < count → test k ≡ false) →
        ((k : ℕ) × (k < suc count) × (test k ≡ true)) ⊎ ((k : ℕ) → k < suc count → test k ≡ false)
    by true is before = inl (count, omega arith, is)
    by false is (inl found) = inl (found.0, omega (arith, found.1), found.2)
    by false is (inr none) = inr (λ k inside. elim (cases_lt k count) [
      | inl below ↦ none k below
      | inr above ↦ let same : k ≡ count = omega arith in ap test same ∙ is
    ])

-- ---- what is left

-- a column has no more after a step that changed it by becoming X, or didn't
pub known_in-low : (bit : Bool) (old new : List Tern) → (bit ≡ true → new ≢ old) → (bit ≡ false → new ≡ old) → length new ≡ length old →
    StaysOrBecomesX old new → known_in new ≤ known_in old
known_in-low true old new changed same count fades = omega (arith, known_in-falls old new count fades (changed refl))
known_in-low false old new changed same count fades = omega (arith, ap known_in (same refl))

-- ---- both

-- a column that was settled by plain steps alone
pub settles_at_rest : (g : GraphData) (limit : ℕ) (old new : List Tern) (settled : Settled) → Stepping g limit old settled.steps new → IsStep g new new →
    settled.joined ≡ false → Settles g old limit new settled.steps settled.joined
settles_at_rest g limit old new settled stepping rests unjoined = record {
  first = settled.steps;
  second = 0;
  mid = new;
  stepping = stepping;
  joining = one.Joining-steady g new rests;
  total = omega arith;
  was_joined = ((λ yes. absurd (let no : false ≡ true = subst IsTrue unjoined yes in cc)), (λ more. absurd (omega (arith, more))));
}

-- a column that was joined after them
pub settles_joined : (g : GraphData) (limit first : ℕ) (old mid new : List Tern) (settled : Settled) → Stepping g limit old first mid →
    Joins g mid first new settled → Settles g old limit new settled.steps settled.joined
settles_joined g limit first old mid new settled stepping joins = record {
  first = first;
  second = joins.second;
  mid = mid;
  stepping = stepping;
  joining = joins.joining;
  total = joins.total;
  was_joined = joins.was_joined;
}
