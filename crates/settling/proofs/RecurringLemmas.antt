-- Unit steps that come back to a state.
-- So many steps that change something each, and then steps that end, are steps that end; so whole rounds from a state to it may stand before
-- these, as many as one likes. Since a state was remembered each step changed something: if it is back, the steps since then are a round.
use Rattle.std.proofs.Common.{None, ◌≡◌, ◌≢◌, ℕ, zero, suc, ◌+◌, ◌-◌, ◌*◌, ◌<◌, ◌≤◌, inl, inr, Some, List, refl, sym, subst, ◌∙◌, arith}
use Rattle.std.proofs.Math.Nat.{suc-mul}
use Rattle.ternary.specs.declared.tern.Tern.{Tern}
use Rattle.switch_paths.specs.Graphs.{GraphData}
use Rattle.switch_paths.specs.Step.{IsStep}
use Rattle.settling.specs.Settling.{Stepping}
use Rattle.settling.specs.Recurring.{Changing, StatesThatComeBackRecur, RecallData, RemembersOne, Recalls}
use Rattle.settling.proofs.SettlingLemmas.{Stepping-rests}

-- the same steps, with their numbers written otherwise
renumbered : (g : GraphData) (left same_left : ℕ) (old : List Tern) (count same_count : ℕ) (new : List Tern) → left ≡ same_left → count ≡ same_count →
    Stepping g left old count new → Stepping g same_left old same_count new
renumbered g left same_left old count same_count new lefts counts stepping =
    subst (λ (n : ℕ). Stepping g n old same_count new) lefts (subst (λ (n : ℕ). Stepping g left old n new) counts stepping)

-- one step more behind the others
changing_next : (g : GraphData) (count : ℕ) (old mid next : List Tern) → Changing g count old mid → IsStep g mid next → next ≢ mid →
    Changing g (suc count) old next
changing_next g zero old mid next changes step changed =
    (next, subst (λ (state : List Tern). IsStep g state next) changes step, subst (λ (state : List Tern). next ≢ state) changes changed, refl)
changing_next g (suc count) old mid next changes step changed =
    (changes.0, changes.1, changes.2, changing_next g count changes.0 mid next changes.3 step changed)

pub changing-more : (g : GraphData) (count : ℕ) (old mid next : List Tern) → Changing g count old mid → IsStep g mid next → next ≢ mid →
    Changing g (count + 1) old next
changing-more g count old mid next changes step changed =
    let more : suc count ≡ count + 1 = omega arith in
    subst (λ (n : ℕ). Changing g n old next) more (changing_next g count old mid next changes step changed)

-- some steps, and then others
pub changing-append : (g : GraphData) (one two : ℕ) (old mid new : List Tern) → Changing g one old mid → Changing g two mid new →
    Changing g (one + two) old new
changing-append g zero two old mid new first second =
    subst (λ (n : ℕ). Changing g n old new) none (subst (λ (state : List Tern). Changing g two state new) first second)
  where
    none : two ≡ 0 + two
    none = omega arith
changing-append g (suc one) two old mid new first second =
    let rest = changing-append g one two first.0 mid new first.3 second in
    let whole : Changing g (suc (one + two)) old new = (first.0, first.1, first.2, rest) in
    subst (λ (n : ℕ). Changing g n old new) more whole
  where
    more : suc (one + two) ≡ suc one + two
    more = omega arith

-- whole rounds from a state to it
pub changing-rounds : (g : GraphData) (round times : ℕ) (state : List Tern) → Changing g round state state → Changing g (times * round) state state
changing-rounds g round zero state once = subst (λ (n : ℕ). Changing g n state state) none refl
  where
    none : 0 ≡ 0 * round
    none = omega arith
changing-rounds g round (suc times) state once =
    subst (λ (n : ℕ). Changing g n state state) more
    (changing-append g round (times * round) state state state once (changing-rounds g round times state once))
  where
    more : round + times * round ≡ suc times * round
    more = omega (arith, suc-mul times round)

-- some steps, and then steps that end, are steps that end
changing_then : (g : GraphData) (some left : ℕ) (old mid : List Tern) (count : ℕ) (new : List Tern) → Changing g some old mid →
    Stepping g left mid count new → Stepping g (some + left) old (some + count) new
changing_then g zero left old mid count new changes stepping =
    renumbered g left (0 + left) old count (0 + count) new (omega arith) (omega arith)
    (subst (λ (state : List Tern). Stepping g left state count new) changes stepping)
changing_then g (suc some) left old mid count new changes stepping =
    let rest = changing_then g some left changes.0 mid count new changes.3 stepping in
    let whole : Stepping g (suc (some + left)) old (some + count + 1) new = (changes.0, changes.1, inr (changes.2, (some + count, refl, rest))) in
    renumbered g (suc (some + left)) (suc some + left) old (some + count + 1) (suc some + count) new (omega arith) (omega arith) whole

-- a state that comes back comes back again
pub recurs : StatesThatComeBackRecur
recurs g period times left state count new changes stepping =
    changing_then g (times * period) left state state count new (changing-rounds g period times state changes) stepping

-- the step that changes nothing ends them
pub ends-at-rest : (g : GraphData) (limit count : ℕ) (old now next : List Tern) → count < limit → Changing g count old now → IsStep g now next → next ≡ now →
    Stepping g limit old count next
ends-at-rest g limit count old now next below changes step same =
    renumbered g (count + (limit - count)) limit old (count + 0) count next (omega arith) (omega arith)
    (changing_then g count (limit - count) old now 0 next changes (Stepping-rests g limit count now next below step same))

-- and so does the limit
pub ends-at-limit : (g : GraphData) (limit count : ℕ) (old now : List Tern) → count ≤ limit → limit ≤ count → Changing g count old now →
    Stepping g limit old count now
ends-at-limit g limit count old now within reached changes =
    renumbered g (count + 0) limit old (count + 0) count now (omega arith) (omega arith) (changing_then g count 0 old now 0 now changes (refl, refl))

-- since the state that is remembered each step changed something
abbrev pub KeptChanging : GraphData → RecallData → ℕ → List Tern → Type 0
KeptChanging g recall count now = (since : ℕ) → recall.since ≡ Some since → (round : ℕ) × (since + round ≡ count) × Changing g round recall.state now

-- nothing is remembered
pub kept-none : (g : GraphData) (recall : RecallData) (count : ℕ) (now : List Tern) → recall.since ≡ None → KeptChanging g recall count now
kept-none g recall count now none since was = absurd (cc (sym none ∙ was))

-- one step more
pub kept-more : (g : GraphData) (recall : RecallData) (count : ℕ) (now next : List Tern) → KeptChanging g recall count now → IsStep g now next → next ≢ now →
    KeptChanging g recall (count + 1) next
kept-more g recall count now next kept step changed since was =
    let (round, later, changes) = kept since was in
    (round + 1, omega (arith, later), changing-more g round recall.state now next changes step changed)

-- another state may be remembered in its place
kept-as : (g : GraphData) (old new : RecallData) (count : ℕ) (now : List Tern) → KeptChanging g old count now → RemembersOne old new now count →
    KeptChanging g new count now
kept-as g old new count now kept (inl same) = subst (λ (recall : RecallData). KeptChanging g recall count now) (sym same) kept
kept-as g old new count now kept (inr (inl none)) = kept-none g new count now none
kept-as g old new count now kept (inr (inr (here, is))) = λ since was.
    let first : count ≡ since = cc (sym here ∙ was) in
    (0, omega (arith, first), sym is)

module _ (g : GraphData) (old new : RecallData) (now : List Tern) (count steps : ℕ) (kept : KeptChanging g old count now) where
  -- the steps ahead change something each, and lead to the state that there is
  pub ahead-changes : Recalls old new now count steps → Changing g steps now now
  ahead-changes (inl (none, remembers)) = subst (λ (n : ℕ). Changing g n now now) (sym none) refl
  ahead-changes (inr (rounds, stops)) =
      let back = rounds.back in
      let (round, later, changes) = kept back.since back.was in
      let same : round ≡ rounds.round = omega (arith, later, back.later) in
      let from : Changing g round now now = subst (λ (state : List Tern). Changing g round state now) (sym back.same) changes in
      let once : Changing g rounds.round now now = subst (λ (n : ℕ). Changing g n now now) same from in
      subst (λ (n : ℕ). Changing g n now now) (sym rounds.whole) (changing-rounds g rounds.round rounds.times now once)

  -- and since the state that is remembered behind them each step changed something
  pub kept-on : Recalls old new now count steps → KeptChanging g new (count + steps) now
  kept-on (inl (none, remembers)) =
      let same : count ≡ count + steps = omega (arith, none) in
      subst (λ (n : ℕ). KeptChanging g new n now) same (kept-as g old new count now kept remembers)
  kept-on (inr (rounds, stops)) = kept-none g new (count + steps) now stops

-- one step more, and what it finds ahead
pub step-on : (g : GraphData) (old new : RecallData) (count steps : ℕ) (start now next : List Tern) → Changing g count start now → KeptChanging g old count now →
    IsStep g now next → next ≢ now → Recalls old new next (count + 1) steps → Changing g (count + 1 + steps) start next
step-on g old new count steps start now next changes kept step changed recalls =
    changing-append g (count + 1) steps start next next (changing-more g count start now next changes step changed)
    (ahead-changes g old new next (count + 1) steps (kept-more g old count now next kept step changed) recalls)
