-- Looks that follow one another, and that go on doing so with more changes behind theirs.
use Rattle.std.proofs.Common.{◌≡◌, ℕ, zero, suc, ◌+◌, ◌-◌, ◌<◌, ◌≤◌, List, [], ◌∷◌, ◌++◌, length, map, take, drop, refl, sym, ap, ap₂, subst, ◌∙◌, arith}
use Rattle.std.specs.Prelude.{Contains, slice_index_or}
use Rattle.std.proofs.Math.Seq.{take-add}
use Rattle.std.proofs.lemmas.List.{drop-take, take-append-le, length-append, length-map}
use Rattle.ternary.specs.declared.tern.Tern.{Tern}
use Rattle.part_words.specs.declared.change.Change.{Change}
use Rattle.machine_parts.specs.Running.{AreAgreed, IsTaken}
use Rattle.good_run.specs.declared.look.Look.{Look}
use Rattle.good_run.specs.Recording.{Shown}
use Rattle.good_run.specs.Looks.{applied, between, shown_at, shown_in, from_of, last_end, GiveStates, IsLook, AreLooks}
use Rattle.good_run.proofs.AppliedLemmas.{applied-append, AreAgreed-give, IsTaken-applied}

-- the changes between two places, as those up to the second but for those up to the first
between_is : (from end : ℕ) (changes : List Change) → from ≤ end → between from end changes ≡ drop from (take end changes)
between_is from end changes ordered =
    let whole : from + (end - from) ≡ end = omega (arith, ordered) in
    sym (drop-take from (end - from) changes) ∙ ap (λ n. drop from (take n changes)) whole

-- with more changes behind them they are the same
between-more : (from end : ℕ) (changes more : List Change) → from ≤ end → end ≤ length changes → between from end (changes ++ more) ≡ between from end changes
between-more from end changes more ordered inside =
    between_is from end (changes ++ more) ordered
    ∙ (ap (drop from) (take-append-le end changes more inside) ∙ sym (between_is from end changes ordered))

-- and so is a look
IsLook-more : (start : List Tern) (changes more : List Change) (from end : ℕ) → IsLook start changes from end → IsLook start (changes ++ more) from end
IsLook-more start changes more from end look = record {
  ordered = look.ordered;
  inside = omega (arith, look.inside, length-append changes more);
  give = subst (λ list. GiveStates list (applied (take end (changes ++ more)) start)) (sym (between-more from end changes more look.ordered look.inside))
      (subst (λ list. GiveStates (between from end changes) (applied list start)) (sym (take-append-le end changes more look.inside)) look.give);
}

pub AreLooks-more : (start : List Tern) (changes more : List Change) (from : ℕ) (looks : List Look) → AreLooks start changes from looks →
    AreLooks start (changes ++ more) from looks
AreLooks-more start changes more from [] are = tt
AreLooks-more start changes more from (look ∷ looks) are =
    (IsLook-more start changes more from look.end are.0, AreLooks-more start changes more look.end looks are.1)

-- one look more
pub AreLooks-push : (start : List Tern) (changes : List Change) (from : ℕ) (looks : List Look) (look : Look) → AreLooks start changes from looks →
    IsLook start changes (last_end from looks) look.end → AreLooks start changes from (looks ++ look ∷ [])
AreLooks-push start changes from [] look are next = (next, tt)
AreLooks-push start changes from (first ∷ looks) look are next = (are.0, AreLooks-push start changes first.end looks look are.1 next)

pub last_end-push : (from : ℕ) (looks : List Look) (look : Look) → last_end from (looks ++ look ∷ []) ≡ look.end
last_end-push from [] look = refl
last_end-push from (first ∷ looks) look = last_end-push first.end looks look

-- the looks saw the same
pub shown_in-more : (start : List Tern) (changes more : List Change) (from : ℕ) (looks : List Look) → AreLooks start changes from looks →
    shown_in start (changes ++ more) looks ≡ shown_in start changes looks
shown_in-more start changes more from [] are = refl
shown_in-more start changes more from (look ∷ looks) are =
    ap₂ (λ (list : List Change) (rest : List Shown). record { begins = look.begins; state = applied list start } ∷ rest)
    (take-append-le look.end changes more are.0.inside) (shown_in-more start changes more look.end looks are.1)

-- there are as many looks as states were shown
pub shown_look : (start : List Tern) (changes : List Change) (looks read : List Look) (at count : ℕ) → at < count → length (shown_in start changes looks) ≡ count →
    read ≡ looks → at < length read
shown_look start changes looks read at count inside counted is = omega (arith, inside, counted, length-map looks (shown_at start changes), ap length is)

-- what begins with a look begins with the state that it saw
pub begins_same : (start : List Tern) (changes : List Change) (looks : List Look) →
    map (λ shown. shown.begins) (shown_in start changes looks) ≡ map (λ look. look.begins) looks
begins_same start changes [] = refl
begins_same start changes (look ∷ looks) = ap (λ rest. look.begins ∷ rest) (begins_same start changes looks)

-- the look with this number
pub look_there : (start : List Tern) (changes : List Change) (from : ℕ) (looks : List Look) → AreLooks start changes from looks → (i : ℕ) → i < length looks →
    IsLook start changes (slice_index_or (from ∷ map (λ look. look.end) looks) i 0) (slice_index_or (map (λ look. look.end) looks) i 0)
look_there start changes from [] are i inside = absurd (omega (arith, inside))
look_there start changes from (look ∷ looks) are zero inside = are.0
look_there start changes from (look ∷ looks) are (suc i) inside = look_there start changes look.end looks are.1 i (omega (arith, inside))

-- the state behind a look
state_behind : (start : List Tern) (changes : List Change) (looks : List Look) (i : ℕ) → i < length looks →
    slice_index_or (map (λ shown. shown.state) (shown_in start changes looks)) i [] ≡ applied (take (slice_index_or (map (λ look. look.end) looks) i 0) changes) start
state_behind start changes [] i inside = absurd (omega (arith, inside))
state_behind start changes (look ∷ looks) zero inside = refl
state_behind start changes (look ∷ looks) (suc i) inside = state_behind start changes looks i (omega (arith, inside))

-- the state before a look
pub state_in_front : (start : List Tern) (changes : List Change) (looks : List Look) (i : ℕ) → i ≤ length looks →
    slice_index_or (start ∷ map (λ shown. shown.state) (shown_in start changes looks)) i [] ≡ applied (take (from_of looks i) changes) start
state_in_front start changes looks zero inside = refl
state_in_front start changes looks (suc i) inside = state_behind start changes looks i (omega (arith, inside))

-- where the changes of a look begin that isn't the first
pub from_of_later : (looks : List Look) (at : ℕ) → 0 < at → slice_index_or (map (λ look. look.end) looks) (at - 1) 0 ≡ from_of looks at
from_of_later looks zero some = absurd (omega (arith, some))
from_of_later looks (suc at) some =
    let before : suc at - 1 ≡ at = omega arith in
    ap (λ n. slice_index_or (map (λ (look : Look). look.end) looks) n 0) before

-- where its changes end is where those of the next one begin
pub end_is : (looks : List Look) (i : ℕ) → slice_index_or (map (λ look. look.end) looks) i 0 ≡ from_of looks (i + 1)
end_is looks i = let same : suc i ≡ i + 1 = omega arith in ap (from_of looks) same

-- up to a later place there are those up to an earlier one, and those between
pub taken_between : (from end : ℕ) (changes : List Change) → from ≤ end → take end changes ≡ take from changes ++ between from end changes
taken_between from end changes ordered =
    let whole : end ≡ from + (end - from) = omega (arith, ordered) in
    ap (λ n. take n changes) whole ∙ take-add from (end - from) changes

-- the changes of a look lead from the state before it to its own, and agree
module _ (start : List Tern) (changes : List Change) (looks : List Look) (are : AreLooks start changes 0 looks) (i : ℕ) (inside : i < length looks) where
  pub there : IsLook start changes (from_of looks i) (from_of looks (i + 1))
  there = subst (λ n. IsLook start changes (from_of looks i) (from_of looks n)) (sym next) (look_there start changes 0 looks are i inside)
    where
      next : i + 1 ≡ suc i
      next = omega arith

  leads_on : applied (between (from_of looks i) (from_of looks (i + 1)) changes) (applied (take (from_of looks i) changes) start)
      ≡ applied (take (from_of looks (i + 1)) changes) start
  leads_on =
      sym (ap (λ list. applied list start) (taken_between (from_of looks i) (from_of looks (i + 1)) changes there.ordered)
      ∙ applied-append (take (from_of looks i) changes) (between (from_of looks i) (from_of looks (i + 1)) changes) start)

  pub changes_agreed : AreAgreed (between (from_of looks i) (from_of looks (i + 1)) changes)
  changes_agreed = AreAgreed-give (between (from_of looks i) (from_of looks (i + 1)) changes) (applied (take (from_of looks (i + 1)) changes) start) there.give

  pub changes_taken : IsTaken (between (from_of looks i) (from_of looks (i + 1)) changes)
      (slice_index_or (start ∷ map (λ shown. shown.state) (shown_in start changes looks)) i [])
      (slice_index_or (start ∷ map (λ shown. shown.state) (shown_in start changes looks)) (i + 1) [])
  changes_taken =
      let these = between (from_of looks i) (from_of looks (i + 1)) changes in
      let before = state_in_front start changes looks i (omega (arith, inside)) in
      let behind = state_in_front start changes looks (i + 1) (omega (arith, inside)) in
      let give = subst (GiveStates these) (sym leads_on) there.give in
      subst (λ old. IsTaken these old (slice_index_or (start ∷ map (λ shown. shown.state) (shown_in start changes looks)) (i + 1) [])) (sym before)
      (subst (IsTaken these (applied (take (from_of looks i) changes) start)) (leads_on ∙ sym behind)
      (IsTaken-applied these (applied (take (from_of looks i) changes) start) give))

  pub changes_inside : (change : Change) → Contains (between (from_of looks i) (from_of looks (i + 1)) changes) change →
      change.node < length (slice_index_or (start ∷ map (λ shown. shown.state) (shown_in start changes looks)) (i + 1) [])
  changes_inside change contained =
      subst (λ state. change.node < length state) (sym (state_in_front start changes looks (i + 1) (omega (arith, inside)))) (there.give change contained).0
