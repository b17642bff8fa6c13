-- The places of a cycle: those up to one, that one, and those after it; and the phases at them, one after the other.
use Rattle.std.proofs.Common.{◌≡◌, ℕ, zero, suc, ◌+◌, ◌-◌, ◌*◌, ◌%◌, ◌<◌, ◌≤◌, true, List, [], ◌∷◌, ◌++◌, length, map, All, refl, sym, ap, subst, ◌∙◌, arith, append_assoc, append-nil}
use Rattle.std.specs.Prelude.{◌==◌}
use Rattle.std.specs.List.{range_with_len, list_all}
use Rattle.std.proofs.Math.Nat.{mul-add-mod_self_right, mod-eq_of_lt}
use Rattle.std.proofs.lemmas.List.{map-append}
use Rattle.std.proofs.lemmas.List.Elements.{All-nil, All-cons}
use Rattle.std.proofs.lemmas.Bool.{and_parts}
use Rattle.std.proofs.lemmas.Bool.Decides.{nat_tests}
use Rattle.told_lines.specs.Lines.{Line}
use Rattle.session_meaning.specs.Sessions.{SessionData, ClockData, have_places}
use Rattle.session_meaning.specs.Effects.{IsPhase, AreBeats, with_beat, places_in}

-- phases at places, and then at others
pub beats-append : (first second : List ℕ) (session mid new : SessionData) (lines more : List Line) →
    AreBeats session first mid lines → AreBeats mid second new more → AreBeats session (first ++ second) new (lines ++ more)
beats-append [] second session mid new lines more (same, none) others =
    rw none (subst (λ (s : SessionData). AreBeats s second new more) same others)
beats-append (place ∷ first) second session mid new lines more (next, front, back, phase, beats, whole) others =
    (next, front, back ++ more, phase, beats-append first second next mid new back more beats others, rw whole (append_assoc front back more))

-- a phase at one place
pub one_beat : (session new : SessionData) (place : ℕ) (lines : List Line) → IsPhase (with_beat session place) new lines →
    AreBeats session (place ∷ []) new lines
one_beat session new place lines phase = (new, lines, [], phase, (refl, refl), sym (append-nil lines))

-- numbers in order, so many and then more
range-add : (first count more all next : ℕ) → count + more ≡ all → first + count ≡ next →
    range_with_len first all ≡ range_with_len first count ++ range_with_len next more
range-add first zero more all next total from =
    let same : all ≡ more = omega arith in
    let here : next ≡ first = omega arith in
    rw (same, here) refl
range-add first (suc count) more all next total from =
    let one : all ≡ suc (count + more) = omega arith in
    rw one (ap (λ rest. first ∷ rest) (range-add (first + 1) count more (count + more) next refl (omega arith)))

-- the places of a cycle up to one, and that one
pub places-next : (place : ℕ) → range_with_len 0 (place + 1) ≡ range_with_len 0 place ++ place ∷ []
places-next place = range-add 0 place 1 (place + 1) place refl (omega arith)

-- and those after it
pub places-split : (place count : ℕ) → place < count →
    range_with_len 0 count ≡ range_with_len 0 place ++ (place ∷ range_with_len (place + 1) (count - (place + 1)))
places-split place count before = range-add 0 place (suc (count - (place + 1))) count place (omega arith) (omega arith)

-- so many places of clocks with so many places each, from one on
abbrev places_from : ℕ → ℕ → ℕ → List ℕ
places_from count first more = map (λ i. i % count) (range_with_len first more)

-- some places of one of the cycles
places-within : (count times first more : ℕ) → first + more ≤ count →
    map (λ i. i % count) (range_with_len (times * count + first) more) ≡ range_with_len first more
places-within count times first zero within = refl
places-within count times first (suc more) within =
    let place : (times * count + first) % count ≡ first = mul-add-mod_self_right times count first ∙ mod-eq_of_lt (omega arith) in
    let next : (times * count + first) + 1 ≡ times * count + (first + 1) = omega arith in
    rw (place, next, places-within count times (first + 1) more (omega arith)) refl

-- some places, and then more
places-add : (count places more : ℕ) → places_from count 0 (places + more) ≡ places_from count 0 places ++ places_from count places more
places-add count places more =
    ap (map (λ i. i % count)) (range-add 0 places more (places + more) places refl (omega arith)) ∙ map-append (λ i. i % count) (range_with_len 0 places) (range_with_len places more)

-- one cycle more
pub cycles-next : (count times : ℕ) → places_in count (times + 1) ≡ places_in count times ++ range_with_len 0 count
cycles-next count times =
    let more : (times + 1) * count ≡ times * count + count = grind arith in
    let none : times * count + 0 ≡ times * count = omega arith in
    ap (places_from count 0) more ∙ places-add count (times * count) count
    ∙ ap (λ rest. places_in count times ++ rest) (ap (λ first. places_from count first count) (sym none) ∙ places-within count times 0 count (omega arith))

-- and all those after it
pub record CyclesSplit (count cycle times : ℕ) : Type 0 where
  pub rest : List ℕ
  pub split : places_in count times ≡ places_in count cycle ++ (range_with_len 0 count ++ rest)

pub cycles-split : (count cycle times : ℕ) → cycle < times → CyclesSplit count cycle times
cycles-split count cycle times before =
    let left : ℕ = times - (cycle + 1) in
    let whole : times ≡ (cycle + 1) + left = omega arith in
    let places : ((cycle + 1) + left) * count ≡ (cycle + 1) * count + left * count = grind arith in
    record {
      rest = places_from count ((cycle + 1) * count) (left * count);
      split = ap (places_in count) whole ∙ ap (places_from count 0) places ∙ places-add count ((cycle + 1) * count) (left * count)
          ∙ ap (λ front. front ++ places_from count ((cycle + 1) * count) (left * count)) (cycles-next count cycle)
          ∙ append_assoc (places_in count cycle) (range_with_len 0 count) (places_from count ((cycle + 1) * count) (left * count));
    }

-- no cycle has no places
pub no_cycle : (count : ℕ) → places_in count 0 ≡ []
no_cycle count = let none : 0 * count ≡ 0 = omega arith in ap (λ (n : ℕ). map (λ i. i % count) (range_with_len 0 n)) none

-- a place of a cycle is within each clock's states
pub places_within : (clocks : List ClockData) (count place : ℕ) → have_places count clocks ≡ true → place < count →
    All (λ clock. place < length clock.states) clocks
places_within [] count place even inside = All-nil (λ (clock : ClockData). place < length clock.states)
places_within (clock ∷ clocks) count place even inside =
    let both = and_parts (length clock.states == count) (list_all (λ (other : ClockData). length other.states == count) clocks) even in
    All-cons (λ (other : ClockData). place < length other.states) clock clocks (grind (arith, nat_tests, both.0)) (places_within clocks count place both.1 inside)
