-- Parts that wait: which wait and what they cost in all, where one comes to wait, and where a slot is cleared.
use Rattle.std.proofs.Common.{◌≡◌, ◌≢◌, ℕ, suc, ◌+◌, ◌*◌, ◌<◌, inl, inr, ◌⊎◌, List, [], ◌∷◌, ◌++◌, length, get_or, Some, refl, sym, ap, subst, ◌∙◌, arith}
use Rattle.std.specs.Prelude.{Contains, option_map, unwrap_or, slice_get, slice_set}
use Rattle.std.proofs.lemmas.Bool.{cases_eq, cases_lt}
use Rattle.std.proofs.lemmas.List.{length_push, set-get_or}
use Rattle.std.proofs.lemmas.List.Elements.{Contains-push, Contains-push_cases, Contains-append_left}
use Rattle.std.proofs.lemmas.List.Sums.{sum_by-cons, sum_by-set}
use Rattle.std.proofs.lemmas.Nat.{mod_below}
use Rattle.std.proofs.lemmas.Option.{same_Some, slice_get-get_or}
use Rattle.part_steps.specs.declared.dense.Seat.{Seat}
use Rattle.part_steps.specs.declared.bundles.TheConstants.{SLOTS}
use Rattle.part_steps.specs.Waiting.{Slot, slot_for, Waits, IsEmptyFrom, IsEmptyBelow, HasRoom, starts_in, code_in, with_seat, cleared_at, waiting_sum}
use Rattle.part_steps.proofs.PuttingLemmas.{set_here, set_other}

-- what a slot has of the sum over all parts that wait
worth : (ℕ → ℕ) → Slot → ℕ
worth f slot = length slot.starts * f slot.code

-- a slot in which none waits
free : Slot
free = record { code = 0; starts = [] }

-- nothing is in an empty list
none_in : (starts : List ℕ) (at : ℕ) → starts ≡ [] → ¬ Contains starts at
none_in starts at none there =
    let (k, inside, here) = subst (λ (xs : List ℕ). Contains xs at) none there in
    absurd (omega (arith, inside))

no_items : (xs : List ℕ) → length xs ≡ 0 → xs ≡ []
no_items [] none = refl
no_items (x ∷ xs) none = absurd (omega (arith, none))

-- each code has a slot
pub slot_inside : (slots : List Slot) (code : ℕ) → length slots ≡ SLOTS → slot_for code < length slots
slot_inside slots code counted =
    let below : slot_for code < SLOTS = mod_below code SLOTS (omega arith) in
    omega (arith, below, counted)

-- what is read of a slot that is there
pub starts_there : (slots : List Slot) (place : ℕ) (slot : Slot) → slice_get slots place ≡ Some slot → starts_in slots place ≡ slot.starts
starts_there slots place slot there = ap (λ o. unwrap_or (option_map (λ (one : Slot). one.starts) o) []) there

pub code_there : (slots : List Slot) (place : ℕ) (slot : Slot) → slice_get slots place ≡ Some slot → code_in slots place ≡ slot.code
code_there slots place slot there = ap (λ o. unwrap_or (option_map (λ (one : Slot). one.code) o) 0) there

-- the part at a place of a slot's list waits
pub Waits-in : (slots : List Slot) (place at : ℕ) → place < length slots → Contains (starts_in slots place) at →
    Waits slots (record { code = code_in slots place; at = at })
unfolding free
Waits-in slots place at inside start =
    let slot = get_or slots place free in
    let there : slice_get slots place ≡ Some slot = slice_get-get_or slots place free inside in
    record {
      place = place;
      slot = slot;
      there = there;
      code = sym (code_there slots place slot there);
      start = subst (λ (xs : List ℕ). Contains xs at) (starts_there slots place slot there) start;
    }

-- where no slot has a part, none waits
pub none_waits : (slots : List Slot) → IsEmptyFrom 0 slots → (seat : Seat) → ¬ Waits slots seat
none_waits slots empty seat waits = none_in waits.slot.starts seat.at (empty waits.place waits.slot (omega arith) waits.there) waits.start

-- and the sum over them is nothing
pub waiting_sum-none : (f : ℕ → ℕ) (slots : List Slot) → IsEmptyFrom 0 slots → waiting_sum f slots ≡ 0
unfolding worth
waiting_sum-none f [] empty = refl
waiting_sum-none f (slot ∷ slots) empty =
    let none : length slot.starts ≡ 0 = ap (λ (xs : List ℕ). length xs) (empty 0 slot (omega arith) refl) in
    let first : worth f slot ≡ 0 = ap (λ n. n * f slot.code) none ∙ omega arith in
    let rest = waiting_sum-none f slots (λ place one low there. empty (suc place) one (omega arith) there) in
    omega (arith, sum_by-cons (worth f) slot slots, first, rest)

module _ (slots : List Slot) (seat : Seat) (inside : slot_for seat.code < length slots) where
  -- the slot of a code, and what it is with one part more
  own : Slot
  own = get_or slots (slot_for seat.code) free

  own_there : slice_get slots (slot_for seat.code) ≡ Some own
  unfolding own
  own_there = slice_get-get_or slots (slot_for seat.code) free inside

  more : Slot
  more = record { code = seat.code; starts = starts_in slots (slot_for seat.code) ++ seat.at ∷ [] }

  more_there : slice_get (with_seat slots seat) (slot_for seat.code) ≡ Some more
  unfolding more
  more_there = set_here slots (slot_for seat.code) more inside

  -- a part that comes to wait waits then
  pub Waits-seat : Waits (with_seat slots seat) seat
  unfolding more
  Waits-seat = record {
    place = slot_for seat.code;
    slot = more;
    there = more_there;
    code = refl;
    start = Contains-push (starts_in slots (slot_for seat.code)) seat.at;
  }

  module _ (room : HasRoom slots seat.code) where
    -- those that waited still wait
    pub Waits-before : (one : Seat) → Waits slots one → Waits (with_seat slots seat) one
    unfolding more
    Waits-before one waits =
        elim (cases_eq waits.place (slot_for seat.code)) [
          | inl same ↦
              let there : slice_get slots (slot_for seat.code) ≡ Some waits.slot = subst (λ place. slice_get slots place ≡ Some waits.slot) same waits.there in
              elim (room waits.slot there) [
                | inl empty ↦ absurd (none_in waits.slot.starts one.at empty waits.start)
                | inr (code, few) ↦ record {
                  place = slot_for seat.code;
                  slot = more;
                  there = more_there;
                  code = sym code ∙ waits.code;
                  start = subst (λ (xs : List ℕ). Contains (xs ++ seat.at ∷ []) one.at) (sym (starts_there slots (slot_for seat.code) waits.slot there))
                      (Contains-append_left waits.slot.starts (seat.at ∷ []) one.at waits.start);
                }
              ]
          | inr differs ↦ record {
            place = waits.place;
            slot = waits.slot;
            there = set_other slots (slot_for seat.code) waits.place more differs ∙ waits.there;
            code = waits.code;
            start = waits.start;
          }
        ]

    -- and no others wait then
    pub Waits-cases : (one : Seat) → Waits (with_seat slots seat) one → Waits slots one ⊎ (one ≡ seat)
    unfolding more
    Waits-cases one waits =
        elim (cases_eq waits.place (slot_for seat.code)) [
          | inl same ↦
              let there : slice_get (with_seat slots seat) (slot_for seat.code) ≡ Some waits.slot =
              subst (λ place. slice_get (with_seat slots seat) place ≡ Some waits.slot) same waits.there in
              let is : more ≡ waits.slot = same_Some more waits.slot (sym more_there ∙ there) in
              let code : seat.code ≡ one.code = ap (λ (slot : Slot). slot.code) is ∙ waits.code in
              let start : Contains (starts_in slots (slot_for seat.code) ++ seat.at ∷ []) one.at =
              subst (λ (slot : Slot). Contains slot.starts one.at) (sym is) waits.start in
              elim (Contains-push_cases (starts_in slots (slot_for seat.code)) seat.at one.at start) [
                | inl before ↦
                    let earlier : Contains own.starts one.at =
                    subst (λ (xs : List ℕ). Contains xs one.at) (starts_there slots (slot_for seat.code) own own_there) before in
                    elim (room own own_there) [
                      | inl empty ↦ absurd (none_in own.starts one.at empty earlier)
                      | inr (own_code, few) ↦ inl (record {
                        place = slot_for seat.code;
                        slot = own;
                        there = own_there;
                        code = own_code ∙ code;
                        start = earlier;
                      })
                    ]
                | inr at ↦ inr (λ i. record { code = sym code i; at = sym at i })
              ]
          | inr differs ↦ inl (record {
            place = waits.place;
            slot = waits.slot;
            there = sym (set_other slots (slot_for seat.code) waits.place more differs) ∙ waits.there;
            code = waits.code;
            start = waits.start;
          })
        ]

    -- the sum over those that wait grows by the part
    pub waiting_sum-with_seat : (f : ℕ → ℕ) → waiting_sum f (with_seat slots seat) ≡ waiting_sum f slots + f seat.code
    unfolding worth own more free
    waiting_sum-with_seat f =
        let starts : starts_in slots (slot_for seat.code) ≡ own.starts = starts_there slots (slot_for seat.code) own own_there in
        let count : length more.starts ≡ length own.starts + 1 =
        length_push (starts_in slots (slot_for seat.code)) seat.at ∙ ap (λ (xs : List ℕ). length xs + 1) starts in
        let grown : worth f more ≡ (length own.starts + 1) * f seat.code = ap (λ n. n * f seat.code) count in
        let sums = sum_by-set (worth f) slots (slot_for seat.code) more free inside in
        elim (room own own_there) [
          | inl empty ↦
              let none : length own.starts ≡ 0 = ap (λ (xs : List ℕ). length xs) empty in
              let old : worth f own ≡ 0 = ap (λ n. n * f own.code) none ∙ omega arith in
              let one : worth f more ≡ f seat.code = grown ∙ (ap (λ n. (n + 1) * f seat.code) none ∙ omega arith) in
              omega (arith, sums, old, one)
          | inr (code, few) ↦
              let old : worth f own ≡ length own.starts * f seat.code = ap (λ n. length own.starts * f n) code in
              omega (arith, sums, old, grown)
        ]

module _ (slots : List Slot) (place : ℕ) (inside : place < length slots) where
  cleared : Slot
  cleared = record { code = code_in slots place; starts = [] }

  cleared_there : slice_get (cleared_at slots place) place ≡ Some cleared
  unfolding cleared
  cleared_there = set_here slots place cleared inside

  -- if a slot is cleared, a slot is empty then or as it was
  pub cleared_cases : (other : ℕ) (slot : Slot) → slice_get (cleared_at slots place) other ≡ Some slot →
      (slot.starts ≡ []) ⊎ ((other ≢ place) × (slice_get slots other ≡ Some slot))
  unfolding cleared
  cleared_cases other slot there =
      elim (cases_eq other place) [
        | inl same ↦
            let here : slice_get (cleared_at slots place) place ≡ Some slot = subst (λ n. slice_get (cleared_at slots place) n ≡ Some slot) same there in
            inl (sym (ap (λ (one : Slot). one.starts) (same_Some cleared slot (sym cleared_there ∙ here))))
        | inr differs ↦ inr (differs, sym (set_other slots place other cleared differs) ∙ there)
      ]

  -- those that wait then waited before
  pub Waits-cleared : (one : Seat) → Waits (cleared_at slots place) one → Waits slots one
  Waits-cleared one waits =
      elim (cleared_cases waits.place waits.slot waits.there) [
        | inl empty ↦ absurd (none_in waits.slot.starts one.at empty waits.start)
        | inr (differs, there) ↦ record {
          place = waits.place;
          slot = waits.slot;
          there = there;
          code = waits.code;
          start = waits.start;
        }
      ]

  -- those that waited wait then, but for those of this slot
  pub Waits-cleared_cases : (one : Seat) → Waits slots one →
      Waits (cleared_at slots place) one ⊎ ((code_in slots place ≡ one.code) × Contains (starts_in slots place) one.at)
  unfolding cleared
  Waits-cleared_cases one waits =
      elim (cases_eq waits.place place) [
        | inl same ↦
            let there : slice_get slots place ≡ Some waits.slot = subst (λ n. slice_get slots n ≡ Some waits.slot) same waits.there in
            inr (
              code_there slots place waits.slot there ∙ waits.code,
              subst (λ (xs : List ℕ). Contains xs one.at) (sym (starts_there slots place waits.slot there)) waits.start,
            )
        | inr differs ↦ inl (record {
          place = waits.place;
          slot = waits.slot;
          there = set_other slots place waits.place cleared differs ∙ waits.there;
          code = waits.code;
          start = waits.start;
        })
      ]

  -- the sum over those that wait falls by those of this slot
  pub waiting_sum-cleared : (f : ℕ → ℕ) →
      waiting_sum f (cleared_at slots place) + length (starts_in slots place) * f (code_in slots place) ≡ waiting_sum f slots
  unfolding worth cleared free
  waiting_sum-cleared f =
      let slot = get_or slots place free in
      let there : slice_get slots place ≡ Some slot = slice_get-get_or slots place free inside in
      let starts : starts_in slots place ≡ slot.starts = starts_there slots place slot there in
      let code : code_in slots place ≡ slot.code = code_there slots place slot there in
      let old : length (starts_in slots place) * f (code_in slots place) ≡ worth f slot =
      ap (λ (xs : List ℕ). length xs * f (code_in slots place)) starts ∙ ap (λ n. length slot.starts * f n) code in
      let none : worth f cleared ≡ 0 = omega arith in
      omega (arith, sum_by-set (worth f) slots place cleared free inside, old, none)

  -- where none waits in the slot, nothing is cleared
  pub cleared_same : length (starts_in slots place) ≡ 0 → slots ≡ cleared_at slots place
  unfolding cleared free
  cleared_same none =
      let slot = get_or slots place free in
      let there : slice_get slots place ≡ Some slot = slice_get-get_or slots place free inside in
      let nothing : [] ≡ slot.starts = sym (no_items (starts_in slots place) none) ∙ starts_there slots place slot there in
      let same : cleared ≡ slot = λ i. record { code = code_there slots place slot there i; starts = nothing i } in
      sym (set-get_or slots place free) ∙ ap (slice_set slots place) (sym same)

  -- a part with any code of this slot has room then
  pub HasRoom-cleared : (code : ℕ) → slot_for code ≡ place → HasRoom (cleared_at slots place) code
  HasRoom-cleared code is slot there =
      elim (cleared_cases (slot_for code) slot there) [
        | inl empty ↦ inl empty
        | inr (differs, other) ↦ absurd (differs is)
      ]

  -- an empty slot stays empty
  pub IsEmptyFrom-cleared : (high : ℕ) → IsEmptyFrom high slots → IsEmptyFrom high (cleared_at slots place)
  IsEmptyFrom-cleared high empty other slot low there =
      elim (cleared_cases other slot there) [
        | inl none ↦ none
        | inr (differs, same) ↦ empty other slot low same
      ]

  pub IsEmptyBelow-cleared : IsEmptyBelow place slots → IsEmptyBelow (place + 1) (cleared_at slots place)
  IsEmptyBelow-cleared empty other slot low there =
      elim (cleared_cases other slot there) [
        | inl none ↦ none
        | inr (differs, same) ↦ empty other slot (omega (arith, low, differs)) same
      ]

-- slots that are empty up to some place and from it are all empty
pub IsEmpty-all : (slots : List Slot) (high : ℕ) → IsEmptyBelow high slots → IsEmptyFrom high slots → IsEmptyFrom 0 slots
IsEmpty-all slots high below from place slot low there =
    elim (cases_lt place high) [
      | inl less ↦ below place slot less there
      | inr past ↦ from place slot past there
    ]
