-- The places that formulas reach are collected: those of the roots, then a place taken out, and at last all of them.
use Rattle.std.proofs.Common.{◌≡◌, ℕ, ◌+◌, ◌<◌, ◌⊎◌, ◌↔◌, inl, inr, ⊎_elim, Bool, true, false, List, [], ◌∷◌, ◌++◌, length, take, get_or, Contains, All, Less, nat_cmp, reverse, cond, zero, suc, IsTrue, refl, sym, ap, subst, ◌∙◌, arith}
use Rattle.std.specs.BTreeSet.{BTreeSet, contains, Updates}
use Rattle.std.specs.BTreeMap.{is_at}
use Rattle.std.specs.Cmp.{unsigned_tied}
use Rattle.std.specs.List.Sorted.{IsStrictlyIncreasing}
use Rattle.std.proofs.lemmas.Bool.{cases_lt, cases_eq, ne_eqb}
use Rattle.std.proofs.lemmas.Bool.Decides.{nat_tests}
use Rattle.std.proofs.lemmas.Cmp.{nat_cmp_total}
use Rattle.std.proofs.lemmas.List.{get_or_default, get_or-take, length-take-le, map-append, reverse-append, take_more}
use Rattle.std.proofs.lemmas.Map.Keys.{sorted_from_strictly_increasing, below_from_sorted}
use Rattle.std.proofs.lemmas.Map.Lookups.{exact_unsigned}
use Rattle.std.proofs.lemmas.Map.Views.{btree_set_contains_iff}
use Rattle.std.proofs.lemmas.List.Elements.{Contains-append_left, Contains-push, Contains-push_cases, All-contains, All-map}
use Rattle.bool_pool.specs.declared.gate.Gate.{Gate}
use Rattle.bool_pool.specs.declared.gate.Id.{Id}
use Rattle.bool_pool.specs.Gate.{gate_at, IsOperand}
use Rattle.bool_pool.specs.Reach.{Reaches, AnyReaches, here, through}
use Rattle.bool_pool.specs.Compact.{places_of}
use Rattle.bool_pool.specs.Collecting.{IsFound, IsTakenOut, AreCollected}
use Rattle.bool_pool.proofs.ReachLemmas.{Reaches-trans, Reaches-down}

-- a set has what it had, and the place that was inserted
pub Contains-inserted : (old new : BTreeSet ℕ) (key place : ℕ) → Updates nat_cmp old new key true
    → Contains new.keys place ↔ (Contains old.keys place ⊎ (place ≡ key))
Contains-inserted old new key place updates = (forth, back)
  where
    in_set : (set : BTreeSet ℕ) (k : ℕ) → IsTrue (contains nat_cmp set k) ↔ Contains set.keys k
    in_set set k = btree_set_contains_iff nat_cmp_total exact_unsigned set k

    either : (test held : Bool) → held ≡ true → cond test true held ≡ true
    either true held is = refl
    either false held is = is

    forth : Contains new.keys place → Contains old.keys place ⊎ (place ≡ key)
    forth held =
        elim (cases_eq place key) [
          | inl same ↦ inr same
          | inr other ↦
              let apart : is_at (nat_cmp key) place ≡ false = unsigned_tied key place ∙ ne_eqb key place (λ same. other (sym same)) in
              inl ((in_set old place).0 (sym (updates.2 place apart) ∙ (in_set new place).1 held))
        ]

    back : Contains old.keys place ⊎ (place ≡ key) → Contains new.keys place
    back (inl held) =
        (in_set new place).0 (updates.0 place ∙ either (is_at (nat_cmp key) place) (contains nat_cmp old place) ((in_set old place).1 held))
    back (inr same) = subst (Contains new.keys) (sym same) ((in_set new key).0 updates.1)

-- the same of two places, one after the other
pub Contains-inserted_two : (old middle new : BTreeSet ℕ) (a b place : ℕ) → Updates nat_cmp old middle a true
    → Updates nat_cmp middle new b true
    → Contains new.keys place ↔ ((Contains old.keys place ⊎ (place ≡ a)) ⊎ (place ≡ b))
Contains-inserted_two old middle new a b place first second =
    let of_first = Contains-inserted old middle a place first in
    let of_second = Contains-inserted middle new b place second in (
      λ held. ⊎_elim (λ before. inl (of_first.0 before)) (λ same. inr same) (of_second.0 held),
      ⊎_elim (λ before. of_second.1 (inl (of_first.1 before))) (λ same. of_second.1 (inr same)),
    )

-- nothing stands in a list of no places
pub not_in_none : (place : ℕ) → ¬ Contains {X = ℕ} [] place
not_in_none place held = absurd (omega (arith, held.1))

-- the places of one formula more
pub places_of-more : (roots : List Id) (k place : ℕ) (old new : List ℕ) → k < length roots
    → Contains new place ↔ (Contains old place ⊎ (place ≡ (get_or roots k (record { place = 0 })).place))
    → Contains old place ↔ Contains (places_of (take k roots)) place
    → Contains new place ↔ Contains (places_of (take (k + 1) roots)) place
places_of-more roots k place old new inside each before =
    let d : Id = record { place = 0 } in
    let front = places_of (take k roots) in
    let last = (get_or roots k d).place in
    let more : places_of (take (k + 1) roots) ≡ front ++ last ∷ [] =
    ap places_of (take_more roots k d inside) ∙ map-append (λ (id : Id). id.place) (take k roots) (get_or roots k d ∷ []) in
    subst (λ all. Contains new place ↔ Contains all place) (sym more) (
      λ held. ⊎_elim
          (λ was. Contains-append_left front (last ∷ []) place (before.0 was))
          (λ same. subst (Contains (front ++ last ∷ [])) (sym same) (Contains-push front last))
          (each.0 held),
      λ held. ⊎_elim (λ was. each.1 (inl (before.1 was))) (λ same. each.1 (inr (sym same)))
          (Contains-push_cases front last place held),
    )

-- what was pushed at the end stands first in the other direction
pub taken_more : (places more : List ℕ) (place : ℕ) → more ≡ places ++ place ∷ [] → reverse more ≡ place ∷ reverse places
taken_more places more place is = ap reverse is ∙ reverse-append places (place ∷ [])

-- what compares as less is below
pub below_from_less : (a b : ℕ) → nat_cmp a b ≡ Less → a < b
below_from_less a b less = grind (arith, nat_tests)

-- the greatest place waited
pub last_waits : (waiting rest : List ℕ) (place : ℕ) → waiting ≡ rest ++ place ∷ [] → Contains waiting place
last_waits waiting rest place is = subst (λ all. Contains all place) (sym is) (Contains-push rest place)

-- a place of a list is the first one or among the others
pub first_or_other : (places : List ℕ) (first place k : ℕ) → k < length (first ∷ places) → get_or (first ∷ places) k place ≡ place
    → (place ≡ first) ⊎ Contains places place
first_or_other places first place zero inside is = inl (sym is)
first_or_other places first place (suc k) inside is = inr (k, omega arith, is)

-- a place below the first one can stand before places that rise
rises_from : (place : ℕ) (places : List ℕ) (limit : ℕ) → place < get_or places 0 limit → IsStrictlyIncreasing places
    → IsStrictlyIncreasing (place ∷ places)
rises_from place places limit below rises zero inside =
    let some : 0 < length places = omega arith in
    subst (λ first. place < first) (get_or_default places 0 limit 0 some) below
rises_from place places limit below rises (suc k) inside =
    let next : suc k + 1 ≡ suc (k + 1) = omega arith in
    rw next (rises k (omega arith))

-- places rise if there is none
rises_none : IsStrictlyIncreasing []
rises_none k inside = absurd (omega (arith, inside))

-- what one of some places reaches is reached by them
pub AnyReaches-contained : (gates : List Gate) (roots : List ℕ) (root place : ℕ) → Contains roots root → Reaches gates root place
    → AnyReaches gates roots place
AnyReaches-contained gates [] root place held reached = absurd (not_in_none root held)
AnyReaches-contained gates (first ∷ roots) root place held reached =
    ⊎_elim
    (λ same. inl (subst (λ i. Reaches gates i place) same reached))
    (λ other. inr (AnyReaches-contained gates roots root place other reached))
    (first_or_other roots first root held.0 held.1 held.2)

-- and what they reach is reached by one of them
pub AnyReaches-by : (gates : List Gate) (roots : List ℕ) (place : ℕ) → AnyReaches gates roots place
    → (root : ℕ) × Contains roots root × Reaches gates root place
AnyReaches-by gates [] place any = absurd any
AnyReaches-by gates (first ∷ roots) place (inl reached) = (first, (0, omega arith, refl), reached)
AnyReaches-by gates (first ∷ roots) place (inr any) =
    let by = AnyReaches-by gates roots place any in
    (by.0, (suc by.1.0, omega (arith, by.1.1), by.1.2), by.2)

-- what is listed as reached by some places is reached by the same places in another list
pub listed_as_reached : (gates : List Gate) (roots others listed : List ℕ) → ((root : ℕ) → Contains roots root ↔ Contains others root)
    → ((place : ℕ) → Contains listed place ↔ AnyReaches gates roots place) → (place : ℕ) → Contains listed place ↔ AnyReaches gates others place
listed_as_reached gates roots others listed same each place = (
  λ held.
      let by = AnyReaches-by gates roots place ((each place).0 held) in
      AnyReaches-contained gates others by.0 place ((same by.0).0 by.1) by.2,
  λ any.
      let by = AnyReaches-by gates others place any in
      (each place).1 (AnyReaches-contained gates roots by.0 place ((same by.0).1 by.1) by.2),
)

module _ (gates : List Gate) (roots : List ℕ) where
  -- the operand of a gate that is reached is reached
  pub AnyReaches-operand : (place k : ℕ) → AnyReaches gates roots place → k < place → IsOperand (gate_at gates place) k
      → AnyReaches gates roots k
  AnyReaches-operand place k any before operand =
      let by = AnyReaches-by gates roots place any in
      AnyReaches-contained gates roots by.0 k by.1 (Reaches-trans gates by.0 place k by.2 (through k before operand here))

  -- what is reached stands in the pool
  pub AnyReaches-inside : (place : ℕ) → ((root : ℕ) → Contains roots root → root < length gates) → AnyReaches gates roots place
      → place < length gates
  AnyReaches-inside place inside any =
      let by = AnyReaches-by gates roots place any in
      omega (arith, inside by.0 by.1, Reaches-down gates by.0 place by.2)

  -- at first the roots wait
  pub AreCollected-roots : (waits : ℕ → Type 0) → ((root : ℕ) → waits root ↔ Contains roots root)
      → ((root : ℕ) → Contains roots root → root < length gates) → AreCollected gates roots waits []
  AreCollected-roots waits each inside = record {
    reached = λ place. ⊎_elim
        (λ held. AnyReaches-contained gates roots place place ((each place).0 held) here)
        (λ took. absurd (not_in_none place took));
    rooted = λ place held. inl ((each place).1 held);
    operands = λ place k took operand. absurd (not_in_none place took);
    ascending = rises_none;
    below = λ place held. inside place ((each place).0 held);
  }

  module _ (place : ℕ) (waits rest next : ℕ → Type 0) (taken : List ℕ) (out : IsTakenOut waits rest place)
      (order : (k : ℕ) → IsOperand (gate_at gates place) k → k < place)
      (each : (k : ℕ) → next k ↔ (rest k ⊎ IsOperand (gate_at gates place) k))
      (before : AreCollected gates roots waits taken) where
    -- the place waited
    place_waits : waits place
    place_waits = (out.each place).1 (inr refl)

    -- what was taken out stays so
    still_taken : (k : ℕ) → Contains taken k → Contains (place ∷ taken) k
    still_taken k took = (suc took.0, omega (arith, took.1), took.2)

    -- what was found stays so
    place_found : (k : ℕ) → IsFound waits taken k → IsFound next (place ∷ taken) k
    place_found k (inl held) =
        ⊎_elim
        (λ other. inl ((each k).1 (inl other)))
        (λ same. inr (0, omega arith, sym same))
        ((out.each k).0 held)
    place_found k (inr took) = inr (still_taken k took)

    -- one place is taken out, and its gate's operands wait
    pub AreCollected-taken : AreCollected gates roots next (place ∷ taken)
    AreCollected-taken = record {
      reached = λ k found.
          ⊎_elim
          (λ held. ⊎_elim
          (λ other. before.reached k (inl ((out.each k).1 (inl other))))
          (λ operand. AnyReaches-operand place k (before.reached place (inl place_waits)) (order k operand) operand)
          ((each k).0 held))
          (λ took. ⊎_elim
          (λ same. subst (AnyReaches gates roots) (sym same) (before.reached place (inl place_waits)))
          (λ other. before.reached k (inr other))
          (first_or_other taken place k took.0 took.1 took.2))
          found;
      rooted = λ k held. place_found k (before.rooted k held);
      operands = λ i k took operand.
          ⊎_elim
          (λ same. inl ((each k).1 (inr (subst (λ j. IsOperand (gate_at gates j) k) same operand))))
          (λ other. place_found k (before.operands i k other operand))
          (first_or_other taken place i took.0 took.1 took.2);
      ascending = rises_from place taken (length gates) (before.below place place_waits) before.ascending;
      below = λ k held. ⊎_elim (out.below k) (order k) ((each k).0 held);
    }

  -- what is reached from a place that was taken out was taken out, where nothing waits
  taken_reached : (taken : List ℕ) (i j : ℕ)
      → ((place k : ℕ) → Contains taken place → IsOperand (gate_at gates place) k → Contains taken k)
      → Reaches gates i j → Contains taken i → Contains taken j
  taken_reached taken i j closed here held = held
  taken_reached taken i j closed (through k before operand rest) held =
      taken_reached taken k j closed rest (closed i k held operand)

  -- where nothing waits, all that is reached was taken out
  pub taken_all : (waits : ℕ → Type 0) (taken : List ℕ) → ((k : ℕ) → ¬ waits k) → AreCollected gates roots waits taken
      → (place : ℕ) → Contains taken place ↔ AnyReaches gates roots place
  taken_all waits taken none all place = (λ held. all.reached place (inr held), back)
    where
      took : (k : ℕ) → IsFound waits taken k → Contains taken k
      took k (inl held) = absurd (none k held)
      took k (inr held) = held

      closed : (i k : ℕ) → Contains taken i → IsOperand (gate_at gates i) k → Contains taken k
      closed i k held operand = took k (all.operands i k held operand)

      back : AnyReaches gates roots place → Contains taken place
      back any =
          let by = AnyReaches-by gates roots place any in
          taken_reached taken by.0 place closed by.2 (took by.0 (all.rooted by.0 by.1))

-- each of some places is a place of the pool
pub places_inside : (gates : List Gate) (places : List ℕ) → All (λ place. place < length gates) places → (place : ℕ)
    → Contains places place → place < length gates
places_inside gates places inside place held = All-contains (λ other. other < length gates) places place inside held

-- the roots' places are places of the pool
pub roots_inside : (gates : List Gate) (roots : List Id) → All (λ root. root.place < length gates) roots → (root : ℕ)
    → Contains (places_of roots) root → root < length gates
roots_inside gates roots inside =
    places_inside gates (places_of roots) (All-map (λ place. place < length gates) (λ (id : Id). id.place) roots inside)

module _ (places : List ℕ) (rises : IsStrictlyIncreasing places) (index : ℕ) (inside : index < length places) where
  -- of places that rise those before one are below it
  pub listed_below : (k : ℕ) → Contains (take index places) k → k < get_or places index 0
  listed_below k held =
      let earlier : held.0 < index = omega (arith, held.1, length-take-le index places (omega arith)) in
      let is : get_or places held.0 k ≡ k = sym (get_or-take index places held.0 k earlier) ∙ held.2 in
      let above = below_from_sorted places held.0 index k (sorted_from_strictly_increasing places rises) earlier inside in
      omega (arith, above, is, get_or_default places index k 0 inside)

  -- and those below it are before it
  pub below_listed : (k : ℕ) → Contains places k → k < get_or places index 0 → Contains (take index places) k
  below_listed k held less =
      let own : get_or places index k ≡ get_or places index 0 = get_or_default places index k 0 inside in
      elim (cases_lt held.0 index) [
        | inl earlier ↦
            (held.0, omega (arith, earlier, length-take-le index places (omega arith)), get_or-take index places held.0 k earlier ∙ held.2)
        | inr later ↦
            elim (cases_lt index held.0) [
              | inl after ↦
                  let above = below_from_sorted places index held.0 k (sorted_from_strictly_increasing places rises) after held.1 in
                  absurd (omega (arith, above, held.2))
              | inr not_after ↦
                  let same : held.0 ≡ index = omega arith in
                  let here_too : get_or places index k ≡ k = ap (λ i. get_or places i k) (sym same) ∙ held.2 in
                  absurd (omega (arith, here_too))
            ]
      ]

-- each formula's place is one of the formulas' places
place_contained : (ids : List Id) (k : ℕ) (d : Id) → k < length ids → Contains (places_of ids) (get_or ids k d).place
place_contained [] k d inside = absurd (omega (arith, inside))
place_contained (id ∷ ids) zero d inside = (0, omega arith, refl)
place_contained (id ∷ ids) (suc k) d inside =
    let rest = place_contained ids k d (omega arith) in
    (suc rest.0, omega (arith, rest.1), rest.2)

-- a root reaches its own place
pub root_reached : (gates : List Gate) (roots : List Id) (k : ℕ) (d : Id) → k < length roots
    → AnyReaches gates (places_of roots) (get_or roots k d).place
root_reached gates roots k d inside =
    let place = (get_or roots k d).place in
    AnyReaches-contained gates (places_of roots) place place (place_contained roots k d inside) here
