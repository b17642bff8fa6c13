-- For every graph there is a table of strengths, one for each node, that is closed under going on over its
-- switches.
-- Each positive entry comes from somewhere: `Comes` says from what, and holds on where a switch that passes is
-- crossed. While some place can raise the entry at one of its ends, raise it; entries stay at most as great as
-- a switch's level once they are raised, so the room that is left shrinks, and this ends. Nothing is assumed to
-- be decided but numbers and Booleans.
use Rattle.std.proofs.Common.{
  ◌≡◌,
  ℕ,
  zero,
  suc,
  ◌+◌,
  ◌-◌,
  ◌<◌,
  ◌≤◌,
  min,
  true,
  Bool,
  ◌⊎◌,
  inl,
  inr,
  List,
  length,
  Option,
  Some,
  None,
  refl,
  sym,
  ap,
  subst,
  arith,
}
use Rattle.std.proofs.lemmas.Bool.{cases_lt, cases_eq, cases_Bool}
use Rattle.std.proofs.Math.ListN.{get_or-eq_default}
use Rattle.ternary.specs.declared.tern.Tern.{Tern}
use Rattle.strength_order.specs.declared.TheConstants.{GREATEST_SWITCH_LEVEL}
use Rattle.switch_paths.specs.declared.switching.Switch.{Switch}
use Rattle.switch_paths.specs.declared.switching.SwitchState.{SwitchState}
use Rattle.switch_paths.specs.Switching.{switch_state_at}
use Rattle.switch_paths.specs.Graphs.{GraphData, IsWired, nodes, place_at}
use Rattle.switch_paths.specs.Path.{Joins}
use Rattle.switch_paths.proofs.PathLemmas.{switch_fits}

-- one of two numbers, by a decision
abbrev pub pick : {A B : Type 0} → A ⊎ B → ℕ → ℕ → ℕ
pick (inl same) a b = a
pick (inr other) a b = b

-- a table with one entry changed
abbrev raise : (ℕ → ℕ) → ℕ → ℕ → ℕ → ℕ
raise table node value = λ n. pick (cases_eq n node) value (table n)

-- how far the entries of the first nodes can rise yet
abbrev room : (ℕ → ℕ) → ℕ → ℕ
room table zero = 0
room table (suc n) = (GREATEST_SWITCH_LEVEL - table n) + room table n

-- what only rises takes room
room-rises : (old new : ℕ → ℕ) → ((n : ℕ) → old n ≤ new n) → (count : ℕ) → room new count ≤ room old count
room-rises old new rises zero = omega arith
room-rises old new rises (suc n) = omega (arith, rises n, room-rises old new rises n)

-- and what rises below the bound takes some
room-shrinks : (old new : ℕ → ℕ) → ((n : ℕ) → old n ≤ new n) → (node count : ℕ) → node < count → old node < new node →
    new node ≤ GREATEST_SWITCH_LEVEL → room new count < room old count
room-shrinks old new rises node zero inside more high = absurd (omega arith)
room-shrinks old new rises node (suc n) inside more high =
    elim (cases_eq node n) [
      | inl same ↦ omega (arith, room-rises old new rises n, ap old same, ap new same)
      | inr other ↦ omega (arith, rises n, room-shrinks old new rises node n (omega arith) more high)
    ]

-- what holds of a place holds below one place more
below_next : (P : ℕ → Type 0) (count : ℕ) → ((k : ℕ) → k < count → P k) → P count → (k : ℕ) → k < suc count → P k
below_next P count below here k inside =
    elim (cases_eq k count) [ inl same ↦ subst P (sym same) here | inr other ↦ below k (omega arith) ]

-- a place is empty or holds a switch
empty_or_not : (place : Option Switch) → (place ≡ None) ⊎ ((switch : Switch) × (place ≡ Some switch))
empty_or_not None = inl refl
empty_or_not (Some switch) = inr (switch, refl)

module _ (g : GraphData) (state : List Tern) (passes : SwitchState → Bool) (floor start : ℕ → ℕ) (Comes : ℕ → ℕ → Type 0) where
  -- each entry is no less than what its node starts with, and comes from somewhere if it is positive
  record IsFilled (table : ℕ → ℕ) : Type 0 where
    low : (node : ℕ) → start node ≤ table node
    come : (node : ℕ) → 0 < table node → Comes node (table node)

  -- going over a switch from one node to the other raises no entry
  abbrev Lifts : (ℕ → ℕ) → Switch → ℕ → ℕ → Type 0
  Lifts table switch m n = floor n ≤ min (table m) switch.level → min (table m) switch.level ≤ table n

  -- the switch at a place, if it passes, raises no entry
  abbrev IsSpreadAt : (ℕ → ℕ) → ℕ → Type 0
  IsSpreadAt table place =
      (switch : Switch) (m n : ℕ) → place_at g.places place ≡ Some switch → Joins switch m n →
      passes (switch_state_at state switch) ≡ true → Lifts table switch m n

  -- a filled table with less room
  record IsBettered (table : ℕ → ℕ) : Type 0 where
    better : ℕ → ℕ
    filled : IsFilled better
    room : room better (nodes g) < room table (nodes g)

  -- a table that is filled and closed
  pub record IsClosed : Type 0 where
    pub table : ℕ → ℕ
    pub low : (node : ℕ) → start node ≤ table node
    pub come : (node : ℕ) → 0 < table node → Comes node (table node)
    pub spread : (place : ℕ) → IsSpreadAt table place

  module _ (wired : IsWired g) (starts : (node : ℕ) → 0 < start node → Comes node (start node))
      (onward : (m n strength place : ℕ) (switch : Switch) →
      Comes m strength → place_at g.places place ≡ Some switch → Joins switch m n →
      passes (switch_state_at state switch) ≡ true → floor n ≤ min strength switch.level →
      Comes n (min strength switch.level)) where
    -- a raised entry comes from somewhere where its value does, and the others as before
    raised-comes : (table : ℕ → ℕ) (m node value : ℕ) (at_node : (m ≡ node) ⊎ (m ≡ node → ⊥)) → Comes node value →
        (0 < table m → Comes m (table m)) → 0 < pick at_node value (table m) → Comes m (pick at_node value (table m))
    raised-comes table m node value (inl same) new old positive = subst (λ x. Comes x value) (sym same) new
    raised-comes table m node value (inr other) new old positive = old positive

    -- a table that is raised at one entry rises
    raised-rises : (table : ℕ → ℕ) (m node value : ℕ) (at_node : (m ≡ node) ⊎ (m ≡ node → ⊥)) → table node ≤ value →
        table m ≤ pick at_node value (table m)
    raised-rises table m node value (inl same) most = omega (arith, ap table same)
    raised-rises table m node value (inr other) most = omega arith

    -- the raised entry has its value
    raised-here : (node value old : ℕ) (at_node : (node ≡ node) ⊎ (node ≡ node → ⊥)) → pick at_node value old ≡ value
    raised-here node value old (inl same) = refl
    raised-here node value old (inr other) = absurd (other refl)

    -- a filled table can be bettered where more comes
    bettered : (table : ℕ → ℕ) → IsFilled table → (node value : ℕ) → node < nodes g →
        Comes node value → table node < value → value ≤ GREATEST_SWITCH_LEVEL → IsBettered table
    bettered table filled node value in_range new more high =
        let better = raise table node value in
        let rises : (m : ℕ) → table m ≤ better m = λ m. raised-rises table m node value (cases_eq m node) (omega arith) in
        let here : better node ≡ value = raised-here node value (table node) (cases_eq node node) in
        let filled_too : IsFilled better = record {
          low = λ m. omega (arith, filled.low m, rises m);
          come = λ m. raised-comes table m node value (cases_eq m node) new (filled.come m);
        } in
        let shrinks = room-shrinks table better rises node (nodes g) in_range (omega (arith, here)) (omega (arith, here)) in
        record { better = better; filled = filled_too; room = shrinks }

    -- a switch that passes raises no entry at one of its ends, or the table can be bettered
    try_over : (table : ℕ → ℕ) → IsFilled table → (place : ℕ) (switch : Switch) → place_at g.places place ≡ Some switch →
        passes (switch_state_at state switch) ≡ true → (m n : ℕ) → Joins switch m n → n < nodes g →
        Lifts table switch m n ⊎ IsBettered table
    try_over table filled place switch stands passing m n joins in_range =
        let fits = switch_fits g wired place switch stands in
        let value = min (table m) switch.level in
        elim (cases_lt (table n) value) [
          | inl more ↦ elim (cases_lt value (floor n)) [
            | inl under ↦ inl (λ above. absurd (omega arith))
            | inr above ↦
                let new = onward m n (table m) place switch (filled.come m (omega arith)) stands joins passing above in
                inr (bettered table filled n value in_range new more (omega (arith, fits.high)))
          ]
          | inr most ↦ inl (λ above. most)
        ]

    -- what holds over a switch both ways holds between any nodes that it joins
    both_ways : (table : ℕ → ℕ) (switch : Switch) (m n : ℕ) → Joins switch m n →
        Lifts table switch switch.a switch.b → Lifts table switch switch.b switch.a → Lifts table switch m n
    both_ways table switch m n (inl ends) there back = rw (← ends.0, ← ends.1) there
    both_ways table switch m n (inr ends) there back = rw (← ends.0, ← ends.1) back

    -- a place with a switch that passes
    try_switch : (table : ℕ → ℕ) → IsFilled table → (place : ℕ) (switch : Switch) → place_at g.places place ≡ Some switch →
        passes (switch_state_at state switch) ≡ true → IsSpreadAt table place ⊎ IsBettered table
    try_switch table filled place switch stands passing =
        let fits = switch_fits g wired place switch stands in
        elim (try_over table filled place switch stands passing switch.a switch.b (inl (refl, refl)) fits.b) [
          | inl there ↦ elim (try_over table filled place switch stands passing switch.b switch.a (inr (refl, refl)) fits.a) [
            | inl back ↦ inl (λ other m n stands_too joins passing_too.
                let same : switch ≡ other = cc in
                both_ways table other m n joins
                (subst (λ x. Lifts table x x.a x.b) same there) (subst (λ x. Lifts table x x.b x.a) same back))
            | inr better ↦ inr better
          ]
          | inr better ↦ inr better
        ]

    -- a place raises no entry, or the table can be bettered
    try_at : (table : ℕ → ℕ) → IsFilled table → (place : ℕ) → IsSpreadAt table place ⊎ IsBettered table
    try_at table filled place =
        elim (empty_or_not (place_at g.places place)) [
          | inl empty ↦ inl (λ switch m n stands joins passing above. absurd cc)
          | inr stands ↦ elim (cases_Bool (passes (switch_state_at state stands.0))) [
            | inl passing ↦ try_switch table filled place stands.0 stands.1 passing
            | inr stopping ↦ inl (λ switch m n stands_too joins passing above. let same : switch ≡ stands.0 = cc in absurd cc)
          ]
        ]

    -- the first places raise no entry, or the table can be bettered
    try_first : (table : ℕ → ℕ) → IsFilled table → (count : ℕ) →
        ((place : ℕ) → place < count → IsSpreadAt table place) ⊎ IsBettered table
    try_first table filled zero = inl (λ place inside. absurd (omega arith))
    try_first table filled (suc count) =
        elim (try_first table filled count) [
          | inl below ↦ elim (try_at table filled count) [
            | inl here ↦ inl (below_next (IsSpreadAt table) count below here)
            | inr better ↦ inr better
          ]
          | inr better ↦ inr better
        ]

    -- past the last place there is nothing to go over
    spread_everywhere : (table : ℕ → ℕ) → ((place : ℕ) → place < length g.places → IsSpreadAt table place) →
        (place : ℕ) → IsSpreadAt table place
    spread_everywhere table spread place =
        elim (cases_lt place (length g.places)) [
          | inl inside ↦ spread place inside
          | inr outside ↦ λ switch m n stands joins passing above.
              let empty : place_at g.places place ≡ None = get_or-eq_default g.places None outside in absurd cc
        ]

    -- bettering a table ends in a closed one
    close : (fuel : ℕ) (table : ℕ → ℕ) → IsFilled table → room table (nodes g) < fuel → IsClosed
    close zero table filled enough = absurd (omega arith)
    close (suc fuel) table filled enough =
        elim (try_first table filled (length g.places)) [
          | inl spread ↦ record { table = table; low = filled.low; come = filled.come; spread = spread_everywhere table spread }
          | inr more ↦ close fuel more.better more.filled (omega (arith, more.room))
        ]

    -- there is a closed table
    pub closed_table : IsClosed
    closed_table =
        close (suc (room start (nodes g))) start (record { low = λ node. omega arith; come = starts }) (omega arith)
