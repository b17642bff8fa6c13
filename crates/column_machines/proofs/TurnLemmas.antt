-- Columns that take turns: a column's states are loaded into the machine, move there, and are written back, while those of the other
-- columns stay. Outside of the uneven nodes nothing has to be loaded or written, since all columns have the machine's own state.
use Rattle.std.proofs.Common.{◌≡◌, ◌≢◌, ℕ, zero, suc, ◌+◌, ◌<◌, ◌≤◌, Bool, true, false, List, [], ◌∷◌, ◌++◌, Option, length, map, take, get_or, set, refl, sym, ap, ap₂, subst, ◌∙◌, arith, inl, inr}
use Rattle.std.specs.Prelude.{◌⊎◌, Contains}
use Rattle.std.proofs.lemmas.Bool.{cases_eq, cases_lt, lt-ltb}
use Rattle.std.proofs.lemmas.List.{ext_get_or, get_or-map, get_or-set_same, get_or-set_other, length-map, length-set, take_more}
use Rattle.std.proofs.lemmas.List.Elements.{Contains-push, Contains-push_cases, Contains-append_left}
use Rattle.ternary.specs.declared.tern.Tern.{Tern}
use Rattle.ternary.specs.declared.tern.Tern.TheVariants.{Zero}
use Rattle.ternary.specs.Tern.{may_one, may_zero}
use Rattle.switch_paths.specs.Graphs.{GraphData}
use Rattle.switch_paths.specs.Rails.{IsSound}
use Rattle.switch_paths.specs.Switching.{state_at}
use Rattle.switch_paths.specs.declared.TheConstants.{RAILS}
use Rattle.settling.specs.declared.settling.Settled.{Settled}
use Rattle.settling.specs.Moved.{ListsChanges}
use Rattle.word_columns.specs.Columns.{is_in_column, column_bits, AreRailsIn, AreUsed}
use Rattle.word_columns.proofs.ColumnLemmas.{column_bits-at, length-column_bits}
use Rattle.word_columns.proofs.RunLemmas.{high_at_node, low_at_node}
use Rattle.machine_laws.specs.Machines.{MachineData}
use Rattle.machine_laws.specs.Fitting.{FitsGraph}
use Rattle.machine_parts.specs.Marking.{MarksAll}
use Rattle.machine_parts.proofs.CaseLemmas.{same_or_not, true_or_not}
use Rattle.vicinity.specs.NodeSets.{IsIn}
use Rattle.column_machines.specs.Columns.{column_states, state_in, HasSoundColumn, HasStates}
use Rattle.column_machines.specs.Turns.{TurnData, IsTurnMachine, IsTurning, FitsInTurn, HaveRun, IsLoaded, MovesBy, RunsOne, Writes, WritesRail, WritesAt, WritesRailAt, words_of}
use Rattle.column_machines.proofs.ColumnLemmas.{column_states-has, length-column_states}
use Rattle.column_machines.proofs.FittingLemmas.{AreRailsIn-placed, column_states-placed}

-- ---- lists of nodes

-- a node is in the set, or it isn't
in_or_out : (inside : List Bool) (node : ℕ) → IsIn inside node ⊎ (¬ IsIn inside node)
in_or_out inside node = true_or_not (get_or inside node false)

-- a node among the first ones, one more, is among these or the last
module _ (list : List ℕ) (i : ℕ) (within : i < length list) where
  front_more : take (i + 1) list ≡ take i list ++ get_or list i 0 ∷ []
  front_more = take_more list i 0 within

  front_cases : (node : ℕ) → Contains (take (i + 1) list) node → Contains (take i list) node ⊎ (get_or list i 0 ≡ node)
  front_cases node there = Contains-push_cases (take i list) (get_or list i 0) node (subst (λ xs. Contains xs node) front_more there)

  front_stays : (node : ℕ) → Contains (take i list) node → Contains (take (i + 1) list) node
  front_stays node there = subst (λ xs. Contains xs node) (sym front_more) (Contains-append_left (take i list) (get_or list i 0 ∷ []) node there)

  front_last : Contains (take (i + 1) list) (get_or list i 0)
  front_last = subst (λ xs. Contains xs (get_or list i 0)) (sym front_more) (Contains-push (take i list) (get_or list i 0))

-- ---- one rail

-- nothing is written yet
WritesRailAt-none : (rail : Tern → Bool) (column : ℕ) (state : List Tern) (words : List ℕ) → WritesRailAt (Contains []) rail column state words words
WritesRailAt-none rail column state words = record {
  counted = refl;
  here = λ node there. absurd (omega (arith, there.1));
  elsewhere = λ node out. refl;
  others = λ other node few apart. refl;
}

-- one node more is written
module _ (rail : Tern → Bool) (column : ℕ) (list : List ℕ) (i : ℕ) (within : i < length list) (state : List Tern) (old mid : List ℕ) (word : ℕ)
    (so_far : WritesRailAt (Contains (take i list)) rail column state old mid) (inside : get_or list i 0 < length mid)
    (is : is_in_column column word ≡ rail (state_at state (get_or list i 0)))
    (others : (other : ℕ) → other < 64 → other ≢ column → is_in_column other word ≡ is_in_column other (get_or mid (get_or list i 0) 0)) where
  -- at this node the word is the new one, and elsewhere the old one
  at_it : (node : ℕ) → node ≡ get_or list i 0 → get_or (set mid (get_or list i 0) word) node 0 ≡ word
  at_it node same = ap (λ k. get_or (set mid (get_or list i 0) word) k 0) same ∙ get_or-set_same mid (get_or list i 0) word 0 inside

  elsewhere : (node : ℕ) → node ≢ get_or list i 0 → get_or (set mid (get_or list i 0) word) node 0 ≡ get_or mid node 0
  elsewhere node differs = get_or-set_other mid (get_or list i 0) node word 0 differs

  pub WritesRailAt-more : WritesRailAt (Contains (take (i + 1) list)) rail column state old (set mid (get_or list i 0) word)
  WritesRailAt-more = record {
    counted = length-set mid (get_or list i 0) word ∙ so_far.counted;
    here = λ node there. elim (cases_eq node (get_or list i 0)) [
      | inl same ↦ ap (is_in_column column) (at_it node same) ∙ is ∙ ap (λ k. rail (state_at state k)) (sym same)
      | inr differs ↦ ap (is_in_column column) (elsewhere node differs) ∙ elim (front_cases list i within node there) [
        | inl before ↦ so_far.here node before
        | inr last ↦ absurd (differs (sym last))
      ]
    ];
    elsewhere = λ node out.
        elsewhere node (λ same. out (subst (Contains (take (i + 1) list)) (sym same) (front_last list i within)))
        ∙ so_far.elsewhere node (λ before. out (front_stays list i within node before));
    others = λ other node few apart. elim (cases_eq node (get_or list i 0)) [
      | inl same ↦
          ap (is_in_column other) (at_it node same) ∙ others other few apart ∙ ap (λ k. is_in_column other (get_or mid k 0)) (sym same)
          ∙ so_far.others other node few apart
      | inr differs ↦ ap (is_in_column other) (elsewhere node differs) ∙ so_far.others other node few apart
    ];
  }

-- what is written at nodes is written at those that are the same
WritesRailAt-as : {These Those : ℕ → Type 0} (rail : Tern → Bool) (column : ℕ) (state : List Tern) (old new : List ℕ) → ((node : ℕ) → Those node → These node) →
    ((node : ℕ) → These node → Those node) → WritesRailAt These rail column state old new → WritesRailAt Those rail column state old new
WritesRailAt-as rail column state old new from to writes = record {
  counted = writes.counted;
  here = λ node there. writes.here node (from node there);
  elsewhere = λ node out. writes.elsewhere node (λ there. out (to node there));
  others = writes.others;
}

module _ (rail : Tern → Bool) (column : ℕ) (state : List Tern) (old new : List ℕ) (writes : WritesRail rail column state old new)
    (counted : length state ≡ length old) where
  -- in the column that was written the words are the states' rail
  rail_written : column_bits column new ≡ map rail state
  rail_written =
      ext_get_or false (column_bits column new) (map rail state)
      (length-column_bits column new ∙ (writes.counted ∙ (sym counted ∙ sym (length-map state rail))))
      (λ node inside.
      let within : node < length new = omega (arith, inside, length-column_bits column new) in
      let there : node < length state = omega (arith, within, writes.counted, counted) in
      column_bits-at column new node within ∙ (writes.here node there ∙ sym (get_or-map rail state node Zero false there)))

  -- and in another one what they were
  rail_kept : (other : ℕ) → other < 64 → other ≢ column → column_bits other new ≡ column_bits other old
  rail_kept other few apart =
      ext_get_or false (column_bits other new) (column_bits other old)
      (length-column_bits other new ∙ (writes.counted ∙ sym (length-column_bits other old)))
      (λ node inside.
      let within : node < length new = omega (arith, inside, length-column_bits other new) in
      column_bits-at other new node within
      ∙ (writes.others other node few apart ∙ sym (column_bits-at other old node (omega (arith, within, writes.counted)))))

-- ---- both rails

pub WritesAt-none : (column : ℕ) (state : List Tern) (hi lo : List ℕ) → WritesAt (Contains []) column state hi lo hi lo
WritesAt-none column state hi lo = record { ones = WritesRailAt-none may_one column state hi; zeros = WritesRailAt-none may_zero column state lo }

pub WritesAt-as : {These Those : ℕ → Type 0} (column : ℕ) (state : List Tern) (hi lo new_hi new_lo : List ℕ) →
    ((node : ℕ) → Those node → These node) →
    ((node : ℕ) → These node → Those node) → WritesAt These column state hi lo new_hi new_lo → WritesAt Those column state hi lo new_hi new_lo
WritesAt-as column state hi lo new_hi new_lo from to writes = record {
  ones = WritesRailAt-as may_one column state hi new_hi from to writes.ones;
  zeros = WritesRailAt-as may_zero column state lo new_lo from to writes.zeros;
}

module _ (column : ℕ) (state : List Tern) (hi lo new_hi new_lo : List ℕ) (writes : Writes column state hi lo new_hi new_lo)
    (counted : length state ≡ length hi) (even : length lo ≡ length hi) where
  pub AreRailsIn-written : AreRailsIn column new_hi new_lo state
  AreRailsIn-written = record {
    ones = rail_written may_one column state hi new_hi writes.ones counted;
    zeros = rail_written may_zero column state lo new_lo writes.zeros (counted ∙ sym even);
  }

  pub AreRailsIn-kept : (other : ℕ) → other < 64 → other ≢ column → (states : List Tern) → AreRailsIn other hi lo states →
      AreRailsIn other new_hi new_lo states
  AreRailsIn-kept other few apart states has = record {
    ones = rail_kept may_one column state hi new_hi writes.ones counted other few apart ∙ has.ones;
    zeros = rail_kept may_zero column state lo new_lo writes.zeros (counted ∙ sym even) other few apart ∙ has.zeros;
  }

-- ---- a column is written

-- the states of some machine were written into a column of one that takes turns
module _ (m : TurnData) (is : IsTurnMachine m) (column : ℕ) (within : column < m.columns) (machine : MachineData) (same_count : length machine.state ≡ length m.hi)
    (hi lo : List ℕ) (writes : Writes column machine.state m.hi m.lo hi lo) where
  abbrev written : TurnData
  written = record m { machine = machine; hi = hi; lo = lo }

  small : (other : ℕ) → other < m.columns → other < 64
  small other below = omega (arith, below, is.few)

  was_even : length m.lo ≡ length m.hi
  was_even = is.columns_are.counted

  new_even : length lo ≡ length hi
  new_even = writes.zeros.counted ∙ (was_even ∙ sym writes.ones.counted)

  -- the column has the machine's states
  has_here : AreRailsIn column hi lo machine.state
  has_here = AreRailsIn-written column machine.state m.hi m.lo hi lo writes same_count was_even

  pub column_here : column_states column hi lo ≡ machine.state
  column_here = column_states-has column hi lo new_even machine.state has_here

  -- the others have theirs
  kept : (other : ℕ) → other < m.columns → other ≢ column → AreRailsIn other hi lo (column_states other m.hi m.lo)
  kept other below apart =
      AreRailsIn-kept column machine.state m.hi m.lo hi lo writes same_count was_even other (small other below) apart (column_states other m.hi m.lo)
      (is.columns_are.each other below)

  pub column_kept : (other : ℕ) → other < m.columns → other ≢ column → column_states other hi lo ≡ column_states other m.hi m.lo
  column_kept other below apart = column_states-has other hi lo new_even (column_states other m.hi m.lo) (kept other below apart)

  has_each : (other : ℕ) → other < m.columns → AreRailsIn other hi lo (column_states other hi lo)
  has_each other below = elim (cases_eq other column) [
    | inl same ↦ subst (λ k. AreRailsIn k hi lo (column_states k hi lo)) (sym same) (subst (AreRailsIn column hi lo) (sym column_here) has_here)
    | inr apart ↦ subst (AreRailsIn other hi lo) (sym (column_kept other below apart)) (kept other below apart)
  ]

  -- so it takes turns still
  pub IsTurnMachine-written : IsTurnMachine written
  IsTurnMachine-written = record {
    few = is.few;
    columns_are = record { counted = new_even; each = has_each };
    counted = same_count ∙ sym writes.ones.counted;
  }

-- ---- loading

-- nothing is loaded yet
pub IsLoaded-none : (g : GraphData) (column : ℕ) (hi lo : List ℕ) (m : MachineData) → IsLoaded g column (Contains []) hi lo m m
IsLoaded-none g column hi lo m = record {
  nodes = refl;
  fits = λ fits. fits;
  here = λ node there. absurd (omega (arith, there.1));
  elsewhere = λ node out. refl;
  rails = λ node below. refl;
}

-- one node more is loaded, if it is no rail
module _ (g : GraphData) (column : ℕ) (list : List ℕ) (i : ℕ) (within : i < length list) (hi lo : List ℕ) (old mid new : MachineData) (value : Tern)
    (so_far : IsLoaded g column (Contains (take i list)) hi lo old mid) (inside : get_or list i 0 < length mid.state)
    (is : value ≡ state_at (column_states column hi lo) (get_or list i 0)) (count : length new.state ≡ length mid.state)
    (placed : RAILS ≤ get_or list i 0 → new.state ≡ set mid.state (get_or list i 0) value)
    (left : get_or list i 0 < RAILS → new.state ≡ mid.state) (fits : FitsGraph g mid → FitsGraph g new) where
  -- all other nodes stay
  apart : (node : ℕ) → node ≢ get_or list i 0 → state_at new.state node ≡ state_at mid.state node
  apart node differs = elim (cases_lt (get_or list i 0) RAILS) [
    | inl rail ↦ ap (λ s. state_at s node) (left rail)
    | inr free ↦ ap (λ s. state_at s node) (placed free) ∙ get_or-set_other mid.state (get_or list i 0) node value Zero differs
  ]

  pub IsLoaded-more : IsLoaded g column (Contains (take (i + 1) list)) hi lo old new
  IsLoaded-more = record {
    nodes = count ∙ so_far.nodes;
    fits = λ fit. fits (so_far.fits fit);
    here = λ node there free. elim (cases_eq node (get_or list i 0)) [
      | inl same ↦
          let no_rail : RAILS ≤ get_or list i 0 = omega (arith, free, same) in
          ap₂ state_at (placed no_rail) same
          ∙ (get_or-set_same mid.state (get_or list i 0) value Zero inside ∙ (is ∙ ap (state_at (column_states column hi lo)) (sym same)))
      | inr differs ↦ apart node differs ∙ elim (front_cases list i within node there) [
        | inl before ↦ so_far.here node before free
        | inr last ↦ absurd (differs (sym last))
      ]
    ];
    elsewhere = λ node out.
        apart node (λ same. out (subst (Contains (take (i + 1) list)) (sym same) (front_last list i within)))
        ∙ so_far.elsewhere node (λ before. out (front_stays list i within node before));
    rails = λ node below. elim (cases_eq node (get_or list i 0)) [
      | inl same ↦ ap (λ s. state_at s node) (left (omega (arith, below, same))) ∙ so_far.rails node below
      | inr differs ↦ apart node differs ∙ so_far.rails node below
    ];
  }

-- what is loaded at nodes is loaded at those that are the same
pub IsLoaded-as : {These Those : ℕ → Type 0} (g : GraphData) (column : ℕ) (hi lo : List ℕ) (old new : MachineData) → ((node : ℕ) → Those node → These node) →
    ((node : ℕ) → These node → Those node) → IsLoaded g column These hi lo old new → IsLoaded g column Those hi lo old new
IsLoaded-as g column hi lo old new from to loaded = record {
  nodes = loaded.nodes;
  fits = loaded.fits;
  here = λ node there. loaded.here node (from node there);
  elsewhere = λ node out. loaded.elsewhere node (λ there. out (to node there));
  rails = loaded.rails;
}

-- ---- what is even

module _ (g : GraphData) (used : ℕ) (uneven spare : List Bool) (m : TurnData) (turning : IsTurning used uneven spare m) (column : ℕ) (within : column < m.columns) where
  -- a machine into which the uneven nodes of a column are loaded takes turns still
  pub IsTurning-loaded : (machine : MachineData) → IsLoaded g column (IsIn uneven) m.hi m.lo m.machine machine → IsTurning used uneven spare (record m { machine = machine })
  IsTurning-loaded machine loaded = record {
    is = record { few = turning.is.few; columns_are = turning.is.columns_are; counted = loaded.nodes ∙ turning.is.counted };
    used_are = turning.used_are;
    even = record { counted = turning.even.counted; even = λ one node below inside out. turning.even.even one node below inside out ∙ sym (loaded.elsewhere node out) };
    room = turning.room;
  }

  -- it has the column's state, if both are sound
  pub loaded_state : (machine : MachineData) → IsLoaded g column (IsIn uneven) m.hi m.lo m.machine machine → IsSound m.machine.state → IsSound (column_states column m.hi m.lo) →
      machine.state ≡ column_states column m.hi m.lo
  loaded_state machine loaded was will =
      let long = length-column_states column m.hi m.lo turning.is.columns_are.counted in
      ext_get_or Zero machine.state (column_states column m.hi m.lo) (loaded.nodes ∙ (turning.is.counted ∙ sym long)) (λ node inside.
      by node (omega (arith, inside, loaded.nodes, turning.is.counted)))
    where
      free : (node : ℕ) → RAILS ≤ node → node < length m.hi → state_at machine.state node ≡ state_at (column_states column m.hi m.lo) node
      free node no_rail inside = elim (in_or_out uneven node) [
        | inl there ↦ loaded.here node there no_rail
        | inr out ↦ loaded.elsewhere node out ∙ sym (turning.even.even column node within inside out)
      ]

      by : (node : ℕ) → node < length m.hi → state_at machine.state node ≡ state_at (column_states column m.hi m.lo) node
      by zero inside = loaded.rails 0 (omega arith) ∙ (was.gnd ∙ sym will.gnd)
      by (suc zero) inside = loaded.rails 1 (omega arith) ∙ (was.vdd ∙ sym will.vdd)
      by (suc (suc node)) inside = free (suc (suc node)) (omega arith) inside

  -- once its states at the uneven nodes are written into a column, they are written there at all nodes
  pub Writes-even : (hi lo : List ℕ) → WritesAt (IsIn uneven) column m.machine.state m.hi m.lo hi lo → Writes column m.machine.state m.hi m.lo hi lo
  Writes-even hi lo writes = record {
    ones = record {
      counted = writes.ones.counted;
      here = λ node inside. elim (in_or_out uneven node) [
        | inl among ↦ writes.ones.here node among
        | inr out ↦
            let there : node < length m.hi = omega (arith, inside, turning.is.counted) in
            ap (is_in_column column) (writes.ones.elsewhere node out)
            ∙ high_at_node column m.hi m.lo (column_states column m.hi m.lo) (turning.is.columns_are.each column within) node there
            ∙ ap may_one (turning.even.even column node within there out)
      ];
      others = writes.ones.others;
    };
    zeros = record {
      counted = writes.zeros.counted;
      here = λ node inside. elim (in_or_out uneven node) [
        | inl among ↦ writes.zeros.here node among
        | inr out ↦
            let there : node < length m.hi = omega (arith, inside, turning.is.counted) in
            ap (is_in_column column) (writes.zeros.elsewhere node out)
            ∙ low_at_node column m.hi m.lo (column_states column m.hi m.lo) (turning.is.columns_are.each column within)
            turning.is.columns_are.counted node there
            ∙ ap may_zero (turning.even.even column node within there out)
      ];
      others = writes.zeros.others;
    };
  }

  -- and it takes turns still
  pub IsTurning-written : (hi lo : List ℕ) → Writes column m.machine.state m.hi m.lo hi lo →
      IsTurning used uneven spare (record m { hi = hi; lo = lo })
  IsTurning-written hi lo writes = record {
    is = IsTurnMachine-written m turning.is column within m.machine turning.is.counted hi lo writes;
    used_are = turning.used_are;
    even = record {
      counted = turning.even.counted ∙ sym writes.ones.counted;
      even = λ one node below inside out. elim (cases_eq one column) [
        | inl same ↦
            ap (λ k. state_at (column_states k hi lo) node) same
            ∙ ap (λ s. state_at s node) (column_here m turning.is column within m.machine turning.is.counted hi lo writes)
        | inr apart ↦
            ap (λ s. state_at s node) (column_kept m turning.is column within m.machine turning.is.counted hi lo writes one below apart)
            ∙ turning.even.even one node below (omega (arith, inside, writes.ones.counted)) out
      ];
    };
    room = turning.room ∙ sym writes.ones.counted;
  }

-- a machine that moved takes turns still, if the nodes at which its state changed are uneven
pub IsTurning-moved : (used : ℕ) (uneven new spare : List Bool) (m : TurnData) (machine : MachineData) (told : List ℕ) → IsTurning used uneven spare m →
    ListsChanges told m.machine.state machine.state → MarksAll (Contains told) uneven new → IsTurning used new spare (record m { machine = machine })
IsTurning-moved used uneven new spare m machine told turning lists puts = record {
  is = record { few = turning.is.few; columns_are = turning.is.columns_are; counted = lists.count ∙ turning.is.counted };
  used_are = turning.used_are;
  even = record {
    counted = puts.count ∙ turning.even.counted;
    even = λ one node below inside out.
        turning.even.even one node below inside (λ was. out (puts.stays node was))
        ∙ unmoved node (omega (arith, inside, turning.is.counted)) out (same_or_not (state_at machine.state node) (state_at m.machine.state node));
  };
  room = turning.room;
}
  where
    unmoved : (node : ℕ) → node < length m.machine.state → (¬ IsIn new node) → (state_at machine.state node ≡ state_at m.machine.state node) ⊎
        (state_at machine.state node ≢ state_at m.machine.state node) → state_at m.machine.state node ≡ state_at machine.state node
    unmoved node inside out (inl same) = sym same
    unmoved node inside out (inr differs) = absurd (out (puts.set node (lists.each node inside differs)))

-- and so does one whose states are the same
pub IsTurning-counted : (used : ℕ) (uneven spare : List Bool) (m : TurnData) (machine : MachineData) → IsTurning used uneven spare m →
    machine.state ≡ m.machine.state → IsTurning used uneven spare (record m { machine = machine })
IsTurning-counted used uneven spare m machine turning same = record {
  is = record { few = turning.is.few; columns_are = turning.is.columns_are; counted = ap length same ∙ turning.is.counted };
  used_are = turning.used_are;
  even = record {
    counted = turning.even.counted;
    even = λ one node below inside out.
        turning.even.even one node below inside out ∙ ap (λ (state : List Tern). state_at state node) (sym same);
  };
  room = turning.room;
}

-- where a node that is no longer uneven has the machine's state in all columns, it takes turns with those that stay uneven
pub IsTurning-evened : (used : ℕ) (uneven spare left stay : List Bool) (m : TurnData) → IsTurning used uneven spare m → length left ≡ length uneven → length stay ≡ length spare →
    ((column node : ℕ) → column < 64 → is_in_column column used ≡ true → node < length m.hi → IsIn uneven node → (¬ IsIn stay node) →
    state_at (column_states column m.hi m.lo) node ≡ state_at m.machine.state node) → IsTurning used stay left m
IsTurning-evened used uneven spare left stay m turning fewer as_many all = record {
  is = turning.is;
  used_are = turning.used_are;
  even = record {
    counted = as_many ∙ turning.room;
    even = λ column node below inside out. elim (in_or_out uneven node) [
      | inl among ↦ all column node (omega (arith, below, turning.is.few)) (turning.used_are column ∙ lt-ltb _ _ below) inside among out
      | inr never ↦ turning.even.even column node below inside never
    ];
  };
  room = fewer ∙ turning.even.counted;
}

-- at the start, if each node is uneven, the machine takes turns
pub IsTurning-start : (used : ℕ) (uneven spare : List Bool) (m : TurnData) → IsTurnMachine m → AreUsed m.columns used → length uneven ≡ length m.hi →
    length spare ≡ length m.hi → ((node : ℕ) → node < length m.hi → IsIn uneven node) → IsTurning used uneven spare m
IsTurning-start used uneven spare m is used_are counted room each = record {
  is = is;
  used_are = used_are;
  even = record { counted = counted; even = λ column node below inside out. absurd (out (each node inside)) };
  room = room;
}

-- a column moves: its states are loaded, the machine moves, and its states at the uneven nodes are written
pub RunsOne-from : (g : GraphData) (limit : Option ℕ) (column : ℕ) (used next_used : ℕ) (uneven spare next_uneven next_spare : List Bool) (m new : TurnData) (loaded : MachineData)
    (hi lo : List ℕ) (settled : Settled) → IsTurning used uneven spare m → column < m.columns →
    IsLoaded g column (IsIn uneven) m.hi m.lo m.machine loaded →
    words_of new ≡ words_of m → (FitsGraph g loaded → FitsGraph g new.machine) →
    (FitsGraph g loaded → MovesBy g limit loaded.state new.machine.state settled) → IsTurning next_used next_uneven next_spare new →
    WritesAt (IsIn next_uneven) column new.machine.state new.hi new.lo hi lo → RunsOne g limit column m.machine new.machine m.hi m.lo hi lo settled
RunsOne-from g limit column used next_used uneven spare next_uneven next_spare m new loaded hi lo settled turning within load words fits moves next writes =
    let below : column < new.columns = omega (arith, within, ap (λ (words : ℕ × (List ℕ × List ℕ)). words.0) words) in
    let all : Writes column new.machine.state new.hi new.lo hi lo =
    Writes-even g next_used next_uneven next_spare new next column below hi lo writes in
    record {
      counted = next.is.counted ∙ sym all.ones.counted;
      writes = subst (λ (words : ℕ × (List ℕ × List ℕ)). Writes column new.machine.state words.1.0 words.1.1 hi lo) words all;
      fits = λ fit. fits (load.fits fit);
      moves = λ fit sound.
          subst (λ (state : List Tern). MovesBy g limit state new.machine.state settled)
          (loaded_state g used uneven spare m turning column within loaded load fit.sound sound) (moves (load.fits fit));
    }

-- ---- turns

-- no column moved yet
pub HaveRun-none : (g : GraphData) (limit : Option ℕ) (m : TurnData) (out : List Settled) → IsTurnMachine m → HaveRun g limit 0 m m out
HaveRun-none g limit m out is = record {
  is_machine = is;
  columns = refl;
  highs = refl;
  still = λ column from inside. refl;
  fits = λ fit. fit.fits;
  sound = λ fit column inside. absurd (omega (arith, inside));
  moved = λ fit column past inside. absurd (omega (arith, inside));
}

-- one column more moved
module _ (g : GraphData) (limit : Option ℕ) (column : ℕ) (old mid : TurnData) (out : List Settled) (machine : MachineData) (hi lo : List ℕ) (settled : Settled)
    (so_far : HaveRun g limit column old mid out) (inside : column < old.columns) (places : length out ≡ old.columns)
    (one : RunsOne g limit column mid.machine machine mid.hi mid.lo hi lo settled) where
  abbrev new : TurnData
  new = record mid { machine = machine; hi = hi; lo = lo }

  within : column < mid.columns
  within = omega (arith, inside, so_far.columns)

  counted : length machine.state ≡ length mid.hi
  counted = one.counted ∙ one.writes.ones.counted

  -- the column that moved has the machine's states
  moved_column : column_states column hi lo ≡ machine.state
  moved_column = column_here mid so_far.is_machine column within machine counted hi lo one.writes

  -- the others have theirs
  still_column : (other : ℕ) → other < mid.columns → other ≢ column → column_states other hi lo ≡ column_states other mid.hi mid.lo
  still_column = column_kept mid so_far.is_machine column within machine counted hi lo one.writes

  -- a column that has moved is one of those that are there
  below_one : (other : ℕ) → other < column + 1 → other < mid.columns
  below_one other before = omega (arith, before, within)

  -- the column was as it is at the start, and sound then
  start_here : column_states column mid.hi mid.lo ≡ column_states column old.hi old.lo
  start_here = so_far.still column (omega arith) inside

  sound_here : FitsInTurn g old → IsSound (column_states column mid.hi mid.lo)
  sound_here fit = subst IsSound (sym start_here) (fit.sound column inside)

  moved_here : FitsInTurn g old → MovesBy g limit (column_states column old.hi old.lo) (column_states column hi lo) settled
  moved_here fit =
      subst (λ s. MovesBy g limit s (column_states column hi lo) settled) start_here
      (subst (λ s. MovesBy g limit (column_states column mid.hi mid.lo) s settled) (sym moved_column) (one.moves (so_far.fits fit) (sound_here fit)))

  sound_next : FitsInTurn g old → (other : ℕ) → other < column + 1 → IsSound (column_states other hi lo)
  sound_next fit other before = elim (cases_eq other column) [
    | inl same ↦ subst (λ k. IsSound (column_states k hi lo)) (sym same) (subst IsSound (sym moved_column) (one.fits (so_far.fits fit)).sound)
    | inr apart ↦ subst IsSound (sym (still_column other (below_one other before) apart)) (so_far.sound fit other (omega (arith, before, apart)))
  ]

  moved_next : FitsInTurn g old → (other : ℕ) (past : Settled) → other < column + 1 →
      MovesBy g limit (column_states other old.hi old.lo) (column_states other hi lo) (get_or (set out column settled) other past)
  moved_next fit other past before = elim (cases_eq other column) [
    | inl same ↦
        subst (λ k. MovesBy g limit (column_states k old.hi old.lo) (column_states k hi lo) (get_or (set out column settled) k past)) (sym same)
        (subst (MovesBy g limit (column_states column old.hi old.lo) (column_states column hi lo)) (sym (get_or-set_same out column settled past (omega (arith, inside, places)))) (moved_here fit))
    | inr apart ↦
        subst (MovesBy g limit (column_states other old.hi old.lo) (column_states other hi lo))
        (sym (get_or-set_other out column other settled past apart))
        (subst (λ s. MovesBy g limit (column_states other old.hi old.lo) s (get_or out other past))
        (sym (still_column other (below_one other before) apart))
        (so_far.moved fit other past (omega (arith, before, apart))))
  ]

  pub HaveRun-next : HaveRun g limit (column + 1) old new (set out column settled)
  HaveRun-next = record {
    is_machine = IsTurnMachine-written mid so_far.is_machine column within machine counted hi lo one.writes;
    columns = so_far.columns;
    highs = one.writes.ones.counted ∙ so_far.highs;
    still = λ other from below.
        still_column other (omega (arith, below, so_far.columns)) (λ same. absurd (omega (arith, from, same))) ∙ so_far.still other (omega (arith, from)) below;
    fits = λ fit. one.fits (so_far.fits fit);
    sound = sound_next;
    moved = moved_next;
  }

-- once all have moved, the machine and the columns fit the graph
pub FitsInTurn-run : (g : GraphData) (limit : Option ℕ) (old new : TurnData) (out : List Settled) → HaveRun g limit old.columns old new out → FitsInTurn g old → FitsInTurn g new
FitsInTurn-run g limit old new out run fit = record {
  fits = run.fits fit;
  even = run.is_machine.columns_are.counted;
  sound = λ column inside. run.sound fit column (omega (arith, inside, run.columns));
}

-- ---- placed words

-- a node gets words, and has the machine's state in each column then or is uneven
pub IsTurning-placed : (used : ℕ) (uneven new spare : List Bool) (m : TurnData) (node high low : ℕ) → IsTurning used uneven spare m → node < length m.hi →
    HasStates m.columns high low → length new ≡ length uneven → ((other : ℕ) → IsIn uneven other → IsIn new other) →
    (IsIn new node ⊎ ((column : ℕ) → column < 64 → is_in_column column used ≡ true → state_in column (high, low) ≡ state_at m.machine.state node)) →
    IsTurning used new spare (record m { hi = set m.hi node high; lo = set m.lo node low })
IsTurning-placed used uneven new spare m node high low turning inside states count stays there = record {
  is = record {
    few = turning.is.few;
    columns_are = record {
      counted = length-set m.lo node low ∙ (turning.is.columns_are.counted ∙ sym long);
      each = λ column within.
          AreRailsIn-placed column node high low m.hi m.lo turning.is.columns_are.counted inside (states column within)
          (turning.is.columns_are.each column within);
    };
    counted = turning.is.counted ∙ sym long;
  };
  used_are = turning.used_are;
  even = record {
    counted = count ∙ (turning.even.counted ∙ sym long);
    even = λ column other below within out.
        ap (λ s. state_at s other) (column_states-placed column node high low m.hi m.lo turning.is.columns_are.counted inside)
        ∙ by column other below (omega (arith, within, long)) out (cases_eq other node) there;
  };
  room = turning.room ∙ sym long;
}
  where
    long : length (set m.hi node high) ≡ length m.hi
    long = length-set m.hi node high

    by : (column other : ℕ) → column < m.columns → other < length m.hi → (¬ IsIn new other) → (other ≡ node) ⊎ (other ≢ node) →
        (IsIn new node ⊎ ((column : ℕ) → column < 64 → is_in_column column used ≡ true →
        state_in column (high, low) ≡ state_at m.machine.state node)) →
        state_at (set (column_states column m.hi m.lo) node (state_in column (high, low))) other ≡ state_at m.machine.state other
    by column other below within out (inl same) (inl placed) = absurd (out (subst (IsIn new) (sym same) placed))
    by column other below within out (inl same) (inr all) =
        ap (state_at (set (column_states column m.hi m.lo) node (state_in column (high, low)))) same
        ∙ get_or-set_same (column_states column m.hi m.lo) node (state_in column (high, low)) Zero (omega (arith, inside, length-column_states column m.hi m.lo turning.is.columns_are.counted))
        ∙ all column (omega (arith, below, turning.is.few)) (turning.used_are column ∙ lt-ltb _ _ below) ∙ ap (state_at m.machine.state) (sym same)
    by column other below within out (inr differs) placed =
        get_or-set_other (column_states column m.hi m.lo) node other (state_in column (high, low)) Zero differs
        ∙ turning.even.even column other below within (λ was. out (stays other was))

-- a state stays sound where a node is placed that is no rail
sound-placed : (state : List Tern) (node : ℕ) (value : Tern) → RAILS ≤ node → IsSound state → IsSound (set state node value)
sound-placed state node value no_rail sound = record {
  gnd = get_or-set_other state node 0 value Zero (λ same. absurd (omega (arith, same, no_rail))) ∙ sound.gnd;
  vdd = get_or-set_other state node 1 value Zero (λ same. absurd (omega (arith, same, no_rail))) ∙ sound.vdd;
}

-- so the columns do
pub FitsInTurn-placed : (g : GraphData) (m : TurnData) (node high low : ℕ) → node < length m.hi → RAILS ≤ node → FitsInTurn g m →
    FitsInTurn g (record m { hi = set m.hi node high; lo = set m.lo node low })
FitsInTurn-placed g m node high low inside no_rail fit = record {
  fits = fit.fits;
  even = length-set m.lo node low ∙ (fit.even ∙ sym (length-set m.hi node high));
  sound = λ column within.
      subst IsSound (sym (column_states-placed column node high low m.hi m.lo fit.even inside))
      (sound-placed (column_states column m.hi m.lo) node _ no_rail (fit.sound column within));
}

-- ---- the start

-- columns whose words are the rails of sound states fit the graph, if the machine does
pub FitsInTurn-fresh : (g : GraphData) (machine : MachineData) (columns : ℕ) (hi lo : List ℕ) → FitsGraph g machine → length lo ≡ length hi →
    ((column : ℕ) → column < columns → HasSoundColumn g hi lo column) →
    FitsInTurn g (record { columns = columns; machine = machine; hi = hi; lo = lo })
FitsInTurn-fresh g machine columns hi lo fits even sound = record {
  fits = fits;
  even = even;
  sound = λ column inside.
      let has = sound column inside in
      subst IsSound (sym (column_states-has column hi lo even has.state has.has)) has.sound;
}
