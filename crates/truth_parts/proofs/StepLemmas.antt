-- What a step does in each column, from what was noted and written: which nodes take which states, which parts are marked, and whether some
-- column changed.
use Rattle.std.proofs.Common.{◌≡◌, ◌≢◌, ℕ, ◌<◌, ◌⊎◌, Bool, true, false, not, ◌==◌, inl, inr, List, [], ◌∷◌, length, Global, Vec, refl, sym, ap, subst, ◌∙◌, true≢false, eqb-true, arith}
use Rattle.std.specs.Prelude.{Contains}
use Rattle.std.proofs.lemmas.Bool.{cases_lt}
use Rattle.std.proofs.lemmas.List.{ext_get_or, get_or_past, nil_from_length}
use Rattle.std.proofs.lemmas.List.Elements.{Contains-get_or}
use Rattle.ternary.specs.declared.tern.Tern.{Tern}
use Rattle.ternary.specs.declared.tern.Tern.TheVariants.{Zero, Unk}
use Rattle.ternary.specs.Tern.{may_one, may_zero}
use Rattle.ternary.proofs.TernLemmas.{join-fades}
use Rattle.switch_paths.specs.Switching.{state_at}
use Rattle.settling.specs.Settling.{StaysOrBecomesX}
use Rattle.part_words.specs.Noting.{after}
use Rattle.machine_parts.specs.declared.part.MachinePart.{MachinePart}
use Rattle.machine_parts.specs.Marking.{IsMarked, MarksAll}
use Rattle.machine_parts.specs.Stepping.{IsGiven, Moves, StaysMarked}
use Rattle.machine_parts.proofs.PartLemmas.{given_once}
use Rattle.machine_laws.specs.Columns.{KeepsMarks}
use Rattle.part_lists.specs.Listing.{listed_at, IsAmong}
use Rattle.truth_columns.specs.Columns.{HasColumn}
use Rattle.truth_columns.proofs.ColumnLemmas.{high_counted, high_rail, low_rail}
use Rattle.truth_parts.specs.declared.workspace.TruthChange.{TruthChange}
use Rattle.truth_parts.specs.Columns.{rail_in, states_in, IsColumn, AreColumns}
use Rattle.truth_parts.specs.Noting.{HasChange}
use Rattle.truth_parts.specs.Evaluating.{AreTaken, Evaluated, Rooms, IsSeated}
use Rattle.truth_parts.specs.Stepping.{IsRunnable, IsLeftAt, AreWritten, MovesSome, ReadsAny, StepsInAll, StepsTo}
use Rattle.truth_parts.proofs.ColumnLemmas.{length-states, state-value, states-has, HasColumn-each}
use Rattle.truth_parts.proofs.TakingLemmas.{rail-at, rail-stays}

-- in a joining step a node stays or becomes X
after-fades : (joining : Bool) → joining ≡ true → (s t : Tern) → (after joining s t ≡ s) ⊎ (after joining s t ≡ Unk)
after-fades true is s t = join-fades s t
after-fades false is s t = absurd (cc)

-- a list of changes that isn't empty has one
pub some_change : {A : Type 0} → (changes : List (TruthChange A)) → changes ≢ [] → (change : TruthChange A) × Contains changes change
some_change [] some = absurd (some refl)
some_change (change ∷ changes) some = (change, Contains-get_or (change ∷ changes) 0 change (omega arith))

-- whether a list isn't empty is told by its length
pub some_noted : {A : Type 0} → (changes : List A) (count : ℕ) → count ≡ length changes → (empty : Bool) → empty ≡ (count == 0) → not empty ≡ true → changes ≢ []
some_noted changes count counted empty is moved none =
    let zero : count ≡ 0 = counted ∙ ap length none in
    let yes : empty ≡ true = is ∙ ap (λ n. n == 0) zero in
    absurd (true≢false (sym moved ∙ ap not yes))

pub none_noted : {A : Type 0} → (changes : List A) (count : ℕ) → count ≡ length changes → (empty : Bool) → empty ≡ (count == 0) → not empty ≡ false → changes ≡ []
none_noted changes count counted true is still = nil_from_length changes (sym counted ∙ eqb-true count 0 (sym is))
none_noted changes count counted false is still = absurd (true≢false still)

module _ {A : Type 0} (joining : Bool) (columns : ℕ) (holds : A → ℕ → Bool) (parts : List MachinePart) (marks : List Bool) (hi lo : List A)
    (readers : List (Vec ℕ Global)) (room : Rooms) (runs : IsRunnable parts marks (length hi) readers room) (even : length lo ≡ length hi)
    (first : List Bool) (changes : List (TruthChange A)) (done : List ℕ) (took : AreTaken marks first done)
    (evaluated : Evaluated joining parts columns holds hi lo changes done) (rest : (k : ℕ) → ¬ IsMarked first k)
    (new_hi new_lo : List A) (written : AreWritten changes hi lo new_hi new_lo) where
  -- a node of which there is a change is there
  change_inside : (change : TruthChange A) → Contains changes change → change.node < length hi
  change_inside change there = let (k, contained, made) = evaluated.only change there in made.inside

  module _ (column : ℕ) (state : List Tern) (col : IsColumn columns holds hi lo column state) where
    counted : length hi ≡ length state
    counted = high_counted holds column hi lo state col.has

    -- all marked parts together give a node one value
    given_one : (node : ℕ) (v w : Tern) → IsGiven parts marks state node v → IsGiven parts marks state node w → v ≡ w
    given_one = given_once parts state (λ k part stands. (subst (IsSeated (length hi) room) stands.here (runs.seated k part stands.inside)).seated.apart) marks runs.apart

    -- a node to which a value is given is there
    given_inside : (node : ℕ) (value : Tern) → IsGiven parts marks state node value → node < length hi
    given_inside node value given =
        let gives = given.gives in
        let seat = subst (IsSeated (length hi) room) gives.stands.here (runs.seated given.k gives.part gives.stands.inside) in
        subst (λ n. n < length hi) gives.member.here (seat.seated.below gives.place 0 gives.member.within)

    -- what a change is to: a value that is given to its node
    record IsTo (change : TruthChange A) : Type 0 where
      pub value : Tern
      pub given : IsGiven parts marks state change.node value
      pub one : holds change.hi column ≡ may_one (after joining (state_at state change.node) value)
      pub zero : holds change.lo column ≡ may_zero (after joining (state_at state change.node) value)

    change_is_to : (change : TruthChange A) → Contains changes change → IsTo change
    change_is_to change there =
        let (k, contained, made) = evaluated.only change there in
        let next = made.next column state col in
        record { value = next.given; given = record { k = k; marked = took.marked k contained; gives = next.gives }; one = next.one; zero = next.zero }

    -- a node to which a value is given has a change, or keeps its state
    noted_or_stays : (node : ℕ) (value : Tern) → IsGiven parts marks state node value →
        HasChange changes node ⊎ (after joining (state_at state node) value ≡ state_at state node)
    noted_or_stays node value given =
        elim (took.popped given.k given.marked) [
          | inl still ↦ absurd (rest given.k still)
          | inr there ↦ evaluated.noted given.k there column state col node value given.gives
        ]

    abbrev next : List Tern
    next = states_in holds column new_hi new_lo

    new_even : length new_lo ≡ length new_hi
    new_even = written.lows ∙ even ∙ sym written.highs

    one_now : (node : ℕ) → node < length hi → rail_in holds column hi node ≡ may_one (state_at state node)
    one_now node inside = high_rail holds column hi lo state col.has node inside

    zero_now : (node : ℕ) → node < length hi → rail_in holds column lo node ≡ may_zero (state_at state node)
    zero_now node inside = low_rail holds column hi lo state col.has node (omega (arith, inside, even))

    -- what becomes of a node
    record Takes (node : ℕ) : Type 0 where
      pub change : TruthChange A
      pub there : Contains changes change
      pub of_node : change.node ≡ node
      pub value : Tern
      pub given : IsGiven parts marks state node value
      pub one : rail_in holds column new_hi node ≡ may_one (after joining (state_at state node) value)
      pub zero : rail_in holds column new_lo node ≡ may_zero (after joining (state_at state node) value)

    becomes : (node : ℕ) → Takes node ⊎ IsLeftAt changes hi lo new_hi new_lo node
    becomes node =
        elim (written.each node) [
          | inl at ↦
              let to = change_is_to at.change at.there in
              let inside : node < length hi = subst (λ n. n < length hi) at.of_node (change_inside at.change at.there) in
              inl (record {
                change = at.change;
                there = at.there;
                of_node = at.of_node;
                value = to.value;
                given = subst (λ n. IsGiven parts marks state n to.value) at.of_node to.given;
                one = rail-at holds column new_hi node at.change.hi (omega (arith, inside, written.highs)) at.high
                    ∙ subst (λ n. holds at.change.hi column ≡ may_one (after joining (state_at state n) to.value)) at.of_node to.one;
                zero = rail-at holds column new_lo node at.change.lo (omega (arith, inside, written.lows, even)) at.low
                    ∙ subst (λ n. holds at.change.lo column ≡ may_zero (after joining (state_at state n) to.value)) at.of_node to.zero;
              })
          | inr left ↦ inr left
        ]

    -- a node that is left has the rails that it had
    left_one : (node : ℕ) → IsLeftAt changes hi lo new_hi new_lo node → node < length hi → rail_in holds column new_hi node ≡ may_one (state_at state node)
    left_one node left inside = rail-stays holds column hi new_hi node written.highs left.high ∙ one_now node inside

    left_zero : (node : ℕ) → IsLeftAt changes hi lo new_hi new_lo node → node < length hi → rail_in holds column new_lo node ≡ may_zero (state_at state node)
    left_zero node left inside = rail-stays holds column lo new_lo node written.lows left.low ∙ zero_now node inside

    -- each node has the rails of a state again
    pub has_next : HasColumn holds column new_hi new_lo (states_in holds column new_hi new_lo)
    has_next =
        HasColumn-each holds column new_hi new_lo new_even (λ node inside.
        let within : node < length hi = omega (arith, inside, written.highs) in
        elim (becomes node) [
          | inl takes ↦ (after joining (state_at state node) takes.value, takes.one, takes.zero)
          | inr left ↦ (state_at state node, left_one node left within, left_zero node left within)
        ])

    long : length next ≡ length state
    long = length-states holds column new_hi new_lo new_even ∙ (written.highs ∙ counted)

    -- the state that a node takes, or keeps
    taken : (node : ℕ) → node < length hi → (takes : Takes node) → state_at next node ≡ after joining (state_at state node) takes.value
    taken node inside takes =
        state-value holds column new_hi new_lo new_even node (omega (arith, inside, written.highs)) (after joining (state_at state node) takes.value) takes.one takes.zero

    left_as : (node : ℕ) → IsLeftAt changes hi lo new_hi new_lo node → state_at next node ≡ state_at state node
    left_as node left =
        elim (cases_lt node (length hi)) [
          | inl inside ↦
              state-value holds column new_hi new_lo new_even node (omega (arith, inside, written.highs)) (state_at state node) (left_one node left inside)
              (left_zero node left inside)
          | inr past ↦ get_or_past next node Zero (omega (arith, past, long, counted)) ∙ sym (get_or_past state node Zero (omega (arith, past, counted)))
        ]

    given_taken : (node : ℕ) (value : Tern) → IsGiven parts marks state node value → state_at next node ≡ after joining (state_at state node) value
    given_taken node value given =
        elim (becomes node) [
          | inl takes ↦
              taken node (given_inside node value given) takes ∙ ap (after joining (state_at state node)) (given_one node takes.value value takes.given given)
          | inr left ↦
              elim (noted_or_stays node value given) [
                | inl has ↦ absurd (left.none has.change has.there has.of_node)
                | inr stays ↦ left_as node left ∙ sym stays
              ]
        ]

    none_stays : (node : ℕ) → ((value : Tern) → ¬ IsGiven parts marks state node value) → state_at next node ≡ state_at state node
    none_stays node none =
        elim (becomes node) [
          | inl takes ↦ absurd (none takes.value takes.given)
          | inr left ↦ left_as node left
        ]

    moves : Moves joining parts marks state next
    moves = record { count = long; given = given_taken; stays = none_stays }

    -- in a joining step a node stays or becomes X
    fades : joining ≡ true → StaysOrBecomesX state next
    fades is node inside =
        elim (becomes node) [
          | inl takes ↦
              let here = taken node (omega (arith, inside, counted)) takes in
              elim (after-fades joining is (state_at state node) takes.value) [
                | inl same ↦ inl (here ∙ same)
                | inr unknown ↦ inr (here ∙ unknown)
              ]
          | inr left ↦ inl (left_as node left)
        ]

    -- if nothing is noted, the column stays
    pub stays_all : changes ≡ [] → next ≡ state
    stays_all none =
        ext_get_or Zero next state long (λ node inside.
        elim (becomes node) [
          | inl takes ↦ let (i, within, here) = subst (λ xs. Contains xs takes.change) none takes.there in absurd (omega (arith, within))
          | inr left ↦ left_as node left
        ])

    -- a change that changes its node in this column changes the column
    pub changes_column : (change : TruthChange A) → Contains changes change →
        ¬ ((holds change.hi column ≡ rail_in holds column hi change.node) × (holds change.lo column ≡ rail_in holds column lo change.node)) → next ≢ state
    changes_column change there other same =
        let node = change.node in
        let inside = change_inside change there in
        let to = change_is_to change there in
        let stays : after joining (state_at state node) to.value ≡ state_at state node =
        sym (given_taken node to.value to.given) ∙ ap (λ states. state_at states node) same in
        other (
          to.one ∙ (ap may_one stays ∙ sym (one_now node inside)),
          to.zero ∙ (ap may_zero stays ∙ sym (zero_now node inside)),
        )

    -- the marks afterwards
    module _ (second third : List Bool) (again : MarksAll (λ k. (joining ≡ true) × Contains done k) first second)
        (read : MarksAll (ReadsAny readers changes) second third) where
      stays_by : (kind : Bool) → kind ≡ joining → (k : ℕ) → StaysMarked kind parts marks k → IsMarked second k
      stays_by true is k was =
          elim (took.popped k was) [
            | inl still ↦ again.stays k still
            | inr there ↦ again.set k (sym is, there)
          ]
      stays_by false is k (was, stale) = absurd (runs.fresh k stale)

      keeps : KeepsMarks joining parts marks state next third
      keeps = record {
        count = read.count ∙ (again.count ∙ took.count);
        stays = λ k stays. read.stays k (stays_by joining refl k stays);
        reads = λ k change.
            elim (becomes change.node) [
              | inl takes ↦
                  let among : IsAmong false parts k change.node = record { part = change.reads.part; stands = change.reads.stands; among = change.reads.reads } in
                  let listed = runs.readers_are.listed change.node k among in
                  let at_node = subst (λ n. Contains (listed_at readers n) k) (sym takes.of_node) listed in
                  read.set k (record { change = takes.change; changes_it = takes.there; reads = at_node })
              | inr left ↦ absurd (change.changed (left_as change.node left))
            ];
      }

      -- the column takes a step
      pub StepsTo-taken : StepsTo joining parts marks third state (states_in holds column new_hi new_lo)
      StepsTo-taken = record { moves = moves; keeps = keeps; unknown = fades }

  -- if something is noted, some column changes
  pub MovesSome-noted : (change : TruthChange A) → Contains changes change → MovesSome columns holds hi lo new_hi new_lo
  MovesSome-noted change there =
      let (k, contained, made) = evaluated.only change there in
      let differs = made.differs in
      record {
        column = differs.column;
        inside = differs.inside;
        other = λ state has.
            changes_column differs.column state (record { inside = differs.inside; has = has }) change there
            (λ both. differs.other (record { high = both.0; low = both.1 }));
      }

  -- all columns take a step, and whether something was noted tells whether some column changed
  pub StepsInAll-taken : (second third : List Bool) → MarksAll (λ k. (joining ≡ true) × Contains done k) first second → MarksAll (ReadsAny readers changes) second third →
      (moved : Bool) → (moved ≡ true → changes ≢ []) → (moved ≡ false → changes ≡ []) →
      StepsInAll joining parts columns holds marks third hi lo new_hi new_lo moved
  StepsInAll-taken second third again read moved if_some if_none = record {
    highs = written.highs;
    lows = written.lows;
    marks_counted = read.count ∙ (again.count ∙ took.count);
    has = λ column state col. has_next column state col;
    each = λ column state col. StepsTo-taken column state col second third again read;
    some = λ is. let (change, there) = some_change changes (if_some is) in MovesSome-noted change there;
    none = λ is column state col. stays_all column state col (if_none is);
  }

-- the columns are states, if each of them is in some way
pub AreColumns-has : {A : Type 0} → (columns : ℕ) (holds : A → ℕ → Bool) (hi lo : List A) → length lo ≡ length hi →
    ((column : ℕ) → column < columns → (state : List Tern) × HasColumn holds column hi lo state) → AreColumns columns holds hi lo
AreColumns-has columns holds hi lo even each = record {
  counted = even;
  each = λ column inside.
      let (state, has) = each column inside in
      subst (HasColumn holds column hi lo) (sym (states-has holds column hi lo even state has)) has;
}
