-- What a step does in each column, from what was noted and written: which nodes take which states, which parts are marked, and whether the
-- column changed.
use Rattle.std.proofs.Common.{◌≡◌, ◌≢◌, ℕ, ◌<◌, ◌⊎◌, Bool, true, false, inl, inr, List, All, length, refl, sym, ap, subst, ◌∙◌, arith}
use Rattle.std.specs.Prelude.{Contains, slice_index}
use Rattle.std.proofs.lemmas.Bool.{cases_lt}
use Rattle.std.proofs.lemmas.List.{ext_get_or, get_or_past}
use Rattle.ternary.specs.declared.tern.Tern.{Tern}
use Rattle.ternary.specs.declared.tern.Tern.TheVariants.{Zero, Unk}
use Rattle.ternary.specs.Tern.{may_one, may_zero}
use Rattle.ternary.proofs.TernLemmas.{same_rails, join-fades}
use Rattle.switch_paths.specs.Switching.{state_at}
use Rattle.settling.specs.Settling.{StaysOrBecomesX}
use Rattle.word_columns.specs.Columns.{is_in_column, AreRailsIn}
use Rattle.word_columns.proofs.RunLemmas.{high_counted, high_at_node, low_at_node}
use Rattle.machine_parts.specs.declared.part.MachinePart.{MachinePart}
use Rattle.machine_parts.specs.Parts.{ReadsAt, AreApart}
use Rattle.machine_parts.specs.Evaluating.{Rooms, IsSeated}
use Rattle.machine_parts.specs.Marking.{IsMarked, MarksAll}
use Rattle.machine_parts.specs.Stepping.{IsGiven, Moves, StaysMarked}
use Rattle.part_words.specs.Noting.{after}
use Rattle.machine_laws.specs.Columns.{KeepsMarks}
use Rattle.machine_parts.proofs.PartLemmas.{given_once}
use Rattle.column_machines.specs.declared.evaluation.WordChange.{WordChange}
use Rattle.column_machines.specs.Columns.{column_states, HasColumn}
use Rattle.column_machines.specs.Noting.{HasChange}
use Rattle.column_machines.specs.Evaluating.{Evaluated}
use Rattle.column_machines.specs.Running.{IsLeftAt, AreWritten, ReadsAny, StaysOn, StepsTo}
use Rattle.column_machines.proofs.ColumnLemmas.{length-column_states, column_states-value, AreRailsIn-each}
use Rattle.column_machines.proofs.NotingLemmas.{no_difference, no_change}
use Rattle.column_machines.proofs.TakingLemmas.{AreChanged}

-- in a joining step a node stays or becomes X
after-fades : (joining : Bool) → joining ≡ true → (s t : Tern) → (after joining s t ≡ s) ⊎ (after joining s t ≡ Unk)
after-fades true is s t = join-fades s t
after-fades false is s t = absurd (cc)

module _ (joining : Bool) (used : ℕ) (parts : List MachinePart) (marks : List Bool) (hi lo : List ℕ) (room : Rooms) (seated : All (IsSeated (length hi) room) parts)
    (apart : AreApart parts) (even : length lo ≡ length hi) (first : List Bool) (changes : List WordChange) (done : List ℕ) (evaluated : Evaluated joining parts used hi lo marks first changes done) where
  module _ (rest : (k : ℕ) → ¬ IsMarked first k) (column : ℕ) (state : List Tern) (col : HasColumn used hi lo column state) where
    counted : length hi ≡ length state
    counted = high_counted column hi lo state col.has

    -- all marked parts together give a node one value
    given_one : (node : ℕ) (v w : Tern) → IsGiven parts marks state node v → IsGiven parts marks state node w → v ≡ w
    given_one = given_once parts state (λ k part stands. (subst (IsSeated (length hi) room) stands.here (seated k part stands.inside)).apart) marks apart

    -- a node to which a value is given is there
    given_inside : (node : ℕ) (value : Tern) → IsGiven parts marks state node value → node < length hi
    given_inside node value given =
        let gives = given.gives in
        let seat = subst (IsSeated (length hi) room) gives.stands.here (seated given.k gives.part gives.stands.inside) in
        subst (λ n. n < length hi) gives.member.here (seat.below gives.place 0 gives.member.within)

    -- what a change is to: a value that is given to its node
    record IsTo (change : WordChange) : Type 0 where
      pub value : Tern
      pub given : IsGiven parts marks state change.node value
      pub one : is_in_column column change.hi ≡ may_one (after joining (state_at state change.node) value)
      pub zero : is_in_column column change.lo ≡ may_zero (after joining (state_at state change.node) value)

    change_is_to : (change : WordChange) → Contains changes change → IsTo change
    change_is_to change there =
        let (k, contained, is) = evaluated.only change there in
        let next = is column state col in
        record { value = next.given; given = record { k = k; marked = evaluated.marked k contained; gives = next.gives }; one = next.one; zero = next.zero }

    -- a node to which a value is given has a change, or keeps its state
    noted_or_stays : (node : ℕ) (value : Tern) → IsGiven parts marks state node value →
        HasChange changes node ⊎ (after joining (state_at state node) value ≡ state_at state node)
    noted_or_stays node value given =
        elim (evaluated.popped given.k given.marked) [
          | inl still ↦ absurd (rest given.k still)
          | inr there ↦ evaluated.noted given.k there column state col node value given.gives
        ]

    module _ (new_hi new_lo : List ℕ) (written : AreWritten changes hi lo new_hi new_lo) where
      abbrev next : List Tern
      next = column_states column new_hi new_lo

      new_even : length new_lo ≡ length new_hi
      new_even = written.lows ∙ even ∙ sym written.highs

      -- what becomes of a node
      record Takes (node : ℕ) : Type 0 where
        pub change : WordChange
        pub there : Contains changes change
        pub of_node : change.node ≡ node
        pub value : Tern
        pub given : IsGiven parts marks state node value
        pub one : is_in_column column (slice_index new_hi node) ≡ may_one (after joining (state_at state node) value)
        pub zero : is_in_column column (slice_index new_lo node) ≡ may_zero (after joining (state_at state node) value)

      becomes : (node : ℕ) → Takes node ⊎ IsLeftAt changes hi lo new_hi new_lo node
      becomes node =
          elim (written.each node) [
            | inl at ↦
                let to = change_is_to at.change at.there in
                inl (record {
                  change = at.change;
                  there = at.there;
                  of_node = at.of_node;
                  value = to.value;
                  given = subst (λ n. IsGiven parts marks state n to.value) at.of_node to.given;
                  one = ap (is_in_column column) at.high ∙ subst (λ n. is_in_column column at.change.hi ≡ may_one (after joining (state_at state n) to.value)) at.of_node to.one;
                  zero = ap (is_in_column column) at.low ∙ subst (λ n. is_in_column column at.change.lo ≡ may_zero (after joining (state_at state n) to.value)) at.of_node to.zero;
                })
            | inr left ↦ inr left
          ]

      -- each node has the rails of a state again
      pub has_next : AreRailsIn column new_hi new_lo (column_states column new_hi new_lo)
      has_next =
          AreRailsIn-each column new_hi new_lo new_even (λ node inside.
          let within : node < length hi = omega (arith, inside, written.highs) in
          elim (becomes node) [
            | inl takes ↦ (after joining (state_at state node) takes.value, takes.one, takes.zero)
            | inr left ↦ (
              state_at state node,
              ap (is_in_column column) left.high ∙ high_at_node column hi lo state col.has node within,
              ap (is_in_column column) left.low ∙ low_at_node column hi lo state col.has even node within,
            )
          ])

      long : length next ≡ length state
      long = length-column_states column new_hi new_lo new_even ∙ (written.highs ∙ counted)

      -- the state that a node takes, or keeps
      taken : (node : ℕ) → node < length hi → (takes : Takes node) → state_at next node ≡ after joining (state_at state node) takes.value
      taken node inside takes =
          column_states-value column new_hi new_lo new_even node (omega (arith, inside, written.highs)) (after joining (state_at state node) takes.value) takes.one takes.zero

      left_as : (node : ℕ) → IsLeftAt changes hi lo new_hi new_lo node → state_at next node ≡ state_at state node
      left_as node left =
          elim (cases_lt node (length hi)) [
            | inl inside ↦
                column_states-value column new_hi new_lo new_even node (omega (arith, inside, written.highs)) (state_at state node)
                (ap (is_in_column column) left.high ∙ high_at_node column hi lo state col.has node inside)
                (ap (is_in_column column) left.low ∙ low_at_node column hi lo state col.has even node inside)
            | inr past ↦ get_or_past next node Zero (omega (arith, past, long, counted)) ∙ sym (get_or_past state node Zero (omega (arith, past, counted)))
          ]

      given_taken : (node : ℕ) (value : Tern) → IsGiven parts marks state node value → state_at next node ≡ after joining (state_at state node) value
      given_taken node value given =
          elim (becomes node) [
            | inl takes ↦
                taken node (given_inside node value given) takes ∙ ap (after joining (state_at state node)) (given_one node takes.value value takes.given given)
            | inr left ↦
                elim (noted_or_stays node value given) [
                  | inl has ↦ absurd (left.none has.change has.there has.of_node)
                  | inr stays ↦ left_as node left ∙ sym stays
                ]
          ]

      none_stays : (node : ℕ) → ((value : Tern) → ¬ IsGiven parts marks state node value) → state_at next node ≡ state_at state node
      none_stays node none =
          elim (becomes node) [
            | inl takes ↦ absurd (none takes.value takes.given)
            | inr left ↦ left_as node left
          ]

      moves : Moves joining parts marks state next
      moves = record { count = long; given = given_taken; stays = none_stays }

      -- in a joining step a node stays or becomes X
      fades : joining ≡ true → StaysOrBecomesX state next
      fades is node inside =
          elim (becomes node) [
            | inl takes ↦
                let here = taken node (omega (arith, inside, counted)) takes in
                elim (after-fades joining is (state_at state node) takes.value) [
                  | inl same ↦ inl (here ∙ same)
                  | inr unknown ↦ inr (here ∙ unknown)
                ]
            | inr left ↦ inl (left_as node left)
          ]

      -- whether the column changed
      module _ (columns : ℕ) (bits : AreChanged used hi lo changes columns) where
        bit_changed : is_in_column column columns ≡ true → next ≢ state
        bit_changed set same =
            let (change, there, differs) = bits.set column set in
            let node = change.node in
            let inside = evaluated.inside change there in
            let to = change_is_to change there in
            let stays : after joining (state_at state node) to.value ≡ state_at state node =
            sym (given_taken node to.value to.given) ∙ ap (λ states. state_at states node) same in
            let none = no_change used (slice_index hi node) (slice_index lo node) column change
            (to.one ∙ (ap may_one stays ∙ sym (high_at_node column hi lo state col.has node inside)))
            (to.zero ∙ (ap may_zero stays ∙ sym (low_at_node column hi lo state col.has even node inside))) in
            absurd (cc (none, differs))

        bit_same : is_in_column column columns ≡ false → next ≡ state
        bit_same unset =
            ext_get_or Zero next state long (λ node inside.
            elim (becomes node) [
              | inl takes ↦
                  let within : node < length hi = omega (arith, inside, long, counted) in
                  let to = change_is_to takes.change takes.there in
                  let at = evaluated.inside takes.change takes.there in
                  let (high, low) = no_difference used (slice_index hi takes.change.node) (slice_index lo takes.change.node) column takes.change col.used_is
                  (bits.unset column unset takes.change takes.there) in
                  let stays : after joining (state_at state takes.change.node) to.value ≡ state_at state takes.change.node =
                  same_rails _ _
                  (sym to.one ∙ (high ∙ high_at_node column hi lo state col.has takes.change.node at))
                  (sym to.zero ∙ (low ∙ low_at_node column hi lo state col.has even takes.change.node at)) in
                  subst (λ n. state_at next n ≡ state_at state n) takes.of_node (given_taken takes.change.node to.value to.given ∙ stays)
              | inr left ↦ left_as node left
            ])

        -- the marks afterwards
        module _ (second third : List Bool) (count : length first ≡ length marks) (again : MarksAll (StaysOn joining parts done) first second)
            (read : MarksAll (ReadsAny parts changes) second third) where
          stays_by : (kind : Bool) → kind ≡ joining → (k : ℕ) → StaysMarked kind parts marks k → IsMarked second k
          stays_by true is k was =
              elim (evaluated.popped k was) [
                | inl still ↦ again.stays k still
                | inr there ↦ again.set k (there, inl (sym is))
              ]
          stays_by false is k (was, stale) =
              elim (evaluated.popped k was) [
                | inl still ↦ again.stays k still
                | inr there ↦ again.set k (there, inr stale)
              ]

          keeps : KeepsMarks joining parts marks state next third
          keeps = record {
            count = read.count ∙ (again.count ∙ count);
            stays = λ k stays. read.stays k (stays_by joining refl k stays);
            reads = λ k change.
                elim (becomes change.node) [
                  | inl takes ↦
                      read.set k (record {
                        change = takes.change;
                        changes_it = takes.there;
                        reads = subst (λ n. ReadsAt parts k n) (sym takes.of_node) change.reads;
                      })
                  | inr left ↦ absurd (change.changed (left_as change.node left))
                ];
          }

          -- the column takes a step
          pub StepsTo-taken : StepsTo joining parts marks third state (column_states column new_hi new_lo) (is_in_column column columns)
          StepsTo-taken = record { moves = moves; keeps = keeps; changed = bit_changed; same = bit_same; unknown = fades }
