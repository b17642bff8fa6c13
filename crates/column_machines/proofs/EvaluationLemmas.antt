-- What the evaluation of parts notes in each column: of one part, and part by part.
use Rattle.std.proofs.Common.{◌≡◌, ℕ, ◌+◌, ◌<◌, ◌≤◌, Bool, false, inl, inr, List, [], ◌∷◌, ◌++◌, length, map, All, Some, None, Global, Vec, vec_len, refl, sym, ap, subst, ◌∙◌, arith}
use Rattle.std.specs.Prelude.{Contains, slice_index, slice_set, vec_capacity}
use Rattle.std.specs.declared.rc.Rc.{Rc}
use Rattle.std.proofs.lemmas.List.Elements.{Contains-push, Contains-push_cases, Contains-append_left}
use Rattle.ternary.specs.declared.tern.Tern.{Tern}
use Rattle.ternary.specs.Tern.{may_one, may_zero}
use Rattle.ternary.proofs.TernLemmas.{same_rails}
use Rattle.switch_paths.specs.Switching.{state_at}
use Rattle.straight_code.specs.Code.{CodeData, code_value}
use Rattle.word_columns.specs.Columns.{is_in_column, AreRailsIn}
use Rattle.word_columns.proofs.RunLemmas.{high_at_node, low_at_node}
use Rattle.machine_parts.specs.declared.part.MachinePart.{MachinePart}
use Rattle.machine_parts.specs.Parts.{Stands, IsMemberAt}
use Rattle.machine_parts.specs.Marking.{IsMarked, count_marked}
use Rattle.machine_parts.specs.Stepping.{Gives}
use Rattle.part_words.specs.Noting.{after}
use Rattle.machine_parts.proofs.PartLemmas.{same_part}
use Rattle.machine_parts.proofs.MarkLemmas.{count_marked-cleared}
use Rattle.machine_parts.proofs.SetMarks.{marked-cleared_was, marked-cleared_cases}
use Rattle.column_machines.specs.declared.evaluation.WordChange.{WordChange}
use Rattle.column_machines.specs.declared.evaluation.Workspace.{Workspace}
use Rattle.column_machines.specs.Columns.{HasColumn}
use Rattle.column_machines.specs.Noting.{after_word, Notes}
use Rattle.column_machines.specs.Evaluating.{rooms, NotesAll, Reports, Evaluated}
use Rattle.column_machines.proofs.NotingLemmas.{no_difference, after-one, after-zero}

-- ---- one part

module _ (joining : Bool) (parts : List MachinePart) (used : ℕ) (hi lo : List ℕ) (even : length lo ≡ length hi) (k : ℕ) (part : MachinePart)
    (code : Rc CodeData Global) (stands : Stands parts k part) (has_code : part.code ≡ Some code) (front : part.members ≤ length part.map.items)
    (below : All (λ node. node < length hi) part.map.items) (ones others : List ℕ) (highs : length ones ≡ part.members)
    (lows : length others ≡ length ones)
    (given : (column : ℕ) (state : List Tern) → column < 64 → AreRailsIn column hi lo state →
    AreRailsIn column ones others (code_value code.value (map (state_at state) part.map.items))) where
  module _ (column : ℕ) (state : List Tern) (col : HasColumn used hi lo column state) where
    abbrev values : List Tern
    values = code_value code.value (map (state_at state) part.map.items)

    -- the rails that are given to the node at a place of the map
    one_given : (place : ℕ) → place < length ones → is_in_column column (slice_index ones place) ≡ may_one (state_at values place)
    one_given place inside = high_at_node column ones others values (given column state col.inside col.has) place inside

    zero_given : (place : ℕ) → place < length ones → is_in_column column (slice_index others place) ≡ may_zero (state_at values place)
    zero_given place inside = low_at_node column ones others values (given column state col.inside col.has) lows place inside

    -- and those that it has after the step
    one_after : (place node : ℕ) → place < length ones → node < length hi →
        is_in_column column (after_word joining (slice_index hi node) (slice_index ones place)) ≡ may_one (after joining (state_at state node) (state_at values place))
    one_after place node inside within =
        after-one joining column (slice_index hi node) (slice_index ones place) (state_at state node) (state_at values place)
        (high_at_node column hi lo state col.has node within) (one_given place inside)

    zero_after : (place node : ℕ) → place < length ones → node < length hi →
        is_in_column column (after_word joining (slice_index lo node) (slice_index others place)) ≡ may_zero (after joining (state_at state node) (state_at values place))
    zero_after place node inside within =
        after-zero joining column (slice_index lo node) (slice_index others place) (state_at state node) (state_at values place)
        (low_at_node column hi lo state col.has even node within) (zero_given place inside)

    -- what the part gives to a node is given at a place of its map
    given_at : (node : ℕ) (value : Tern) → Gives parts state k node value →
        (place : ℕ) × (place < length ones) × (slice_index part.map.items place ≡ node) × (value ≡ state_at values place)
    given_at node value gives =
        let same = same_part parts k gives.part part gives.stands stands in
        let codes : gives.code ≡ code = cc (ap (λ p. p.code) same) in
        let member = subst (λ p. IsMemberAt p gives.place node) same gives.member in
        let value_is : value ≡ state_at values gives.place =
        gives.value_is
        ∙ (ap (λ p. state_at (code_value gives.code.value (map (state_at state) p.map.items)) gives.place) same
        ∙ ap (λ shared. state_at (code_value shared.value (map (state_at state) part.map.items)) gives.place) codes) in
        (gives.place, omega (arith, member.inside, highs), member.here, value_is)

  -- the changes that are noted by what the code of a part gives are those that the part makes
  pub Reports-from_Notes : (old new : List WordChange) → Notes joining used part.map.items hi lo ones others (length ones) old new →
      Reports joining parts used hi lo k old new
  Reports-from_Notes old new notes = record {
    kept = notes.kept;
    noted = λ column state col node value gives.
        let (place, inside, here, value_is) = given_at column state col node value gives in
        elim (notes.noted place inside) [
          | inl has ↦ inl (record { change = has.change; there = has.there; of_node = has.of_node ∙ here })
          | inr idle ↦
              let at : ℕ = slice_index part.map.items place in
              let within : at < length hi = below place 0 (omega (arith, inside, highs, front)) in
              let change : WordChange = record {
                node = at;
                hi = after_word joining (slice_index hi at) (slice_index ones place);
                lo = after_word joining (slice_index lo at) (slice_index others place);
              } in
              let (high, low) = no_difference used (slice_index hi at) (slice_index lo at) column change col.used_is (idle column) in
              let stays : after joining (state_at state at) (state_at (values column state col) place) ≡ state_at state at =
              same_rails _ _
              (sym (one_after column state col place at inside within) ∙ (high ∙ high_at_node column hi lo state col.has at within))
              (sym (zero_after column state col place at inside within) ∙ (low ∙ low_at_node column hi lo state col.has even at within)) in
              inr (subst (λ n. after joining (state_at state n) value ≡ state_at state n) here (ap (after joining (state_at state at)) value_is ∙ stays))
        ];
    only = λ change there.
        elim (notes.only change there) [
          | inl was ↦ inl was
          | inr noted ↦
              let within : change.node < length hi = subst (λ n. n < length hi) noted.node (below noted.place 0 (omega (arith, noted.inside, highs, front))) in
              inr (
                within,
                λ column state col. record {
                  given = state_at (values column state col) noted.place;
                  gives = record {
                    part = part;
                    stands = stands;
                    code = code;
                    has = has_code;
                    place = noted.place;
                    member = record { inside = omega (arith, noted.inside, highs); within = omega (arith, noted.inside, highs, front); here = noted.node };
                    value_is = refl;
                  };
                  one = ap (is_in_column column) noted.next.high ∙ one_after column state col noted.place change.node noted.inside within;
                  zero = ap (is_in_column column) noted.next.low ∙ zero_after column state col noted.place change.node noted.inside within;
                },
              )
        ];
  }

-- a part without code makes no change
pub Reports-none : (joining : Bool) (parts : List MachinePart) (used : ℕ) (hi lo : List ℕ) (k : ℕ) (part : MachinePart) → Stands parts k part → part.code ≡ None →
    (old : List WordChange) → Reports joining parts used hi lo k old old
Reports-none joining parts used hi lo k part stands none old = record {
  kept = λ change there. there;
  noted = λ column state col node value gives.
      let same = same_part parts k gives.part part gives.stands stands in
      absurd (cc (ap (λ p. p.code) same, gives.has));
  only = λ change there. inl there;
}

-- ---- part by part

-- what is noted of a part stays noted
NotesAll-more : (joining : Bool) (parts : List MachinePart) (used : ℕ) (hi lo : List ℕ) (k : ℕ) (changes more : List WordChange) →
    ((change : WordChange) → Contains changes change → Contains more change) → NotesAll joining parts used hi lo k changes →
    NotesAll joining parts used hi lo k more
NotesAll-more joining parts used hi lo k changes more kept notes column state col node value gives =
    elim (notes column state col node value gives) [
      | inl has ↦ inl (record { change = has.change; there = kept has.change has.there; of_node = has.of_node })
      | inr stays ↦ inr stays
    ]

-- one part more was evaluated
pub Evaluated-more : (joining : Bool) (parts : List MachinePart) (used : ℕ) (hi lo : List ℕ) (before marks : List Bool)
    (changes more : List WordChange) (done : List ℕ) (k : ℕ) → IsMarked marks k → Reports joining parts used hi lo k changes more →
    Evaluated joining parts used hi lo before marks changes done →
    Evaluated joining parts used hi lo before (slice_set marks k false) more (done ++ k ∷ [])
Evaluated-more joining parts used hi lo before marks changes more done k marked reports evaluated = record {
  fewer = λ l now. evaluated.fewer l (marked-cleared_was marks k l now);
  marked = λ l there.
      elim (Contains-push_cases done k l there) [
        | inl earlier ↦ evaluated.marked l earlier
        | inr same ↦ subst (IsMarked before) same (evaluated.fewer k marked)
      ];
  popped = λ l was.
      elim (evaluated.popped l was) [
        | inl still ↦
            elim (marked-cleared_cases marks k l still) [
              | inl now ↦ inl now
              | inr same ↦ inr (subst (Contains (done ++ k ∷ [])) (sym same) (Contains-push done k))
            ]
        | inr earlier ↦ inr (Contains-append_left done (k ∷ []) l earlier)
      ];
  noted = λ l there.
      elim (Contains-push_cases done k l there) [
        | inl earlier ↦ NotesAll-more joining parts used hi lo l changes more reports.kept (evaluated.noted l earlier)
        | inr same ↦ subst (λ n. NotesAll joining parts used hi lo n more) same reports.noted
      ];
  inside = λ change there.
      elim (reports.only change there) [
        | inl earlier ↦ evaluated.inside change earlier
        | inr is ↦ is.0
      ];
  only = λ change there.
      elim (reports.only change there) [
        | inl earlier ↦
            let (l, contained, is) = evaluated.only change earlier in
            (l, Contains-append_left done (k ∷ []) l contained, is)
        | inr is ↦ (k, Contains-push done k, is.1)
      ];
}

-- nothing was evaluated yet
pub Evaluated-none : (joining : Bool) (parts : List MachinePart) (used : ℕ) (hi lo : List ℕ) (before : List Bool) →
    Evaluated joining parts used hi lo before before [] []
Evaluated-none joining parts used hi lo before = record {
  fewer = λ k now. now;
  marked = λ k (i, inside, here). absurd (omega (arith, inside));
  popped = λ k was. inl was;
  noted = λ k (i, inside, here). absurd (omega (arith, inside));
  inside = λ change (i, inside, here). absurd (omega (arith, inside));
  only = λ change (i, inside, here). absurd (omega (arith, inside));
}

-- clearing the lists of a step keeps their room
pub cleared_rooms : (workspace : Workspace) (changes : Vec WordChange Global) (done : Vec ℕ Global) →
    vec_capacity changes ≡ vec_capacity workspace.changes →
    vec_capacity done ≡ vec_capacity workspace.done → rooms (record workspace { changes = changes; done = done }) ≡ rooms workspace
cleared_rooms workspace changes done changes_same done_same = λ i. record {
  outs = length workspace.out_hi.items;
  changes = changes_same i;
  parts = done_same i;
}

-- there is room still for the parts that are marked, once one of them is done
pub done_room-more : (marks : List Bool) (k : ℕ) (old mid new : Vec ℕ Global) → IsMarked marks k → vec_len old + count_marked marks ≤ vec_capacity old →
    mid ≡ old → vec_len new ≡ vec_len mid + 1 → vec_capacity new ≡ vec_capacity mid → vec_len new + count_marked (slice_set marks k false) ≤ vec_capacity new
done_room-more marks k old mid new marked room same longer capacity =
    omega (
      arith,
      count_marked-cleared marks k marked,
      room,
      longer,
      capacity,
      ap (λ (list : Vec ℕ Global). vec_len list) same,
      ap (λ (list : Vec ℕ Global). vec_capacity list) same,
    )
