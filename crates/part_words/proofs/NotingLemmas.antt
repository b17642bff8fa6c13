-- What is noted of changes: part by part of one member, and member by member.
use Rattle.std.proofs.Common.{◌≡◌, ℕ, ◌+◌, ◌*◌, ◌<◌, ◌≤◌, Bool, false, inl, inr, ◌⊎◌, List, [], ◌∷◌, ◌++◌, length, take, get_or, sym, ap, ap₂, subst, ◌∙◌, arith}
use Rattle.std.specs.Prelude.{Contains, slice_index}
use Rattle.std.proofs.lemmas.Bool.{cases_lt}
use Rattle.std.proofs.lemmas.List.{get_or-map, get_or-take, length-map, take_more}
use Rattle.std.proofs.lemmas.List.Elements.{Contains-push, Contains-push_cases, Contains-append_left}
use Rattle.ternary.specs.declared.tern.Tern.{Tern}
use Rattle.ternary.specs.declared.tern.Tern.TheVariants.{Zero}
use Rattle.switch_paths.specs.Switching.{state_at}
use Rattle.straight_code.specs.declared.code.Operand.TheVariants.{High, Low}
use Rattle.straight_code.specs.Code.{CodeData, code_value, output_state, results}
use Rattle.straight_code.specs.Flat.{flat_values}
use Rattle.straight_code.proofs.FlatLemmas.{operand_at_place}
use Rattle.word_columns.specs.Columns.{column_bits}
use Rattle.word_columns.proofs.ColumnLemmas.{column_bits-at}
use Rattle.part_words.specs.declared.change.Change.{Change}
use Rattle.part_words.specs.Members.{HasState, IsMoved, NotesEach}
use Rattle.part_words.specs.Noting.{after, map_at, states_at, IsNotedAt, NotesAll}
use Rattle.part_words.proofs.GatherLemmas.{map_at-at, length-map_at}

-- ---- part by part

module _ (IsSo : ℕ → Change → Type 0) where
  -- if nothing changes, nothing is noted
  pub NotesEach-none : (starts : List ℕ) (old : List Change) → ((at : ℕ) (change : Change) → Contains starts at → ¬ IsSo at change) →
      NotesEach starts IsSo old old
  NotesEach-none starts old none = record {
    kept = λ change there. there;
    noted = λ at change among so. absurd (none at change among so);
    only = λ change there. inl there;
  }

  NotesEach-same : (starts : List ℕ) (at : ℕ) (old mid : List Change) → ((change : Change) → ¬ IsSo at change) → NotesEach starts IsSo old mid →
      NotesEach (starts ++ at ∷ []) IsSo old mid
  NotesEach-same starts at old mid none notes = record {
    kept = notes.kept;
    noted = λ there change among so.
        elim (Contains-push_cases starts at there among) [
          | inl before ↦ notes.noted there change before so
          | inr last ↦ absurd (none change (subst (λ k. IsSo k change) (sym last) so))
        ];
    only = λ change there.
        elim (notes.only change there) [
          | inl was ↦ inl was
          | inr (k, among, so) ↦ inr (k, Contains-append_left starts (at ∷ []) k among, so)
        ];
  }

  NotesEach-more : (starts : List ℕ) (at : ℕ) (change : Change) (old mid : List Change) → IsSo at change →
      ((other : Change) → IsSo at other → change ≡ other) → NotesEach starts IsSo old mid → NotesEach (starts ++ at ∷ []) IsSo old (mid ++ change ∷ [])
  NotesEach-more starts at change old mid own alone notes = record {
    kept = λ other there. Contains-append_left mid (change ∷ []) other (notes.kept other there);
    noted = λ there other among so.
        elim (Contains-push_cases starts at there among) [
          | inl before ↦ Contains-append_left mid (change ∷ []) other (notes.noted there other before so)
          | inr last ↦
              subst (Contains (mid ++ change ∷ [])) (alone other (subst (λ k. IsSo k other) (sym last) so)) (Contains-push mid change)
        ];
    only = λ other there.
        elim (Contains-push_cases mid change other there) [
          | inl before ↦
              elim (notes.only other before) [
                | inl was ↦ inl was
                | inr (k, among, so) ↦ inr (k, Contains-append_left starts (at ∷ []) k among, so)
              ]
          | inr same ↦ inr (at, Contains-push starts at, subst (IsSo at) same own)
        ];
  }

  -- the next of the parts, in which nothing changes
  pub NotesEach-at_same : (starts : List ℕ) (column : ℕ) → column < length starts → (old mid : List Change) →
      ((change : Change) → ¬ IsSo (get_or starts column 0) change) → NotesEach (take column starts) IsSo old mid → NotesEach (take (column + 1) starts) IsSo old mid
  NotesEach-at_same starts column inside old mid none notes =
      subst (λ list. NotesEach list IsSo old mid) (sym (take_more starts column 0 inside))
      (NotesEach-same (take column starts) (get_or starts column 0) old mid none notes)

  -- and in which this alone changes
  pub NotesEach-at_more : (starts : List ℕ) (column : ℕ) → column < length starts → (change : Change) (old mid : List Change) → IsSo (get_or starts column 0) change →
      ((other : Change) → IsSo (get_or starts column 0) other → change ≡ other) → NotesEach (take column starts) IsSo old mid →
      NotesEach (take (column + 1) starts) IsSo old (mid ++ change ∷ [])
  NotesEach-at_more starts column inside change old mid own alone notes =
      subst (λ list. NotesEach list IsSo old (mid ++ change ∷ [])) (sym (take_more starts column 0 inside))
      (NotesEach-more (take column starts) (get_or starts column 0) change old mid own alone notes)

-- a member of a part changes in one way
pub IsMoved-one : (nodes : List ℕ) (k : ℕ) (before next : ℕ → Tern) (at : ℕ) (first second : Change) → IsMoved nodes k before next at first →
    IsMoved nodes k before next at second → first ≡ second
IsMoved-one nodes k before next at first second one two =
    let node : first.node ≡ second.node = sym one.node ∙ two.node in
    let value : first.value ≡ second.value = one.value ∙ sym two.value in
    λ i. record { node = node i; value = value i }

-- ---- member by member

-- what the code gives makes a member below place k of the part change so
pub record IsNotedBelow (joining : Bool) (code : CodeData) (nodes : List ℕ) (state : List Tern) (k at : ℕ) (change : Change) : Type 0 where
  pub noted : IsNotedAt joining code nodes state at change
  pub below : noted.place < k

-- the state of the member at place k of a part, and its next state
abbrev pub state_before : List ℕ → List Tern → ℕ → ℕ → Tern
state_before nodes state k at = state_at state (slice_index nodes (at + k))

abbrev pub state_next : Bool → CodeData → List ℕ → List Tern → ℕ → ℕ → Tern
state_next joining code nodes state k at =
    after joining (state_before nodes state k at) (state_at (code_value code (states_at state nodes code.inputs at)) k)

module _ (joining : Bool) (code : CodeData) (nodes : List ℕ) (state : List Tern) (front : length code.outputs ≤ code.inputs) where
  length-given : (at : ℕ) → length (code_value code (states_at state nodes code.inputs at)) ≡ length code.outputs
  length-given at =
      length-map code.outputs (output_state (states_at state nodes code.inputs at) (results (states_at state nodes code.inputs at) code.instructions))

  module _ (k at : ℕ) (inside : k < length code.outputs) (change : Change) where
    here : slice_index (map_at nodes code.inputs at) k ≡ slice_index nodes (at + k)
    here = map_at-at nodes code.inputs at k (omega (arith, inside, front))

    -- the member at place k that changes is noted
    noted_from : IsMoved nodes k (state_before nodes state k) (state_next joining code nodes state k) at change →
        IsNotedBelow joining code nodes state (k + 1) at change
    noted_from moved =
        let given = code_value code (states_at state nodes code.inputs at) in
        let old : state_before nodes state k at ≡ state_at state change.node = ap (state_at state) moved.node in
        let value : change.value ≡ after joining (state_at state change.node) (state_at given k) =
        moved.value ∙ ap (λ s. after joining s (state_at given k)) old in
        record {
          noted = record {
            place = k;
            inside = omega (arith, inside, length-given at);
            node = here ∙ moved.node;
            value = value;
            differs = λ same. moved.differs (sym moved.value ∙ (same ∙ sym old));
          };
          below = omega arith;
        }

    -- and what is noted of the members up to it was noted before, or is its change
    noted_cases : IsNotedBelow joining code nodes state (k + 1) at change → IsNotedBelow joining code nodes state k at change
        ⊎ IsMoved nodes k (state_before nodes state k) (state_next joining code nodes state k) at change
    noted_cases is =
        let given = code_value code (states_at state nodes code.inputs at) in
        elim (cases_lt is.noted.place k) [
          | inl before ↦ inl (record { noted = is.noted; below = before })
          | inr past ↦
              let last : is.noted.place ≡ k = omega (arith, is.below, past) in
              let node : slice_index nodes (at + k) ≡ change.node =
              sym here ∙ (ap (slice_index (map_at nodes code.inputs at)) (sym last) ∙ is.noted.node) in
              let old : state_at state change.node ≡ state_before nodes state k at = ap (state_at state) (sym node) in
              let value : change.value ≡ state_next joining code nodes state k at =
              is.noted.value ∙ ap₂ (after joining) old (ap (state_at given) last) in
              inr (record { node = node; value = value; differs = λ same. is.noted.differs (value ∙ (same ∙ sym old)) })
        ]

  -- no member is noted at first
  pub NotesBelow-none : (starts : List ℕ) (old : List Change) → NotesEach starts (IsNotedBelow joining code nodes state 0) old old
  NotesBelow-none starts old = NotesEach-none (IsNotedBelow joining code nodes state 0) starts old (λ at change among is. absurd (omega (arith, is.below)))

  -- one member more
  pub NotesBelow-more : (starts : List ℕ) (k : ℕ) → k < length code.outputs → (old mid new : List Change) →
      NotesEach starts (IsNotedBelow joining code nodes state k) old mid →
      NotesEach starts (IsMoved nodes k (state_before nodes state k) (state_next joining code nodes state k)) mid new →
      NotesEach starts (IsNotedBelow joining code nodes state (k + 1)) old new
  NotesBelow-more starts k inside old mid new first second = record {
    kept = λ change there. second.kept change (first.kept change there);
    noted = λ at change among is.
        elim (noted_cases k at inside change is) [
          | inl before ↦ second.kept change (first.noted at change among before)
          | inr moved ↦ second.noted at change among moved
        ];
    only = λ change there.
        elim (second.only change there) [
          | inl was ↦
              elim (first.only change was) [
                | inl older ↦ inl older
                | inr (at, among, is) ↦ inr (at, among, record { noted = is.noted; below = omega (arith, is.below) })
              ]
          | inr (at, among, moved) ↦ inr (at, among, noted_from k at inside change moved)
        ];
  }

  -- all members
  pub NotesAll-from : (starts : List ℕ) (k : ℕ) → k ≡ length code.outputs → (old new : List Change) →
      NotesEach starts (IsNotedBelow joining code nodes state k) old new → NotesAll joining code nodes starts state old new
  NotesAll-from starts k all old new notes = record {
    kept = notes.kept;
    noted = λ at change among is.
        notes.noted at change among (record { noted = is; below = omega (arith, is.inside, length-given at, all) });
    only = λ change there.
        elim (notes.only change there) [
          | inl was ↦ inl was
          | inr (at, among, is) ↦ inr (at, among, is.noted)
        ];
  }

-- ---- the rails in the array

-- in the array with the rails of the inputs, an input has those of its state
pub rails_at : (column inputs more : ℕ) (values : List ℕ) (input : List Tern) (done : List Bool) (k : ℕ) → length input ≡ inputs → k < inputs →
    2 + 2 * inputs + more ≤ length values → take (2 + 2 * inputs + more) (column_bits column values) ≡ flat_values input done →
    HasState column (get_or values (2 + 2 * k) 0) (get_or values (3 + 2 * k) 0) (state_at input k)
rails_at column inputs more values input done k many inside room whole =
    let end = 2 + 2 * inputs + more in
    let within : k < length input = omega (arith, inside, many) in
    record {
      one = sym (column_bits-at column values (2 + 2 * k) (omega (arith, inside, room)))
          ∙ (sym (get_or-take end (column_bits column values) (2 + 2 * k) false (omega (arith, inside)))
          ∙ (ap (λ bits. get_or bits (2 + 2 * k) false) whole ∙ operand_at_place input done 0 (High k) within));
      other = sym (column_bits-at column values (3 + 2 * k) (omega (arith, inside, room)))
          ∙ (sym (get_or-take end (column_bits column values) (3 + 2 * k) false (omega (arith, inside)))
          ∙ (ap (λ bits. get_or bits (3 + 2 * k) false) whole ∙ operand_at_place input done 0 (Low k) within));
    }

-- an input of a part is the state of the map's node
pub input_at : (state : List Tern) (nodes : List ℕ) (inputs at k : ℕ) → at + inputs ≤ length nodes → k < inputs →
    state_at (states_at state nodes inputs at) k ≡ state_before nodes state k at
input_at state nodes inputs at k room inside =
    get_or-map (state_at state) (map_at nodes inputs at) k 0 Zero (omega (arith, inside, length-map_at nodes inputs at room))
    ∙ ap (state_at state) (map_at-at nodes inputs at k inside)
