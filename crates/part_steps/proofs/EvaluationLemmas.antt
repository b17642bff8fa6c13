-- What is noted of the marked parts, part by part: a part is taken in or has no code, some that wait are run, and at the end none waits.
use Rattle.std.proofs.Common.{◌≡◌, ℕ, ◌+◌, ◌*◌, ◌<◌, ◌≤◌, Bool, inl, inr, ◌⊎◌, List, [], ◌∷◌, ◌++◌, length, map, All, false, Option, Some, None, refl, sym, ap, subst, ◌∙◌, arith, Global}
use Rattle.std.specs.Prelude.{◌↔◌, zero, suc, Contains, option_map, unwrap_or, slice_get, slice_index, slice_set}
use Rattle.std.specs.declared.rc.Rc.{Rc}
use Rattle.std.proofs.lemmas.List.{length-map}
use Rattle.std.proofs.lemmas.List.Elements.{Contains-push, Contains-push_cases, Contains-append_left}
use Rattle.std.proofs.lemmas.Option.{same_Some, slice_get_within, get_or_from_slice_get}
use Rattle.ternary.specs.declared.tern.Tern.{Tern}
use Rattle.switch_paths.specs.Switching.{state_at}
use Rattle.straight_code.specs.Code.{CodeData, code_value, output_state, results}
use Rattle.part_words.specs.declared.change.Change.{Change}
use Rattle.part_words.specs.Noting.{after, states_at, IsNotedAt}
use Rattle.machine_parts.specs.declared.part.MachinePart.{MachinePart}
use Rattle.part_steps.specs.declared.dense.Seat.{Seat}
use Rattle.machine_parts.specs.Parts.{Stands, IsMemberAt}
use Rattle.machine_parts.specs.Marking.{IsMarked, members_of, instructions_of}
use Rattle.machine_parts.specs.Evaluating.{Rooms, IsSeated, IsChange, Evaluated}
use Rattle.part_steps.specs.Dense.{IsPlace, AreSeatsOf}
use Rattle.part_steps.specs.Waiting.{Slot, Waits, IsEmptyFrom}
use Rattle.part_steps.specs.Together.{CanRun, IsNotedBy, RunsSome, TakesIn, EvaluatedBut, outputs_at, instructions_at}
use Rattle.machine_parts.proofs.PartLemmas.{same_part}
use Rattle.machine_parts.proofs.SetMarks.{marked-cleared_was, marked-cleared_cases}
use Rattle.part_steps.proofs.WaitingLemmas.{none_waits}
use Rattle.part_steps.proofs.CodesLemmas.{outputs_there, instructions_there}

-- something stands at each place of a list
item_there : {X : Type 0} (xs : List X) (k : ℕ) → k < length xs → (x : X) × (slice_get xs k ≡ Some x)
item_there [] k inside = absurd (omega (arith, inside))
item_there (x ∷ xs) zero inside = (x, refl)
item_there (x ∷ xs) (suc k) inside = item_there xs k (omega (arith, inside))

-- the part that stands at a number
pub part_there : (parts : List MachinePart) (k : ℕ) (part : MachinePart) → slice_get parts k ≡ Some part → Stands parts k part
part_there parts k part there = record {
  inside = slice_get_within parts k part there;
  here = get_or_from_slice_get parts k part part there;
}

-- a part without code makes no change
pub no_change_of : (joining : Bool) (parts : List MachinePart) (state : List Tern) (k : ℕ) (part : MachinePart) →
    Stands parts k part → part.code ≡ None →
    (change : Change) → ¬ IsChange joining parts state k change
no_change_of joining parts state k part stands none change is =
    let gives = is.gives in
    let same = same_part parts k gives.part part gives.stands stands in
    absurd (cc (ap (λ (p : MachinePart). p.code) same, gives.has))

module _ (joining : Bool) (parts : List MachinePart) (state : List Tern) (room : Rooms) (codes : List (Rc CodeData Global)) (nodes : List ℕ)
    (k : ℕ) (part : MachinePart) (seat : Seat) (stands : Stands parts k part) (of : IsPlace part codes nodes seat)
    (seated : IsSeated (length state) room part) where
  -- a part can be run by its seat
  pub CanRun-seated : CanRun (length state) room codes nodes seat
  CanRun-seated =
      let own = seated.coded of.own of.has in
      record {
        code = of.code;
        there = of.there;
        inside = of.inside;
        below = subst (All (λ node. node < length state)) (sym of.map) seated.below;
        front = subst (λ (code : CodeData). length code.outputs ≤ code.inputs) (sym of.same) (omega (arith, own.outputs, own.inputs, seated.members));
        value_room = subst (λ (code : CodeData). 2 + 2 * code.inputs + length code.instructions ≤ room.values) (sym of.same) own.value_room;
      }

  -- its code has an output for each member
  pub outputs_seated : outputs_at codes seat.code ≡ members_of part
  outputs_seated =
      outputs_there codes seat.code of.code of.there
      ∙ (ap (λ (code : CodeData). length code.outputs) of.same ∙ (seated.coded of.own of.has).outputs)

  -- and as many instructions as its own
  pub instructions_seated : instructions_at codes seat.code ≡ instructions_of part
  instructions_seated =
      instructions_there codes seat.code of.code of.there
      ∙ (ap (λ (code : CodeData). length code.instructions) of.same
      ∙ sym (ap (λ (code : Option (Rc CodeData Global)). unwrap_or (option_map (λ (one : Rc CodeData Global). length one.value.instructions) code) 0) of.has))

  input : List Tern
  input = map (state_at state) part.map.items

  values_are : code_value of.code.value (states_at state nodes of.code.value.inputs seat.at) ≡ code_value of.own.value input
  unfolding input
  values_are =
      ap (λ (xs : List ℕ). code_value of.code.value (map (state_at state) xs)) of.map
      ∙ ap (λ (code : CodeData). code_value code (map (state_at state) part.map.items)) of.same

  counted : length (code_value of.own.value input) ≡ part.members
  counted =
      length-map of.own.value.outputs (output_state input (results input of.own.value.instructions)) ∙ (seated.coded of.own of.has).outputs

  -- what its seat notes is what it changes
  pub noted_seated : (change : Change) → IsChange joining parts state k change → IsNotedBy joining codes nodes state seat change
  unfolding input
  noted_seated change is =
      let gives = is.gives in
      let same = same_part parts k gives.part part gives.stands stands in
      let has : gives.code ≡ of.own = same_Some gives.code of.own (sym gives.has ∙ (ap (λ (p : MachinePart). p.code) same ∙ of.has)) in
      let member = subst (λ p. IsMemberAt p gives.place change.node) same gives.member in
      let values = code_value of.code.value (states_at state nodes of.code.value.inputs seat.at) in
      let given : is.given ≡ state_at values gives.place =
      gives.value_is
      ∙ (ap (λ (p : MachinePart). state_at (code_value gives.code.value (map (state_at state) p.map.items)) gives.place) same
      ∙ (ap (λ (shared : Rc CodeData Global). state_at (code_value shared.value input) gives.place) has
      ∙ ap (λ (xs : List Tern). state_at xs gives.place) (sym values_are))) in
      record {
        code = of.code;
        there = of.there;
        noted = record {
          place = gives.place;
          inside = omega (arith, ap (λ (xs : List Tern). length xs) values_are, counted, member.inside);
          node = ap (λ (xs : List ℕ). slice_index xs gives.place) of.map ∙ member.here;
          value = is.value ∙ ap (after joining (state_at state change.node)) given;
          differs = is.differs;
        };
      }

  pub seated_noted : (change : Change) → IsNotedBy joining codes nodes state seat change → IsChange joining parts state k change
  unfolding input
  seated_noted change is =
      let shared : is.code ≡ of.code = same_Some is.code of.code (sym is.there ∙ of.there) in
      let noted = subst (λ (one : Rc CodeData Global). IsNotedAt joining one.value nodes state seat.at change) shared is.noted in
      let first : noted.place < part.members = omega (arith, ap (λ (xs : List Tern). length xs) values_are, counted, noted.inside) in
      record {
        given = state_at (code_value of.own.value input) noted.place;
        gives = record {
          part = part;
          stands = stands;
          code = of.own;
          has = of.has;
          place = noted.place;
          member = record {
            inside = first;
            within = omega (arith, first, seated.members);
            here = ap (λ (xs : List ℕ). slice_index xs noted.place) (sym of.map) ∙ noted.node;
          };
          value_is = refl;
        };
        value = noted.value
            ∙ ap (λ (xs : List Tern). after joining (state_at state change.node) (state_at xs noted.place)) values_are;
        differs = noted.differs;
      }

-- what the seat of a part notes is what the part changes
abbrev pub NotesItsChanges : Bool → List MachinePart → List Tern → List (Rc CodeData Global) → List ℕ → ℕ → Seat → Type 0
NotesItsChanges joining parts state codes nodes k seat =
    (change : Change) → IsChange joining parts state k change ↔ IsNotedBy joining codes nodes state seat change

abbrev pub NoteTheirChanges : Bool → List MachinePart → List Tern → List (Rc CodeData Global) → List ℕ → List (Option Seat) → Type 0
NoteTheirChanges joining parts state codes nodes seats =
    (k : ℕ) (seat : Seat) → slice_get seats k ≡ Some (Some seat) → NotesItsChanges joining parts state codes nodes k seat

-- a part whose seat is there, and what the seat tells
pub record IsFoundBy (parts : List MachinePart) (codes : List (Rc CodeData Global)) (nodes : List ℕ) (k : ℕ) (seat : Seat) : Type 0 where
  pub part : MachinePart
  pub stands : Stands parts k part
  pub place : IsPlace part codes nodes seat

pub found_by : (parts : List MachinePart) (codes : List (Rc CodeData Global)) (nodes : List ℕ) (seats : List (Option Seat)) (k : ℕ) (seat : Seat) →
    AreSeatsOf parts codes nodes seats → slice_get seats k ≡ Some (Some seat) → IsFoundBy parts codes nodes k seat
found_by parts codes nodes seats k seat are there =
    let inside : k < length parts = omega (arith, slice_get_within seats k (Some seat) there, are.counted) in
    let (part, at) = item_there parts k inside in
    record {
      part = part;
      stands = part_there parts k part at;
      place = (are.each k part (Some seat) at there).some seat refl;
    }

-- a part without a seat has no code
pub codeless_by : (parts : List MachinePart) (codes : List (Rc CodeData Global)) (nodes : List ℕ) (seats : List (Option Seat)) (k : ℕ) →
    AreSeatsOf parts codes nodes seats → slice_get seats k ≡ Some None → (part : MachinePart) × Stands parts k part × (part.code ≡ None)
codeless_by parts codes nodes seats k are there =
    let inside : k < length parts = omega (arith, slice_get_within seats k None there, are.counted) in
    let (part, at) = item_there parts k inside in
    (part, part_there parts k part at, (are.each k part None at there).none refl)

-- what the seats of parts note is what the parts change
pub NoteTheirChanges-from_AreSeatsOf : (joining : Bool) (parts : List MachinePart) (state : List Tern) (room : Rooms)
    (codes : List (Rc CodeData Global))
    (nodes : List ℕ) (seats : List (Option Seat)) → AreSeatsOf parts codes nodes seats → All (IsSeated (length state) room) parts →
    NoteTheirChanges joining parts state codes nodes seats
NoteTheirChanges-from_AreSeatsOf joining parts state room codes nodes seats are seated k seat there change =
    let found = found_by parts codes nodes seats k seat are there in
    let seat_of = subst (IsSeated (length state) room) found.stands.here (seated k found.part found.stands.inside) in (
      noted_seated joining parts state room codes nodes k found.part seat found.stands found.place seat_of change,
      seated_noted joining parts state room codes nodes k found.part seat found.stands found.place seat_of change,
    )

-- what is marked or done is so still once a marked part is done
pub popped_more : (marks : List Bool) (done : List ℕ) (k l : ℕ) → IsMarked marks l ⊎ Contains done l → IsMarked (slice_set marks k false) l ⊎ Contains (done ++ k ∷ []) l
popped_more marks done k l (inl still) =
    elim (marked-cleared_cases marks k l still) [
      | inl left ↦ inl left
      | inr same ↦ inr (subst (Contains (done ++ k ∷ [])) (sym same) (Contains-push done k))
    ]
popped_more marks done k l (inr earlier) = inr (Contains-append_left done (k ∷ []) l earlier)

module _ (joining : Bool) (parts : List MachinePart) (state : List Tern) (waiting before : List Bool) (seats : List (Option Seat)) where
  -- nothing was evaluated yet
  pub EvaluatedBut-none : (slots : List Slot) → IsEmptyFrom 0 slots →
      EvaluatedBut joining parts state waiting before before seats slots [] []
  EvaluatedBut-none slots empty = record {
    fewer = λ k now. now;
    marked = λ k (i, inside, here). absurd (omega (arith, inside));
    ready = λ k (i, inside, here). absurd (omega (arith, inside));
    popped = λ k was. inl was;
    noted = λ k change (i, inside, here) is. absurd (omega (arith, inside));
    only = λ change (i, inside, here). absurd (omega (arith, inside));
    taken = λ seat waits. absurd (none_waits slots empty seat waits);
  }

  -- where none waits to be run, all is noted
  pub Evaluated-from_EvaluatedBut : (marks : List Bool) (slots : List Slot) (changes : List Change) (done : List ℕ) → IsEmptyFrom 0 slots →
      EvaluatedBut joining parts state waiting before marks seats slots changes done → Evaluated joining parts state waiting before marks changes done
  Evaluated-from_EvaluatedBut marks slots changes done empty evaluated = record {
    fewer = evaluated.fewer;
    marked = evaluated.marked;
    ready = evaluated.ready;
    popped = evaluated.popped;
    noted = λ k change there is.
        elim (evaluated.noted k change there is) [
          | inl noted ↦ noted
          | inr (seat, at, waits) ↦ absurd (none_waits slots empty seat waits)
        ];
    only = evaluated.only;
  }

  module _ (codes : List (Rc CodeData Global)) (nodes : List ℕ) (notes : NoteTheirChanges joining parts state codes nodes seats)
      (marks : List Bool) (done : List ℕ) where
    -- some of those that wait were run
    pub EvaluatedBut-run : (slots now : List Slot) (changes more : List Change) → RunsSome joining codes nodes state slots now changes more →
        EvaluatedBut joining parts state waiting before marks seats slots changes done →
        EvaluatedBut joining parts state waiting before marks seats now more done
    EvaluatedBut-run slots now changes more runs evaluated = record {
      fewer = evaluated.fewer;
      marked = evaluated.marked;
      ready = evaluated.ready;
      popped = evaluated.popped;
      noted = λ k change there is.
          elim (evaluated.noted k change there is) [
            | inl noted ↦ inl (runs.kept change noted)
            | inr (seat, at, waits) ↦
                elim (runs.left seat waits) [
                  | inl still ↦ inr (seat, at, still)
                  | inr noted ↦ inl (noted change ((notes k seat at change).0 is))
                ]
          ];
      only = λ change there.
          elim (runs.only change there) [
            | inl earlier ↦ evaluated.only change earlier
            | inr (seat, waits, is) ↦
                let (k, contained, at) = evaluated.taken seat waits in
                (k, contained, (notes k seat at change).1 is)
          ];
      taken = λ seat waits. evaluated.taken seat (runs.stays seat waits);
    }

  module _ (marks : List Bool) (done : List ℕ) (k : ℕ) (marked : IsMarked marks k) (ready : ¬ IsMarked waiting k) where
    -- a marked part was taken off the marks: its changes are noted, or its seat waits
    more_done : (slots now : List Slot) (changes : List Change) →
        ((change : Change) → IsChange joining parts state k change →
        Contains changes change ⊎ ((seat : Seat) × (slice_get seats k ≡ Some (Some seat)) × Waits now seat)) →
        ((seat : Seat) → Waits slots seat → Waits now seat) →
        ((seat : Seat) → Waits now seat → Waits slots seat ⊎ (slice_get seats k ≡ Some (Some seat))) →
        EvaluatedBut joining parts state waiting before marks seats slots changes done →
        EvaluatedBut joining parts state waiting before (slice_set marks k false) seats now changes (done ++ k ∷ [])
    more_done slots now changes own others only evaluated = record {
      fewer = λ l now. evaluated.fewer l (marked-cleared_was marks k l now);
      marked = λ l there.
          elim (Contains-push_cases done k l there) [
            | inl earlier ↦ evaluated.marked l earlier
            | inr same ↦ subst (IsMarked before) same (evaluated.fewer k marked)
          ];
      ready = λ l there.
          elim (Contains-push_cases done k l there) [
            | inl earlier ↦ evaluated.ready l earlier
            | inr same ↦ λ waits. ready (subst (IsMarked waiting) (sym same) waits)
          ];
      popped = λ l was. popped_more marks done k l (evaluated.popped l was);
      noted = λ l change there is.
          elim (Contains-push_cases done k l there) [
            | inl earlier ↦
                elim (evaluated.noted l change earlier is) [
                  | inl noted ↦ inl noted
                  | inr (seat, at, waits) ↦ inr (seat, at, others seat waits)
                ]
            | inr same ↦
                subst (λ n. Contains changes change ⊎ ((seat : Seat) × (slice_get seats n ≡ Some (Some seat)) × Waits now seat)) same
                (own change (subst (λ n. IsChange joining parts state n change) (sym same) is))
          ];
      only = λ change there.
          let (l, contained, is) = evaluated.only change there in
          (l, Contains-append_left done (k ∷ []) l contained, is);
      taken = λ seat waits.
          elim (only seat waits) [
            | inl earlier ↦
                let (l, contained, at) = evaluated.taken seat earlier in
                (l, Contains-append_left done (k ∷ []) l contained, at)
            | inr at ↦ (k, Contains-push done k, at)
          ];
    }

    -- a part without code changes nothing
    pub EvaluatedBut-codeless : (slots : List Slot) (changes : List Change) → ((change : Change) → ¬ IsChange joining parts state k change) →
        EvaluatedBut joining parts state waiting before marks seats slots changes done →
        EvaluatedBut joining parts state waiting before (slice_set marks k false) seats slots changes (done ++ k ∷ [])
    EvaluatedBut-codeless slots changes none evaluated =
        more_done slots slots changes (λ change is. absurd (none change is)) (λ seat waits. waits) (λ seat waits. inl waits) evaluated

    -- a part with code is taken in
    pub EvaluatedBut-taken : (codes : List (Rc CodeData Global)) (nodes : List ℕ) → NoteTheirChanges joining parts state codes nodes seats →
        (seat : Seat) → slice_get seats k ≡ Some (Some seat) → (slots now : List Slot) (changes more : List Change) →
        TakesIn joining codes nodes state seat slots now changes more →
        EvaluatedBut joining parts state waiting before marks seats slots changes done →
        EvaluatedBut joining parts state waiting before (slice_set marks k false) seats now more (done ++ k ∷ [])
    EvaluatedBut-taken codes nodes notes seat at slots now changes more takes evaluated =
        more_done takes.between now more (λ change is. inr (seat, at, takes.waits)) takes.others
        (λ one waits.
        elim (takes.only one waits) [
          | inl earlier ↦ inl earlier
          | inr same ↦ inr (subst (λ (s : Seat). slice_get seats k ≡ Some (Some s)) (sym same) at)
        ])
        (EvaluatedBut-run codes nodes notes marks done slots takes.between changes more takes.runs evaluated)
