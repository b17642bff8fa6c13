-- What becomes of a record when a state is shown: it is noted if nothing was left out and there is room, and left out if not.
use Rattle.std.proofs.Common.{◌≡◌, ◌≢◌, ℕ, ◌+◌, ◌-◌, ◌<◌, ◌≤◌, inl, inr, ◌⊎◌, Bool, true, false, List, [], ◌∷◌, ◌++◌, length, take, drop, nat_lt, nat_eq, not, refl, sym, ap, ap₂, subst, ◌∙◌, arith}
use Rattle.std.specs.Prelude.{◌&&◌, if◌then◌else◌}
use Rattle.std.proofs.Math.Seq.{take-length, drop-append_seam}
use Rattle.std.proofs.lemmas.Bool.{cases_Bool, and_from, and_parts, lt-ltb, le-ltb, ltb-true, ltb-false, eq-eqb, eqb-true}
use Rattle.std.proofs.lemmas.List.{append-nil, length-append, length_push, map-append, take_rest}
use Rattle.ternary.specs.declared.tern.Tern.{Tern}
use Rattle.settling.specs.Moved.{ListsChanges}
use Rattle.part_words.specs.declared.change.Change.{Change}
use Rattle.good_run.specs.declared.look.Look.{Look}
use Rattle.good_run.specs.Recording.{RunData, count_apart, has_room, with_look, without_look, look_at}
use Rattle.good_run.specs.Looks.{applied, between, shown_at, shown_in, last_end, GiveStates, IsLook, AreLooks, IsRecord, NotesChanges, HasMore}
use Rattle.good_run.proofs.AppliedLemmas.{applied-append}
use Rattle.good_run.proofs.LookLemmas.{AreLooks-more, AreLooks-push, last_end-push, shown_in-more}

-- a state is noted if there is room
pub look_noted : (begins : Bool) (run : RunData) (state : List Tern) → has_room run state ≡ true → look_at begins run state ≡ with_look begins run state
look_noted begins run state room = ap (λ there. if there then with_look begins run state else without_look run state) room

pub look_lost : (begins : Bool) (run : RunData) (state : List Tern) → has_room run state ≡ false → look_at begins run state ≡ without_look run state
look_lost begins run state room = ap (λ there. if there then with_look begins run state else without_look run state) room

-- if it was known which state was shown before, the list of changes is from that one
pub lists_from_known : (run : RunData) (nodes : List ℕ) (old new : List Tern) → run.known ≡ old → ListsChanges nodes old new → ListsChanges nodes run.known new
lists_from_known run nodes old new knows lists = subst (λ states. ListsChanges nodes states new) (sym knows) lists

-- it is known afterwards in either case
pub look_known : (begins : Bool) (run : RunData) (state : List Tern) → (look_at begins run state).known ≡ state
look_known begins run state =
    elim (cases_Bool (has_room run state)) [
      | inl room ↦ ap (λ (r : RunData). r.known) (look_noted begins run state room)
      | inr none ↦ ap (λ (r : RunData). r.known) (look_lost begins run state none)
    ]

-- there is room
room_there : (run : RunData) (state : List Tern) → run.whole ≡ true → 0 < run.places → count_apart run.known state ≤ run.left →
    length state ≡ length run.known → has_room run state ≡ true
room_there run state whole some few counted =
    and_from run.whole _ whole
    (and_from (nat_lt 0 run.places) _ (lt-ltb 0 run.places some)
    (and_from (not (nat_lt run.left (count_apart run.known state))) (nat_eq (length state) (length run.known))
    (ap not (le-ltb run.left (count_apart run.known state) few)) (eq-eqb (length state) (length run.known) counted)))

-- what it means that there is
room_means : (run : RunData) (state : List Tern) → has_room run state ≡ true →
    (run.whole ≡ true) × (0 < run.places) × (count_apart run.known state ≤ run.left) × (length state ≡ length run.known)
room_means run state room =
    let (whole, more) = and_parts run.whole _ room in
    let (some, rest) = and_parts (nat_lt 0 run.places) _ more in
    let (few, counted) = and_parts (not (nat_lt run.left (count_apart run.known state))) (nat_eq (length state) (length run.known)) rest in (
      whole,
      ltb-true 0 run.places some,
      elim (cases_Bool (nat_lt run.left (count_apart run.known state))) [
        | inl less ↦ absurd (cc (sym few ∙ ap not less))
        | inr most ↦ ltb-false run.left (count_apart run.known state) most
      ],
      eqb-true (length state) (length run.known) counted,
    )

-- there is none
no_room : (run : RunData) (state : List Tern) → (run.whole ≡ true → 0 < run.places → ¬ (count_apart run.known state ≤ run.left)) → has_room run state ≡ false
no_room run state none =
    elim (cases_Bool (has_room run state)) [
      | inl room ↦ let (whole, some, few, counted) = room_means run state room in absurd (none whole some few)
      | inr is ↦ is
    ]

pub no_room_counted : (run : RunData) (state : List Tern) → length state ≢ length run.known → has_room run state ≡ false
no_room_counted run state differs =
    elim (cases_Bool (has_room run state)) [
      | inl room ↦ let (whole, some, few, counted) = room_means run state room in absurd (differs counted)
      | inr is ↦ is
    ]

-- a record with this room
abbrev pub run_of : List Tern → List Tern → List Change → List Look → ℕ → ℕ → Bool → RunData
run_of start known changes looks room places whole = record {
  start = start;
  known = known;
  shown = shown_in start changes looks;
  left = if whole then room - length changes else 0;
  places = if whole then places - length looks else 0;
  whole = whole;
}

module _ (begins : Bool) (start known state : List Tern) (changes new_changes : List Change) (looks : List Look) (room places : ℕ)
    (counted : length state ≡ length known) where
  abbrev look : Look
  look = record { begins = begins; end = length new_changes }

  module _ (is_record : IsRecord start known changes looks true) (notes : NotesChanges known state changes new_changes) where
    -- all changes lead to the new state
    leads : applied new_changes start ≡ state
    leads =
        ap (λ list. applied list start) notes.behind
        ∙ (applied-append changes notes.more start ∙ (ap (applied notes.more) (sym (is_record.leads refl)) ∙ notes.leads))

    at_end : applied (take (length new_changes) new_changes) start ≡ state
    at_end = ap (λ list. applied list start) (take-length new_changes) ∙ leads

    so_many : length new_changes ≡ length changes + length notes.more
    so_many = ap length notes.behind ∙ length-append changes notes.more

    -- a state that is noted stands behind the others
    noted_here : length looks < places → length changes + count_apart known state ≤ room →
        run_of start state new_changes (looks ++ look ∷ []) room places true ≡ look_at begins (run_of start known changes looks room places true) state
    noted_here some few =
        let run = run_of start known changes looks room places true in
        let shown_is = map-append (shown_at start new_changes) looks (look ∷ [])
        ∙ ap₂ (λ front (last : List Tern). front ++ record { begins = begins; state = last } ∷ [])
        (ap (λ list. shown_in start list looks) notes.behind ∙ shown_in-more start changes notes.more 0 looks is_record.looks_are) at_end in
        let left_is : room - length new_changes ≡ room - length changes - count_apart known state = omega (arith, so_many, notes.number) in
        let places_are : places - length (looks ++ look ∷ []) ≡ places - length looks - 1 = omega (arith, length_push looks look) in
        let there = room_there run state refl (omega (arith, some)) (omega (arith, few)) counted in
        (λ i. record { start = start; known = state; shown = shown_is i; left = left_is i; places = places_are i; whole = true })
        ∙ sym (look_noted begins run state there)

    -- its changes are those behind the others
    between_here : between (last_end 0 looks) (length new_changes) new_changes ≡ notes.more
    between_here =
        let begin : last_end 0 looks ≡ length changes = is_record.all refl in
        ap (λ from. between from (length new_changes) new_changes) begin
        ∙ (take_rest new_changes (length changes) ∙ (ap (drop (length changes)) notes.behind ∙ drop-append_seam changes notes.more))

    kept_here : IsRecord start state new_changes (looks ++ look ∷ []) true
    kept_here =
        let next : IsLook start new_changes (last_end 0 looks) (length new_changes) = record {
          ordered = omega (arith, is_record.all refl, so_many);
          inside = omega arith;
          give = subst (λ list. GiveStates list (applied (take (length new_changes) new_changes) start)) (sym between_here)
              (subst (GiveStates notes.more) (sym at_end) notes.give);
        } in
        record {
          looks_are = AreLooks-push start new_changes 0 looks look
              (subst (λ list. AreLooks start list 0 looks) (sym notes.behind) (AreLooks-more start changes notes.more 0 looks is_record.looks_are)) next;
          leads = λ all. sym leads;
          all = λ all. last_end-push 0 looks look;
        }

  module _ (whole : Bool) (is_record : IsRecord start known changes looks whole) (more : HasMore changes new_changes) where
    -- one that is left out isn't there, and nothing that follows is
    lost_here : has_room (run_of start known changes looks room places whole) state ≡ false →
        run_of start state new_changes (looks ++ []) room places false ≡ look_at begins (run_of start known changes looks room places whole) state
    lost_here none =
        let run = run_of start known changes looks room places whole in
        let shown_is : shown_in start new_changes (looks ++ []) ≡ shown_in start changes looks =
        ap (shown_in start new_changes) (append-nil looks)
        ∙ (ap (λ list. shown_in start list looks) more.behind ∙ shown_in-more start changes more.more 0 looks is_record.looks_are) in
        (λ i. record { start = start; known = state; shown = shown_is i; left = 0; places = 0; whole = false })
        ∙ sym (look_lost begins run state none)

    kept_lost : IsRecord start state new_changes (looks ++ []) false
    kept_lost = record {
      looks_are = subst (AreLooks start new_changes 0) (sym (append-nil looks))
          (subst (λ list. AreLooks start list 0 looks) (sym more.behind) (AreLooks-more start changes more.more 0 looks is_record.looks_are));
      leads = λ wrong. absurd (cc (wrong));
      all = λ wrong. absurd (cc (wrong));
    }

-- a record of which something was left out goes on with its looks
pub not_whole : (start known new_known : List Tern) (changes : List Change) (looks : List Look) (whole : Bool) → IsRecord start known changes looks whole →
    IsRecord start new_known changes looks false
not_whole start known new_known changes looks whole is_record = record {
  looks_are = is_record.looks_are;
  leads = λ wrong. absurd (cc (wrong));
  all = λ wrong. absurd (cc (wrong));
}

-- what is known of a look: whether there is room for one more, and for its changes
pub record IsLookedAt (known state : List Tern) (changes new_changes : List Change) (looks : List Look) (room places : ℕ) (whole place enough : Bool) : Type 0 where
  pub some : place ≡ true → (whole ≡ true) × (length looks < places)
  pub none : place ≡ false → (whole ≡ false) ⊎ (places ≤ length looks)
  pub notes : enough ≡ true → NotesChanges known state changes new_changes
  pub few : enough ≡ true → length changes + count_apart known state ≤ room
  pub over : enough ≡ false → room < length changes + count_apart known state
  pub within : length changes ≤ room
  pub more : HasMore changes new_changes

-- the looks with one more, if it is noted
abbrev pub looks_with : Bool → Bool → List Change → List Look → List Look
looks_with noted begins changes looks = looks ++ (if noted then record { begins = begins; end = length changes } ∷ [] else [])

-- the record after a look is the one that the look makes of it
looked : (begins : Bool) (start known state : List Tern) (changes new_changes : List Change) (looks : List Look) (room places : ℕ)
    (whole place enough : Bool) → length state ≡ length known → IsRecord start known changes looks whole →
    IsLookedAt known state changes new_changes looks room places whole place enough →
    (run_of start state new_changes (looks_with (place && enough) begins new_changes looks) room places (place && enough)
    ≡ look_at begins (run_of start known changes looks room places whole) state)
    × IsRecord start state new_changes (looks_with (place && enough) begins new_changes looks) (place && enough)
looked begins start known state changes new_changes looks room places true true true counted is_record at = (
  noted_here begins start known state changes new_changes looks room places counted is_record (at.notes refl) (at.some refl).1 (at.few refl),
  kept_here begins start known state changes new_changes looks room places counted is_record (at.notes refl),
)
looked begins start known state changes new_changes looks room places true true false counted is_record at = (
  lost_here begins start known state changes new_changes looks room places counted true is_record at.more
      (no_room (run_of start known changes looks room places true) state (λ whole some few. omega (arith, few, at.over refl, at.within))),
  kept_lost begins start known state changes new_changes looks room places counted true is_record at.more,
)
looked begins start known state changes new_changes looks room places true false enough counted is_record at = (
  lost_here begins start known state changes new_changes looks room places counted true is_record at.more
      (no_room (run_of start known changes looks room places true) state (λ whole some few. elim (at.none refl) [
        | inl wrong ↦ absurd (cc (wrong))
        | inr full ↦ omega (arith, some, full)
      ])),
  kept_lost begins start known state changes new_changes looks room places counted true is_record at.more,
)
looked begins start known state changes new_changes looks room places false true enough counted is_record at = absurd (cc ((at.some refl).0))
looked begins start known state changes new_changes looks room places false false enough counted is_record at = (
  lost_here begins start known state changes new_changes looks room places counted false is_record at.more
      (no_room (run_of start known changes looks room places false) state (λ wrong some few. absurd (cc (wrong)))),
  kept_lost begins start known state changes new_changes looks room places counted false is_record at.more,
)

-- the same with what the code has at hand
pub looked_at : (begins : Bool) (start known state new_known : List Tern) (changes new_changes : List Change) (looks new_looks : List Look)
    (room new_room places new_places : ℕ) (whole noted place enough : Bool) → length state ≡ length known → new_known ≡ state → new_room ≡ room →
    new_places ≡ places → noted ≡ (place && enough) → new_looks ≡ looks_with noted begins new_changes looks → IsRecord start known changes looks whole →
    IsLookedAt known state changes new_changes looks room places whole place enough →
    (run_of start new_known new_changes new_looks new_room new_places noted ≡ look_at begins (run_of start known changes looks room places whole) state)
    × IsRecord start new_known new_changes new_looks noted
looked_at begins start known state new_known changes new_changes looks new_looks room new_room places new_places whole noted place enough counted known_is
    room_is places_are noted_is looks_are is_record at =
    let (is, kept) = looked begins start known state changes new_changes looks room places whole place enough counted is_record at in
    let looks_both : new_looks ≡ looks_with (place && enough) begins new_changes looks =
    looks_are ∙ ap (λ both. looks_with both begins new_changes looks) noted_is in (
      ap (λ states. run_of start states new_changes new_looks new_room new_places noted) known_is
          ∙ (ap (λ n. run_of start state new_changes new_looks n new_places noted) room_is
          ∙ (ap (λ n. run_of start state new_changes new_looks room n noted) places_are
          ∙ (ap (run_of start state new_changes new_looks room places) noted_is
          ∙ (ap (λ list. run_of start state new_changes list room places (place && enough)) looks_both ∙ is)))),
      subst (λ states. IsRecord start states new_changes new_looks noted) (sym known_is)
          (subst (IsRecord start state new_changes new_looks) (sym noted_is)
          (subst (λ list. IsRecord start state new_changes list (place && enough)) (sym looks_both) kept)),
    )
