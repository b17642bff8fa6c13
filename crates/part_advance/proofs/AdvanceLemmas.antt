-- What a step does, from what was noted of it: which nodes take which values, which parts are marked, and whether the state changed.
use Rattle.std.proofs.Common.{◌≡◌, ◌≢◌, ℕ, ◌<◌, Bool, true, false, inl, inr, ◌⊎◌, List, ◌++◌, length, Global, Vec, refl, sym, ap, subst, ◌∙◌, arith}
use Rattle.std.specs.Prelude.{Contains, vec_capacity, Option, None, Some}
use Rattle.std.proofs.lemmas.List.{ext_get_or}
use Rattle.std.proofs.lemmas.List.Elements.{Contains-append_left, Contains-append_right, Contains-append_cases}
use Rattle.smallvec.specs.SmallVec.{SmallVec}
use Rattle.ternary.specs.declared.tern.Tern.{Tern}
use Rattle.ternary.specs.declared.tern.Tern.TheVariants.{Zero, Unk}
use Rattle.switch_paths.specs.Switching.{state_at}
use Rattle.switch_paths.specs.Step.{IsResponse}
use Rattle.switch_paths.proofs.UniqueSteps.{response_is_unique}
use Rattle.settling.specs.Moved.{ListsChanges}
use Rattle.settling.specs.Settling.{StaysOrBecomesX}
use Rattle.machine_parts.specs.declared.part.MachinePart.{MachinePart}
use Rattle.part_words.specs.declared.change.Change.{Change}
use Rattle.part_steps.specs.declared.evaluation.Workspace.{Workspace}
use Rattle.machine_parts.specs.Parts.{Stands, IsStale}
use Rattle.machine_parts.specs.Marking.{IsMarked, MarksAll}
use Rattle.machine_parts.specs.Stepping.{IsGiven, StaysMarked, Remarks}
use Rattle.vicinity.specs.Wides.{WideData}
use Rattle.wide_groups.specs.Moving.{graph_in, IsAwakeIn, MovesIn}
use Rattle.wide_groups.specs.Awake.{HoldsWide, NotesIn}
use Rattle.wide_groups.proofs.WideCases.{awake_stale, awake_inside, stale_only_in, none_awake}
use Rattle.part_words.specs.Noting.{after}
use Rattle.machine_parts.specs.Evaluating.{Rooms, IsSeated, IsChange, Evaluated}
use Rattle.part_steps.specs.Workspaces.{rooms, nodes_noted}
use Rattle.machine_parts.specs.Running.{IsRunnable, AreAgreed, IsTaken, ReadsAny}
use Rattle.machine_parts.specs.Readers.{readers_of}
use Rattle.part_steps.proofs.TakingLemmas.{change_of, node_noted, noted_node}
use Rattle.machine_parts.proofs.CaseLemmas.{same_or_not, after-differs}
use Rattle.machine_parts.proofs.PartLemmas.{same_part, given_once, HasMember-from_Gives}

-- clearing the lists of a step keeps their room
pub cleared_rooms : (workspace : Workspace) (changes : Vec Change Global) (done : Vec ℕ Global) →
    vec_capacity changes ≡ vec_capacity workspace.changes →
    vec_capacity done ≡ vec_capacity workspace.done → rooms (record workspace { changes = changes; done = done }) ≡ rooms workspace
cleared_rooms workspace changes done changes_same done_same = λ i. record {
  values = length workspace.values.items;
  changes = changes_same i;
  parts = done_same i;
}

-- the change is that of a node that is awake
pub record IsAwakeChange (joining : Bool) (wide : Option WideData) (state : List Tern) (change : Change) : Type 0 where
  pub awake : IsAwakeIn wide state change.node
  pub steady : Tern
  pub response : IsResponse (graph_in wide) state change.node steady
  pub value : change.value ≡ after joining (state_at state change.node) steady
  pub differs : change.value ≢ state_at state change.node

-- the changes are those that the marked parts make, and those of the nodes that are awake
pub record AreChanges (joining : Bool) (parts : List MachinePart) (marks : List Bool) (wide : Option WideData) (state : List Tern) (changes : List Change) : Type 0 where
  pub noted : (k : ℕ) (change : Change) → IsMarked marks k → IsChange joining parts state k change → Contains changes change
  pub awake : (node : ℕ) → IsAwakeIn wide state node → (value : Tern) × IsResponse (graph_in wide) state node value
      × ((after joining (state_at state node) value ≡ state_at state node)
      ⊎ Contains changes (record { node = node; value = after joining (state_at state node) value }))
  pub only : (change : Change) → Contains changes change → ((k : ℕ) × IsMarked marks k × IsChange joining parts state k change)
      ⊎ IsAwakeChange joining wide state change

-- what is noted of the nodes that are awake
pub awake_noted : (joining : Bool) (wide : Option WideData) (state : List Tern) (changes : List Change) → NotesIn joining wide state changes →
    (node : ℕ) → IsAwakeIn wide state node → (value : Tern) × IsResponse (graph_in wide) state node value
    × ((after joining (state_at state node) value ≡ state_at state node)
    ⊎ Contains changes (record { node = node; value = after joining (state_at state node) value }))
awake_noted joining None state changes notes node awake = absurd (none_awake state node awake)
awake_noted joining (Some wide) state changes notes node awake =
    let all = notes.all node awake in (
      all.0,
      all.1,
      elim all.2 [
        | inl same ↦ inl same
        | inr there ↦ inr (subst (λ list. Contains list (record { node = node; value = after joining (state_at state node) all.0 })) (sym notes.list) there)
      ],
    )

pub noted_awake : (joining : Bool) (wide : Option WideData) (state : List Tern) (changes : List Change) → NotesIn joining wide state changes →
    (change : Change) → Contains changes change → IsAwakeChange joining wide state change
noted_awake joining None state changes notes change there = let none = subst (λ list. Contains list change) notes there in absurd (omega (arith, none.1))
noted_awake joining (Some wide) state changes notes change there =
    let is = notes.only change (subst (λ list. Contains list change) notes.list there) in
    record { awake = is.0; steady = is.1.0; response = is.1.1; value = is.1.2; differs = is.2 }

-- a mark that stays was not taken off, or was set again
pub still_marked : (joining : Bool) (parts : List MachinePart) (old : List Tern) (waiting marks first second : List Bool) (coded : List Change) (done : List ℕ) →
    ((k : ℕ) → IsStale parts k → IsMarked waiting k) → Evaluated joining parts old waiting marks first coded done →
    MarksAll (λ k. (joining ≡ true) × Contains done k) first second → (k : ℕ) → StaysMarked joining parts marks k → IsMarked second k
still_marked true parts old waiting marks first second coded done waits evaluated again k was =
    elim (evaluated.popped k was) [ inl still ↦ again.stays k still | inr there ↦ again.set k (refl, there) ]
still_marked false parts old waiting marks first second coded done waits evaluated again k (was, stale) =
    elim (evaluated.popped k was) [ inl still ↦ again.stays k still | inr there ↦ absurd (evaluated.ready k there (waits k stale)) ]

module _ (joining : Bool) (parts : List MachinePart) (marks : List Bool) (waiting : List Bool) (old : List Tern) (readers : List (SmallVec ℕ)) (room : Rooms)
    (runs : IsRunnable parts marks waiting (length old) readers room) (wide : Option WideData) (noted_room : ℕ)
    (holds : HoldsWide parts old noted_room wide) where
  -- all marked parts together give a node one value
  given_one : (node : ℕ) (v w : Tern) → IsGiven parts marks old node v → IsGiven parts marks old node w → v ≡ w
  given_one = given_once parts old (λ k part stands. (subst (IsSeated (length old) room) stands.here (runs.seated k part stands.inside)).apart) marks runs.apart

  -- and none to a node that is awake
  given_asleep : (node : ℕ) (value : Tern) → IsGiven parts marks old node value → ¬ IsAwakeIn wide old node
  given_asleep node value given awake =
      let (k, has, stale) = awake_stale parts wide (stale_only_in parts old noted_room wide holds) old node awake in
      let gives = given.gives in
      let same = runs.apart given.k k node (HasMember-from_Gives parts old given.k node value gives) has in
      let part = same_part parts k stale.part gives.part stale.stands (subst (λ l. Stands parts l gives.part) same gives.stands) in
      absurd (cc (ap (λ (p : MachinePart). p.code) part, stale.none, gives.has))

  -- the changes that were noted when nothing was left to be evaluated are those that the marked parts make, with those of the nodes that are awake
  pub AreChanges-from_Evaluated : (now : List Bool) (changes more : List Change) (done : List ℕ) →
      Evaluated joining parts old waiting marks now changes done → ((k : ℕ) → IsMarked now k → IsMarked waiting k) →
      NotesIn joining wide old more → AreChanges joining parts marks wide old (changes ++ more)
  AreChanges-from_Evaluated now changes more done evaluated rest notes = record {
    noted = λ k change marked is.
        elim (evaluated.popped k marked) [
          | inl still ↦
              let stale = runs.waits k (rest k still) in
              let same = same_part parts k stale.part is.gives.part stale.stands is.gives.stands in
              absurd (cc (ap (λ (p : MachinePart). p.code) same, stale.none, is.gives.has))
          | inr there ↦ Contains-append_left changes more change (evaluated.noted k change there is)
        ];
    awake = λ node awake.
        let all = awake_noted joining wide old more notes node awake in (
          all.0,
          all.1,
          elim all.2 [
            | inl same ↦ inl same
            | inr there ↦ inr (Contains-append_right changes more _ there)
          ],
        );
    only = λ change there.
        elim (Contains-append_cases changes more change there) [
          | inl first ↦
              let (k, contained, is) = evaluated.only change first in
              inl (k, evaluated.marked k contained, is)
          | inr second ↦ inr (noted_awake joining wide old more notes change second)
        ];
  }

  module _ (changes : List Change) (are : AreChanges joining parts marks wide old changes) where
    -- a node that changes is given a value, or is awake
    given_change : (change : Change) → Contains changes change → ((value : Tern) × IsGiven parts marks old change.node value
        × (change.value ≡ after joining (state_at old change.node) value)) ⊎ IsAwakeChange joining wide old change
    given_change change there =
        elim (are.only change there) [
          | inl (k, marked, is) ↦ inl (is.given, record { k = k; marked = marked; gives = is.gives }, is.value)
          | inr awake ↦ inr awake
        ]

    change_value : (change : Change) → Contains changes change → (value : Tern) × (change.value ≡ after joining (state_at old change.node) value)
    change_value change there =
        elim (given_change change there) [
          | inl (value, given, is) ↦ (value, is)
          | inr awake ↦ (awake.steady, awake.value)
        ]

    -- and takes another state
    change_differs : (change : Change) → Contains changes change → change.value ≢ state_at old change.node
    change_differs change there =
        elim (are.only change there) [
          | inl (k, marked, is) ↦ is.differs
          | inr awake ↦ awake.differs
        ]

    -- a node that changes is there
    pub changes_inside : (change : Change) → Contains changes change → change.node < length old
    changes_inside change there =
        elim (are.only change there) [
          | inl (k, marked, is) ↦
              let gives = is.gives in
              let seat = subst (IsSeated (length old) room) gives.stands.here (runs.seated k gives.part gives.stands.inside) in
              subst (λ n. n < length old) gives.member.here (seat.below gives.place 0 gives.member.within)
          | inr awake ↦ awake_inside parts old noted_room wide holds old change.node awake.awake
        ]

    -- changes of one node agree
    pub changes_agree : AreAgreed changes
    changes_agree one two there also same =
        elim (given_change one there) [
          | inl (v, given, is) ↦
              elim (given_change two also) [
                | inl (w, given_too, is_too) ↦
                    let values = given_one two.node v w (subst (λ n. IsGiven parts marks old n v) same given) given_too in
                    is ∙ (ap (λ n. after joining (state_at old n) v) same ∙ (ap (after joining (state_at old two.node)) values ∙ sym is_too))
                | inr awake ↦ absurd (given_asleep two.node v (subst (λ n. IsGiven parts marks old n v) same given) awake.awake)
              ]
          | inr awake ↦
              elim (given_change two also) [
                | inl (w, given_too, is_too) ↦
                    absurd (given_asleep one.node w (subst (λ n. IsGiven parts marks old n w) (sym same) given_too) awake.awake)
                | inr awake_too ↦
                    let first = subst (λ n. IsResponse (graph_in wide) old n awake.steady) same awake.response in
                    let values = response_is_unique (graph_in wide) old two.node awake.steady awake_too.steady first awake_too.response in
                    awake.value ∙ (ap (λ n. after joining (state_at old n) awake.steady) same
                    ∙ (ap (after joining (state_at old two.node)) values ∙ sym awake_too.value))
              ]
        ]

    module _ (new : List Tern) (taken : IsTaken changes old new) where
      -- a node that is given a value takes it
      given_taken : (node : ℕ) (value : Tern) → IsGiven parts marks old node value → state_at new node ≡ after joining (state_at old node) value
      given_taken node value given =
          elim (same_or_not (after joining (state_at old node) value) (state_at old node)) [
            | inl same ↦
                let none : (change : Change) → Contains changes change → change.node ≢ node = λ change there is.
                elim (given_change change there) [
                  | inl (w, given_too, value_is) ↦
                      let values = given_one node value w given (subst (λ n. IsGiven parts marks old n w) is given_too) in
                      let next : change.value ≡ state_at old change.node =
                      value_is ∙ (ap (after joining (state_at old change.node)) (sym values)
                      ∙ subst (λ n. after joining (state_at old n) value ≡ state_at old n) (sym is) same) in
                      change_differs change there next
                  | inr awake ↦ given_asleep node value given (subst (IsAwakeIn wide old) is awake.awake)
                ] in
                taken.stays node none ∙ sym same
            | inr differs ↦
                let change : Change = record { node = node; value = after joining (state_at old node) value } in
                let is : IsChange joining parts old given.k change = record { given = value; gives = given.gives; value = refl; differs = differs } in
                taken.taken change (are.noted given.k change given.marked is)
          ]

      -- a node that is awake takes its steady state
      awake_taken : (node : ℕ) (value : Tern) → IsAwakeIn wide old node → IsResponse (graph_in wide) old node value →
          state_at new node ≡ after joining (state_at old node) value
      awake_taken node value awake response =
          let all = are.awake node awake in
          let same : all.0 ≡ value = response_is_unique (graph_in wide) old node all.0 value all.1 response in
          let next : after joining (state_at old node) all.0 ≡ after joining (state_at old node) value = ap (after joining (state_at old node)) same in
          elim all.2 [
            | inl steady ↦
                let none : (change : Change) → Contains changes change → change.node ≢ node = λ change there is.
                elim (given_change change there) [
                  | inl (w, given, value_is) ↦ given_asleep node w (subst (λ n. IsGiven parts marks old n w) is given) awake
                  | inr was ↦
                      let value_is : was.steady ≡ all.0 =
                      response_is_unique (graph_in wide) old node was.steady all.0 (subst (λ n. IsResponse (graph_in wide) old n was.steady) is was.response) all.1 in
                      was.differs (was.value ∙ (ap (λ n. after joining (state_at old n) was.steady) is ∙ (ap (after joining (state_at old node)) value_is
                      ∙ (steady ∙ ap (state_at old) (sym is)))))
                ] in
                taken.stays node none ∙ (sym steady ∙ next)
            | inr there ↦ taken.taken (record { node = node; value = after joining (state_at old node) all.0 }) there ∙ next
          ]

      -- each node that is given a value takes it, each that is awake its steady state, and every other node stays
      pub Moves-taken : MovesIn joining parts marks wide old new
      Moves-taken = record {
        count = taken.count;
        given = given_taken;
        awake = awake_taken;
        stays = λ node none asleep. taken.stays node (λ change there same.
            elim (given_change change there) [
              | inl (value, given, is) ↦ none value (subst (λ n. IsGiven parts marks old n value) same given)
              | inr awake ↦ asleep (subst (IsAwakeIn wide old) same awake.awake)
            ]);
      }

      -- a change changes the state
      pub some_change : (change : Change) → Contains changes change → new ≢ old
      some_change change there same =
          change_differs change there (sym (taken.taken change there) ∙ ap (λ state. state_at state change.node) same)

      -- and with none the state stays
      pub no_change : length changes ≡ 0 → new ≡ old
      no_change none =
          ext_get_or Zero new old taken.count
          (λ node inside. taken.stays node (λ change (k, within, here). absurd (omega (arith, within, none))))

      -- the nodes of the changes are those at which the state changes
      pub lists_changes : ListsChanges (nodes_noted changes) old new
      lists_changes = record {
        count = taken.count;
        each = λ node inside changed.
            elim (change_of changes node) [
              | inl (change, there, same) ↦ subst (Contains (nodes_noted changes)) same (node_noted changes change there)
              | inr none ↦ absurd (changed (taken.stays node none))
            ];
        inside = λ node there.
            let (change, noted, same) = noted_node changes node there in
            subst (λ n. n < length old) same (changes_inside change noted);
      }

      -- in a joining step a node stays or becomes X
      pub becomes_x : joining ≡ true → StaysOrBecomesX old new
      becomes_x is node inside =
          elim (change_of changes node) [
            | inl (change, there, same) ↦
                let (value, next) = change_value change there in
                let differs : after joining (state_at old change.node) value ≢ state_at old change.node =
                λ equal. change_differs change there (next ∙ equal) in
                let unknown : state_at new change.node ≡ Unk =
                taken.taken change there ∙ (next ∙ after-differs joining is (state_at old change.node) value differs) in
                inr (subst (λ n. state_at new n ≡ Unk) same unknown)
            | inr none ↦ inl (taken.stays node none)
          ]

      -- the marks afterwards
      pub Remarks-taken : (first second third : List Bool) (coded : List Change) (done : List ℕ) → Evaluated joining parts old waiting marks first coded done →
          ((k : ℕ) → IsMarked first k → IsMarked waiting k) → length first ≡ length marks →
          MarksAll (λ k. (joining ≡ true) × Contains done k) first second → MarksAll (ReadsAny readers changes) second third →
          Remarks joining parts marks old new third
      Remarks-taken first second third coded done evaluated rest counted again read = record {
        count = read.count ∙ (again.count ∙ counted);
        stays = λ k stays. read.stays k (still_marked joining parts old waiting marks first second coded done runs.stale evaluated again k stays);
        reads = λ k change.
            elim (change_of changes change.node) [
              | inl (noted, there, same) ↦
                  let listed = subst (λ n. Contains (readers_of readers n) k) (sym same) (runs.readers change.node k change.reads) in
                  read.set k (record { change = noted; changes_it = there; reads = listed })
              | inr none ↦ absurd (change.changed (taken.stays change.node none))
            ];
        only = λ k marked.
            elim (read.only k marked) [
              | inl before ↦
                  elim (again.only k before) [
                    | inl still ↦ inl (kept_by joining k (evaluated.fewer k still) (runs.waits k (rest k still)))
                    | inr (is, there) ↦ inl (subst (λ kind. StaysMarked kind parts marks k) (sym is) (evaluated.marked k there))
                  ]
              | inr any ↦
                  let changed : state_at new any.change.node ≢ state_at old any.change.node =
                  λ equal. change_differs any.change any.changes_it (sym (taken.taken any.change any.changes_it) ∙ equal) in
                  inr (record { node = any.change.node; reads = runs.reads any.change.node k any.reads; changed = changed })
            ];
      }
        where
          kept_by : (kind : Bool) (k : ℕ) → IsMarked marks k → IsStale parts k → StaysMarked kind parts marks k
          kept_by true k was stale = was
          kept_by false k was stale = (was, stale)

-- the readers of these changes and of those are marked
pub MarksAll-both : (readers : List (SmallVec ℕ)) (xs ys : List Change) (old mid new : List Bool) → MarksAll (ReadsAny readers xs) old mid →
    MarksAll (ReadsAny readers ys) mid new → MarksAll (ReadsAny readers (xs ++ ys)) old new
MarksAll-both readers xs ys old mid new first then = record {
  count = then.count ∙ first.count;
  stays = λ k was. then.stays k (first.stays k was);
  set = λ k any.
      elim (Contains-append_cases xs ys any.change any.changes_it) [
        | inl there ↦ then.stays k (first.set k (record { change = any.change; changes_it = there; reads = any.reads }))
        | inr there ↦ then.set k (record { change = any.change; changes_it = there; reads = any.reads })
      ];
  only = λ k marked.
      elim (then.only k marked) [
        | inl before ↦
            elim (first.only k before) [
              | inl was ↦ inl was
              | inr any ↦ inr (record { change = any.change; changes_it = Contains-append_left xs ys any.change any.changes_it; reads = any.reads })
            ]
        | inr any ↦ inr (record { change = any.change; changes_it = Contains-append_right xs ys any.change any.changes_it; reads = any.reads })
      ];
}

-- changes agree where all do
pub agreed_left : (xs ys : List Change) → AreAgreed (xs ++ ys) → AreAgreed xs
agreed_left xs ys agreed one two here there = agreed one two (Contains-append_left xs ys one here) (Contains-append_left xs ys two there)

pub agreed_right : (xs ys : List Change) → AreAgreed (xs ++ ys) → AreAgreed ys
agreed_right xs ys agreed one two here there = agreed one two (Contains-append_right xs ys one here) (Contains-append_right xs ys two there)
