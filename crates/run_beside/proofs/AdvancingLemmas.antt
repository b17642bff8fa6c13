-- A step of the run under a fault. What is evaluated is of parts that are apart, and doesn't follow; so the good run's changes that are taken over and
-- those of the run under a fault itself are of different nodes, and each is as if it were alone.
use Rattle.std.proofs.Common.{◌≡◌, ◌≢◌, ℕ, zero, suc, ◌+◌, ◌<◌, ◌≤◌, Bool, true, inl, inr, List, length, take, get_or, refl, sym, ap, subst, ◌∙◌, arith}
use Rattle.std.specs.Prelude.{Contains, Option, slice_set}
use Rattle.std.proofs.Math.Seq.{take-length}
use Rattle.std.proofs.lemmas.List.Elements.{Contains-get_or}
use Rattle.smallvec.specs.SmallVec.{SmallVec}
use Rattle.ternary.specs.declared.tern.Tern.{Tern}
use Rattle.ternary.specs.declared.tern.Tern.TheVariants.{Zero}
use Rattle.switch_paths.specs.Switching.{state_at}
use Rattle.part_words.specs.declared.change.Change.{Change}
use Rattle.machine_parts.specs.declared.part.MachinePart.{MachinePart}
use Rattle.machine_parts.specs.Marking.{IsMarked, MarksAll}
use Rattle.machine_parts.specs.Stepping.{IsGiven, ReadsChange}
use Rattle.machine_parts.specs.Evaluating.{Rooms, Evaluated}
use Rattle.machine_parts.specs.Readers.{readers_of}
use Rattle.machine_parts.specs.Running.{AreAgreed, AreOwners, IsRunnable, IsTaken}
use Rattle.machine_parts.proofs.PartLemmas.{HasMember-from_Gives}
use Rattle.vicinity.specs.Wides.{WideData}
use Rattle.vicinity.proofs.TouchLemmas.{IsTaken-more, NoneTwice}
use Rattle.wide_groups.specs.Awake.{HoldsWide}
use Rattle.wide_groups.specs.Moving.{IsAwakeIn}
use Rattle.wide_groups.proofs.WideCases.{awake_stale, stale_only_in}
use Rattle.part_steps.proofs.TakingLemmas.{change_of}
use Rattle.part_advance.proofs.AdvanceLemmas.{AreChanges, Moves-taken, changes_agree, changes_inside, still_marked}
use Rattle.run_beside.specs.Following.{IsWritten, FollowsAt}
use Rattle.run_beside.specs.Noticing.{NoticesBoth, ReadsSomeAgreeing}
use Rattle.run_beside.specs.Stepping.{MovesBeside, RemarksBeside}
use Rattle.run_beside.proofs.KeepingApart.{follows_or_not}

-- changes that agree can be taken over into some state
taken_somewhere : (changes : List Change) (old : List Tern) → ((change : Change) → Contains changes change → change.node < length old) → AreAgreed changes →
    (new : List Tern) × IsTaken changes old new
taken_somewhere changes old inside agreed =
    let (new, taken) = up_to (length changes) (omega arith) in
    (new, subst (λ list. IsTaken list old new) (take-length changes) taken)
  where
    first : Change
    first = record { node = 0; value = Zero }

    up_to : (i : ℕ) → i ≤ length changes → (new : List Tern) × IsTaken (take i changes) old new
    up_to zero most = (old, record { count = refl; taken = λ change there. absurd (omega (arith, there.1)); stays = λ node none. refl })
    up_to (suc i) most =
        let (mid, taken) = up_to i (omega (arith, most)) in
        let test : i < length changes = omega (arith, most) in
        let next : i + 1 ≡ suc i = omega arith in (
          slice_set mid (get_or changes i first).node (get_or changes i first).value,
          subst (λ n. IsTaken (take n changes) old (slice_set mid (get_or changes i first).node (get_or changes i first).value)) next
              (IsTaken-more changes i first old mid test (inside (get_or changes i first) (Contains-get_or changes i first test)) agreed taken),
        )

module _ (joining : Bool) (parts : List MachinePart) (marks waiting : List Bool) (old : List Tern) (readers : List (SmallVec ℕ)) (room : Rooms)
    (runs : IsRunnable parts marks waiting (length old) readers room) (wide : Option WideData) (noted_room : ℕ) (holds : HoldsWide parts old noted_room wide)
    (waits : (k : ℕ) → IsMarked waiting k → IsMarked marks k) (owners : List (Option ℕ)) (owned : AreOwners parts (length old) owners)
    (apart : List Bool) (only : (k : ℕ) → IsMarked marks k → IsMarked apart k) where
  -- a node that is given a value doesn't follow
  given_apart : (node : ℕ) (value : Tern) → IsGiven parts marks old node value → ¬ FollowsAt owners apart node
  given_apart node value given (k, owner, out) =
      let has = owned.member node k owner in
      let same = runs.apart given.k k node (HasMember-from_Gives parts old given.k node value given.gives) has in
      out (only k (subst (IsMarked marks) same given.marked))

  -- nor does one that is awake
  awake_apart : (node : ℕ) → IsAwakeIn wide old node → ¬ FollowsAt owners apart node
  awake_apart node awake (k, owner, out) =
      let (l, has, stale) = awake_stale parts wide (stale_only_in parts old noted_room wide holds) old node awake in
      let same = runs.apart l k node has (owned.member node k owner) in
      out (only k (subst (IsMarked marks) same (waits l (runs.stale l stale))))

  module _ (own : List Change) (are : AreChanges joining parts marks wide old own) where
    -- so no change of the run under a fault itself is of a node that follows
    pub own_apart : (change : Change) → Contains own change → ¬ FollowsAt owners apart change.node
    own_apart change there =
        elim (are.only change there) [
          | inl (k, marked, is) ↦ given_apart change.node is.given (record { k = k; marked = marked; gives = is.gives })
          | inr awake ↦ awake_apart change.node awake.awake
        ]

    module _ (changes : List Change) (mid new : List Tern) (followed : IsWritten (FollowsAt owners apart) changes old mid) (taken : IsTaken own mid new) where
      -- a node that doesn't follow stays when the good run's changes are taken over
      mid_same : (node : ℕ) → (¬ FollowsAt owners apart node) → state_at mid node ≡ state_at old node
      mid_same node out = followed.stays node (λ change there asked same. out (subst (FollowsAt owners apart) same asked))

      -- and no node changes twice
      pub once : NoneTwice old mid new
      once node =
          elim (change_of own node) [
            | inl (change, there, same) ↦ inl (mid_same node (subst (λ n. ¬ FollowsAt owners apart n) same (own_apart change there)))
            | inr none ↦ inr (taken.stays node none)
          ]

      -- a node that doesn't follow is as if the changes of the run under a fault were alone
      alike : (alone : List Tern) → IsTaken own old alone → (node : ℕ) → (¬ FollowsAt owners apart node) → state_at new node ≡ state_at alone node
      alike alone taken_alone node out =
          elim (change_of own node) [
            | inl (change, there, same) ↦
                subst (λ n. state_at new n ≡ state_at alone n) same (taken.taken change there ∙ sym (taken_alone.taken change there))
            | inr none ↦ taken.stays node none ∙ (mid_same node out ∙ sym (taken_alone.stays node none))
          ]

      -- the nodes move so
      pub moves_beside : MovesBeside joining parts marks wide owners apart changes old new
      moves_beside =
          let (alone, taken_alone) = taken_somewhere own old (changes_inside joining parts marks waiting old readers room runs wide noted_room holds own are)
          (changes_agree joining parts marks waiting old readers room runs wide noted_room holds own are) in
          let moves = Moves-taken joining parts marks waiting old readers room runs wide noted_room holds own are alone taken_alone in
          record {
            count = taken.count ∙ followed.count;
            given = λ node value given. alike alone taken_alone node (given_apart node value given) ∙ moves.given node value given;
            awake = λ node value awake response. alike alone taken_alone node (awake_apart node awake) ∙ moves.awake node value awake response;
            follows = λ change there asked.
                taken.stays change.node (λ other among same. own_apart other among (subst (FollowsAt owners apart) (sym same) asked))
                ∙ followed.taken change there asked;
            stays = λ node none asleep unfollowed.
                taken.stays node (λ change there same. elim (are.only change there) [
                  | inl (k, marked, is) ↦
                      none is.given (subst (λ n. IsGiven parts marks old n is.given) same (record { k = k; marked = marked; gives = is.gives }))
                  | inr awake ↦ asleep (subst (IsAwakeIn wide old) same awake.awake)
                ])
                ∙ followed.stays node unfollowed;
          }

      -- if the run under a fault changes a node itself, its state changes
      pub own_moves : (change : Change) → Contains own change → new ≢ old
      own_moves change there same =
          let value : change.value ≡ state_at old change.node = sym (taken.taken change there) ∙ ap (λ states. state_at states change.node) same in
          elim (are.only change there) [ inl (k, marked, is) ↦ is.differs value | inr awake ↦ awake.differs value ]

      -- and if it changes none, the good run's changes are taken over, and that is all
      pub still_beside : length own ≡ 0 → IsWritten (FollowsAt owners apart) changes old new
      still_beside none = record {
        count = taken.count ∙ followed.count;
        taken = λ change there asked. unchanged change.node ∙ followed.taken change there asked;
        stays = λ node unasked. unchanged node ∙ followed.stays node unasked;
      }
        where
          unchanged : (node : ℕ) → state_at new node ≡ state_at mid node
          unchanged node = taken.stays node (λ change (k, within, here). absurd (omega (arith, within, none)))

      -- the marks afterwards
      pub remarks_beside : (first second third new_apart : List Bool) (coded : List Change) (done : List ℕ) (good good_next : List Tern) →
          Evaluated joining parts old waiting marks first coded done → length first ≡ length marks →
          MarksAll (λ k. (joining ≡ true) × Contains done k) first second →
          IsTaken changes good good_next → NoticesBoth changes own owners readers good_next new apart new_apart second third →
          RemarksBeside joining parts marks old new apart new_apart third
      remarks_beside first second third new_apart coded done good good_next evaluated counted again in_good notices = record {
        count = notices.count ∙ (again.count ∙ counted);
        count_apart = notices.apart.count;
        still_apart = notices.apart.stays;
        stays = λ k stays. notices.stays k (still_marked joining parts old waiting marks first second coded done runs.stale evaluated again k stays);
        entered = notices.entered;
        reads = λ k change is.
            notices.wakes k (elim (change_of own change.node) [
              | inl (noted, there, same) ↦ inr (record {
                change = noted;
                changes_it = there;
                reads = subst (λ n. Contains (readers_of readers n) k) (sym same) (runs.readers change.node k change.reads);
              })
              | inr none ↦ inl (taken_over k change none)
            ]) is;
        only = λ k marked. elim (notices.only k marked) [
          | inl before ↦ notices.apart.stays k (only k (was_marked k before))
          | inr is ↦ is
        ];
      }
        where
          -- a node that changed, though the run under a fault didn't change it itself, follows, so that it agrees
          taken_over : (k : ℕ) (change : ReadsChange parts old new k) → ((noted : Change) → Contains own noted → noted.node ≢ change.node) →
              ReadsSomeAgreeing changes readers good_next new k
          taken_over k change none =
              let same_mid = taken.stays change.node none in
              elim (follows_or_not owners apart change.node) [
                | inr out ↦ absurd (change.changed (same_mid ∙ mid_same change.node out))
                | inl asked ↦ elim (change_of changes change.node) [
                  | inr unnoted ↦ absurd (change.changed (same_mid ∙ followed.stays change.node (λ noted there asked_too. unnoted noted there)))
                  | inl (noted, there, same) ↦
                      let asked_there = subst (FollowsAt owners apart) (sym same) asked in
                      let at_noted = subst (λ n. state_at new n ≡ state_at mid n) (sym same) same_mid in
                      record {
                        change = noted;
                        there = there;
                        agrees = at_noted ∙ (followed.taken noted there asked_there ∙ sym (in_good.taken noted there));
                        reads = subst (λ n. Contains (readers_of readers n) k) (sym same) (runs.readers change.node k change.reads);
                      }
                ]
              ]

          was_marked : (k : ℕ) → IsMarked second k → IsMarked marks k
          was_marked k before =
              elim (again.only k before) [
                | inl still ↦ evaluated.fewer k still
                | inr (is, there) ↦ evaluated.marked k there
              ]
