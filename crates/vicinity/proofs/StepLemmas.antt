-- A step over the members of a group: each takes its steady state or the join with it, and what is asleep afterwards rests.
-- A member that is awake has its steady state noted, or has it already; one that is asleep rests. Which of the two it is need not be known: that
-- two states are one is decided, so it is enough that they can't differ.
use Rattle.std.proofs.Common.{◌≡◌, ◌≢◌, ℕ, ◌<◌, Bool, true, false, inl, inr, List, [], refl, sym, ap, ◌∙◌, subst, arith}
use Rattle.std.specs.Prelude.{Contains}
use Rattle.ternary.specs.declared.tern.Tern.{Tern}
use Rattle.ternary.specs.declared.tern.Tern.TheVariants.{Zero, One, Unk}
use Rattle.switch_paths.specs.Switching.{state_at}
use Rattle.switch_paths.specs.Graphs.{GraphData, IsWired, IsStorage, nodes}
use Rattle.switch_paths.specs.Step.{IsResponse}
use Rattle.switch_paths.proofs.ExistingSteps.{exists}
use Rattle.switch_paths.proofs.UniqueSteps.{response_is_unique}
use Rattle.group_meaning.specs.Groups.{Group, IsGroup, id_of}
use Rattle.group_meaning.proofs.LinkLemmas.{AreLinked-to}
use Rattle.part_words.specs.declared.change.Change.{Change}
use Rattle.vicinity.specs.NodeSets.{IsIn}
use Rattle.vicinity.specs.Vicinities.{live_graph}
use Rattle.vicinity.specs.Touching.{IsAwake, IsStirred, RestsAsleep, RespondedAsleep}
use Rattle.vicinity.specs.Evaluating.{AreChanges}
use Rattle.part_words.specs.Noting.{after}
use Rattle.machine_parts.specs.Running.{IsTaken}
use Rattle.vicinity.specs.Stepping.{Touches, MembersMove}
use Rattle.vicinity.proofs.LiveGraphs.{storage_whole}
use Rattle.vicinity.proofs.SleepingNodes.{same_tern, asleep_rest}

-- a state joined with itself is itself
after_same : (joining : Bool) (t : Tern) → after joining t t ≡ t
after_same false t = refl
after_same true Zero = refl
after_same true One = refl
after_same true Unk = refl

module _ (g : GraphData) (wired : IsWired g) (joining : Bool) (old new : List Tern) (touched : List ℕ) (changes : List Change)
    (notes : AreChanges joining g old touched [] changes) where
  -- what is noted is of a node that is awake, and is its new state
  noted : (change : Change) → Contains changes change → IsAwake g old touched change.node × ((value : Tern) × IsResponse g old change.node value
      × (change.value ≡ after joining (state_at old change.node) value)) × (change.value ≢ state_at old change.node)
  noted change there = notes.only change (subst (λ list. Contains list change) notes.list there)

  awake_storage : (node : ℕ) → IsAwake g old touched node → IsStorage g node
  awake_storage node (one, touch, near) = storage_whole g old node (AreLinked-to (live_graph g old) one node near)

  pub noted_inside : (change : Change) → Contains changes change → change.node < nodes g
  noted_inside change there = (awake_storage change.node (noted change there).0).inside

  -- changes of one node agree
  pub noted_agree : (one two : Change) → Contains changes one → Contains changes two → one.node ≡ two.node → one.value ≡ two.value
  noted_agree one two here there same =
      let first = (noted one here).1 in
      let next = (noted two there).1 in
      let value : next.0 ≡ first.0 =
      response_is_unique g old one.node next.0 first.0 (subst (λ n. IsResponse g old n next.0) (sym same) next.1) first.1 in
      let moved : two.value ≡ after joining (state_at old one.node) first.0 =
      next.2 ∙ (ap (λ n. after joining (state_at old n) next.0) (sym same) ∙ ap (after joining (state_at old one.node)) value) in
      first.2 ∙ sym moved

  module _ (taken : IsTaken changes old new) where
    -- a node that is asleep stays
    asleep_stays : (node : ℕ) → (¬ IsAwake g old touched node) → state_at new node ≡ state_at old node
    asleep_stays node asleep = taken.stays node (λ change there same. asleep (subst (IsAwake g old touched) same (noted change there).0))

    -- a node that is awake takes its steady state, or the join with it
    awake_moves : (node : ℕ) (value : Tern) → IsResponse g old node value → IsAwake g old touched node →
        state_at new node ≡ after joining (state_at old node) value
    awake_moves node value response awake =
        let all = notes.all node awake in
        let same : all.0 ≡ value = response_is_unique g old node all.0 value all.1 response in
        let next : after joining (state_at old node) all.0 ≡ after joining (state_at old node) value = ap (after joining (state_at old node)) same in
        elim all.2 [
          | inl steady ↦
              let none : (change : Change) → Contains changes change → change.node ≢ node = λ change there is.
              let was = noted change there in
              let value_is : was.1.0 ≡ all.0 =
              response_is_unique g old node was.1.0 all.0 (subst (λ n. IsResponse g old n was.1.0) is was.1.1) all.1 in
              was.2 (was.1.2 ∙ (ap (λ n. after joining (state_at old n) was.1.0) is ∙ (ap (after joining (state_at old node)) value_is
              ∙ (steady ∙ ap (state_at old) (sym is))))) in
              taken.stays node none ∙ (sym steady ∙ next)
          | inr there ↦
              let change : Change = record { node = node; value = after joining (state_at old node) all.0 } in
              taken.taken change (subst (λ list. Contains list change) (sym notes.list) there) ∙ next
        ]

    module _ (group : Group) (is_group : IsGroup g group) (rests : RestsAsleep g old group.members touched) where
      member_storage : (node : ℕ) → Contains group.members node → IsStorage g node
      member_storage node member = AreLinked-to g (id_of group) node ((is_group.class node).0 member)

      -- so each member takes its steady state, or the join with it
      pub members_move : MembersMove joining g group old new
      members_move node member =
          let step = exists g wired old in
          let value = state_at step.0 node in
          let response : IsResponse g old node value = step.1.each node (member_storage node member).inside in
          let asleep_moves : ¬ IsAwake g old touched node → state_at new node ≡ after joining (state_at old node) value = λ asleep.
          let same : state_at old node ≡ value = response_is_unique g old node (state_at old node) value (rests node member asleep) response in
          asleep_stays node asleep ∙ (sym (after_same joining (state_at old node)) ∙ ap (after joining (state_at old node)) same) in (
            value,
            response,
            same_tern (state_at new node) (after joining (state_at old node) value)
                (λ differs. differs (asleep_moves (λ awake. differs (awake_moves node value response awake)))),
          )

      module _ (again : List ℕ) (before marks : List Bool) (touches : Touches g old new before marks)
          (listed : (node : ℕ) → IsIn marks node → Contains again node)
          (kept : joining ≡ true → (node : ℕ) → Contains touched node → Contains again node) where
        -- a member that the touched nodes afterwards left asleep before took its steady state
        responded : (kind : Bool) → joining ≡ kind → RespondedAsleep g old new group.members again
        responded true is node member asleep =
            let was : ¬ IsAwake g old touched node = λ awake. asleep (awake.0, kept is awake.0 awake.1, awake.2) in
            subst (IsResponse g old node) (sym (asleep_stays node was)) (rests node member was)
        responded false is node member asleep =
            let moves = members_move node member in
            let same : state_at new node ≡ moves.0 = moves.2 ∙ ap (λ kind. after kind (state_at old node) moves.0) is in
            subst (IsResponse g old node) (sym same) moves.1

        -- what is stirred is touched
        stirred : (node : ℕ) → Contains group.members node → IsStirred g old new node → Contains again node
        stirred node member (inl changed) = listed node (touches.all node (member_storage node member) changed)
        stirred node member (inr edge) =
            let asleep : ¬ IsAwake g old touched edge.other = λ awake. absurd (omega (arith, (awake_storage edge.other awake).below, edge.input)) in
            absurd (edge.changed (asleep_stays edge.other asleep))

        -- so what is asleep afterwards rests
        pub rests_again : RestsAsleep g new group.members again
        rests_again = asleep_rest g group again old new wired is_group (responded joining refl) stirred
