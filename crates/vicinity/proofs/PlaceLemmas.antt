-- A node gets a state: what is asleep afterwards rests.
use Rattle.std.proofs.Common.{◌≢◌, ℕ, inl, inr, List, sym, subst}
use Rattle.std.specs.Prelude.{Contains, slice_set}
use Rattle.std.proofs.lemmas.Bool.{cases_eq}
use Rattle.std.proofs.lemmas.List.{get_or-set_other}
use Rattle.ternary.specs.declared.tern.Tern.{Tern}
use Rattle.ternary.specs.declared.tern.Tern.TheVariants.{Zero}
use Rattle.switch_paths.specs.Graphs.{GraphData, IsWired, IsStorage}
use Rattle.switch_paths.specs.Step.{IsResponse}
use Rattle.group_meaning.specs.Groups.{Group, IsGroup, id_of}
use Rattle.group_meaning.proofs.LinkLemmas.{AreLinked-to, AreLinked-self, Joins-sym}
use Rattle.vicinity.specs.Arms.{LeadsTo}
use Rattle.vicinity.specs.Flooding.{IsNext}
use Rattle.vicinity.specs.Touching.{IsAwake, IsStirred, SwitchChanges, RestsAsleep, RespondedAsleep}
use Rattle.vicinity.specs.Vicinities.{live_graph}
use Rattle.vicinity.proofs.LiveGraphs.{stands_live, storage_live}
use Rattle.vicinity.proofs.SleepingNodes.{asleep_rest}

module _ (g : GraphData) (wired : IsWired g) (old : List Tern) (node : ℕ) (value : Tern) (group : Group) (is_group : IsGroup g group)
    (before : List ℕ) (rests : RestsAsleep g old group.members before) (again : List ℕ)
    (kept : (n : ℕ) → Contains before n → Contains again n)
    (itself : IsStorage g node → Contains again node)
    (next : (n : ℕ) → IsNext g old node n → IsStorage g n → Contains again n)
    (turned : (n : ℕ) → IsStorage g n → SwitchChanges g old (slice_set old node value) n → Contains again n) where
  abbrev new : List Tern
  new = slice_set old node value

  storage : (n : ℕ) → Contains group.members n → IsStorage g n
  storage n member = AreLinked-to g (id_of group) n ((is_group.class n).0 member)

  -- a member that is asleep isn't the node, and rested
  asleep_responded : RespondedAsleep g old new group.members again
  asleep_responded n member asleep =
      let other : n ≢ node = λ same.
      let here = storage n member in
      asleep (n, subst (Contains again) (sym same) (itself (subst (IsStorage g) same here)), AreLinked-self (live_graph g old) n (storage_live g old n here)) in
      let was : ¬ IsAwake g old before n = λ awake. asleep (awake.0, kept awake.0 awake.1, awake.2) in
      subst (IsResponse g old n) (sym (get_or-set_other old node n value Zero other)) (rests n member was)

  -- what is stirred is touched
  stirred : (n : ℕ) → Contains group.members n → IsStirred g old new n → Contains again n
  stirred n member (inl changed) = turned n (storage n member) changed
  stirred n member (inr edge) =
      elim (cases_eq edge.other node) [
        | inl same ↦
            let joined = edge.joined in
            let (whole, live) = stands_live g old edge.place joined.switch joined.at_place in
            let leads : LeadsTo g old edge.place edge.other n = record {
              switch = joined.switch;
              at_place = whole;
              joins = Joins-sym joined.switch n edge.other joined.joins;
              live = live;
            } in
            next n (edge.place, subst (λ m. LeadsTo g old edge.place m n) same leads) (storage n member)
        | inr other ↦ absurd (edge.changed (get_or-set_other old node edge.other value Zero other))
      ]

  pub placed_rests : RestsAsleep g new group.members again
  placed_rests = asleep_rest g group again old new wired is_group asleep_responded stirred
