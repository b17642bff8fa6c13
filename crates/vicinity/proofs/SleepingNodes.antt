-- Vicinities after a change of the state: one that isn't stirred is a vicinity of both states and rests, and a member of a group that no touched
-- node is near has such a vicinity.
use Rattle.std.proofs.Common.{◌≡◌, ◌≢◌, ℕ, inl, inr, List, [], ◌∷◌, Some, refl, ap, ◌∙◌, subst}
use Rattle.std.specs.Prelude.{Contains}
use Rattle.std.proofs.lemmas.List.Elements.{Contains-get_or}
use Rattle.ternary.specs.declared.tern.Tern.{Tern}
use Rattle.ternary.proofs.TernLemmas.{same_or_other}
use Rattle.switch_paths.specs.declared.switching.Switch.{Switch}
use Rattle.switch_paths.specs.declared.switching.SwitchState.{SwitchState}
use Rattle.switch_paths.specs.declared.switching.SwitchState.TheVariants.{Open, Closed, Unknown}
use Rattle.switch_paths.specs.Switching.{is_live, state_at, switch_state_at}
use Rattle.switch_paths.specs.Graphs.{GraphData, IsWired, place_at}
use Rattle.switch_paths.specs.Path.{Joins}
use Rattle.switch_paths.specs.Step.{IsResponse}
use Rattle.group_meaning.specs.Groups.{AreJoined, LinksOver, TouchesAny, Group, IsGroup, id_of}
use Rattle.group_meaning.proofs.LinkLemmas.{Joins-sym, LinksOver-from, AreLinked-self, AreLinked-joined, AreLinked-trans, AreLinked-sym, AreLinked-to}
use Rattle.vicinity.specs.Vicinities.{live_graph, AreNear, IsVicinity}
use Rattle.vicinity.specs.Touching.{IsStirred, IsAwake, RespondedAsleep}
use Rattle.vicinity.specs.Laws.{UnstirredVicinitiesRest, AsleepMembersRest}
use Rattle.vicinity.proofs.LiveGraphs.{live_stands, stands_live, storage_live, storage_whole, near_linked}
use Rattle.vicinity.proofs.CarriedPaths.{IsClosedSet, closed_stays, SwitchesStay, SwitchesStay-sym}
use Rattle.vicinity.proofs.RestingVicinities.{EdgeStays, set_rests}

-- states of switches that can't differ are one
same_switch_state : (a b : SwitchState) → ¬ (a ≢ b) → a ≡ b
same_switch_state Open Open free = refl
same_switch_state Closed Closed free = refl
same_switch_state Unknown Unknown free = refl
same_switch_state Open Closed free = absurd (free (λ e. absurd (cc)))
same_switch_state Open Unknown free = absurd (free (λ e. absurd (cc)))
same_switch_state Closed Open free = absurd (free (λ e. absurd (cc)))
same_switch_state Closed Unknown free = absurd (free (λ e. absurd (cc)))
same_switch_state Unknown Open free = absurd (free (λ e. absurd (cc)))
same_switch_state Unknown Closed free = absurd (free (λ e. absurd (cc)))

-- and so are states of nodes
pub same_tern : (a b : Tern) → ¬ (a ≢ b) → a ≡ b
same_tern a b free = elim (same_or_other a b) [ inl same ↦ same | inr other ↦ absurd (free other) ]

-- a set of nodes that a change doesn't stir
module _ (g : GraphData) (old new : List Tern) (In : ℕ → Type 0) (calm : (node : ℕ) → In node → ¬ IsStirred g old new node) where
  pub calm_switches : SwitchesStay g old new In
  calm_switches place m n switch stands joins inside =
      same_switch_state (switch_state_at new switch) (switch_state_at old switch) (λ differs. calm n inside (inl (record {
        place = place;
        switch = switch;
        at_place = stands;
        other = m;
        joins = Joins-sym switch m n joins;
        changed = differs;
      })))

  pub calm_edge : EdgeStays g old new In
  calm_edge place n m inside joined input =
      same_tern (state_at new m) (state_at old m) (λ differs. calm n inside (inr (record {
        place = place;
        other = m;
        joined = joined;
        input = input;
        changed = differs;
      })))

-- a closed set at which no switch changes
module _ (g : GraphData) (old new : List Tern) (In : ℕ → Type 0) (set : IsClosedSet g old In) (stay : SwitchesStay g old new In) where
  -- a switch at it that isn't open stands in both live graphs
  stands_too : (place m n : ℕ) (switch : Switch) → place_at (live_graph g old).places place ≡ Some switch → Joins switch m n → In n →
      place_at (live_graph g new).places place ≡ Some switch
  stands_too place m n switch stands joins inside =
      let (whole, live) = stands_live g old place switch stands in
      live_stands g new place switch whole (ap is_live (stay place m n switch whole joins inside) ∙ live)

  -- links from one of its nodes are links under the other state, and stay in it
  pub links_stay : (places : List ℕ) (m n : ℕ) → LinksOver (live_graph g old) places m n → In m → LinksOver (live_graph g new) places m n × In n
  links_stay [] m n links inside = ((storage_live g new m (set.storage m inside), links.1), subst In links.1 inside)
  links_stay (place ∷ places) m n links inside =
      let next = links.1.0 in
      let joined = links.1.1 in
      let back = Joins-sym joined.switch m next joined.joins in
      let (whole, live) = stands_live g old place joined.switch joined.at_place in
      let next_in = set.closed place m next joined.switch whole joined.joins live inside
      (storage_whole g old next (LinksOver-from (live_graph g old) places next n links.1.2)) in
      let rest = links_stay places next n links.1.2 next_in in
      let over : AreJoined (live_graph g new) place m next = record {
        switch = joined.switch;
        at_place = stands_too place next m joined.switch joined.at_place back inside;
        joins = joined.joins;
      } in
      ((storage_live g new m (set.storage m inside), (next, over, rest.0)), rest.1)

  pub near_stays : (m n : ℕ) → In m → AreNear g old m n → AreNear g new m n × In n
  near_stays m n inside near =
      let stays = links_stay near.places m n near.links inside in
      (record { places = near.places; links = stays.0 }, stays.1)

-- the members of a vicinity are a closed set
vicinity_closed : (g : GraphData) (state : List Tern) (vicinity : Group) → IsVicinity g state vicinity →
    IsClosedSet g state (Contains vicinity.members)
vicinity_closed g state vicinity is = record {
  storage = λ node inside. storage_whole g state node (AreLinked-to (live_graph g state) (id_of vicinity) node ((is.class node).0 inside));
  closed = λ place m n switch stands joins live inside storage.
      let first = (is.class m).0 inside in
      let joined : AreJoined (live_graph g state) place m n = record {
        switch = switch;
        at_place = live_stands g state place switch stands live;
        joins = joins;
      } in
      let from = AreLinked-to (live_graph g state) (id_of vicinity) m first in
      (is.class n).1 (AreLinked-trans (live_graph g state) (id_of vicinity) m n first
      (AreLinked-joined (live_graph g state) place m n from (storage_live g state n storage) joined));
}

-- a switch that has a member at an end
touches_stay : (g : GraphData) (old new : List Tern) (members : List ℕ) → IsClosedSet g old (Contains members) →
    SwitchesStay g old new (Contains members) → (place : ℕ) → TouchesAny (live_graph g old) members place → TouchesAny (live_graph g new) members place
touches_stay g old new members set stay place touching =
    let switch = touching.switch in
    record {
      switch = switch;
      at_place = elim touching.touches [
        | inl a ↦ stands_too g old new (Contains members) set stay place switch.b switch.a switch touching.at_place (inr (refl, refl)) a
        | inr b ↦ stands_too g old new (Contains members) set stay place switch.a switch.b switch touching.at_place (inl (refl, refl)) b
      ];
      touches = touching.touches;
    }

-- a vicinity that isn't stirred is one of the new state too
vicinity_stays : (g : GraphData) (old new : List Tern) (vicinity : Group) → IsVicinity g old vicinity →
    SwitchesStay g old new (Contains vicinity.members) → IsVicinity g new vicinity
vicinity_stays g old new vicinity is stay =
    let In : ℕ → Type 0 = Contains vicinity.members in
    let set = vicinity_closed g old vicinity is in
    let set_too = closed_stays g old new In set stay in
    let back = SwitchesStay-sym g old new In stay in
    let first : In (id_of vicinity) = Contains-get_or vicinity.members 0 0 is.some in
    record {
      some = is.some;
      class = λ node. (
        λ inside. (near_stays g old new In set stay (id_of vicinity) node first ((is.class node).0 inside)).0,
        λ near. (near_stays g new old In set_too back (id_of vicinity) node first near).1,
      );
      ascending = is.ascending;
      switches = λ place. (
        λ inside. touches_stay g old new vicinity.members set stay place ((is.switches place).0 inside),
        λ touching. (is.switches place).1 (touches_stay g new old vicinity.members set_too back place touching),
      );
      switches_ascending = is.switches_ascending;
    }

-- and it rests if its members responded
pub unstirred_rest : UnstirredVicinitiesRest
unstirred_rest g vicinity old new wired is responded calm =
    let In : ℕ → Type 0 = Contains vicinity.members in
    let stay = calm_switches g old new In calm in (
      vicinity_stays g old new vicinity is stay,
      set_rests g wired old new In (vicinity_closed g old vicinity is) stay (calm_edge g old new In calm) responded,
    )

-- a node that no touched node is near
module _ (g : GraphData) (wired : IsWired g) (group : Group) (is_group : IsGroup g group) (touched : List ℕ) (old new : List Tern)
    (responded : RespondedAsleep g old new group.members touched)
    (all : (node : ℕ) → Contains group.members node → IsStirred g old new node → Contains touched node)
    (node : ℕ) (member : Contains group.members node) (asleep : ¬ IsAwake g new touched node) where
  -- the nodes near it
  abbrev In : ℕ → Type 0
  In = AreNear g new node

  near_member : (n : ℕ) → In n → Contains group.members n
  near_member n near =
      (is_group.class n).1 (AreLinked-trans g (id_of group) node n ((is_group.class node).0 member) (near_linked g new node n near))

  near_untouched : (n : ℕ) → In n → ¬ Contains touched n
  near_untouched n near touch = asleep (n, touch, AreLinked-sym (live_graph g new) node n near)

  near_calm : (n : ℕ) → In n → ¬ IsStirred g old new n
  near_calm n near stirred = near_untouched n near (all n (near_member n near) stirred)

  near_closed : IsClosedSet g new In
  near_closed = record {
    storage = λ n near. storage_whole g new n (AreLinked-to (live_graph g new) node n near);
    closed = λ place m n switch stands joins live near storage.
        let joined : AreJoined (live_graph g new) place m n = record {
          switch = switch;
          at_place = live_stands g new place switch stands live;
          joins = joins;
        } in
        AreLinked-trans (live_graph g new) node m n near
        (AreLinked-joined (live_graph g new) place m n (AreLinked-to (live_graph g new) node m near) (storage_live g new n storage) joined);
  }

  asleep_rests : IsResponse g new node (state_at new node)
  asleep_rests =
      let stay = calm_switches g old new In near_calm in
      let set = closed_stays g new old In near_closed (SwitchesStay-sym g old new In stay) in
      let itself : In node = AreLinked-self (live_graph g new) node
      (storage_live g new node (AreLinked-to g (id_of group) node ((is_group.class node).0 member))) in
      let slept : (n : ℕ) → In n → ¬ IsAwake g old touched n = λ n near awake.
      let back = near_stays g old new In set stay n awake.0 near (AreLinked-sym (live_graph g old) awake.0 n awake.2) in
      near_untouched awake.0 back.1 awake.1 in
      set_rests g wired old new In set stay (calm_edge g old new In near_calm)
      (λ n near. responded n (near_member n near) (slept n near)) node itself

-- so the members of a group that no touched node is near rest
pub asleep_rest : AsleepMembersRest
asleep_rest g group touched old new wired is_group responded all node member asleep =
    asleep_rests g wired group is_group touched old new responded all node member asleep
