-- What a group has that a text is made of: its members are nodes, and at each of its places stands a switch
-- between local nodes.
use Rattle.std.proofs.Common.{ℕ, ◌<◌, length}
use Rattle.std.specs.Prelude.{Contains, All}
use Rattle.std.proofs.lemmas.List.Elements.{All-weaker, All-contains_itself}
use Rattle.switch_paths.specs.Graphs.{GraphData, nodes}
use Rattle.switch_paths.proofs.PathLemmas.{place_inside}
use Rattle.group_meaning.specs.Groups.{Group, IsGroup}
use Rattle.group_meaning.proofs.LinkLemmas.{AreLinked-to}
use Rattle.group_text.specs.Texts.{local_nodes}
use Rattle.group_text.specs.Local.{StandsAmong}
use Rattle.group_text.proofs.LocalNodes.{gate_local, a_local, b_local}

module _ (g : GraphData) (group : Group) (is_group : IsGroup g group) where
  stands_among : (place : ℕ) → Contains group.switches place → StandsAmong g (local_nodes g group) place
  stands_among place inside =
      let touching = (is_group.switches place).0 inside in
      record {
        inside = place_inside g.places place touching.switch touching.at_place;
        switch = touching.switch;
        at_place = touching.at_place;
        among = record {
          gate = gate_local g group place touching.switch inside touching.at_place;
          a = a_local g group place touching.switch inside touching.at_place;
          b = b_local g group place touching.switch inside touching.at_place;
        };
      }

  -- at each place of a group stands a switch between local nodes
  pub switches_among : All (StandsAmong g (local_nodes g group)) group.switches
  switches_among =
      All-weaker (Contains group.switches) (StandsAmong g (local_nodes g group)) stands_among group.switches
      (All-contains_itself group.switches)

  -- so each is a place of the graph
  pub switches_inside : All (λ place. place < length g.places) group.switches
  switches_inside =
      All-weaker (StandsAmong g (local_nodes g group)) (λ place. place < length g.places)
      (λ place among. among.inside) group.switches switches_among

  -- each member is a node of the graph
  pub members_inside : All (λ member. member < nodes g) group.members
  members_inside =
      All-weaker (Contains group.members) (λ member. member < nodes g)
      (λ member there. (AreLinked-to g _ member ((is_group.class member).0 there)).inside) group.members
      (All-contains_itself group.members)
