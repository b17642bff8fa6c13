-- All findings of a circuit, by their kinds.
use Rattle.std.specs.Prelude.{◌≡◌, ℕ, Bool, ◌&&◌, ◌==◌, List, length}
use Rattle.netlist.specs.Circuits.{CircuitData}
use Rattle.group_meaning.specs.Groups.{Group, AreGroups}
use Rattle.circuit_lint.specs.declared.counted.Counted.{Counted}
use Rattle.circuit_lint.specs.declared.sides.Sides.{Sides}
use Rattle.circuit_lint.specs.declared.sides.SideFault.TheVariants.{Undriven, NeverOne, NeverZero, Wide}
use Rattle.circuit_lint.specs.Nodes.{floating_of, unused_of}
use Rattle.circuit_lint.specs.Sides.{showing}
use Rattle.circuit_lint.specs.Dead.{dead_of}
use Rattle.circuit_lint.specs.Supplies.{supplies_of}
use Rattle.circuit_lint.specs.Shorts.{AreShorts}

-- findings as contracts see them: lists of places that join the rails, floating nodes, groups that show a fault, dead switches, places of
-- names of supplies, and unused nodes
pub record FindingsData : Type 0 where
  pub shorted : List (List ℕ)
  pub floating : List Counted
  pub undriven : List Sides
  pub never_one : List Sides
  pub never_zero : List Sides
  pub dead : List Counted
  pub supply : List ℕ
  pub wide : List Sides
  pub unused : List ℕ

-- these are the findings of the circuit
pub record AreFindings (c : CircuitData) (found : FindingsData) : Type 0 where
  pub groups : List Group
  pub are : AreGroups c.graph groups
  pub shorted : AreShorts c.graph found.shorted
  pub floating : found.floating ≡ floating_of c.graph
  pub undriven : found.undriven ≡ showing Undriven c.graph groups
  pub never_one : found.never_one ≡ showing NeverOne c.graph groups
  pub never_zero : found.never_zero ≡ showing NeverZero c.graph groups
  pub dead : found.dead ≡ dead_of c.graph
  pub supply : found.supply ≡ supplies_of c
  pub wide : found.wide ≡ showing Wide c.graph groups
  pub unused : found.unused ≡ unused_of c.graph

-- there is no finding
abbrev pub is_clean : FindingsData → Bool
is_clean found =
    (length found.shorted == 0) && ((length found.floating == 0) && ((length found.undriven == 0)
    && ((length found.never_one == 0) && ((length found.never_zero == 0) && ((length found.dead == 0)
    && ((length found.supply == 0) && ((length found.wide == 0) && (length found.unused == 0))))))))
