-- Linked storage nodes: a list of switches can be followed back, and another one after it.
use Rattle.std.proofs.Common.{ℕ, inl, inr, List, [], ◌∷◌, ◌++◌, refl}
use Rattle.switch_paths.specs.Graphs.{GraphData, IsStorage}
use Rattle.switch_paths.specs.Path.{Joins}
use Rattle.switch_paths.specs.declared.switching.Switch.{Switch}
use Rattle.group_meaning.specs.Groups.{AreJoined, LinksOver, AreLinked}
use Rattle.group_meaning.specs.Laws.{LinkedIsAnEquivalence}

-- a switch joins its ends either way round
pub Joins-sym : (switch : Switch) (m n : ℕ) → Joins switch m n → Joins switch n m
Joins-sym switch m n joins = elim joins [ inl ends ↦ inr (ends.1, ends.0) | inr ends ↦ inl (ends.1, ends.0) ]

-- so do the switches of a graph
pub AreJoined-sym : {g : GraphData} {place m n : ℕ} → AreJoined g place m n → AreJoined g place n m
AreJoined-sym {g} {place} {m} {n} joined =
    record { switch = joined.switch; at_place = joined.at_place; joins = Joins-sym joined.switch m n joined.joins }

module _ (g : GraphData) where
  -- what switches lead away from is a storage node
  pub LinksOver-from : (places : List ℕ) (m n : ℕ) → LinksOver g places m n → IsStorage g m
  LinksOver-from [] m n links = links.0
  LinksOver-from (place ∷ places) m n links = links.0

  -- and so is what they lead to
  pub LinksOver-to : (places : List ℕ) (m n : ℕ) → LinksOver g places m n → IsStorage g n
  LinksOver-to [] m n links = rw (← links.1) links.0
  LinksOver-to (place ∷ places) m n links = LinksOver-to places links.1.0 n links.1.2

  -- one list of switches after the other
  pub LinksOver-append : (front back : List ℕ) (a b c : ℕ) →
      LinksOver g front a b → LinksOver g back b c → LinksOver g (front ++ back) a c
  LinksOver-append [] back a b c one two = rw one.1 two
  LinksOver-append (place ∷ front) back a b c one two =
      (one.0, (one.1.0, one.1.1, LinksOver-append front back one.1.0 b c one.1.2 two))

  -- a storage node is linked with itself
  pub AreLinked-self : (a : ℕ) → IsStorage g a → AreLinked g a a
  AreLinked-self a storage = record { places = []; links = (storage, refl) }

  -- a switch links the storage nodes at its ends
  pub AreLinked-joined : (place a b : ℕ) → IsStorage g a → IsStorage g b → AreJoined g place a b → AreLinked g a b
  AreLinked-joined place a b from to joined =
      record { places = place ∷ []; links = (from, (b, joined, (to, refl))) }

  -- what is linked with a linked node is linked
  pub AreLinked-trans : (a b c : ℕ) → AreLinked g a b → AreLinked g b c → AreLinked g a c
  AreLinked-trans a b c one two =
      record { places = one.places ++ two.places; links = LinksOver-append one.places two.places a b c one.links two.links }

  -- switches can be followed back, the last one first
  followed_back : (places : List ℕ) (a b : ℕ) → LinksOver g places a b → AreLinked g b a
  followed_back [] a b links = rw (← links.1) (AreLinked-self a links.0)
  followed_back (place ∷ places) a b links =
      let next = links.1.0 in
      let first = AreLinked-joined place next a (LinksOver-from places next b links.1.2) links.0 (AreJoined-sym links.1.1) in
      AreLinked-trans b next a (followed_back places next b links.1.2) first

  -- linked either way round
  pub AreLinked-sym : (a b : ℕ) → AreLinked g a b → AreLinked g b a
  AreLinked-sym a b linked = followed_back linked.places a b linked.links

  -- what is linked with a node is a storage node
  pub AreLinked-from : (a b : ℕ) → AreLinked g a b → IsStorage g a
  AreLinked-from a b linked = LinksOver-from linked.places a b linked.links

  -- and so is what a node is linked with
  pub AreLinked-to : (a b : ℕ) → AreLinked g a b → IsStorage g b
  AreLinked-to a b linked = LinksOver-to linked.places a b linked.links

-- linked is an equivalence on storage nodes
pub equivalence : LinkedIsAnEquivalence
equivalence g a b c = (AreLinked-self g a, AreLinked-sym g a b, AreLinked-trans g a b c)
