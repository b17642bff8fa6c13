-- Parts of machines and their members.
use Rattle.std.proofs.Common.{◌≡◌, ℕ, ◌<◌, Bool, List, length, map, Global, sym, ap, subst, ◌∙◌}
use Rattle.std.specs.Prelude.{slice_index}
use Rattle.std.proofs.lemmas.List.{get_or_default}
use Rattle.std.specs.declared.rc.Rc.{Rc}
use Rattle.ternary.specs.declared.tern.Tern.{Tern}
use Rattle.switch_paths.specs.Switching.{state_at}
use Rattle.straight_code.specs.Code.{CodeData, code_value}
use Rattle.machine_parts.specs.declared.part.MachinePart.{MachinePart}
use Rattle.machine_parts.specs.Parts.{Stands, IsMemberAt, HasMember, AreApart}
use Rattle.machine_parts.specs.Stepping.{Gives, IsGiven}

-- one part has a number
pub same_part : (parts : List MachinePart) (k : ℕ) (part other : MachinePart) → Stands parts k part → Stands parts k other → part ≡ other
same_part parts k part other one two = sym one.here ∙ (get_or_default parts k part other one.inside ∙ two.here)

-- a node that a part gives a value is its member
pub HasMember-from_Gives : (parts : List MachinePart) (state : List Tern) (k node : ℕ) (value : Tern) → Gives parts state k node value →
    HasMember parts k node
HasMember-from_Gives parts state k node value gives = record {
  part = gives.part;
  stands = gives.stands;
  place = gives.place;
  member = gives.member;
}

-- no two places of a part's map have one node
abbrev HasPlacesApart : MachinePart → Type 0
HasPlacesApart part = (i j : ℕ) → i < length part.map.items → j < length part.map.items → slice_index part.map.items i ≡ slice_index part.map.items j → i ≡ j

module _ (parts : List MachinePart) (state : List Tern) (apart : (k : ℕ) (part : MachinePart) → Stands parts k part → HasPlacesApart part) where
  -- a part gives a node one value
  gives_once : (k node : ℕ) (v w : Tern) → Gives parts state k node v → Gives parts state k node w → v ≡ w
  gives_once k node v w one two =
      let part = one.part in
      let same = same_part parts k two.part part two.stands one.stands in
      let codes : two.code ≡ one.code = cc (ap (λ (p : MachinePart). p.code) same) in
      let there = subst (λ p. IsMemberAt p two.place node) same two.member in
      let places = apart k part one.stands one.place two.place one.member.within there.within (one.member.here ∙ sym there.here) in
      let value_of : MachinePart → ℕ → Tern = λ p place. state_at (code_value one.code.value (map (state_at state) p.map.items)) place in
      let second : w ≡ value_of part one.place =
      two.value_is
      ∙ (ap (λ (p : MachinePart). state_at (code_value two.code.value (map (state_at state) p.map.items)) two.place) same
      ∙ (ap (λ (shared : Rc CodeData Global). state_at (code_value shared.value (map (state_at state) part.map.items)) two.place) codes
      ∙ ap (value_of part) (sym places))) in
      one.value_is ∙ sym second

  -- and all marked parts together, which share no members, give it one
  pub given_once : (marks : List Bool) → AreApart parts → (node : ℕ) (v w : Tern) → IsGiven parts marks state node v → IsGiven parts marks state node w → v ≡ w
  given_once marks no_shared node v w one two =
      let same = no_shared two.k one.k node (HasMember-from_Gives parts state two.k node w two.gives) (HasMember-from_Gives parts state one.k node v one.gives) in
      gives_once one.k node v w one.gives (subst (λ k. Gives parts state k node w) same two.gives)
