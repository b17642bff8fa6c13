-- The changes of a step: of which node each is, and that they are taken over, some first and others after them.
use Rattle.std.proofs.Common.{◌≡◌, ◌≢◌, ℕ, zero, suc, ◌⊎◌, refl, ◌<◌, inl, inr, List, [], ◌∷◌, ◌++◌, length, take, get_or, sym, ap, ◌∙◌, arith}
use Rattle.std.specs.Prelude.{Contains}
use Rattle.std.proofs.lemmas.Bool.{cases_eq}
use Rattle.std.proofs.lemmas.List.{get_or-take, get_or-map, length-take}
use Rattle.std.proofs.lemmas.List.Elements.{Contains-append_left, Contains-append_right, Contains-append_cases}
use Rattle.smallvec.specs.SmallVec.{SmallVec}
use Rattle.ternary.specs.declared.tern.Tern.{Tern}
use Rattle.switch_paths.specs.Switching.{state_at}
use Rattle.part_words.specs.declared.change.Change.{Change}
use Rattle.machine_parts.specs.Running.{AreAgreed, IsTaken}
use Rattle.machine_parts.specs.Readers.{readers_of}
use Rattle.part_steps.specs.Workspaces.{nodes_noted}

-- some change is of this node, or none is
pub change_of : (changes : List Change) (node : ℕ) →
    ((change : Change) × Contains changes change × (change.node ≡ node)) ⊎ ((change : Change) → Contains changes change → change.node ≢ node)
change_of [] node = inr (λ change (k, inside, here). absurd (omega (arith, inside)))
change_of (first ∷ changes) node =
    elim (cases_eq first.node node) [
      | inl same ↦ inl (first, (0, omega arith, refl), same)
      | inr differs ↦
          elim (change_of changes node) [
            | inl (change, (k, inside, here), same) ↦ inl (change, (suc k, omega (arith, inside), here), same)
            | inr none ↦ inr (λ change there. later first changes node differs none change there)
          ]
    ]
  where
    later : (first : Change) (changes : List Change) (node : ℕ) → first.node ≢ node →
        ((change : Change) → Contains changes change → change.node ≢ node) → (change : Change) → Contains (first ∷ changes) change → change.node ≢ node
    later first changes node differs none change (zero, inside, here) same = differs (ap (λ (c : Change). c.node) here ∙ same)
    later first changes node differs none change (suc k, inside, here) same = none change (k, omega (arith, inside), here) same

-- the node of a change is noted with it
pub node_noted : (changes : List Change) (change : Change) → Contains changes change → Contains (nodes_noted changes) change.node
node_noted [] change (k, inside, here) = absurd (omega (arith, inside))
node_noted (first ∷ changes) change (zero, inside, here) = (0, omega arith, ap (λ (c : Change). c.node) here)
node_noted (first ∷ changes) change (suc k, inside, here) =
    let (at, within, is) = node_noted changes change (k, omega (arith, inside), here) in
    (suc at, omega (arith, within), is)

-- and a noted node is that of a change
pub noted_node : (changes : List Change) (node : ℕ) → Contains (nodes_noted changes) node →
    (change : Change) × Contains changes change × (change.node ≡ node)
noted_node [] node (k, inside, here) = absurd (omega (arith, inside))
noted_node (first ∷ changes) node (zero, inside, here) = (first, (0, omega arith, refl), here)
noted_node (first ∷ changes) node (suc k, inside, here) =
    let (change, (at, within, is), same) = noted_node changes node (k, omega (arith, inside), here) in
    (change, (suc at, omega (arith, within), is), same)

-- what stands at the front stands in the list
pub Contains-from_take : {X : Type 0} (n : ℕ) (xs : List X) (x : X) → Contains (take n xs) x → Contains xs x
Contains-from_take n xs x (k, inside, here) =
    let first : k < n = omega (arith, inside, length-take n xs) in
    let within : k < length xs = omega (arith, inside, length-take n xs) in
    (k, within, sym (get_or-take n xs k x first) ∙ here)

-- the readers of a node that are read by its index
pub readers_read : (readers : List (SmallVec ℕ)) (node : ℕ) (found : SmallVec ℕ) → node < length readers → found ≡ get_or readers node found →
    found.items ≡ readers_of readers node
readers_read readers node found inside is =
    ap (λ (parts : SmallVec ℕ). parts.items) is ∙ sym (get_or-map (λ (parts : SmallVec ℕ). parts.items) readers node found [] inside)

-- changes behind others are taken over after them
pub IsTaken-then : (first more : List Change) (old mid new : List Tern) → AreAgreed (first ++ more) → IsTaken first old mid → IsTaken more mid new →
    IsTaken (first ++ more) old new
IsTaken-then first more old mid new agreed one two = record {
  count = two.count ∙ one.count;
  taken = λ change there.
      elim (Contains-append_cases first more change there) [
        | inl before ↦
            elim (change_of more change.node) [
              | inl (other, among, same) ↦
                  let value = agreed other change (Contains-append_right first more other among) there same in
                  ap (state_at new) (sym same) ∙ (two.taken other among ∙ value)
              | inr none ↦ two.stays change.node none ∙ one.taken change before
            ]
        | inr behind ↦ two.taken change behind
      ];
  stays = λ node none.
      two.stays node (λ change there. none change (Contains-append_right first more change there))
      ∙ one.stays node (λ change there. none change (Contains-append_left first more change there));
}
