-- Gates are copied: one more, and at last all that the roots reach. The copies have the same values and reach the copies.
use Rattle.std.proofs.Common.{◌≡◌, ℕ, ◌<◌, ◌≤◌, ◌↔◌, inl, inr, ⊎_elim, Bool, cond, List, [], ◌∷◌, ◌++◌, length, map, take, get_or, All, Contains, Option, Some, None, IsSome, zero, suc, refl, sym, ap, subst, ◌∙◌, arith}
use Rattle.std.specs.Prelude.{unwrap_or, nat_eq}
use Rattle.std.proofs.lemmas.Bool.{cases_lt, false≢true}
use Rattle.std.proofs.lemmas.Bool.Decides.{eqb_tells}
use Rattle.std.proofs.lemmas.List.{length-map, length_push, take_all}
use Rattle.std.proofs.lemmas.List.Elements.{Contains-append_left, Contains-push, Contains-push_cases, All-map}
use Rattle.std.proofs.lemmas.Option.{same_Some, none-some}
use Rattle.bool_pool.specs.declared.gate.Id.{Id}
use Rattle.bool_pool.specs.declared.gate.Gate.{Gate}
use Rattle.bool_pool.specs.declared.gate.Gate.TheVariants.{False, True, Var, Not, And, Or}
use Rattle.bool_pool.specs.Gate.{gate_at, IsOperand, IsInOrder, IsApart, Extends, AddsAt}
use Rattle.bool_pool.specs.Value.{gate_value, value_at}
use Rattle.bool_pool.specs.Reach.{Reaches, AnyReaches, here, through}
use Rattle.bool_pool.specs.Choice.{IsOver, IsPlaced}
use Rattle.bool_pool.specs.Compact.{places_of, moved_id, moved_gate, IsCompacted}
use Rattle.bool_pool.specs.Copying.{id_in, place_in, IsCopied, AreCopied}
use Rattle.bool_pool.proofs.ValueLemmas.{gate_value-same, value_at-gate}
use Rattle.bool_pool.proofs.CollectLemmas.{AnyReaches-contained, AnyReaches-by, AnyReaches-operand, not_in_none, first_or_other, root_reached}

-- a gate's copy depends on its operands' new places alone
moved_gate-same : (f g : ℕ → ℕ) (gate : Gate) → ((k : ℕ) → IsOperand gate k → f k ≡ g k) → moved_gate f gate ≡ moved_gate g gate
moved_gate-same f g False same = refl
moved_gate-same f g True same = refl
moved_gate-same f g (Var v) same = refl
moved_gate-same f g (Not a) same = ap (λ p. Not (record { place = p })) (same a.place refl)
moved_gate-same f g (And a b) same =
    ap (λ p. And (record { place = p }) (record { place = f b.place })) (same a.place (inl refl))
    ∙ ap (λ p. And (record { place = g a.place }) (record { place = p })) (same b.place (inr refl))
moved_gate-same f g (Or a b) same =
    ap (λ p. Or (record { place = p }) (record { place = f b.place })) (same a.place (inl refl))
    ∙ ap (λ p. Or (record { place = g a.place }) (record { place = p })) (same b.place (inr refl))

-- the operands of a copy are the copies of the operands
pub operand_moved : (to : ℕ → ℕ) (gate : Gate) (k : ℕ) → IsOperand gate k → IsOperand (moved_gate to gate) (to k)
operand_moved to False k operand = absurd operand
operand_moved to True k operand = absurd operand
operand_moved to (Var v) k operand = absurd operand
operand_moved to (Not a) k operand = ap to operand
operand_moved to (And a b) k operand = ⊎_elim (λ e. inl (ap to e)) (λ e. inr (ap to e)) operand
operand_moved to (Or a b) k operand = ⊎_elim (λ e. inl (ap to e)) (λ e. inr (ap to e)) operand

-- and there is no other operand
pub operand_from : (to : ℕ → ℕ) (gate : Gate) (place : ℕ) → IsOperand (moved_gate to gate) place
    → (k : ℕ) × IsOperand gate k × (to k ≡ place)
operand_from to False place operand = absurd operand
operand_from to True place operand = absurd operand
operand_from to (Var v) place operand = absurd operand
operand_from to (Not a) place operand = (a.place, refl, sym operand)
operand_from to (And a b) place operand = ⊎_elim (λ e. (a.place, inl refl, sym e)) (λ e. (b.place, inr refl, sym e)) operand
operand_from to (Or a b) place operand = ⊎_elim (λ e. (a.place, inl refl, sym e)) (λ e. (b.place, inr refl, sym e)) operand

-- the value of a copy is the gate's on the values of the copies
gate_value-moved : (vars f : ℕ → Bool) (to : ℕ → ℕ) (gate : Gate)
    → gate_value vars f (moved_gate to gate) ≡ gate_value vars (λ k. f (to k)) gate
gate_value-moved vars f to False = refl
gate_value-moved vars f to True = refl
gate_value-moved vars f to (Var v) = refl
gate_value-moved vars f to (Not a) = refl
gate_value-moved vars f to (And a b) = refl
gate_value-moved vars f to (Or a b) = refl

-- formulas of one copy are one formula, if their places of one copy are
id_from_copy : (to : ℕ → ℕ) (a b : Id) → (to a.place ≡ to b.place → a.place ≡ b.place) → moved_id to a ≡ moved_id to b → a ≡ b
id_from_copy to a b same e = ap (λ p. let id : Id = record { place = p } in id) (same (ap (λ (id : Id). id.place) e))

-- gates of one copy are one gate, if their operands of one copy are
gate_from_copy : (to : ℕ → ℕ) (g h : Gate) → ((k m : ℕ) → IsOperand g k → IsOperand h m → to k ≡ to m → k ≡ m)
    → moved_gate to g ≡ moved_gate to h → g ≡ h
gate_from_copy to False False same e = refl
gate_from_copy to False h same e = cc
gate_from_copy to True True same e = refl
gate_from_copy to True h same e = cc
gate_from_copy to (Var v) (Var w) same e = e
gate_from_copy to (Var v) h same e = cc
gate_from_copy to (Not a) (Not b) same e = ap Not (id_from_copy to a b (same a.place b.place refl refl) cc)
gate_from_copy to (Not a) h same e = cc
gate_from_copy to (And a b) (And c d) same e =
    let left : a ≡ c = id_from_copy to a c (same a.place c.place (inl refl) (inl refl)) cc in
    let right : b ≡ d = id_from_copy to b d (same b.place d.place (inr refl) (inr refl)) cc in
    cc
gate_from_copy to (And a b) h same e = cc
gate_from_copy to (Or a b) (Or c d) same e =
    let left : a ≡ c = id_from_copy to a c (same a.place c.place (inl refl) (inl refl)) cc in
    let right : b ≡ d = id_from_copy to b d (same b.place d.place (inr refl) (inr refl)) cc in
    cc
gate_from_copy to (Or a b) h same e = cc

-- what is noted for a place
noted_is : (noted : Option Id) → IsSome noted → noted ≡ Some (unwrap_or noted (record { place = 0 }))
noted_is None some = absurd (false≢true some)
noted_is (Some id) some = refl

-- if a copy is noted the place is listed
pub listed_some : (old : List Gate) (places : List ℕ) (new : List Gate) (ids : ℕ → Option Id) (k : ℕ) → AreCopied old places new ids
    → IsSome (ids k) → IsCopied old places new (place_in ids) k (place_in ids k)
listed_some old places new ids k copied some = copied.copies k (id_in ids k) (noted_is (ids k) some)

-- the gate over the copies of its operands is over places of the new pool
pub copy_over : (new : List Gate) (ids : ℕ → Option Id) (gate : Gate) → ((k : ℕ) → IsOperand gate k → IsSome (ids k))
    → ((k : ℕ) (id : Id) → ids k ≡ Some id → id.place < length new) → IsOver new (moved_gate (place_in ids) gate)
copy_over new ids gate operands inside place operand =
    let from = operand_from (place_in ids) gate place operand in
    subst (λ p. p < length new) from.2 (inside from.0 (id_in ids from.0) (noted_is (ids from.0) (operands from.0 from.1)))

-- at first nothing is copied
pub AreCopied-none : (old new : List Gate) (ids : ℕ → Option Id) → new ≡ [] → ((k : ℕ) → ids k ≡ None) → AreCopied old [] new ids
AreCopied-none old new ids empty none = record {
  each = λ place held. absurd (not_in_none place held);
  copies = λ place id is. absurd (none-some id (sym (none place) ∙ is));
  from = λ made inside. absurd (omega (arith, inside, ap length empty));
}

-- after as many places as there are all are copied
pub AreCopied-all : (old : List Gate) (places seen : List ℕ) (count : ℕ) (new : List Gate) (ids : ℕ → Option Id) → seen ≡ places
    → length seen ≤ count → AreCopied old (take count seen) new ids → AreCopied old places new ids
AreCopied-all old places seen count new ids is enough copied =
    subst (λ all. AreCopied old all new ids) (take_all count seen enough ∙ is) copied

module _ (old : List Gate) (places : List ℕ) (place : ℕ) (first second : List Gate) (ids next : ℕ → Option Id) (id : Id)
    (next_is : (k : ℕ) → next k ≡ cond (nat_eq place k) (Some id) (ids k))
    (extends : Extends first second) (added : AddsAt first second id.place)
    (placed : IsPlaced second (moved_gate (place_in ids) (gate_at old place)) id.place)
    (operands : (k : ℕ) → IsOperand (gate_at old place) k → IsSome (ids k))
    (below : (k : ℕ) → Contains places k → k < place)
    (before : AreCopied old places first ids) where
  -- the copy of this place is noted
  next_here : next place ≡ Some id
  next_here = ⊎_elim
      (λ yes. next_is place ∙ ap (λ b. cond b (Some id) (ids place)) yes.0)
      (λ no. absurd (no.1 refl))
      (eqb_tells place place)

  -- what was noted for another place stays
  next_other : (k : ℕ) → ¬ (place ≡ k) → next k ≡ ids k
  next_other k other = ⊎_elim
      (λ yes. absurd (other yes.1))
      (λ no. next_is k ∙ ap (λ b. cond b (Some id) (ids k)) no.0)
      (eqb_tells place k)

  -- as for each of the listed ones
  place_kept : (k : ℕ) → Contains places k → place_in ids k ≡ place_in next k
  place_kept k held =
      let less = below k held in
      ap (λ (noted : Option Id). (unwrap_or noted (record { place = 0 })).place) (sym (next_other k (λ same. absurd (omega arith))))

  -- the operands of this place are listed
  operand_listed : (k : ℕ) → IsOperand (gate_at old place) k → Contains places k
  operand_listed k operand = (listed_some old places first ids k before (operands k operand)).listed

  -- this place is copied
  copied_here : IsCopied old (places ++ place ∷ []) second (place_in next) place id.place
  copied_here = record {
    listed = Contains-push places place;
    inside = placed.inside;
    gate_is = placed.gate_is
        ∙ moved_gate-same (place_in ids) (place_in next) (gate_at old place) (λ k operand. place_kept k (operand_listed k operand));
    operands = λ k operand. Contains-append_left places (place ∷ []) k (operand_listed k operand);
  }

  -- the others stay so
  copied_still : (k made : ℕ) → IsCopied old places first (place_in ids) k made
      → IsCopied old (places ++ place ∷ []) second (place_in next) k made
  copied_still k made copied = record {
    listed = Contains-append_left places (place ∷ []) k copied.listed;
    inside = omega (arith, copied.inside, extends.longer);
    gate_is = extends.kept made copied.inside ∙ copied.gate_is
        ∙ moved_gate-same (place_in ids) (place_in next) (gate_at old k) (λ m operand. place_kept m (copied.operands m operand));
    operands = λ m operand. Contains-append_left places (place ∷ []) m (copied.operands m operand);
  }

  -- what stood before is a copy
  from_before : (made : ℕ) → made < length first → (k : ℕ) × Contains (places ++ place ∷ []) k × (place_in next k ≡ made)
  from_before made inside =
      let was = before.from made inside in
      (was.0, Contains-append_left places (place ∷ []) was.0 was.1, sym (place_kept was.0 was.1) ∙ was.2)

  -- one place more is copied
  pub AreCopied-more : AreCopied old (places ++ place ∷ []) second next
  AreCopied-more = record {
    each = λ k held.
        ⊎_elim
        (λ was. let less = below k was in
        subst IsSome (sym (next_other k (λ same. absurd (omega arith)))) (before.each k was))
        (λ same. subst (λ i. IsSome (next i)) same (subst IsSome (sym next_here) refl))
        (Contains-push_cases places place k held);
    copies = λ k other is.
        ⊎_elim
        (λ yes.
        let own : id ≡ other = same_Some id other (sym next_here ∙ (ap next yes.1 ∙ is)) in
        subst (λ i. IsCopied old (places ++ place ∷ []) second (place_in next) i other.place) yes.1
        (subst (λ (i : Id). IsCopied old (places ++ place ∷ []) second (place_in next) place i.place) own copied_here))
        (λ no. copied_still k other.place (before.copies k other (sym (next_other k no.1) ∙ is)))
        (eqb_tells place k);
    from = λ made inside.
        ⊎_elim
        (λ same. from_before made (omega (arith, inside, ap length same)))
        (λ more. elim (cases_lt made (length first)) [
          | inl earlier ↦ from_before made earlier
          | inr last ↦
              let at_end : id.place ≡ made = omega (arith, inside, more.0, ap length more.1, length_push first (gate_at second id.place)) in (
                place,
                Contains-push places place,
                ap (λ (noted : Option Id). (unwrap_or noted (record { place = 0 })).place) next_here ∙ at_end,
              )
        ])
        added;
  }

module _ (old : List Gate) (roots : List Id) (new : List Gate) (to : ℕ → ℕ) (old_order : IsInOrder old) (new_order : IsInOrder new)
    (inside_old : (i : ℕ) → AnyReaches old (places_of roots) i → i < length old)
    (inside : (i : ℕ) → AnyReaches old (places_of roots) i → to i < length new)
    (gates : (i : ℕ) → AnyReaches old (places_of roots) i → gate_at new (to i) ≡ moved_gate to (gate_at old i)) where
  -- the operand of what is reached is reached
  reached_operand : (i k : ℕ) → AnyReaches old (places_of roots) i → IsOperand (gate_at old i) k → AnyReaches old (places_of roots) k
  reached_operand i k reached operand = AnyReaches-operand old (places_of roots) i k reached (old_order i k operand) operand

  -- a copy has the value
  value_copied : (bound i : ℕ) (vars : ℕ → Bool) → i < bound → AnyReaches old (places_of roots) i
      → value_at new vars (to i) ≡ value_at old vars i
  value_copied zero i vars less reached = absurd (omega arith)
  value_copied (suc bound) i vars less reached =
      value_at-gate new vars (to i) new_order (inside i reached)
      ∙ ap (λ g. gate_value vars (value_at new vars) g) (gates i reached)
      ∙ gate_value-moved vars (value_at new vars) to (gate_at old i)
      ∙ gate_value-same vars (λ k. value_at new vars (to k)) (value_at old vars) (gate_at old i)
      (λ k operand.
      let earlier = old_order i k operand in
      value_copied bound k vars (omega arith) (reached_operand i k reached operand))
      ∙ sym (value_at-gate old vars i old_order (inside_old i reached))

  -- what a copy reaches is a copy of what was reached
  reach_from : (i made place : ℕ) → made ≡ to i → AnyReaches old (places_of roots) i → Reaches new made place
      → (k : ℕ) × Reaches old i k × (to k ≡ place)
  reach_from i made place is reached here = (i, here, sym is)
  reach_from i made place is reached (through m earlier operand rest) =
      let own : IsOperand (moved_gate to (gate_at old i)) m =
      subst (λ g. IsOperand g m) (ap (λ j. gate_at new j) is ∙ gates i reached) operand in
      let by = operand_from to (gate_at old i) m own in
      let more = reach_from by.0 m place (sym by.2) (reached_operand i by.0 reached by.1) rest in
      (more.0, through by.0 (old_order i by.0 by.1) by.1 more.1, more.2)

  -- and the copies of what was reached are reached
  reach_copied : (i k : ℕ) → AnyReaches old (places_of roots) i → Reaches old i k → Reaches new (to i) (to k)
  reach_copied i k reached here = here
  reach_copied i k reached (through m earlier operand rest) =
      let own : IsOperand (gate_at new (to i)) (to m) =
      subst (λ g. IsOperand g (to m)) (sym (gates i reached)) (operand_moved to (gate_at old i) m operand) in
      through (to m) (new_order (to i) (to m) own) own (reach_copied m k (reached_operand i m reached operand) rest)

  -- two gates have two copies
  copies_apart : (bound i j : ℕ) → IsApart old → i < bound → AnyReaches old (places_of roots) i → AnyReaches old (places_of roots) j
      → to i ≡ to j → i ≡ j
  copies_apart zero i j apart less reached_i reached_j same = absurd (omega arith)
  copies_apart (suc bound) i j apart less reached_i reached_j same =
      apart i j (inside_old i reached_i) (inside_old j reached_j)
      (gate_from_copy to (gate_at old i) (gate_at old j)
      (λ k m operand_k operand_m alike.
      let earlier = old_order i k operand_k in
      copies_apart bound k m apart (omega arith) (reached_operand i k reached_i operand_k) (reached_operand j m reached_j operand_m) alike)
      (sym (gates i reached_i) ∙ (ap (λ p. gate_at new p) same ∙ gates j reached_j)))

  -- the copy of a root is reached by the roots' copies
  found_reached : (found : List Id) (place root : ℕ) (all : List Id) → Contains (places_of all) root → found ≡ map (moved_id to) all
      → Reaches new (to root) place → AnyReaches new (places_of found) place
  found_reached found place root all held moved reached =
      let copied : Contains (places_of (map (moved_id to) all)) (to root) = contained all held in
      subst (λ ids. AnyReaches new (places_of ids) place) (sym moved)
      (AnyReaches-contained new (places_of (map (moved_id to) all)) (to root) place copied reached)
    where
      contained : (ids : List Id) → Contains (places_of ids) root → Contains (places_of (map (moved_id to) ids)) (to root)
      contained [] held = absurd (not_in_none root held)
      contained (id ∷ ids) held =
          ⊎_elim
          (λ same. (0, omega arith, ap to (sym same)))
          (λ other. let rest = contained ids other in (suc rest.0, omega (arith, rest.1), rest.2))
          (first_or_other (places_of ids) id.place root held.0 held.1 held.2)

-- the copies of all that the roots reach, and of nothing else, are a pool of their own for the roots
pub IsCompacted-copied : (old new : List Gate) (roots found : List Id) (places : List ℕ) (ids : ℕ → Option Id) → IsInOrder old → IsApart old
    → IsInOrder new → ((i : ℕ) → AnyReaches old (places_of roots) i → i < length old)
    → ((place : ℕ) → Contains places place ↔ AnyReaches old (places_of roots) place)
    → AreCopied old places new ids → found ≡ map (moved_id (place_in ids)) roots → IsCompacted old roots new found
IsCompacted-copied old new roots found places ids old_order apart new_order inside_old each copied moved =
    let to = place_in ids in
    let own : (i : ℕ) → AnyReaches old (places_of roots) i → IsCopied old places new to i (to i) =
    λ i reached. listed_some old places new ids i copied (copied.each i ((each i).1 reached)) in
    let inside : (i : ℕ) → AnyReaches old (places_of roots) i → to i < length new = λ i reached. (own i reached).inside in
    let gates : (i : ℕ) → AnyReaches old (places_of roots) i → gate_at new (to i) ≡ moved_gate to (gate_at old i) =
    λ i reached. (own i reached).gate_is in
    record {
      to = to;
      moved = moved;
      copies = record {
        inside = inside;
        gates = gates;
        apart = λ i j reached_i reached_j same.
            copies_apart old roots new to old_order new_order inside_old inside gates (suc i) i j apart (omega arith) reached_i reached_j same;
        from = λ place within.
            let was = copied.from place within in
            (was.0, (each was.0).0 was.1, was.2);
      };
      values = λ i reached vars.
          value_copied old roots new to old_order new_order inside_old inside gates (suc i) i vars (omega arith) reached;
      reach = λ i place reached. (
        reach_from old roots new to old_order new_order inside_old inside gates i (to i) place refl reached,
        λ was. subst (Reaches new (to i)) was.2
            (reach_copied old roots new to old_order new_order inside_old inside gates i was.0 reached was.1),
      );
      used = λ place within.
          let was = copied.from place within in
          let by = AnyReaches-by old (places_of roots) was.0 ((each was.0).0 was.1) in
          found_reached old roots new to old_order new_order inside_old inside gates found place by.0 roots by.1 moved
          (subst (Reaches new (to by.0)) was.2
          (reach_copied old roots new to old_order new_order inside_old inside gates by.0 was.0
          (AnyReaches-contained old (places_of roots) by.0 by.0 by.1 here) by.2));
    }

-- the found formulas are as many as the roots
pub length-found : (old new : List Gate) (roots found : List Id) → IsCompacted old roots new found → length found ≡ length roots
length-found old new roots found compacted = ap length compacted.moved ∙ length-map roots (moved_id compacted.to)

-- and are formulas of the new pool
pub found_inside : (old new : List Gate) (roots found : List Id) → IsCompacted old roots new found → All (λ id. id.place < length new) found
found_inside old new roots found compacted =
    subst (All (λ (id : Id). id.place < length new)) (sym compacted.moved)
    (All-map (λ (id : Id). id.place < length new) (moved_id compacted.to) roots
    (λ k d inside. compacted.copies.inside (get_or roots k d).place (root_reached old roots k d inside)))
