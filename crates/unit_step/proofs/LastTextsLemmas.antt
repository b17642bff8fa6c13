-- Where parts begin, and the numbers of their texts at these nodes.
use Rattle.std.proofs.Common.{◌≡◌, ◌≢◌, ℕ, ◌+◌, ◌<◌, ◌≤◌, Bool, true, false, min, inl, inr, ◌⊎◌, if◌then◌else◌, List, [], ◌∷◌, ◌++◌, length, take, get_or, All, Option, Some, None, true≢false, refl, sym, ap, subst, ◌∙◌, arith}
use Rattle.std.specs.Prelude.{Contains, slice_index, slice_index_or, slice_set}
use Rattle.std.specs.Option.{IfSome}
use Rattle.std.proofs.lemmas.Bool.{cases_eq, lt-ltb, ltb-true}
use Rattle.std.proofs.lemmas.List.{get_or_default, get_or-set_same, get_or-set_other, get_or_append_left, get_or-take, length-set, length_push, length-take, take_more}
use Rattle.std.proofs.lemmas.List.Elements.{All-contains, Contains-get_or, Contains-push, Contains-push_cases, Contains-append_cases, Contains-append_left, Contains-append_right}
use Rattle.machine_parts.specs.declared.part.MachinePart.{MachinePart}
use Rattle.unit_step.specs.declared.last_texts.LastTexts.{LastTexts}
use Rattle.machine_parts.specs.Parts.{Stands, HasMember, AreApart, has_members}
use Rattle.machine_laws.specs.Beginnings.{BeginsAt, Begins}
use Rattle.unit_step.specs.LastTexts.{AreLastTexts, starts_of, with_beginning}
use Rattle.machine_parts.proofs.PartLemmas.{same_part}

module _ (parts : List MachinePart) where
  -- where a part begins it has a member
  pub HasMember-first : (k node : ℕ) → BeginsAt parts k node → HasMember parts k node
  HasMember-first k node begins = record { part = begins.part; stands = begins.stands; place = 0; member = begins.first }

  -- a part with members begins at the first of them
  pub BeginsAt-first : (k : ℕ) (part : MachinePart) → Stands parts k part → 0 < part.members → part.members ≤ length part.map.items →
      BeginsAt parts k (slice_index part.map.items 0)
  BeginsAt-first k part stands some few = record {
    part = part;
    stands = stands;
    first = record { inside = some; within = omega arith; here = refl };
  }

  -- and at no other node
  pub begins_once : (k one two : ℕ) → BeginsAt parts k one → BeginsAt parts k two → one ≡ two
  begins_once k one two first second =
      let same = same_part parts k first.part second.part first.stands second.stands in
      sym first.first.here ∙ (ap (λ (part : MachinePart). slice_index part.map.items 0) same ∙ second.first.here)

  -- what stands for the part that begins at a node is one thing
  pub Begins-once : {X : Type 0} (all : List (Option X)) (node : ℕ) (one two : X) → AreApart parts → Begins parts all node one → Begins parts all node two → one ≡ two
  Begins-once all node one two apart first second =
      let same = apart first.k second.k node (HasMember-first first.k node first.at) (HasMember-first second.k node second.at) in
      let both : Some one ≡ Some two = sym first.has ∙ (ap (λ k. slice_index_or all k None) same ∙ second.has) in
      cc

  -- a part that has a member begins where the first node of its map is read
  pub BeginsAt-read : (k node : ℕ) (part : MachinePart) → HasMember parts k node → part ≡ slice_index_or parts k part → (read : ℕ) →
      read ≡ slice_index_or part.map.items 0 read → BeginsAt parts k read
  BeginsAt-read k node part has part_is read read_is =
      let stands : Stands parts k part = record { inside = has.stands.inside; here = sym part_is } in
      let same = same_part parts k has.part part has.stands stands in
      let members : 0 < part.members = subst (λ (one : MachinePart). 0 < one.members) same (omega (arith, has.member.inside)) in
      let within : 0 < length part.map.items = subst (λ (one : MachinePart). 0 < length one.map.items) same (omega (arith, has.member.within)) in
      record {
        part = part;
        stands = stands;
        first = record { inside = members; within = within; here = get_or_default part.map.items 0 0 read within ∙ sym read_is };
      }

  module _ (k : ℕ) (part : MachinePart) (stands : Stands parts k part) (few : part.members ≤ length part.map.items) where
    -- what is noted of a part is where it begins
    pub BeginsAt-noted : (node : ℕ) → Contains (starts_of part) node → BeginsAt parts k node
    BeginsAt-noted node (i, inside, here) =
        let short = length-take (min part.members 1) part.map.items in
        let first : i ≡ 0 = omega (arith, inside, short) in
        let some : 0 < part.members = omega (arith, inside, short) in
        let read : get_or part.map.items 0 node ≡ node =
        sym (get_or-take (min part.members 1) part.map.items 0 node (omega (arith, some)))
        ∙ (ap (λ n. get_or (starts_of part) n node) (sym first) ∙ here) in
        record {
          part = part;
          stands = stands;
          first = record { inside = some; within = omega (arith, some, few); here = get_or_default part.map.items 0 0 node (omega (arith, some, few)) ∙ read };
        }

    pub noted-BeginsAt : (node : ℕ) → BeginsAt parts k node → Contains (starts_of part) node
    noted-BeginsAt node begins =
        let same = same_part parts k begins.part part begins.stands stands in
        let some : 0 < part.members = subst (λ (one : MachinePart). 0 < one.members) same begins.first.inside in
        let first : slice_index part.map.items 0 ≡ node =
        ap (λ (one : MachinePart). slice_index one.map.items 0) (sym same) ∙ begins.first.here in (
          0,
          omega (arith, some, few, length-take (min part.members 1) part.map.items),
          get_or-take (min part.members 1) part.map.items 0 node (omega (arith, some))
              ∙ (get_or_default part.map.items 0 node 0 (omega (arith, some, few)) ∙ first),
        )

-- of so many nodes, each has the number of the text of one of the first parts that begins there, or none
pub record AreBegun (parts : List MachinePart) (numbers : List (Option ℕ)) (count known i : ℕ) (last_texts : List (Option ℕ)) : Type 0 where
  pub counted : length last_texts ≡ count
  pub inside : (node number : ℕ) → slice_index_or last_texts node None ≡ Some number → number < known
  pub begins : (node number : ℕ) → slice_index_or last_texts node None ≡ Some number → Begins parts numbers node number
  pub lasts : (node number : ℕ) (begins : Begins parts numbers node number) → begins.k < i → slice_index_or last_texts node None ≡ Some number

module _ (parts : List MachinePart) (numbers : List (Option ℕ)) (count known i : ℕ) (apart : AreApart parts) (part : MachinePart) (stands : Stands parts i part)
    (few : part.members ≤ length part.map.items) (below : All (λ node. node < count) part.map.items) (number : Option ℕ)
    (number_is : number ≡ slice_index_or numbers i None) (number_known : (one : ℕ) → number ≡ Some one → one < known) (last_texts : List (Option ℕ))
    (so_far : AreBegun parts numbers count known i last_texts) where
  -- the part begins at a node
  begun_at : 0 < part.members → AreBegun parts numbers count known (i + 1) (slice_set last_texts (slice_index part.map.items 0) number)
  begun_at some =
      let node = slice_index part.map.items 0 in
      let here = BeginsAt-first parts i part stands some few in
      let within : node < length last_texts = omega (arith, below 0 0 (omega (arith, some, few)), so_far.counted) in
      record {
        counted = length-set last_texts node number ∙ so_far.counted;
        inside = λ other one is.
            elim (cases_eq other node) [
              | inl same ↦ number_known one (sym (get_or-set_same last_texts node number None within) ∙ (ap (λ n. slice_index_or (slice_set last_texts node number) n None) (sym same) ∙ is))
              | inr differs ↦ so_far.inside other one (sym (get_or-set_other last_texts node other number None differs) ∙ is)
            ];
        begins = λ other one is.
            elim (cases_eq other node) [
              | inl same ↦
                  record {
                    k = i;
                    at = subst (BeginsAt parts i) (sym same) here;
                    has = sym number_is ∙ (sym (get_or-set_same last_texts node number None within) ∙ (ap (λ n. slice_index_or (slice_set last_texts node number) n None) (sym same) ∙ is));
                  }
              | inr differs ↦ so_far.begins other one (sym (get_or-set_other last_texts node other number None differs) ∙ is)
            ];
        lasts = λ other one begins below.
            elim (cases_eq other node) [
              | inl same ↦
                  let at_node = subst (BeginsAt parts begins.k) same begins.at in
                  let is_i = apart begins.k i node (HasMember-first parts begins.k node at_node) (HasMember-first parts i node here) in
                  ap (λ n. slice_index_or (slice_set last_texts node number) n None) same
                  ∙ (get_or-set_same last_texts node number None within ∙ (number_is ∙ (ap (λ k. slice_index_or numbers k None) (sym is_i) ∙ begins.has)))
              | inr differs ↦
                  let not_i : begins.k ≢ i = λ is. differs (begins_once parts i other node (subst (λ k. BeginsAt parts k other) is begins.at) here) in
                  get_or-set_other last_texts node other number None differs ∙ so_far.lasts other one begins (omega (arith, below, not_i))
            ];
      }

  -- the part has no members
  begun_nowhere : (0 < part.members → ⊥) → AreBegun parts numbers count known (i + 1) last_texts
  begun_nowhere none = record {
    counted = so_far.counted;
    inside = so_far.inside;
    begins = so_far.begins;
    lasts = λ other one begins below.
        let not_i : begins.k ≢ i = λ is.
        let same = same_part parts i begins.at.part part (subst (λ k. Stands parts k begins.at.part) is begins.at.stands) stands in
        none (subst (λ (p : MachinePart). 0 < p.members) same begins.at.first.inside) in
        so_far.lasts other one begins (omega (arith, below, not_i));
  }

  -- so the first nodes of one part more have the number of its text
  pub AreBegun-more : AreBegun parts numbers count known (i + 1) (with_beginning part number last_texts)
  AreBegun-more = by (has_members part) refl
    where
      by : (some : Bool) → has_members part ≡ some →
          AreBegun parts numbers count known (i + 1) (if some then slice_set last_texts (slice_index part.map.items 0) number else last_texts)
      by true is = begun_at (ltb-true 0 part.members is)
      by false is = begun_nowhere (λ some. true≢false (sym (lt-ltb 0 part.members some) ∙ is))

-- the nodes noted by the parts so far, and by one more
module _ (parts : List MachinePart) (slots : List ℕ) (i k : ℕ) (inside : i < length slots) (k_is : k ≡ get_or slots i 0) (part : MachinePart)
    (stands : Stands parts k part) (few : part.members ≤ length part.map.items) (old new : List ℕ) (noted : new ≡ old ++ starts_of part) where
  pub noted-stays : (node : ℕ) → Contains old node → Contains new node
  noted-stays node there = rw noted (Contains-append_left old (starts_of part) node there)

  pub noted-only : (P : ℕ → Type 0) → ((node : ℕ) → Contains old node → P node ⊎ ((l : ℕ) × Contains slots l × BeginsAt parts l node)) →
      (node : ℕ) → Contains new node → P node ⊎ ((l : ℕ) × Contains slots l × BeginsAt parts l node)
  noted-only P before node there =
      elim (Contains-append_cases old (starts_of part) node (subst (λ xs. Contains xs node) noted there)) [
        | inl was ↦ before node was
        | inr now ↦ inr (k, (i, inside, get_or_default slots i k 0 inside ∙ sym k_is), BeginsAt-noted parts k part stands few node now)
      ]

  pub noted-all : ((l node : ℕ) → Contains (take i slots) l → BeginsAt parts l node → Contains old node) →
      (l node : ℕ) → Contains (take (i + 1) slots) l → BeginsAt parts l node → Contains new node
  noted-all before l node there begins =
      let more : take (i + 1) slots ≡ take i slots ++ k ∷ [] = take_more slots i 0 inside ∙ ap (λ n. take i slots ++ n ∷ []) (sym k_is) in
      elim (Contains-push_cases (take i slots) k l (subst (λ xs. Contains xs l) more there)) [
        | inl was ↦ noted-stays node (before l node was begins)
        | inr same ↦
            rw noted (Contains-append_right old (starts_of part) node
            (noted-BeginsAt parts k part stands few node (subst (λ n. BeginsAt parts n node) (sym same) begins)))
      ]

-- what holds of the value, if there is one, holds if there is one
pub if_some_each : {X : Type 0} (found : Option X) (P : X → Type 0) → ((x : X) → found ≡ Some x → P x) → IfSome found P
if_some_each None P each = tt
if_some_each (Some x) P each = each x refl

-- and the other way round
pub if_some_at : {X : Type 0} (P : X → Type 0) (found : Option X) (x : X) → IfSome found P → found ≡ Some x → P x
if_some_at P found x holds is = subst (λ one. IfSome one P) is holds

-- the number at a node is found anew, which is noted no more
module _ (parts : List MachinePart) (numbers : List (Option ℕ)) (count known : ℕ) (old new : LastTexts)
    (are : AreLastTexts parts numbers count known old)
    (node : ℕ) (number : Option ℕ) (popped : old.changed.items ≡ new.changed.items ++ node ∷ [])
    (written : new.numbers.items ≡ slice_set old.numbers.items node number) (begins_here : IfSome number (Begins parts numbers node))
    (number_known : IfSome number (λ one. one < known)) (all : (one : ℕ) → Begins parts numbers node one → number ≡ Some one) where
  pub noted_inside : node < count
  noted_inside = All-contains (λ n. n < count) old.changed.items node are.within (rw popped (Contains-push new.changed.items node))

  noted_otherwise : (other : ℕ) → other ≢ node → ¬ Contains new.changed.items other → ¬ Contains old.changed.items other
  noted_otherwise other differs none there =
      elim (Contains-push_cases new.changed.items node other (subst (λ xs. Contains xs other) popped there)) [
        | inl still ↦ none still
        | inr same ↦ differs (sym same)
      ]

  at_node : slice_index_or new.numbers.items node None ≡ number
  at_node =
      ap (λ xs. slice_index_or xs node None) written
      ∙ get_or-set_same old.numbers.items node number None (omega (arith, noted_inside, are.counted))

  elsewhere : (other : ℕ) → other ≢ node → slice_index_or new.numbers.items other None ≡ slice_index_or old.numbers.items other None
  elsewhere other differs = ap (λ xs. slice_index_or xs other None) written ∙ get_or-set_other old.numbers.items node other number None differs

  pub AreLastTexts-renewed : AreLastTexts parts numbers count known new
  AreLastTexts-renewed = record {
    counted = ap length written ∙ (length-set old.numbers.items node number ∙ are.counted);
    inside = λ other one is.
        elim (cases_eq other node) [
          | inl same ↦
              let here = sym at_node ∙ (ap (λ n. slice_index_or new.numbers.items n None) (sym same) ∙ is) in
              if_some_at (λ n. n < known) number one number_known here
          | inr differs ↦ are.inside other one (sym (elsewhere other differs) ∙ is)
        ];
    begins = λ other one is none.
        elim (cases_eq other node) [
          | inl same ↦
              let here = sym at_node ∙ (ap (λ n. slice_index_or new.numbers.items n None) (sym same) ∙ is) in
              subst (λ n. Begins parts numbers n one) (sym same) (if_some_at (Begins parts numbers node) number one begins_here here)
          | inr differs ↦ are.begins other one (sym (elsewhere other differs) ∙ is) (noted_otherwise other differs none)
        ];
    lasts = λ other one begins none.
        elim (cases_eq other node) [
          | inl same ↦
              ap (λ n. slice_index_or new.numbers.items n None) same ∙ (at_node ∙ all one (subst (λ n. Begins parts numbers n one) same begins))
          | inr differs ↦ elsewhere other differs ∙ are.lasts other one begins (noted_otherwise other differs none)
        ];
    within = λ i d inside.
        let longer : i < length old.changed.items = omega (arith, inside, ap length popped, length_push new.changed.items node) in
        subst (λ n. n < count) (ap (λ xs. get_or xs i d) popped ∙ get_or_append_left new.changed.items (node ∷ []) d i inside) (are.within i d longer);
    beyond = are.beyond;
  }

-- it is the same where the same nodes are noted
pub AreLastTexts-reordered : (parts : List MachinePart) (numbers : List (Option ℕ)) (count known : ℕ) (old new : LastTexts) →
    AreLastTexts parts numbers count known old → new.numbers.items ≡ old.numbers.items →
    ((node : ℕ) → Contains old.changed.items node → Contains new.changed.items node) →
    ((node : ℕ) → Contains new.changed.items node → Contains old.changed.items node) → AreLastTexts parts numbers count known new
AreLastTexts-reordered parts numbers count known old new are numbers_are these only = record {
  counted = ap length numbers_are ∙ are.counted;
  inside = λ node number is. are.inside node number (here node is);
  begins = λ node number is none. are.begins node number (here node is) (λ there. none (these node there));
  lasts = λ node number begins none. ap (λ xs. slice_index_or xs node None) numbers_are ∙ are.lasts node number begins (λ there. none (these node there));
  within = λ i d inside.
      All-contains (λ n. n < count) old.changed.items _ are.within (only _ (Contains-get_or new.changed.items i d inside));
  beyond = are.beyond;
}
  where
    here : {number : ℕ} (node : ℕ) → slice_index_or new.numbers.items node None ≡ Some number → slice_index_or old.numbers.items node None ≡ Some number
    here node is = ap (λ xs. slice_index_or xs node None) (sym numbers_are) ∙ is
