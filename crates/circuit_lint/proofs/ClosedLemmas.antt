-- Always closed switches, the ends that they join, and how they are listed at nodes.
use Rattle.std.proofs.Common.{◌≡◌, ℕ, ◌+◌, ◌<◌, inl, inr, Bool, true, false, ◌&&◌, ◌||◌, cond, List, [], ◌∷◌, ◌++◌, length, get_or, map, set, filter, Contains, Some, None, nat_eq, refl, sym, ap, ◌∙◌, subst, arith}
use Rattle.std.specs.Prelude.{Vec}
use Rattle.std.specs.declared.alloc.Global.{Global}
use Rattle.std.specs.List.{range_with_len}
use Rattle.std.specs.List.Sorted.{IsStrictlyIncreasing}
use Rattle.std.proofs.lemmas.Bool.{cases_eq, cases_lt, eq-eqb, ne_eqb, and_from}
use Rattle.std.proofs.lemmas.List.{get_or-set_same, get_or-set_other, get_or_past, get_or-map, length-map, length-set, map-set, append-nil}
use Rattle.switch_paths.specs.declared.switching.Switch.{Switch}
use Rattle.switch_paths.specs.Graphs.{GraphData, nodes, place_at}
use Rattle.switch_paths.specs.Path.{Joins}
use Rattle.group_meaning.proofs.LinkLemmas.{Joins-sym}
use Rattle.group_meaning.proofs.AscendingLists.{contains-picked, picked-below, picked-ascends}
use Rattle.circuit_lint.specs.Conducting.{IsClosedAcross, is_always_closed}
use Rattle.circuit_lint.specs.Closed.{Lists, list_at, is_closed_end, is_closed_at, AreClosedTo, AreClosed, HasPut}
use Rattle.circuit_lint.proofs.RangeLemmas.{passes-more}

-- what is there is one
pub some_same : {X : Type 0} {x y : X} → Some x ≡ Some y → x ≡ y
some_same same = cc

-- a switch leads from a node to one node
pub other_end_same : (switch : Switch) (m n other : ℕ) → Joins switch m n → Joins switch m other → n ≡ other
other_end_same switch m n other (inl one) (inl two) = sym one.1 ∙ two.1
other_end_same switch m n other (inl one) (inr two) = sym one.1 ∙ two.0 ∙ sym one.0 ∙ two.1
other_end_same switch m n other (inr one) (inl two) = sym one.1 ∙ two.0 ∙ sym one.0 ∙ two.1
other_end_same switch m n other (inr one) (inr two) = sym one.1 ∙ two.1

-- and so does the one at a place
pub across_same : (g : GraphData) (place m n other : ℕ) → IsClosedAcross g place m n → IsClosedAcross g place m other → n ≡ other
across_same g place m n other one two =
    let same : two.switch ≡ one.switch = some_same (sym two.at_place ∙ one.at_place) in
    other_end_same one.switch m n other one.joins (subst (λ (s : Switch). Joins s m other) same two.joins)

-- a switch that leads from a node to another leads back
pub across_back : (g : GraphData) (place m n : ℕ) → IsClosedAcross g place m n → IsClosedAcross g place n m
across_back g place m n one = record { switch = one.switch; at_place = one.at_place; joins = Joins-sym one.switch m n one.joins; closed = one.closed }

-- a place that holds a switch is one of the graph
pub place_inside : (g : GraphData) (place : ℕ) (switch : Switch) → place_at g.places place ≡ Some switch → place < length g.places
place_inside g place switch there =
    elim (cases_lt place (length g.places)) [
      | inl low ↦ low
      | inr past ↦ absurd (none_some (sym (get_or_past g.places place None past) ∙ there))
    ]
  where
    none_some : {X : Type 0} {x : X} → None ≡ Some x → ⊥
    none_some e = cc

-- an end of a switch has the node
end_there : (switch : Switch) (m n : ℕ) → Joins switch m n → (nat_eq switch.a m || nat_eq switch.b m) ≡ true
end_there switch m n (inl one) = ap (λ b. b || nat_eq switch.b m) (eq-eqb switch.a m one.0)
end_there switch m n (inr one) = second (nat_eq switch.a m) (eq-eqb switch.b m one.0)
  where
    second : (b : Bool) {c : Bool} → c ≡ true → (b || c) ≡ true
    second true so = refl
    second false so = so

module _ (g : GraphData) (lists : Lists) (are : AreClosed g lists) (node : ℕ) (low : node < nodes g) where
  -- the places at a node are places of the graph
  pub closed_inside : (place : ℕ) → Contains (list_at lists node) place → place < length g.places
  closed_inside place there =
      picked-below (is_closed_at g node) (length g.places) place (subst (λ (xs : List ℕ). Contains xs place) (are.each node low) there)

  -- all that lead on from it are among them
  pub closed_whole : (place next : ℕ) → IsClosedAcross g place node next → Contains (list_at lists node) place
  closed_whole place next across =
      subst (λ (xs : List ℕ). Contains xs place) (sym (are.each node low))
      (contains-picked (is_closed_at g node) (length g.places) place (place_inside g place across.switch across.at_place)
      (ap (is_closed_end node) across.at_place ∙ and_from (is_always_closed across.switch) _ across.closed (end_there across.switch node next across.joins)))

  -- and they ascend
  pub closed_ascends : IsStrictlyIncreasing (list_at lists node)
  closed_ascends = subst IsStrictlyIncreasing (sym (are.each node low)) (picked-ascends (is_closed_at g node) (length g.places))

-- a place is put behind the others of a node
pub HasPut-written : (lists : Lists) (node place : ℕ) (v w : Vec ℕ Global) → node < length lists → v ≡ get_or lists node v → w.items ≡ v.items ++ place ∷ [] →
    HasPut node place lists (set lists node w)
HasPut-written lists node place v w inside read grown =
    let bytes = λ (places : Vec ℕ Global). places.items in
    let moved : map bytes (set lists node w) ≡ set (map bytes lists) node w.items = map-set bytes lists node w in
    let within : node < length (map bytes lists) = omega (arith, inside, length-map lists bytes) in
    let old : list_at lists node ≡ v.items = get_or-map bytes lists node v [] inside ∙ ap bytes (sym read) in
    record {
      count = length-set lists node w;
      here = ap (λ (xs : List (List ℕ)). get_or xs node []) moved ∙ get_or-set_same (map bytes lists) node w.items [] within
          ∙ grown ∙ ap (λ xs. xs ++ place ∷ []) (sym old);
      others = λ other apart. ap (λ (xs : List (List ℕ)). get_or xs other []) moved ∙ get_or-set_other (map bytes lists) node other w.items [] apart;
    }

module _ (g : GraphData) (k : ℕ) where
  -- an always closed switch isn't at the place, or has no end at the node
  kept : (lists : Lists) (node : ℕ) → is_closed_at g node k ≡ false → list_at lists node ≡ filter (is_closed_at g node) (range_with_len 0 k) →
      list_at lists node ≡ filter (is_closed_at g node) (range_with_len 0 (k + 1))
  kept lists node fails was =
      was ∙ sym (append-nil _) ∙ ap (λ b. filter (is_closed_at g node) (range_with_len 0 k) ++ cond b (k ∷ []) []) (sym fails) ∙ sym (passes-more (is_closed_at g node) k)

  pub closed-none : (lists : Lists) → ((node : ℕ) → is_closed_at g node k ≡ false) → AreClosedTo g k lists → AreClosedTo g (k + 1) lists
  closed-none lists fails so_far = record { size = so_far.size; each = λ node low. kept lists node (fails node) (so_far.each node low) }

  -- it has one there
  listed : (old new : Lists) (node : ℕ) → is_closed_at g node k ≡ true → list_at old node ≡ filter (is_closed_at g node) (range_with_len 0 k) →
      list_at new node ≡ list_at old node ++ k ∷ [] → list_at new node ≡ filter (is_closed_at g node) (range_with_len 0 (k + 1))
  listed old new node passes was grown =
      grown ∙ ap (λ xs. xs ++ k ∷ []) was
      ∙ ap (λ b. filter (is_closed_at g node) (range_with_len 0 k) ++ cond b (k ∷ []) []) (sym passes) ∙ sym (passes-more (is_closed_at g node) k)

  module _ (switch : Switch) (there : place_at g.places k ≡ Some switch) (closed : is_always_closed switch ≡ true) where
    ends : (node : ℕ) (b : Bool) → (nat_eq switch.a node || nat_eq switch.b node) ≡ b → is_closed_at g node k ≡ b
    ends node b is = ap (is_closed_end node) there ∙ ap (λ c. c && (nat_eq switch.a node || nat_eq switch.b node)) closed ∙ is

    -- the place was put at its first end; another node isn't its second end
    at_first : (old new : Lists) (node : ℕ) → (¬ (node ≡ switch.a) → ¬ (switch.b ≡ node)) → HasPut switch.a k old new →
        list_at old node ≡ filter (is_closed_at g node) (range_with_len 0 k) → list_at new node ≡ filter (is_closed_at g node) (range_with_len 0 (k + 1))
    at_first old new node clear put was =
        elim (cases_eq node switch.a) [
          | inl here ↦
              listed old new node (ends node true (ap (λ b. b || nat_eq switch.b node) (eq-eqb switch.a node (sym here)))) was
              (ap (list_at new) here ∙ put.here ∙ ap (λ n. list_at old n ++ k ∷ []) (sym here))
          | inr apart ↦
              put.others node apart
              ∙ kept old node (ends node false (ap (λ b. b || nat_eq switch.b node) (ne_eqb switch.a node (λ e. apart (sym e)))
              ∙ ne_eqb switch.b node (clear apart))) was
        ]

    -- both its ends are one node
    pub closed-once : (old new : Lists) → switch.b ≡ switch.a → HasPut switch.a k old new → AreClosedTo g k old → AreClosedTo g (k + 1) new
    closed-once old new same put so_far = record {
      size = put.count ∙ so_far.size;
      each = λ node low. at_first old new node (λ apart e. apart (sym e ∙ same)) put (so_far.each node low);
    }

    -- or two
    pub closed-twice : (old mid new : Lists) → ¬ (switch.b ≡ switch.a) → HasPut switch.a k old mid → HasPut switch.b k mid new → AreClosedTo g k old →
        AreClosedTo g (k + 1) new
    closed-twice old mid new two first second so_far = record {
      size = second.count ∙ first.count ∙ so_far.size;
      each = λ node low.
          elim (cases_eq node switch.b) [
            | inl here ↦
                let other : ¬ (switch.b ≡ switch.a) = two in
                listed old new node (ends node true (later (nat_eq switch.a node) (eq-eqb switch.b node (sym here)))) (so_far.each node low)
                (ap (list_at new) here ∙ second.here ∙ ap (λ xs. xs ++ k ∷ []) (first.others switch.b other) ∙ ap (λ n. list_at old n ++ k ∷ []) (sym here))
            | inr past ↦ second.others node past ∙ at_first old mid node (λ apart e. past (sym e)) first (so_far.each node low)
          ];
    }
      where
        later : (b : Bool) {c : Bool} → c ≡ true → (b || c) ≡ true
        later true so = refl
        later false so = so
