-- Plain assignments with 0 in the place of each formula. Under any valuation the items of a list give letters to the same nodes as these, so the
-- assignments of each column are refused as these are; and if they aren't refused each gives letters, of a list item by item to the nodes of its name.
use Rattle.std.proofs.Common.{◌≡◌, ℕ, Bool, true, false, ◌==◌, List, [], ◌∷◌, length, map, All, Option, Some, None, Result, Ok, Err, refl, sym, ap, ap₂, ◌∙◌, arith, if◌then◌else◌}
use Rattle.std.specs.Prelude.{is_some, option_map, unwrap_or, zip}
use Rattle.std.proofs.lemmas.Bool.Decides.{nat_tests}
use Rattle.std.proofs.lemmas.List.{length-map}
use Rattle.std.proofs.lemmas.List.Elements.{All-cons, All-nil}
use Rattle.ternary.specs.declared.tern.Tern.{Tern}
use Rattle.ternary.specs.declared.tern.Tern.TheVariants.{Zero}
use Rattle.netlist.specs.Circuits.{CircuitData}
use Rattle.netlist.specs.Names.{node_of}
use Rattle.vector_values.specs.Values.{Letter, ValueData, letters_for, one_for_all, plain_value, spread}
use Rattle.script_lang.specs.declared.value.Value.{Value}
use Rattle.script_lang.specs.declared.value.Value.TheVariants as of_value
use Rattle.node_words.specs.Words.{list_of, named, node_or_list}
use Rattle.node_values.specs.declared.fault.GivenFault.{GivenFault}
use Rattle.node_values.specs.declared.fault.GivenFault.TheVariants as given
use Rattle.node_values.specs.Givings.{letters_given, unless_node, vector_named, with_letters, with_state, with_value_at}
use Rattle.formula_functions.specs.Truths.{truth_of}
use Rattle.truth_makers.specs.Expecting.{state_of_truth}
use Rattle.symbol_lines.specs.declared.items.Item.{Item}
use Rattle.symbol_lines.specs.declared.items.Item.TheVariants as item
use Rattle.symbol_lines.specs.declared.values.SymbolValue.{SymbolValue}
use Rattle.symbol_lines.specs.declared.values.SymbolValue.TheVariants as value
use Rattle.symbol_script.specs.declared.line.Assignment.{Assignment}
use Rattle.session_meaning.specs.declared.fault.Refusal.{Refusal}
use Rattle.session_meaning.specs.Refusals.{first_refusal, given_refusal, givings_refusal, nodes_named, or_else, place_refusal, values_refusal}
use Rattle.session_meaning.proofs.RefusalLemmas.{first_refusal-none, or_else-none}
use Rattle.symbol_meaning.specs.Readings.{given_by_list, given_under, letter_under, plain_under}
use Rattle.symbol_meaning.proofs.RefusalLemmas.{given_to, given_to-alike, state-alike, AreAlike}
use Rattle.symbol_giving.specs.StandIns.{IsGiven, given_with, stand_in, stand_letter}

-- ---- letters of the same nodes

-- as many letters as items
counted : (letter : Item → Letter) (items : List Item) → length (map letter items) ≡ length items
counted letter items = length-map items letter

module _ (c : CircuitData) (vectors : List (List ℕ × List ℕ)) (values : List ℕ → Bool) where
  -- the letters of a list under a valuation are like those with 0 for each formula
  letters-alike : (items : List Item) → AreAlike (map (letter_under values) items) (map stand_letter items)
  letters-alike [] = refl
  letters-alike (item.Letter letter ∷ items) = ap (λ (rest : List Bool). is_some letter ∷ rest) (letters-alike items)
  letters-alike (item.Formula parts ∷ items) = ap (λ (rest : List Bool). true ∷ rest) (letters-alike items)

  -- so a list is refused alike where it is given
  list-alike : (at : ℕ → Option Refusal) (name : List ℕ) (found : Option (List ℕ)) → vector_named c vectors name ≡ found → (items : List Item) →
      given_refusal at (letters_given c vectors (name, given_by_list found (map (letter_under values) items)))
      ≡ given_refusal at (letters_given c vectors (name, given_by_list found (map stand_letter items)))
  list-alike at name (Some nodes) is items =
      let one = map (letter_under values) items in
      let other = map stand_letter items in
      let even : (length other == length nodes) ≡ (length one == length nodes) =
      ap (λ n. n == length nodes) (counted stand_letter items ∙ sym (counted (letter_under values) items)) in
      let fitted = λ (letters : List Letter). plain_value (if length letters == length nodes then letters else []) in
      ap (λ (list : Option (List ℕ)). given_refusal at (with_value_at (fitted one) list)) is
      ∙ given_to-alike at nodes one other (letters-alike items) (length one == length nodes) refl even
      ∙ ap (λ (test : Bool). given_to at nodes test other) (sym even)
      ∙ sym (ap (λ (list : Option (List ℕ)). given_refusal at (with_value_at (fitted other) list)) is)
  list-alike at name None is [] = refl
  list-alike at name None is (item.Letter letter ∷ []) = refl
  list-alike at name None is (item.Formula parts ∷ []) = state-alike at (named c vectors name) (state_of_truth (truth_of values parts)) Zero
  list-alike at name None is (own ∷ second ∷ items) =
      ap (λ (list : Option (List ℕ)). given_refusal at (with_value_at (plain_value (map (letter_under values) (own ∷ second ∷ items))) list)) is
      ∙ sym (ap (λ (list : Option (List ℕ)). given_refusal at (with_value_at (plain_value (map stand_letter (own ∷ second ∷ items))) list)) is)

  -- and where it may not stand
  list-placed : (name : List ℕ) (found : Option (List ℕ)) (items : List Item) →
      place_refusal c vectors (name, given_by_list found (map (letter_under values) items))
      ≡ place_refusal c vectors (name, given_by_list found (map stand_letter items))
  list-placed name (Some nodes) items = refl
  list-placed name None [] = refl
  list-placed name None (item.Letter letter ∷ []) = refl
  list-placed name None (item.Formula parts ∷ []) = refl
  list-placed name None (own ∷ second ∷ items) = refl

  -- so is any value
  value-alike : (at : ℕ → Option Refusal) (name : List ℕ) (own : SymbolValue) →
      given_refusal at (letters_given c vectors (name, given_under values (vector_named c vectors name) own))
      ≡ given_refusal at (letters_given c vectors (name, given_with stand_letter (vector_named c vectors name) own))
  value-alike at name (value.Plain plain) = refl
  value-alike at name (value.List items) = list-alike at name (vector_named c vectors name) refl items

  value-placed : (name : List ℕ) (own : SymbolValue) →
      place_refusal c vectors (name, given_under values (vector_named c vectors name) own)
      ≡ place_refusal c vectors (name, given_with stand_letter (vector_named c vectors name) own)
  value-placed name (value.Plain plain) = refl
  value-placed name (value.List items) = list-placed name (vector_named c vectors name) items

  all-placed : (list : List Assignment) →
      first_refusal (place_refusal c vectors) (map (plain_under values c vectors) list) ≡ first_refusal (place_refusal c vectors) (map (stand_in c vectors) list)
  all-placed [] = refl
  all-placed (own ∷ list) = ap₂ or_else (value-placed own.name own.value) (all-placed list)

  all-given : (at : ℕ → Option Refusal) (list : List Assignment) →
      givings_refusal at c vectors (map (plain_under values c vectors) list) ≡ givings_refusal at c vectors (map (stand_in c vectors) list)
  all-given at [] = refl
  all-given at (own ∷ list) = ap₂ or_else (value-alike at own.name own.value) (all-given at list)

  -- and all assignments of a line
  pub stand_refused : (at : ℕ → Option Refusal) (list : List Assignment) →
      values_refusal at c vectors (map (plain_under values c vectors) list) ≡ values_refusal at c vectors (map (stand_in c vectors) list)
  stand_refused at list = ap₂ or_else (all-placed list) (all-given at list)

-- ---- what isn't refused gives letters

-- giving letters lacks no memory
state-lacks : (state : Tern) (found : Option (List ℕ)) → with_state state found ≡ Err given.NoMemory → ⊥
state-lacks state None is = absurd (cc)
state-lacks state (Some nodes) is = absurd (cc)

letters-lack : (nodes : List ℕ) (letters : Option (List Letter)) → with_letters nodes letters ≡ Err given.NoMemory → ⊥
letters-lack nodes None is = absurd (cc)
letters-lack nodes (Some letters) is = absurd (cc)

value-lacks : (own : ValueData) (found : Option (List ℕ)) → with_value_at own found ≡ Err given.NoMemory → ⊥
value-lacks own None is = absurd (cc)
value-lacks own (Some nodes) is = letters-lack nodes (letters_for (length nodes) own) is

item-lacks : (c : CircuitData) (vectors : List (List ℕ × List ℕ)) (name : List ℕ) (own : Value) → letters_given c vectors (name, own) ≡ Err given.NoMemory → ⊥
item-lacks c vectors name (of_value.Letter state) is = state-lacks state (named c vectors name) is
item-lacks c vectors name (of_value.Wide own) is = value-lacks own (vector_named c vectors name) is
item-lacks c vectors name (of_value.Alone state) is = state-lacks state (option_map (λ node. node ∷ []) (node_of c.names name)) is

allowed-is : (at : ℕ → Option Refusal) (found : Result (List (ℕ × Letter)) GivenFault) → (found ≡ Err given.NoMemory → ⊥) → given_refusal at found ≡ None →
    (pairs : List (ℕ × Letter)) × (found ≡ Ok pairs)
allowed-is at (Ok pairs) lacks none = (pairs, refl)
allowed-is at (Err given.UnknownNode) lacks none = absurd (cc)
allowed-is at (Err given.VectorValue) lacks none = absurd (cc)
allowed-is at (Err given.NoMemory) lacks none = absurd (lacks refl)

each-given : (at : ℕ → Option Refusal) (c : CircuitData) (vectors : List (List ℕ × List ℕ)) (list : List Assignment) →
    givings_refusal at c vectors (map (stand_in c vectors) list) ≡ None → All (IsGiven c vectors) list
each-given at c vectors [] none = All-nil (IsGiven c vectors)
each-given at c vectors (own ∷ list) none =
    let both = first_refusal-none (λ (one : List ℕ × Value). given_refusal at (letters_given c vectors one)) (stand_in c vectors own)
    (map (stand_in c vectors) list) none in
    All-cons (IsGiven c vectors) own list
    (allowed-is at (letters_given c vectors (stand_in c vectors own)) (item-lacks c vectors own.name (given_with stand_letter (vector_named c vectors own.name) own.value))
    both.0) (each-given at c vectors list both.1)

-- each of the assignments gives letters, if the stand-ins aren't refused
pub all_given : (at : ℕ → Option Refusal) (c : CircuitData) (vectors : List (List ℕ × List ℕ)) (list : List Assignment) →
    values_refusal at c vectors (map (stand_in c vectors) list) ≡ None → All (IsGiven c vectors) list
all_given at c vectors list none =
    each-given at c vectors list
    (or_else-none (first_refusal (place_refusal c vectors) (map (stand_in c vectors) list)) (givings_refusal at c vectors (map (stand_in c vectors) list)) none).1

-- ---- a list gives its letters item by item

-- what an assignment gives, by the node and the list of its name
abbrev given_at : Option ℕ → Option (List ℕ) → Value → Result (List (ℕ × Letter)) GivenFault
given_at node list (of_value.Letter state) = with_state state (node_or_list node list)
given_at node list (of_value.Wide own) = with_value_at own (unless_node node list)
given_at node list (of_value.Alone state) = with_state state (option_map (λ one. one ∷ []) node)

given_at-is : (c : CircuitData) (vectors : List (List ℕ × List ℕ)) (name : List ℕ) (own : Value) →
    letters_given c vectors (name, own) ≡ given_at (node_of c.names name) (list_of vectors name) own
given_at-is c vectors name (of_value.Letter state) = refl
given_at-is c vectors name (of_value.Wide own) = refl
given_at-is c vectors name (of_value.Alone state) = refl

-- to a vector's nodes, where as many letters are given
vector-zipped : (nodes : List ℕ) (one other : List Letter) (pairs : List (ℕ × Letter)) → length one ≡ length other →
    with_letters nodes (spread (length nodes) (if length one == length nodes then one else [])) ≡ Ok pairs →
    with_letters nodes (spread (length nodes) (if length other == length nodes then other else [])) ≡ Ok (zip nodes other)
vector-zipped nodes one other pairs even is = by (length other == length nodes) refl
  where
    none : (list : List ℕ) → with_letters list (spread (length list) []) ≡ Ok pairs → with_letters list (spread (length list) []) ≡ Ok (zip list other)
    none [] was = refl
    none (node ∷ list) was =
        let some : (0 == length (node ∷ list)) ≡ false = grind (arith, nat_tests) in
        absurd
        (let e : Err given.VectorValue ≡ Ok pairs =
        sym (ap (λ (test : Bool). with_letters (node ∷ list) (if test then Some [] else one_for_all (length (node ∷ list)) [])) some) ∙ was in cc)

    by : (test : Bool) → (length other == length nodes) ≡ test →
        with_letters nodes (spread (length nodes) (if length other == length nodes then other else [])) ≡ Ok (zip nodes other)
    by true fits =
        ap (λ (test : Bool). with_letters nodes (spread (length nodes) (if test then other else []))) fits
        ∙ ap (λ (test : Bool). with_letters nodes (if test then Some other else one_for_all (length nodes) other)) fits
    by false unfit =
        let too : (length one == length nodes) ≡ false = ap (λ (n : ℕ). n == length nodes) even ∙ unfit in
        ap (λ (test : Bool). with_letters nodes (spread (length nodes) (if test then other else []))) unfit
        ∙ none nodes (sym (ap (λ (test : Bool). with_letters nodes (spread (length nodes) (if test then one else []))) too) ∙ is)

module _ (values : List ℕ → Bool) where
  given-zipped : (node : Option ℕ) (list : Option (List ℕ)) (items : List Item) (pairs : List (ℕ × Letter)) →
      given_at node list (given_by_list (unless_node node list) (map stand_letter items)) ≡ Ok pairs →
      given_at node list (given_by_list (unless_node node list) (map (letter_under values) items))
      ≡ Ok (zip (unwrap_or (node_or_list node list) []) (map (letter_under values) items))
  given-zipped None (Some nodes) items pairs is =
      vector-zipped nodes (map stand_letter items) (map (letter_under values) items) pairs
      (counted stand_letter items ∙ sym (counted (letter_under values) items)) is
  given-zipped None None [] pairs is = absurd (cc)
  given-zipped None None (item.Letter None ∷ []) pairs is = absurd (cc)
  given-zipped None None (item.Letter (Some state) ∷ []) pairs is = absurd (cc)
  given-zipped None None (item.Formula parts ∷ []) pairs is = absurd (cc)
  given-zipped None None (own ∷ second ∷ items) pairs is = absurd (cc)
  given-zipped (Some node) list [] pairs is = absurd (cc)
  given-zipped (Some node) list (item.Letter None ∷ []) pairs is = absurd (cc)
  given-zipped (Some node) list (item.Letter (Some state) ∷ []) pairs is = refl
  given-zipped (Some node) list (item.Formula parts ∷ []) pairs is = refl
  given-zipped (Some node) list (own ∷ second ∷ items) pairs is = absurd (cc)

  pub list_zipped : (c : CircuitData) (vectors : List (List ℕ × List ℕ)) (name : List ℕ) (items : List Item) (pairs : List (ℕ × Letter)) →
      letters_given c vectors (name, given_by_list (vector_named c vectors name) (map stand_letter items)) ≡ Ok pairs →
      letters_given c vectors (name, given_by_list (vector_named c vectors name) (map (letter_under values) items))
      ≡ Ok (zip (nodes_named c vectors name) (map (letter_under values) items))
  list_zipped c vectors name items pairs is =
      let found = vector_named c vectors name in
      given_at-is c vectors name (given_by_list found (map (letter_under values) items))
      ∙ given-zipped (node_of c.names name) (list_of vectors name) items pairs
      (sym (given_at-is c vectors name (given_by_list found (map stand_letter items))) ∙ is)
