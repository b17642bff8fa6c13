-- Laws of masks: without a stuck node a well-formed command stays as it is, a masked command is well formed, and lists are masked item by item.
use Rattle.std.proofs.Common.{◌≡◌, ℕ, ◌+◌, ◌<◌, ◌++◌, get_or, take, Bool, true, false, not, cond, List, [], ◌∷◌, length, map, filter, All, Option, Some, None, IfSome, option_map, is_some, Result, Ok, Err, IfOk, if◌then◌else◌, refl, sym, ap, ◌∙◌, subst, arith}
use Rattle.std.specs.Prelude.{◌==◌, ◌≢◌}
use Rattle.std.specs.Bool.{OnTrue}
use Rattle.std.specs.Option.{option_map_or}
use Rattle.std.proofs.lemmas.Bool.Decides.{nat_tests}
use Rattle.std.proofs.lemmas.List.{append-nil, length-map, map-append, map_more, take_more}
use Rattle.std.proofs.lemmas.List.Elements.{All-map, All-filter, All-weaker, filter-append}
use Rattle.ternary.specs.declared.tern.Tern.{Tern}
use Rattle.netlist.specs.Circuits.{CircuitData}
use Rattle.netlist.specs.Names.{node_of}
use Rattle.node_words.specs.Words.{list_of}
use Rattle.node_values.specs.Givings.{letters_given, unless_node}
use Rattle.line_words.specs.Visible.{IsVisibleName}
use Rattle.script_lang.specs.declared.command.Command.{Command}
use Rattle.script_lang.specs.declared.command.Command.TheVariants as family
use Rattle.script_lang.specs.declared.command.Edit.{Edit}
use Rattle.script_lang.specs.declared.command.Edit.TheVariants.{Store}
use Rattle.script_lang.specs.declared.command.Give.{Give}
use Rattle.script_lang.specs.declared.command.Give.TheVariants.{Set, Charge, Back}
use Rattle.script_lang.specs.declared.command.Setup.{Setup}
use Rattle.script_lang.specs.declared.command.Setup.TheVariants.{Clock}
use Rattle.script_lang.specs.declared.command.ScriptFault.{ScriptFault}
use Rattle.script_lang.specs.Forms.{IsFormed, IsFormedEdit, IsFormedGive, IsFormedSetup}
use Rattle.script_lang.specs.Commands.{reading_of}
use Rattle.script_lang.proofs.ReadingLemmas.{reading-formed}
use Rattle.script_lang.specs.declared.value.Value.{Value}
use Rattle.script_lang.specs.declared.value.Value.TheVariants as given
use Rattle.fault_sim.specs.Masks.{command_left, is_stuck, is_stuck_alone, state_for, charge_left, charge_value, masked_charges, masked_sets, set_value, value_by, vector_value, with_own, masked_edit, masked_give, masked_setup, masked_of, masked_reading_by, masked_reading, IsSpared}
use Rattle.fault_sim.specs.declared.masks.Left.{Left}

-- what changes nothing leaves a list as it is
same_assignments : (list : List (List ℕ × Value)) → map (λ (item : List ℕ × Value). (item.0, item.1)) list ≡ list
same_assignments [] = refl
same_assignments (item ∷ list) = ap (λ rest. item ∷ rest) (same_assignments list)

same_states : (states : List Tern) → map (λ (state : Tern). state) states ≡ states
same_states [] = refl
same_states (state ∷ states) = ap (λ rest. state ∷ rest) (same_states states)

same_clocks : (list : List (List ℕ × List Tern)) → map (λ (item : List ℕ × List Tern). (item.0, map (λ (state : Tern). state) item.1)) list ≡ list
same_clocks [] = refl
same_clocks ((name, states) ∷ list) =
    ap (λ given. (name, given) ∷ map (λ (item : List ℕ × List Tern). (item.0, map (λ (state : Tern). state) item.1)) list) (same_states states)
    ∙ ap (λ rest. (name, states) ∷ rest) (same_clocks list)

-- if no node is stuck all that `charge` gives is left
all_kept : (c : CircuitData) (vectors : List (List ℕ × List ℕ)) (list : List (List ℕ × Value)) → masked_charges c vectors None list ≡ list
all_kept c vectors [] = refl
all_kept c vectors ((name, given.Letter state) ∷ list) = ap (λ rest. (name, given.Letter state) ∷ rest) (all_kept c vectors list)
all_kept c vectors ((name, given.Wide value) ∷ list) = ap (λ rest. (name, given.Wide value) ∷ rest) (all_kept c vectors list)
all_kept c vectors ((name, given.Alone state) ∷ list) = ap (λ rest. (name, given.Alone state) ∷ rest) (all_kept c vectors list)

-- a charge of some words is that charge
charge_same : (list : List (List ℕ × Value)) → 0 < length list → charge_left list ≡ Some (Charge list)
charge_same [] some = absurd (omega arith)
charge_same (item ∷ list) some = refl

-- if no node is stuck, each well-formed command stays as it is
unmasked_edit : (c : CircuitData) (edit : Edit) → masked_edit c None edit ≡ Some edit
unmasked_edit c (Store name size) = refl
unmasked_edit c edit = refl

unmasked_give : (c : CircuitData) (vectors : List (List ℕ × List ℕ)) (give : Give) → IsFormedGive give → masked_give c vectors None give ≡ Some give
unmasked_give c vectors (Set list) formed = ap (λ left. Some (Set left)) (same_assignments list)
unmasked_give c vectors (Charge list) formed = ap charge_left (all_kept c vectors list) ∙ charge_same list formed.0
unmasked_give c vectors (Back name) formed = refl

unmasked_setup : (c : CircuitData) (setup : Setup) → masked_setup c None setup ≡ setup
unmasked_setup c (Clock list) = ap Clock (same_clocks list)
unmasked_setup c setup = refl

pub unmasked : (c : CircuitData) (vectors : List (List ℕ × List ℕ)) (command : Command) → IsFormed command →
    masked_of c vectors None command ≡ Some command
unmasked c vectors (family.Edit edit) formed = ap (option_map family.Edit) (unmasked_edit c edit)
unmasked c vectors (family.Give give) formed = ap (option_map family.Give) (unmasked_give c vectors give formed)
unmasked c vectors (family.Setup setup) formed = ap (λ given. Some (family.Setup given)) (unmasked_setup c setup)
unmasked c vectors (family.Run run) formed = refl
unmasked c vectors (family.Tell tell) formed = refl

-- so each line of a script is read as it is
pub unmasked-reading : (c : CircuitData) (vectors : List (List ℕ × List ℕ)) (line : List ℕ) → masked_reading None c vectors line ≡ reading_of line
unmasked-reading c vectors line = by (reading_of line) (reading-formed line)
  where
    by : (reading : Result (Option Command) ScriptFault) → ((command : Command) → reading ≡ Ok (Some command) → IsFormed command) →
        masked_reading_by c vectors None reading ≡ reading
    by (Ok None) formed = refl
    by (Ok (Some command)) formed = ap Ok (unmasked c vectors command (formed command refl))
    by (Err fault) formed = refl

-- a masked command is well formed, if the command is
edit-formed : (c : CircuitData) (stuck : Option (ℕ × Tern)) (edit : Edit) → IsFormedEdit edit → IfSome (masked_edit c stuck edit) IsFormedEdit
edit-formed c stuck (Store name size) formed = by (is_stuck c stuck name)
  where
    by : (same : Bool) → IfSome (if same then None else Some (Store name size)) IsFormedEdit
    by true = tt
    by false = formed
edit-formed c stuck edit formed = formed

give-formed : (c : CircuitData) (vectors : List (List ℕ × List ℕ)) (stuck : Option (ℕ × Tern)) (give : Give) → IsFormedGive give →
    IfSome (masked_give c vectors stuck give) IsFormedGive
give-formed c vectors stuck (Set list) formed =
    let masked : List ℕ × Value → List ℕ × Value = λ item. (item.0, set_value c vectors stuck item) in
    (omega (arith, length-map list masked, formed.0), All-map (λ (item : List ℕ × Value). IsVisibleName item.0) masked list formed.1)
give-formed c vectors stuck (Charge list) formed =
    left (masked_charges c vectors stuck list)
    (All-map (λ (item : List ℕ × Value). IsVisibleName item.0) (λ (item : List ℕ × Value). (item.0, charge_value c vectors stuck item))
    (filter (λ item. not (is_stuck_alone c stuck item)) list)
    (All-filter (λ (item : List ℕ × Value). not (is_stuck_alone c stuck item)) (λ (item : List ℕ × Value). IsVisibleName item.0) list formed.1))
  where
    left : (list : List (List ℕ × Value)) → All (λ item. IsVisibleName item.0) list → IfSome (charge_left list) IsFormedGive
    left [] named = tt
    left (item ∷ list) named = (omega arith, named)
give-formed c vectors stuck (Back name) formed = formed

setup-formed : (c : CircuitData) (stuck : Option (ℕ × Tern)) (setup : Setup) → IsFormedSetup setup → IsFormedSetup (masked_setup c stuck setup)
setup-formed c stuck (Clock list) formed =
    let given : List ℕ × List Tern → List ℕ × List Tern = λ item. (item.0, map (state_for c stuck item.0) item.1) in (
      omega (arith, length-map list given, formed.0),
      All-map (λ (item : List ℕ × List Tern). IsVisibleName item.0 × (0 < length item.1)) given list
          (All-weaker (λ (item : List ℕ × List Tern). IsVisibleName item.0 × (0 < length item.1))
          (λ (item : List ℕ × List Tern). IsVisibleName item.0 × (0 < length (map (state_for c stuck item.0) item.1)))
          (λ item is. (is.0, omega (arith, length-map item.1 (state_for c stuck item.0), is.1))) list formed.1),
    )
setup-formed c stuck setup formed = formed

of_family : {X : Type 0} (whole : X → Command) (Formed : X → Type 0) → ((x : X) → Formed x → IsFormed (whole x)) → (left : Option X) →
    IfSome left Formed → IfSome (option_map whole left) IsFormed
of_family whole Formed each None formed = tt
of_family whole Formed each (Some x) formed = each x formed

pub masked_of-formed : (c : CircuitData) (vectors : List (List ℕ × List ℕ)) (stuck : Option (ℕ × Tern)) (command : Command) → IsFormed command →
    IfSome (masked_of c vectors stuck command) IsFormed
masked_of-formed c vectors stuck (family.Edit edit) formed =
    of_family family.Edit IsFormedEdit (λ edit is. is) (masked_edit c stuck edit) (edit-formed c stuck edit formed)
masked_of-formed c vectors stuck (family.Give give) formed =
    of_family family.Give IsFormedGive (λ give is. is) (masked_give c vectors stuck give) (give-formed c vectors stuck give formed)
masked_of-formed c vectors stuck (family.Setup setup) formed = setup-formed c stuck setup formed
masked_of-formed c vectors stuck (family.Run run) formed = formed
masked_of-formed c vectors stuck (family.Tell tell) formed = formed

-- so what is left of it is well formed, if there was memory for that
pub left-formed : {E : Type 0} (c : CircuitData) (vectors : List (List ℕ × List ℕ)) (stuck : Option (ℕ × Tern)) (command : Command) (made : Result Left E) →
    IfOk made (λ left. command_left command left ≡ masked_of c vectors stuck command) → IsFormed command → IfOk made (λ left. IfSome (command_left command left) IsFormed)
left-formed c vectors stuck command (Ok left) is formed =
    subst (λ left. IfSome left IsFormed) (sym is) (masked_of-formed c vectors stuck command formed)
left-formed c vectors stuck command (Err fault) is formed = tt

-- if no node is stuck a command is left as it is
pub left_same : (c : CircuitData) (vectors : List (List ℕ × List ℕ)) (stuck : Option (ℕ × Tern)) (command : Command) → stuck ≡ None → IsFormed command →
    Some command ≡ masked_of c vectors stuck command
left_same c vectors stuck command none formed = sym (ap (λ at. masked_of c vectors at command) none ∙ unmasked c vectors command formed)

-- ---- what `set` gives, if it spares the stuck node

-- a name that is spared gets what the word says
spared_value : (c : CircuitData) (vectors : List (List ℕ × List ℕ)) (stuck : Option (ℕ × Tern)) (name : List ℕ) (value : Value) → IsSpared c vectors stuck name →
    set_value c vectors stuck (name, value) ≡ value
spared_value c vectors None name value spared = refl
spared_value c vectors (Some at) name value spared =
    ap (λ (same : Bool). if same then with_own at.1 value else vector_value c vectors at.0 (Some at.1) (name, value)) spared.0
    ∙ ap (λ (wide : Bool). value_by wide at.0 (Some at.1) value (letters_given c vectors (name, value))) spared.1

-- one more assignment is spared
pub spared_more : (c : CircuitData) (vectors : List (List ℕ × List ℕ)) (stuck : Option (ℕ × Tern)) (items : List (List ℕ × Value)) (i : ℕ)
    (item : List ℕ × Value) → i < length items → item ≡ get_or items i item → IsSpared c vectors stuck item.0 →
    masked_sets c vectors stuck (take i items) ≡ take i items → masked_sets c vectors stuck (take (i + 1) items) ≡ take (i + 1) items
spared_more c vectors stuck items i item low here spared front =
    let change : List ℕ × Value → List ℕ × Value = λ item. (item.0, set_value c vectors stuck item) in
    map_more change items i item low
    ∙ ap (λ (l : List (List ℕ × Value)). l ++ change (get_or items i item) ∷ []) front
    ∙ ap (λ (one : List ℕ × Value). take i items ++ change one ∷ []) (sym here)
    ∙ ap (λ (value : Value). take i items ++ (item.0, value) ∷ []) (spared_value c vectors stuck item.0 item.1 spared)
    ∙ ap (λ (one : List ℕ × Value). take i items ++ one ∷ []) here
    ∙ sym (take_more items i item low)

-- a name of another node, or of nothing, is spared
pub spared_node : (c : CircuitData) (vectors : List (List ℕ × List ℕ)) (stuck : Option (ℕ × Tern)) (name : List ℕ) (node : ℕ) (other : Bool) →
    node_of c.names name ≡ Some node → OnTrue other (IfSome stuck (λ at. node ≢ at.0)) → OnTrue other (IsSpared c vectors stuck name)
spared_node c vectors stuck name node false is apart = tt
spared_node c vectors None name node true is apart = (refl, ap (λ found. is_some (unless_node found (list_of vectors name))) is)
spared_node c vectors (Some at) name node true is apart = (
  ap (λ found. option_map_or (λ node. node == at.0) found false) is ∙ grind (arith, nat_tests, apart),
  ap (λ found. is_some (unless_node found (list_of vectors name))) is,
)

pub spared_nothing : (c : CircuitData) (vectors : List (List ℕ × List ℕ)) (stuck : Option (ℕ × Tern)) (name : List ℕ) → node_of c.names name ≡ None →
    list_of vectors name ≡ None → IsSpared c vectors stuck name
spared_nothing c vectors stuck name unused none = (by stuck, ap (λ found. is_some (unless_node found (list_of vectors name))) unused ∙ ap is_some none)
  where
    by : (stuck : Option (ℕ × Tern)) → is_stuck c stuck name ≡ false
    by None = refl
    by (Some at) = ap (λ found. option_map_or (λ node. node == at.0) found false) unused

-- one more item of a list is changed
pub changed_more : {X Y : Type 0} (change : X → Y) (items : List X) (left more : List Y) (i : ℕ) (item : X) (made : Y) → i < length items →
    item ≡ get_or items i item → left ≡ map change (take i items) → more ≡ left ++ made ∷ [] → made ≡ change item → more ≡ map change (take (i + 1) items)
changed_more change items left more i item made low here front grown is =
    grown ∙ ap (λ l. l ++ made ∷ []) front ∙ ap (λ one. map change (take i items) ++ one ∷ []) (is ∙ ap change here)
    ∙ sym (map_more change items i item low)

-- ---- what `charge` gives, one assignment after another

module _ (c : CircuitData) (vectors : List (List ℕ × List ℕ)) (stuck : Option (ℕ × Tern)) where
  abbrev charge_given : List ℕ × Value → List ℕ × Value
  charge_given item = (item.0, charge_value c vectors stuck item)

  -- that of two lists is that of the first, and then that of the second
  charges-append : (one other : List (List ℕ × Value)) →
      masked_charges c vectors stuck (one ++ other) ≡ masked_charges c vectors stuck one ++ masked_charges c vectors stuck other
  charges-append one other =
      let kept : List ℕ × Value → Bool = λ item. not (is_stuck_alone c stuck item) in
      ap (map charge_given) (filter-append kept one other) ∙ map-append charge_given (filter kept one) (filter kept other)

  -- nothing is left of one that gives the stuck node alone a state
  pub charges_none : (item : List ℕ × Value) (left : List (List ℕ × Value)) → is_stuck_alone c stuck item ≡ true →
      left ≡ left ++ masked_charges c vectors stuck (item ∷ [])
  charges_none item left is =
      sym (append-nil left)
      ∙ ap (λ (test : Bool). left ++ map charge_given (cond (not test) (item ∷ []) [])) (sym is)

  -- any other is put behind those that are left
  pub charges_one : (item : List ℕ × Value) (left more : List (List ℕ × Value)) (name : List ℕ) (value : Value) → is_stuck_alone c stuck item ≡ false →
      name ≡ item.0 → value ≡ charge_value c vectors stuck item → more ≡ left ++ (name, value) ∷ [] →
      more ≡ left ++ masked_charges c vectors stuck (item ∷ [])
  charges_one item left more name value is named given grown =
      grown ∙ ap (λ (n : List ℕ). left ++ (n, value) ∷ []) named ∙ ap (λ (v : Value). left ++ (item.0, v) ∷ []) given
      ∙ ap (λ (test : Bool). left ++ map charge_given (cond (not test) (item ∷ []) [])) (sym is)

  -- one more item of a list was looked at
  pub charges_more : (items left more : List (List ℕ × Value)) (i : ℕ) (item : List ℕ × Value) (name : List ℕ) → i < length items →
      item ≡ get_or items i item → name ≡ item.0 → left ≡ masked_charges c vectors stuck (take i items) →
      more ≡ left ++ masked_charges c vectors stuck ((name, item.1) ∷ []) → more ≡ masked_charges c vectors stuck (take (i + 1) items)
  charges_more items left more i item name low here named front grown =
      grown
      ∙ ap (λ (l : List (List ℕ × Value)). l ++ masked_charges c vectors stuck ((name, item.1) ∷ [])) front
      ∙ ap (λ (n : List ℕ). masked_charges c vectors stuck (take i items) ++ masked_charges c vectors stuck ((n, item.1) ∷ [])) named
      ∙ sym (charges-append (take i items) (item ∷ []))
      ∙ ap (λ (one : List ℕ × Value). masked_charges c vectors stuck (take i items ++ one ∷ [])) here
      ∙ sym (ap (masked_charges c vectors stuck) (take_more items i item low))
