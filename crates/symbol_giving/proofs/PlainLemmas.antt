-- The assignments of a column are the same by truth values that agree on the names of their formulas; and what giving comes to in the columns of a
-- session it comes to beside what is kept in each, and whether an expectation isn't met there.
use Rattle.std.proofs.Common.{◌≡◌, ℕ, Bool, not, List, [], ◌∷◌, ◌++◌, map, All, Option, Some, None, Result, Ok, Err, refl, ap, ap₂, ◌∙◌}
use Rattle.std.specs.List.{flat_map}
use Rattle.std.proofs.lemmas.List.Elements.{All-cons, All-head, All-nil, All-tail}
use Rattle.ternary.specs.declared.tern.Tern.{Tern}
use Rattle.netlist.specs.Circuits.{CircuitData}
use Rattle.vector_values.specs.Values.{Letter}
use Rattle.script_lang.specs.declared.value.Value.{Value}
use Rattle.column_script.specs.declared.command.ValueCommand.{ValueCommand}
use Rattle.column_script.specs.declared.command.ValueCommand.TheVariants as kind_of
use Rattle.node_values.specs.Givings.{vector_named}
use Rattle.formulas.specs.declared.formula.Part.{Part}
use Rattle.formulas.specs.declared.formula.Part.TheVariants.{Name, Not, Join}
use Rattle.formulas.specs.Formulas.{sign_value}
use Rattle.formula_functions.specs.Truths.{after_parts, but_last, last_of}
use Rattle.truth_makers.specs.Expecting.{state_of_truth}
use Rattle.symbol_lines.specs.declared.items.Item.{Item}
use Rattle.symbol_lines.specs.declared.items.Item.TheVariants as item
use Rattle.symbol_lines.specs.declared.values.SymbolValue.{SymbolValue}
use Rattle.symbol_lines.specs.declared.values.SymbolValue.TheVariants as value
use Rattle.symbol_lines.specs.Names.{names_in_item, names_in_parts, names_in_value}
use Rattle.symbol_script.specs.declared.line.Assignment.{Assignment}
use Rattle.session_meaning.specs.declared.fault.ApplyFault.{ApplyFault}
use Rattle.session_meaning.specs.declared.fault.ApplyFault.TheVariants as apply
use Rattle.session_meaning.specs.Outcomes.{Quietly}
use Rattle.session_meaning.specs.Refusals.{refusal_of}
use Rattle.session_meaning.specs.Sessions.{SessionData}
use Rattle.session_meaning.specs.Truths.{StaysInAll, give_of}
use Rattle.symbol_meaning.specs.Readings.{given_by_list, given_under, letter_under, plain_under}
use Rattle.symbol_giving.specs.declared.fault.GivingFault.{GivingFault}
use Rattle.symbol_giving.specs.declared.fault.GivingFault.TheVariants.{Refused, Full, NoMemory}
use Rattle.symbol_giving.specs.Giving.{GivesInAll}

-- ---- truth values that agree

module _ (one other : List ℕ → Bool) where
  -- they agree on these names
  abbrev Agree : List (List ℕ) → Type 0
  Agree names = All (λ name. one name ≡ other name) names

  parts-alike : (parts : List Part) (waiting : List Bool) → Agree (names_in_parts parts) → after_parts one parts waiting ≡ after_parts other parts waiting
  parts-alike [] waiting same = refl
  parts-alike (Name name ∷ parts) waiting same =
      ap (λ (truth : Bool). after_parts one parts (truth ∷ waiting)) (All-head (λ own. one own ≡ other own) name (names_in_parts parts) same)
      ∙ parts-alike parts (other name ∷ waiting) (All-tail (λ own. one own ≡ other own) name (names_in_parts parts) same)
  parts-alike (Not ∷ parts) waiting same = parts-alike parts (not (last_of waiting) ∷ but_last waiting) same
  parts-alike (Join sign ∷ parts) waiting same =
      parts-alike parts (sign_value sign (last_of (but_last waiting)) (last_of waiting) ∷ but_last (but_last waiting)) same

  letter-alike : (own : Item) → Agree (names_in_item own) → letter_under one own ≡ letter_under other own
  letter-alike (item.Letter letter) same = refl
  letter-alike (item.Formula parts) same = ap (λ (truths : List Bool). Some (state_of_truth (last_of truths))) (parts-alike parts [] same)

  -- what holds of all of two lists holds of the first, and of the second
  agree-front : (front back : List (List ℕ)) → Agree (front ++ back) → Agree front × Agree back
  agree-front [] back same = (All-nil (λ name. one name ≡ other name), same)
  agree-front (name ∷ front) back same =
      let both = agree-front front back (All-tail (λ own. one own ≡ other own) name (front ++ back) same) in
      (All-cons (λ own. one own ≡ other own) name front (All-head (λ own. one own ≡ other own) name (front ++ back) same) both.0, both.1)

  letters-alike : (items : List Item) → Agree (flat_map names_in_item items) → map (letter_under one) items ≡ map (letter_under other) items
  letters-alike [] same = refl
  letters-alike (own ∷ items) same =
      let both = agree-front (names_in_item own) (flat_map names_in_item items) same in
      ap₂ (λ (letter : Letter) (letters : List Letter). letter ∷ letters) (letter-alike own both.0) (letters-alike items both.1)

  value-alike : (nodes : Option (List ℕ)) (own : SymbolValue) → Agree (names_in_value own) → given_under one nodes own ≡ given_under other nodes own
  value-alike nodes (value.Plain plain) same = refl
  value-alike nodes (value.List items) same = ap (given_by_list nodes) (letters-alike items same)

  -- an assignment is the same
  pub plain_alike : (c : CircuitData) (vectors : List (List ℕ × List ℕ)) (own : Assignment) →
      All (λ name. one name ≡ other name) (names_in_value own.value) → plain_under one c vectors own ≡ plain_under other c vectors own
  plain_alike c vectors own same = ap (λ (given : Value). (own.name, given)) (value-alike (vector_named c vectors own.name) own.value same)

  -- and so are all assignments of a line
  pub all_plain_alike : (c : CircuitData) (vectors : List (List ℕ × List ℕ)) (list : List Assignment) →
      All (λ name. one name ≡ other name) (flat_map names_in_value (map (λ (own : Assignment). own.value) list)) →
      map (plain_under one c vectors) list ≡ map (plain_under other c vectors) list
  all_plain_alike c vectors [] same = refl
  all_plain_alike c vectors (own ∷ list) same =
      let both = agree-front (names_in_value own.value) (flat_map names_in_value (map (λ (one : Assignment). one.value) list)) same in
      ap₂ (λ (first : List ℕ × Value) (others : List (List ℕ × Value)). first ∷ others) (plain_alike c vectors own both.0) (all_plain_alike c vectors list both.1)

-- ---- beside what is kept

-- data beside whether an expectation isn't met and the states that are kept
abbrev beside : SessionData → Bool → List (List ℕ × List Tern) → SessionData
beside own missed saves = record own { missed = missed; saves = saves }

quiet-beside : (kind : ValueCommand) (list : List (List ℕ × Value)) (old new : SessionData) (missed : Bool) (saves : List (List ℕ × List Tern))
    (result : Result (Unit {0}) ApplyFault) → Quietly old (give_of kind list) new result → Quietly (beside old missed saves) (give_of kind list) (beside new missed saves) result
quiet-beside kind_of.Set list old new missed saves (Ok done) does = record {
  allowed = does.allowed;
  effect = (ap (λ (own : SessionData). beside own missed saves) does.effect.0, does.effect.1);
}
quiet-beside kind_of.Charge list old new missed saves (Ok done) does = record {
  allowed = does.allowed;
  effect = (ap (λ (own : SessionData). beside own missed saves) does.effect.0, does.effect.1);
}
quiet-beside kind_of.Set list old new missed saves (Err (apply.Refused refusal)) (is, same) = (is, ap (λ (own : SessionData). beside own missed saves) same)
quiet-beside kind_of.Charge list old new missed saves (Err (apply.Refused refusal)) (is, same) = (is, ap (λ (own : SessionData). beside own missed saves) same)
quiet-beside kind list old new missed saves (Err (apply.GroupNodes node count)) none = absurd none
quiet-beside kind list old new missed saves (Err (apply.GroupSwitches node count)) none = absurd none
quiet-beside kind list old new missed saves (Err apply.NoMemory) same = ap (λ (own : SessionData). beside own missed saves) same
quiet-beside kind list old new missed saves (Err apply.WriteFault) none = absurd none

module _ (kind : ValueCommand) (lists : ℕ → List (List ℕ × Value)) (columns : ℕ) (old new : ℕ → SessionData) (missed : ℕ → Bool)
    (saves : ℕ → List (List ℕ × List Tern)) where
  -- no refusal of `set` or `charge` looks at them
  allowed-beside : (column : ℕ) → refusal_of (old column) (give_of kind (lists column)) ≡ None →
      refusal_of (beside (old column) (missed column) (saves column)) (give_of kind (lists column)) ≡ None
  allowed-beside column none = by kind none
    where
      by : (own : ValueCommand) → refusal_of (old column) (give_of own (lists column)) ≡ None →
          refusal_of (beside (old column) (missed column) (saves column)) (give_of own (lists column)) ≡ None
      by kind_of.Set none = none
      by kind_of.Charge none = none

  stays-beside : StaysInAll columns old new →
      StaysInAll columns (λ column. beside (old column) (missed column) (saves column)) (λ column. beside (new column) (missed column) (saves column))
  stays-beside stays = record { each = λ column inside. ap (λ (own : SessionData). beside own (missed column) (saves column)) (stays.each column inside) }

  -- so what giving comes to it comes to beside them
  pub gives_beside : (result : Result (Unit {0}) GivingFault) → GivesInAll columns (λ column. give_of kind (lists column)) old new result →
      GivesInAll columns (λ column. give_of kind (lists column)) (λ column. record (old column) { missed = missed column; saves = saves column })
      (λ column. record (new column) { missed = missed column; saves = saves column }) result
  gives_beside (Ok done) gives = λ column inside.
      quiet-beside kind (lists column) (old column) (new column) (missed column) (saves column) (Ok tt) (gives column inside)
  gives_beside (Err (Refused refusal)) gives = λ column inside.
      quiet-beside kind (lists column) (old column) (new column) (missed column) (saves column) (Err (apply.Refused refusal)) (gives column inside)
  gives_beside (Err Full) gives = record { allowed = λ column inside. allowed-beside column (gives.allowed column inside); stays = stays-beside gives.stays }
  gives_beside (Err NoMemory) gives = stays-beside gives
