-- What is kept under a name is given back: in each column the nodes past the rails get the states that are kept there.
use Rattle.std.proofs.Common.{◌≡◌, ℕ, zero, suc, ◌+◌, ◌-◌, ◌<◌, ◌≤◌, Bool, true, false, ◌||◌, List, [], ◌∷◌, ◌++◌, length, map, take, drop, get_or, cond, All, Option, Some, None, refl, sym, ap, ap₂, subst, ◌∙◌, arith, if◌then◌else◌}
use Rattle.std.specs.Prelude.{find, option_map, unwrap_or}
use Rattle.std.specs.List.{range_with_len}
use Rattle.std.proofs.lemmas.List.{get_or-drop, get_or-take, get_or_default, length-take-le, take_all}
use Rattle.std.proofs.lemmas.List.Elements.{All-cons, All-nil}
use Rattle.ternary.specs.declared.tern.Tern.{Tern}
use Rattle.ternary.specs.declared.tern.Tern.TheVariants.{Zero, One, Unk}
use Rattle.ternary.specs.Tern.{may_one, may_zero}
use Rattle.switch_paths.specs.Graphs.{nodes}
use Rattle.switch_paths.specs.Rails.{IsSound}
use Rattle.switch_paths.specs.Switching.{state_at}
use Rattle.switch_paths.specs.declared.TheConstants.{RAILS}
use Rattle.decision_graph.specs.declared.vertex.Function.{Function}
use Rattle.truth_columns.proofs.ColumnLemmas.{high_at_node, low_at_node}
use Rattle.truth_makers.specs.declared.symbols.Symbols.{Symbols}
use Rattle.truth_makers.specs.Makers.{columns_in, function_holds}
use Rattle.truth_parts.specs.Columns.{state_with}
use Rattle.truth_parts.proofs.ColumnLemmas.{length-states, state_with-rails}
use Rattle.script_lang.specs.declared.command.Command.TheVariants as family
use Rattle.script_lang.specs.declared.command.Give.TheVariants as given
use Rattle.session_meaning.specs.declared.fault.Refusal.TheVariants.{NoSave}
use Rattle.session_meaning.specs.Effects.{assigned}
use Rattle.session_meaning.specs.Saves.{back_to, is_under, kept_under}
use Rattle.session_meaning.specs.Sessions.{IsHeldSession, SessionData}
use Rattle.session_meaning.specs.Outcomes.{Does}
use Rattle.session_meaning.specs.Refusals.{back_refusal, refusal_of}
use Rattle.session_meaning.specs.Truths.{letters_in_column}
use Rattle.session_meaning.proofs.SaveLemmas.{back-next, back-start}
use Rattle.symbol_stage.specs.declared.given.Letters.{Letters}
use Rattle.symbol_stage.specs.Given.{GivesLetters, letter_given}
use Rattle.symbol_stage.specs.Stages.{ServesIn, columns_on, states_in}
use Rattle.symbol_session.specs.Sessions.{AreKeptRails, IsKept, IsSymbolSession, Save, SymbolData, data_of, highs_of, lows_of, maker_of, rest_of, saves_by, states_kept}
use Rattle.symbol_session.specs.Keeping.{before_save, is_kept, is_named, kept_at, kept_by, letters_at, letters_from, nodes_under}
use Rattle.symbol_session.proofs.FoundLemmas.{kept_room}
use Rattle.symbol_session.proofs.KeptLemmas.{all_count}
use Rattle.symbol_session.proofs.SaveLemmas.{drop_both, length-dropped}

-- ---- what is kept under a name

-- nothing is, in no column
under_none : (symbols : Symbols) (saves : List Save) (rails : List Function) (column : ℕ) (name : List ℕ) → is_kept saves name ≡ false →
    kept_under (saves_by symbols saves rails column) name ≡ None
under_none symbols [] rails column name is = refl
under_none symbols (own ∷ saves) rails column name is = by (is_named name own) is (under_none symbols saves (rest_of own.1 rails) column name)
  where
    by : (test : Bool) → (if test then true else is_kept saves name) ≡ false →
        (is_kept saves name ≡ false → kept_under (saves_by symbols saves (rest_of own.1 rails) column) name ≡ None) →
        option_map (λ (one : List ℕ × List Tern). one.1)
        (cond test (Some (own.0, states_kept symbols own.1 rails column)) (find (is_under name) (saves_by symbols saves (rest_of own.1 rails) column))) ≡ None
    by true never later = absurd (cc)
    by false none later = later none

-- where its rails stand
later_rails : (own place : ℕ) (rails : List Function) → drop (own + (own + place)) rails ≡ drop place (rest_of own rails)
later_rails own place rails = drop_both own (own + place) rails ∙ drop_both own place (drop own rails)

-- they are rails of states
kept_there : (symbols : Symbols) (count : ℕ) (saves : List Save) (rails : List Function) (name : List ℕ) → AreKeptRails symbols count saves rails →
    is_kept saves name ≡ true → IsKept symbols count (nodes_under saves name) (drop (kept_by (before_save saves name)) rails)
kept_there symbols count [] rails name are never = absurd (cc)
kept_there symbols count (own ∷ saves) rails name (here, rest) is = by (is_named name own) is (kept_there symbols count saves (rest_of own.1 rails) name rest)
  where
    by : (test : Bool) → (if test then true else is_kept saves name) ≡ true →
        (is_kept saves name ≡ true → IsKept symbols count (nodes_under saves name) (drop (kept_by (before_save saves name)) (rest_of own.1 rails))) →
        IsKept symbols count (if test then own.1 else nodes_under saves name) (drop (kept_by (if test then [] else own ∷ before_save saves name)) rails)
    by true same later = here
    by false there later =
        subst (IsKept symbols count (nodes_under saves name)) (sym (later_rails own.1 (kept_by (before_save saves name)) rails)) (later there)

-- those that are kept in a column
under_some : (symbols : Symbols) (saves : List Save) (rails : List Function) (column : ℕ) (name : List ℕ) → is_kept saves name ≡ true →
    kept_under (saves_by symbols saves rails column) name
    ≡ Some (states_kept symbols (nodes_under saves name) (drop (kept_by (before_save saves name)) rails) column)
under_some symbols [] rails column name never = absurd (cc)
under_some symbols (own ∷ saves) rails column name is = by (is_named name own) is (under_some symbols saves (rest_of own.1 rails) column name)
  where
    by : (test : Bool) → (if test then true else is_kept saves name) ≡ true →
        (is_kept saves name ≡ true → kept_under (saves_by symbols saves (rest_of own.1 rails) column) name
        ≡ Some (states_kept symbols (nodes_under saves name) (drop (kept_by (before_save saves name)) (rest_of own.1 rails)) column)) →
        option_map (λ (one : List ℕ × List Tern). one.1)
        (cond test (Some (own.0, states_kept symbols own.1 rails column)) (find (is_under name) (saves_by symbols saves (rest_of own.1 rails) column)))
        ≡ Some (states_kept symbols (if test then own.1 else nodes_under saves name)
        (drop (kept_by (if test then [] else own ∷ before_save saves name)) rails) column)
    by true same later = refl
    by false there later =
        later there
        ∙ ap (λ (list : List Function). Some (states_kept symbols (nodes_under saves name) list column))
        (sym (later_rails own.1 (kept_by (before_save saves name)) rails))

-- ---- node by node

-- a state is given back from a node on
given_from : (kept state : List Tern) → length kept ≤ length state → (letters : ℕ → Tern) →
    ((node : ℕ) → RAILS ≤ node → node < length kept → letters node ≡ state_at kept node) → (left node : ℕ) → RAILS ≤ node → node + left ≡ length kept →
    assigned (take node kept ++ drop node state) (map (λ one. (one, letters one)) (range_with_len node left)) ≡ back_to kept state
given_from kept state few letters are zero node past last =
    let end : node ≡ length kept = omega (arith, last) in
    ap (λ (n : ℕ). take n kept ++ drop n state) end
    ∙ ap (λ (front : List Tern). front ++ drop (length kept) state) (take_all (length kept) kept (omega arith))
given_from kept state few letters are (suc left) node past last =
    let inside : node < length kept = omega (arith, last) in
    let is : letters node ≡ get_or kept node (letters node) = are node past inside ∙ get_or_default kept node Zero (letters node) inside in
    ap (λ (now : List Tern). assigned now (map (λ (one : ℕ). (one, letters one)) (range_with_len (node + 1) left)))
    (back-next kept state node (letters node) inside few is)
    ∙ given_from kept state few letters are left (node + 1) (omega (arith, past)) (omega (arith, last))

-- so from the rails on
given_back : (kept state : List Tern) → RAILS ≤ length kept → length kept ≤ length state → IsSound kept → IsSound state → (letters : ℕ → Tern) →
    ((node : ℕ) → RAILS ≤ node → node < length kept → letters node ≡ state_at kept node) →
    assigned state (map (λ one. (one, letters one)) (range_with_len RAILS (length kept - RAILS))) ≡ back_to kept state
given_back kept state railed few sound is letters are =
    ap (λ (now : List Tern). assigned now (map (λ (one : ℕ). (one, letters one)) (range_with_len RAILS (length kept - RAILS))))
    (back-start kept state railed (omega (arith, railed, few)) sound is)
    ∙ given_from kept state few letters are (length kept - RAILS) RAILS (omega arith) (omega (arith, railed))

-- what is made of each in turn
both_maps : {A B C : Type 0} (g : B → C) (f : A → B) (list : List A) → map g (map f list) ≡ map (λ (one : A). g (f one)) list
both_maps {C = C} g f [] = refl
both_maps {C = C} g f (own ∷ list) = ap (λ (made : List C). g (f own) ∷ made) (both_maps g f list)

-- what holds for each of so many nodes
all_made : (P : ℕ × Letters → Type 0) (f : ℕ → ℕ × Letters) (node left : ℕ) → ((one : ℕ) → node ≤ one → one < node + left → P (f one)) →
    All P (map f (range_with_len node left))
all_made P f node zero each = All-nil P
all_made P f node (suc left) each =
    All-cons P (f node) (map f (range_with_len (node + 1) left)) (each node (omega arith) (omega arith))
    (all_made P f (node + 1) left (λ one low high. each one (omega (arith, low)) (omega (arith, high))))

some_rail : (s : Tern) → (may_one s || may_zero s) ≡ true
some_rail Zero = refl
some_rail One = refl
some_rail Unk = refl

-- ---- in a session

module _ (d : SymbolData) (own : IsSymbolSession d) (held : IsHeldSession columns_on states_in ServesIn d.session) (name : List ℕ)
    (there : is_kept d.saves name ≡ true) where
  abbrev before : ℕ
  before = kept_by (before_save d.saves name)

  abbrev count : ℕ
  count = nodes_under d.saves name

  abbrev rails : List Function
  rails = drop (kept_by (before_save d.saves name)) (drop 1 d.kept)

  is_there : IsKept (maker_of d) (nodes d.session.core.circuit.graph) (nodes_under d.saves name) (drop (kept_by (before_save d.saves name)) (drop 1 d.kept))
  is_there = kept_there (maker_of d) (nodes d.session.core.circuit.graph) d.saves (drop 1 d.kept) name own.saved there

  -- its rails end before those of all do
  pub letters_within : (1 + kept_by (before_save d.saves name)) + (nodes_under d.saves name + nodes_under d.saves name) ≤ length d.kept
  letters_within = omega (arith, kept_room d.saves name, all_count d own)

  pub letters_railed : RAILS ≤ nodes_under d.saves name
  letters_railed = is_there.railed

  -- the functions of a node
  at_place : (k : ℕ) → kept_at d.kept ((1 + kept_by (before_save d.saves name)) + k) ≡ get_or rails k (record { place = 0 })
  at_place k =
      let none : Function = record { place = 0 } in
      sym (ap (λ (list : List Function). get_or list k none) (sym (drop_both 1 before d.kept)) ∙ get_or-drop (1 + before) d.kept k none)

  high_is : (node : ℕ) → node < count → (letters_at d.kept (1 + before) count node).hi ≡ get_or (highs_of count rails) node (record { place = 0 })
  high_is node inside = at_place node ∙ sym (get_or-take count rails node (record { place = 0 }) inside)

  low_is : (node : ℕ) → node < count → (letters_at d.kept (1 + before) count node).lo ≡ get_or (lows_of count rails) node (record { place = 0 })
  low_is node inside =
      let none : Function = record { place = 0 } in
      at_place (count + node) ∙ sym (get_or-take count (drop count rails) node none inside ∙ get_or-drop count rails node none)

  long : length (highs_of count rails) ≡ count
  long = length-take-le count rails (let counted = is_there.counted in omega (arith, counted))

  low_long : length (lows_of count rails) ≡ count
  low_long = length-take-le count (drop count rails) (length-dropped count count rails is_there.counted)

  -- in a column they are those of its state
  high_holds : (column : ℕ) → column < columns_in (maker_of d) → (node : ℕ) → node < count →
      function_holds (maker_of d) (letters_at d.kept (1 + before) count node).hi column ≡ may_one (state_at (states_kept (maker_of d) count rails column) node)
  high_holds column inside node low =
      ap (λ (f : Function). function_holds (maker_of d) f column) (high_is node low)
      ∙ high_at_node (function_holds (maker_of d)) column (highs_of count rails) (lows_of count rails) (states_kept (maker_of d) count rails column)
      (is_there.rails.each column inside) node (record { place = 0 }) (omega (arith, low, long))

  low_holds : (column : ℕ) → column < columns_in (maker_of d) → (node : ℕ) → node < count →
      function_holds (maker_of d) (letters_at d.kept (1 + before) count node).lo column ≡ may_zero (state_at (states_kept (maker_of d) count rails column) node)
  low_holds column inside node low =
      ap (λ (f : Function). function_holds (maker_of d) f column) (low_is node low)
      ∙ low_at_node (function_holds (maker_of d)) column (highs_of count rails) (lows_of count rails) (states_kept (maker_of d) count rails column)
      (is_there.rails.each column inside) (omega (arith, long, low_long)) node (record { place = 0 }) (omega (arith, low, long))

  letter_is : (column : ℕ) → column < columns_in (maker_of d) → (node : ℕ) → node < count →
      letter_given d.session.stage (letters_at d.kept (1 + before) count node) column ≡ state_at (states_kept (maker_of d) count rails column) node
  letter_is column inside node low =
      ap₂ state_with (high_holds column inside node low) (low_holds column inside node low)
      ∙ state_with-rails (state_at (states_kept (maker_of d) count rails column) node)

  -- so they may be given
  letters_own : (node : ℕ) → node < count → GivesLetters d.session.stage (letters_at d.kept (1 + before) count node)
  letters_own node low = record {
    high = own.inside ((1 + before) + node) (record { place = 0 }) (let room = letters_within in omega (arith, room, low));
    low = own.inside ((1 + before) + (count + node)) (record { place = 0 }) (let room = letters_within in omega (arith, room, low));
    some = λ column inside.
        ap₂ (λ (one other : Bool). one || other) (high_holds column inside node low) (low_holds column inside node low)
        ∙ some_rail (state_at (states_kept (maker_of d) count rails column) node);
  }

  abbrev pair : ℕ → ℕ × Letters
  pair node = (node, letters_at d.kept (1 + kept_by (before_save d.saves name)) (nodes_under d.saves name) node)

  module _ (pairs : List (ℕ × Letters)) (are : pairs ≡ letters_from d.kept (1 + kept_by (before_save d.saves name)) (nodes_under d.saves name)) where
    pub pairs_within : All (λ one. one.0 < nodes d.session.core.circuit.graph) pairs
    pairs_within =
        let few = is_there.few in
        let railed = is_there.railed in
        subst (All (λ (one : ℕ × Letters). one.0 < nodes d.session.core.circuit.graph)) (sym are)
        (all_made (λ (one : ℕ × Letters). one.0 < nodes d.session.core.circuit.graph) pair RAILS (count - RAILS) (λ node low high. omega (arith, high, few, railed)))

    pub pairs_past : All (λ one. RAILS ≤ one.0) pairs
    pairs_past =
        subst (All (λ (one : ℕ × Letters). RAILS ≤ one.0)) (sym are) (all_made (λ (one : ℕ × Letters). RAILS ≤ one.0) pair RAILS (count - RAILS) (λ node low high. low))

    pub pairs_own : All (λ one. GivesLetters d.session.stage one.1) pairs
    pairs_own =
        let railed = is_there.railed in
        subst (All (λ (one : ℕ × Letters). GivesLetters d.session.stage one.1)) (sym are)
        (all_made (λ (one : ℕ × Letters). GivesLetters d.session.stage one.1) pair RAILS (count - RAILS) (λ node low high. letters_own node (omega (arith, high, railed))))

    -- with these each column has its states back
    states_back : (column : ℕ) → column < columns_in (maker_of d) →
        assigned (states_in d.session.stage column) (letters_in_column letter_given d.session.stage pairs column)
        ≡ back_to (states_kept (maker_of d) count rails column) (states_in d.session.stage column)
    states_back column inside =
        let kept = states_kept (maker_of d) count rails column in
        let state = states_in d.session.stage column in
        let letters = λ (node : ℕ). letter_given d.session.stage (letters_at d.kept (1 + before) count node) column in
        let size : length kept ≡ count =
        length-states (function_holds (maker_of d)) column (highs_of count rails) (lows_of count rails) is_there.rails.counted ∙ long in
        let full : length state ≡ nodes d.session.core.circuit.graph = (held.sound column inside).counted in
        let railed = is_there.railed in
        let few = is_there.few in
        ap (λ (list : List (ℕ × Letters)). assigned state (letters_in_column letter_given d.session.stage list column)) are
        ∙ ap (assigned state)
        (both_maps (λ (one : ℕ × Letters). (one.0, letter_given d.session.stage one.1 column)) pair (range_with_len RAILS (count - RAILS)))
        ∙ ap (λ (n : ℕ). assigned state (map (λ (one : ℕ). (one, letters one)) (range_with_len RAILS (n - RAILS)))) (sym size)
        ∙ given_back kept state (omega (arith, size, railed)) (omega (arith, size, full, few)) (is_there.sound column inside) (held.sound column inside).sound letters
        (λ node past low. letter_is column inside node (omega (arith, low, size)))

    pub back_done : (new : SymbolData) →
        ((column : ℕ) → column < columns_in (maker_of d) → data_of new column
        ≡ record (data_of d column) { state = assigned (data_of d column).state (letters_in_column letter_given d.session.stage pairs column) }) →
        (column : ℕ) → column < columns_in (maker_of d) → Does (data_of d column) (family.Give (given.Back name)) (data_of new column) []
    back_done new put column inside =
        let under = under_some (maker_of d) d.saves (drop 1 d.kept) column name there in
        record {
          allowed = ap back_refusal under;
          effect = (
            put column inside
                ∙ ap (λ (state : List Tern). record (data_of d column) { state = state })
                (states_back column inside ∙ sym (ap (λ (found : Option (List Tern)). back_to (unwrap_or found []) (states_in d.session.stage column)) under)),
            refl,
          );
        }

-- what isn't there is refused
pub back_refused : (d : SymbolData) (name : List ℕ) → is_kept d.saves name ≡ false → (column : ℕ) →
    refusal_of (data_of d column) (family.Give (given.Back name)) ≡ Some NoSave
back_refused d name none column = ap back_refusal (under_none (maker_of d) d.saves (drop 1 d.kept) column name none)

-- a column that is given letters has the circuit that it had, and counts no line
pub given_circuit : (old new : SessionData) (state : List Tern) → new ≡ record old { state = state } → (new.circuit ≡ old.circuit) × (new.count ≡ old.count)
given_circuit old new state is = (ap (λ (s : SessionData). s.circuit) is, ap (λ (s : SessionData). s.count) is)
