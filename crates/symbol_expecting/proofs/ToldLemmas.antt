-- What is told of assignments: by the first column in which nodes aren't as they are wanted; something of each; the same by sessions that are alike in
-- what an expectation looks at; and of one assignment after the other.
use Rattle.std.proofs.Common.{◌≡◌, ℕ, zero, suc, ◌<◌, ◌||◌, Bool, true, false, List, [], ◌∷◌, ◌++◌, map, Option, Some, None, inl, inr, ◌⊎◌, refl, sym, ap, ap₂, subst, ◌∙◌, arith, append-nil, append_assoc, if◌then◌else◌}
use Rattle.std.specs.List.{drop-map, list_any}
use Rattle.std.specs.Prelude.{Result, Ok, Err, drop}
use Rattle.std.proofs.lemmas.Bool.{cases_lt}
use Rattle.std.proofs.lemmas.List.{map-append}
use Rattle.std.proofs.lemmas.List.Folds.{list_any-append}
use Rattle.ternary.specs.declared.tern.Tern.{Tern}
use Rattle.switch_paths.specs.Switching.{state_at}
use Rattle.netlist.specs.Circuits.{CircuitData}
use Rattle.vector_values.specs.Values.{Letter}
use Rattle.script_lang.specs.declared.value.Value.{Value}
use Rattle.node_values.specs.declared.fault.GivenFault.{GivenFault}
use Rattle.node_values.specs.Givings.{is_vector, letters_given}
use Rattle.told_lines.specs.Hearing.{hear_all, SoFar}
use Rattle.told_lines.specs.Lines as of_one
use Rattle.told_lines.specs.Lines.{Line}
use Rattle.told_lines.proofs.HearingLemmas.{hear_all-append, so_far-front, so_far-start}
use Rattle.formula_functions.specs.Tables.{TableData}
use Rattle.session_meaning.specs.Effects.{letters_in}
use Rattle.session_meaning.specs.Sessions.{HeldSession, SessionData}
use Rattle.symbol_script.specs.declared.line.Assignment.{Assignment}
use Rattle.symbol_meaning.specs.Readings.{Valuations, plain_under, truths_in}
use Rattle.symbol_meaning.specs.Told.{SymbolTold, Unmet, is_unmet}
use Rattle.symbol_meaning.specs.Merging.{is_formula, unmet_in, wanted_text, AreToldOf, IsToldOf}
use Rattle.symbol_told.specs.Lines.{Telling}
use Rattle.symbol_stage.specs.Stages.{StageData, columns_on, states_in}
use Rattle.symbol_giving.specs.Giving.{data_of}
use Rattle.symbol_giving.specs.Letters.{named_in, pairs_in, AreGivenBy, IsTableOf, OnlyMakes}
use Rattle.symbol_giving.specs.declared.letters.SymbolLetter.{SymbolLetter}
use Rattle.symbol_giving.proofs.LetterLemmas.{named_more, only_columns}
use Rattle.symbol_told.proofs.ValuationLemmas.{truths_of_column}
use Rattle.symbol_expecting.specs.Expecting.{AreMeantBy, IsToldInPart, IsToldWhole, Tells}
use Rattle.symbol_expecting.specs.Missing.{are_met, are_met_in, column_with, AreWantedOf, IsFirstMissed, IsMissedFirst}
use Rattle.symbol_expecting.specs.Telling.{states_under, telling_alone, tellings, unmet_told, wanted_under, TellsLine}
use Rattle.symbol_expecting.specs.declared.fault.ExpectFault.{ExpectFault}
use Rattle.symbol_expecting.proofs.MissingLemmas.{pairs_more}

-- ---- a line, or none

-- the line of a name whose nodes have these letters, by their states, unless these meet all of them
abbrev pub line_by : Bool → List ℕ → List Letter → List Tern → ℕ → Option Line
line_by met name wanted got n = if met then None else Some (of_one.Unmet name wanted got n)

-- that of nodes with letters
abbrev pub line_of : List Tern → List ℕ → List (ℕ × Letter) → ℕ → Option Line
line_of states name pairs n = line_by (are_met states pairs) name (map (λ pair. pair.1) pairs) (map (λ pair. state_at states pair.0) pairs) n

-- that of an assignment, where names have these truth values
abbrev pub line_under : (List ℕ → Bool) → Assignment → CircuitData → List (List ℕ × List ℕ) → List Tern → ℕ → Option Line
line_under values own c vectors states n = line_of states own.name (letters_in (letters_given c vectors (plain_under values c vectors own))) n

-- ---- the first column in which nodes aren't as they are wanted

-- the states of nodes don't hang on what is wanted of them
got_is : (stage : StageData) (states : List Tern) (column : ℕ) (pairs : List (ℕ × SymbolLetter)) →
    map (λ (pair : ℕ × Letter). state_at states pair.0) (pairs_in stage pairs column) ≡ map (λ (pair : ℕ × SymbolLetter). state_at states pair.0) pairs
got_is stage states column [] = refl
got_is stage states column (pair ∷ pairs) = ap (λ (rest : List Tern). state_at states pair.0 ∷ rest) (got_is stage states column pairs)

module _ (old new : HeldSession StageData) (only : OnlyMakes old new) (table : TableData) (own : Assignment) (pairs : List (ℕ × SymbolLetter))
    (given : AreGivenBy old table own new.stage pairs) (v : Valuations) (meant : AreMeantBy old table (own ∷ []) v) where
  within : (column : ℕ) → column < v.columns → column < columns_on old.stage
  within column inside = subst (λ (n : ℕ). column < n) meant.columns inside

  -- the line of a column is that of the nodes with what is wanted of them
  line_is : (column : ℕ) → column < v.columns → unmet_in v (data_of old) own column
      ≡ line_by (are_met_in new.stage pairs column) own.name (map (λ pair. pair.1) (pairs_in new.stage pairs column))
      (map (λ pair. state_at (states_in new.stage column) pair.0) pairs) old.core.count
  line_is column inside =
      let c = old.core.circuit in
      let vectors = old.core.vectors in
      let here = within column inside in
      let cut : plain_under (v.values column) c vectors own ∷ [] ≡ plain_under (named_in old.stage table column) c vectors own ∷ [] =
      meant.plain column inside in
      let plain : plain_under (v.values column) c vectors own ≡ plain_under (named_in old.stage table column) c vectors own = cc cut in
      let states : states_in old.stage column ≡ states_in new.stage column = sym (only.makes.states column here) in
      ap (λ (item : List ℕ × Value). line_of (states_in old.stage column) own.name (letters_in (letters_given c vectors item)) old.core.count) plain
      ∙ ap (λ (found : Result (List (ℕ × Letter)) GivenFault). line_of (states_in old.stage column) own.name (letters_in found) old.core.count)
      (given column here)
      ∙ ap (λ (state : List Tern). line_of state own.name (pairs_in new.stage pairs column) old.core.count) states
      ∙ ap (λ (got : List Tern). line_by (are_met_in new.stage pairs column) own.name (map (λ pair. pair.1) (pairs_in new.stage pairs column)) got old.core.count)
      (got_is new.stage (states_in new.stage column) column pairs)

  met_is : (column : ℕ) → column < v.columns → are_met_in new.stage pairs column ≡ true → unmet_in v (data_of old) own column ≡ None
  met_is column inside met =
      line_is column inside
      ∙ ap (λ (b : Bool). line_by b own.name (map (λ pair. pair.1) (pairs_in new.stage pairs column))
      (map (λ pair. state_at (states_in new.stage column) pair.0) pairs) old.core.count) met

  -- if there is none nothing is told
  pub told_none : IsFirstMissed new.stage pairs None → IsToldOf v (data_of old) own []
  told_none none = λ column inside.
      let there : column < columns_on new.stage = subst (λ (n : ℕ). column < n) (sym (only_columns old new only)) (within column inside) in
      met_is column inside (none column there)

  -- and else its line
  pub told_some : (vars : List Bool) (n : ℕ) → n ≡ old.core.count → IsMissedFirst new.stage pairs vars →
      IsToldOf v (data_of old) own (unmet_told new own pairs vars n ∷ [])
  told_some vars n count is =
      let column = column_with new.stage.machine.maker vars in
      let inside : column < v.columns = subst (λ (m : ℕ). column < m) (only_columns old new only ∙ sym meant.columns) is.inside in
      let wanted = wanted_under new.stage pairs vars in
      let got = states_under new.stage pairs vars in
      let truths : v.truths column ≡ vars =
      meant.truths column inside ∙ ap (λ (variables : ℕ). truths_in variables column) (sym only.makes.shape.variables)
      ∙ truths_of_column new.stage.machine.maker.graph.variables vars is.count in
      record {
        column = column;
        inside = inside;
        met_before = λ other before. met_is other (omega (arith, before, inside)) (is.met_before other before);
        name = own.name;
        wanted = wanted;
        got = got;
        n = n;
        unmet = line_is column inside ∙ ap₂ (λ (b : Bool) (m : ℕ). line_by b own.name wanted got m) is.missed (sym count);
        told_is = ap₂ (λ (core : SessionData) (values : List Bool).
            Unmet own.name (wanted_text (is_vector core.circuit core.vectors own.name) (is_formula own.value) own.text wanted) got n values) only.core (sym truths);
      }

-- ---- something is told of each

-- a test holds in all of so many columns, or there is a first one in which it doesn't
record FirstOf (columns : ℕ) (test : ℕ → Bool) : Type 0 where
  column : ℕ
  inside : column < columns
  fails : test column ≡ false
  before : (other : ℕ) → other < column → test other ≡ true

first_of : (columns : ℕ) (test : ℕ → Bool) → ((column : ℕ) → column < columns → test column ≡ true) ⊎ FirstOf columns test
first_of zero test = inl (λ column inside. absurd (omega (arith, inside)))
first_of (suc columns) test = by (first_of columns test) (test columns) refl
  where
    by : (((column : ℕ) → column < columns → test column ≡ true) ⊎ FirstOf columns test) → (last : Bool) → test columns ≡ last →
        ((column : ℕ) → column < suc columns → test column ≡ true) ⊎ FirstOf (suc columns) test
    by (inr is) last same = inr (record { column = is.column; inside = omega (arith, is.inside); fails = is.fails; before = is.before })
    by (inl all) false same = inr (record { column = columns; inside = omega arith; fails = same; before = all })
    by (inl all) true same = inl (λ column inside. elim (cases_lt column columns) [
      | inl less ↦ all column less
      | inr past ↦
          let here : columns ≡ column = omega (arith, past, inside) in
          subst (λ (own : ℕ). test own ≡ true) here same
    ])

module _ (v : Valuations) (sessions : ℕ → SessionData) where
  -- what an assignment gives in a column
  abbrev pub letters_at : Assignment → ℕ → List (ℕ × Letter)
  letters_at own column =
      letters_in (letters_given (sessions column).circuit (sessions column).vectors
      (plain_under (v.values column) (sessions column).circuit (sessions column).vectors own))

  abbrev pub met_at : Assignment → ℕ → Bool
  met_at own column = are_met (sessions column).state (letters_at own column)

  -- its line, by whether it is met there
  line_at : (own : Assignment) (column : ℕ) (met : Bool) → met_at own column ≡ met → unmet_in v sessions own column
      ≡ line_by met own.name (map (λ pair. pair.1) (letters_at own column)) (map (λ pair. state_at (sessions column).state pair.0) (letters_at own column))
      (sessions column).count
  line_at own column met is =
      ap (λ (b : Bool). line_by b own.name (map (λ pair. pair.1) (letters_at own column))
      (map (λ pair. state_at (sessions column).state pair.0) (letters_at own column)) (sessions column).count) is

  pub one_told : (own : Assignment) → (told : List SymbolTold) × IsToldOf v sessions own told
  one_told own = by (first_of v.columns (met_at own))
    where
      by : (((column : ℕ) → column < v.columns → met_at own column ≡ true) ⊎ FirstOf v.columns (met_at own)) →
          (told : List SymbolTold) × IsToldOf v sessions own told
      by (inl all) = ([], λ column inside. line_at own column true (all column inside))
      by (inr is) =
          let column = is.column in
          let wanted = map (λ (pair : ℕ × Letter). pair.1) (letters_at own column) in
          let got = map (λ (pair : ℕ × Letter). state_at (sessions column).state pair.0) (letters_at own column) in
          let text = wanted_text (is_vector (sessions column).circuit (sessions column).vectors own.name) (is_formula own.value) own.text wanted in (
            Unmet own.name text got (sessions column).count (v.truths column) ∷ [],
            record {
              column = column;
              inside = is.inside;
              met_before = λ other before. line_at own other true (is.before other before);
              name = own.name;
              wanted = wanted;
              got = got;
              n = (sessions column).count;
              unmet = line_at own column false is.fails;
              told_is = refl;
            },
          )

  -- so of all of a list
  pub all_told : (list : List Assignment) → (told : List SymbolTold) × AreToldOf v sessions list told
  all_told [] = ([], refl)
  all_told (own ∷ list) =
      let (first, is) = one_told own in
      let (rest, are) = all_told list in
      (first ++ rest, (first, rest, is, are, refl))

-- ---- sessions that are alike

-- two sessions are alike in what an expectation looks at
pub record SeenAlike (one other : SessionData) : Type 0 where
  pub circuit : other.circuit ≡ one.circuit
  pub vectors : other.vectors ≡ one.vectors
  pub state : other.state ≡ one.state
  pub count : other.count ≡ one.count

-- as one and itself
pub seen_same : (one other : SessionData) → other ≡ one → SeenAlike one other
seen_same one other same = record {
  circuit = ap (λ (s : SessionData). s.circuit) same;
  vectors = ap (λ (s : SessionData). s.vectors) same;
  state = ap (λ (s : SessionData). s.state) same;
  count = ap (λ (s : SessionData). s.count) same;
}

module _ (v : Valuations) (one other : ℕ → SessionData) (alike : (column : ℕ) → column < v.columns → SeenAlike (one column) (other column)) where
  unmet_alike : (own : Assignment) (column : ℕ) → column < v.columns → unmet_in v other own column ≡ unmet_in v one own column
  unmet_alike own column inside =
      let is = alike column inside in
      ap₂ (λ (c : CircuitData) (vectors : List (List ℕ × List ℕ)). line_under (v.values column) own c vectors (other column).state (other column).count)
      is.circuit is.vectors
      ∙ ap₂ (λ (state : List Tern) (n : ℕ). line_under (v.values column) own (one column).circuit (one column).vectors state n) is.state is.count

  pub told_alike : (own : Assignment) (told : List SymbolTold) → IsToldOf v one own told → IsToldOf v other own told
  told_alike own [] met = λ column inside. unmet_alike own column inside ∙ met column inside
  told_alike own (told ∷ []) is =
      let same = alike is.column is.inside in
      record {
        column = is.column;
        inside = is.inside;
        met_before = λ earlier before. unmet_alike own earlier (omega (arith, before, is.inside)) ∙ is.met_before earlier before;
        name = is.name;
        wanted = is.wanted;
        got = is.got;
        n = is.n;
        unmet = unmet_alike own is.column is.inside ∙ is.unmet;
        told_is = is.told_is ∙ ap₂ (λ (c : CircuitData) (vectors : List (List ℕ × List ℕ)).
            Unmet is.name (wanted_text (is_vector c vectors own.name) (is_formula own.value) own.text is.wanted) is.got is.n (v.truths is.column))
            (sym same.circuit) (sym same.vectors);
      }
  told_alike own (told ∷ next ∷ more) is = absurd is

  pub all_alike : (list : List Assignment) (told : List SymbolTold) → AreToldOf v one list told → AreToldOf v other list told
  all_alike [] told are = are
  all_alike (own ∷ list) told are =
      let (first, rest, is, others, parted) = are in
      (first, rest, told_alike own first is, all_alike list rest others, parted)

-- ---- what is told is of expectations that aren't met

pub some_told : (v : Valuations) (sessions : ℕ → SessionData) (own : Assignment) (told : SymbolTold) → IsToldOf v sessions own (told ∷ []) →
    is_unmet told ≡ true
some_told v sessions own told is = ap is_unmet is.told_is

-- ---- one assignment

-- what its nodes want stays while the maker makes more
pub given_later : (first mid new : HeldSession StageData) → OnlyMakes first mid → OnlyMakes mid new → (table : TableData) (own : Assignment)
    (pairs : List (ℕ × SymbolLetter)) → AreWantedOf mid.stage pairs → AreGivenBy first table own mid.stage pairs → AreGivenBy first table own new.stage pairs
given_later first mid new before after table own pairs wanted given = λ column inside.
    let there : column < columns_on mid.stage = subst (λ (n : ℕ). column < n) (sym (only_columns first mid before)) inside in
    given column inside
    ∙ ap (λ (letters : List (ℕ × Letter)). Ok letters) (sym (pairs_more mid.stage new.stage after.makes pairs wanted column there))

-- and what they are given by a session of which the maker made more they are given by the first one
pub given_first : (first old : HeldSession StageData) → OnlyMakes first old → (table : TableData) → IsTableOf first.stage table → (own : Assignment)
    (stage : StageData) (pairs : List (ℕ × SymbolLetter)) → AreGivenBy old table own stage pairs → AreGivenBy first table own stage pairs
given_first first old only table is own stage pairs given = λ column inside.
    ap₂ (λ (core : SessionData) (values : List ℕ → Bool).
    letters_given core.circuit core.vectors (plain_under values core.circuit core.vectors own)) (sym only.core)
    (sym (named_more first.stage old.stage table only.makes is column inside))
    ∙ given column (subst (λ (n : ℕ). column < n) (sym (only_columns first old only)) inside)

-- an assignment of a list is by the names what it is by the valuations, if all are
pub meant_one : (session : HeldSession StageData) (table : TableData) (list rest : List Assignment) (k : ℕ) (own : Assignment) (v : Valuations) →
    drop k list ≡ own ∷ rest → AreMeantBy session table list v → AreMeantBy session table (own ∷ []) v
meant_one session table list rest k own v is meant = record {
  columns = meant.columns;
  truths = meant.truths;
  plain = λ column inside.
      let c = session.core.circuit in
      let vectors = session.core.vectors in
      let one = plain_under (v.values column) c vectors in
      let other = plain_under (named_in session.stage table column) c vectors in
      let left : map one (drop k list) ≡ map other (drop k list) =
      sym (drop-map one k list) ∙ ap (λ (items : List (List ℕ × Value)). drop k items) (meant.plain column inside) ∙ drop-map other k list in
      let cut : one own ∷ map one rest ≡ other own ∷ map other rest =
      sym (ap (map one) is) ∙ left ∙ ap (map other) is in
      let head : one own ≡ other own = cc cut in
      ap (λ (item : List ℕ × Value). item ∷ []) head;
}

module _ (v : Valuations) (sessions : ℕ → SessionData) (own : Assignment) {H : Type 0} (hear : H → Telling → H) (part : H → Telling → H → Type 0) where
  -- its line was told
  pub line_tells : (line : SymbolTold) (before after : H) (result : Result Bool ExpectFault) → IsToldOf v sessions own (line ∷ []) →
      TellsLine hear part line before after result → Tells (IsToldOf v sessions own) hear part before after result
  line_tells line before after (Ok told) right is = record {
    told = line ∷ [];
    right = right;
    heard = is.1;
    some = is.0 ∙ sym (ap (λ (b : Bool). b || false) (some_told v sessions own line right));
  }
  line_tells line before after (Err fault) right is = record { told = line ∷ []; right = right; heard = is }

  -- nothing is told
  pub none_tells : (before : H) → IsToldOf v sessions own [] → Tells (IsToldOf v sessions own) hear part before before (Ok false)
  none_tells before right = record { told = []; right = right; heard = refl; some = refl }

  -- nothing was told so far
  pub silent_tells : (before : H) (fault : ExpectFault) → Tells (IsToldOf v sessions own) hear part before before (Err fault)
  silent_tells before fault =
      let (told, right) = one_told v sessions own in
      record { told = told; right = right; heard = inl (tellings told, so_far-start hear before (tellings told)) }

-- ---- one assignment after the other

module _ (v : Valuations) (sessions : ℕ → SessionData) where
  -- what is told so far is told of all, whatever is told of the assignments that are left
  abbrev pub ToldSoFar : List Assignment → List SymbolTold → List Assignment → Type 0
  ToldSoFar all told left = (more : List SymbolTold) → AreToldOf v sessions left more → AreToldOf v sessions all (told ++ more)

  -- so much was heard of it
  pub record Comes {H : Type 0} (hear : H → Telling → H) (all left : List Assignment) (before now : H) (missed : Bool) : Type 0 where
    pub told : List SymbolTold
    pub so_far : ToldSoFar all told left
    pub heard : now ≡ hear_all hear before (tellings told)
    pub some : missed ≡ list_any is_unmet told

  -- nothing at the start
  pub comes_first : {H : Type 0} (hear : H → Telling → H) (all : List Assignment) (before : H) → Comes hear all all before before false
  comes_first hear all before = record { told = []; so_far = λ more are. are; heard = refl; some = refl }

  -- lines and others behind them
  tellings-append : (told more : List SymbolTold) → tellings (told ++ more) ≡ tellings told ++ tellings more
  tellings-append told more = map-append telling_alone told more

  -- what is told of one more, and then of the others
  next_told : (all left rest : List Assignment) (own : Assignment) (told piece : List SymbolTold) → left ≡ own ∷ rest → ToldSoFar all told left →
      IsToldOf v sessions own piece → ToldSoFar all (told ++ piece) rest
  next_told all left rest own told piece parted so_far is = λ more later.
      let behind : AreToldOf v sessions (own ∷ rest) (piece ++ more) = (piece, more, is, later, refl) in
      subst (AreToldOf v sessions all) (sym (append_assoc told piece more))
      (so_far (piece ++ more) (subst (λ (list : List Assignment). AreToldOf v sessions list (piece ++ more)) (sym parted) behind))

  -- one more was heard
  pub comes_on : {H : Type 0} (hear : H → Telling → H) (all left rest : List Assignment) (own : Assignment) (before now after : H) (missed more : Bool) →
      left ≡ own ∷ rest → Comes hear all left before now missed → IsToldWhole (IsToldOf v sessions own) hear now after more →
      Comes hear all rest before after (missed || more)
  comes_on {H} hear all left rest own before now after missed more parted come whole = record {
    told = come.told ++ whole.told;
    so_far = next_told all left rest own come.told whole.told parted come.so_far whole.right;
    heard = whole.heard ∙ ap (λ (h : H). hear_all hear h (tellings whole.told)) come.heard
        ∙ sym (hear_all-append hear before (tellings come.told) (tellings whole.told))
        ∙ ap (hear_all hear before) (sym (tellings-append come.told whole.told));
    some = ap₂ (λ (a b : Bool). a || b) come.some whole.some ∙ sym (list_any-append is_unmet come.told whole.told);
  }

  -- of one more a part was heard
  pub comes_to_part : {H : Type 0} (hear : H → Telling → H) (part : H → Telling → H → Type 0) (all left rest : List Assignment) (own : Assignment)
      (before now after : H) (missed : Bool) → left ≡ own ∷ rest → Comes hear all left before now missed →
      IsToldInPart (IsToldOf v sessions own) hear part now after → IsToldInPart (AreToldOf v sessions all) hear part before after
  comes_to_part {H} hear part all left rest own before now after missed parted come broken =
      let (more, later) = all_told v sessions rest in
      let whole = (come.told ++ broken.told) ++ more in
      let split : tellings whole ≡ tellings come.told ++ (tellings broken.told ++ tellings more) =
      ap tellings (append_assoc come.told broken.told more) ∙ tellings-append come.told (broken.told ++ more)
      ∙ ap (λ (lines : List Telling). tellings come.told ++ lines) (tellings-append broken.told more) in
      let so_far : SoFar hear before now (tellings whole) (tellings broken.told ++ tellings more) =
      record { done = tellings come.told; split = split; heard = come.heard } in
      record {
        told = whole;
        right = next_told all left rest own come.told broken.told parted come.so_far broken.right more later;
        heard = so_far-front hear part before now after (tellings whole) (tellings broken.told ++ tellings more) (tellings broken.told) (tellings more) refl so_far
            broken.heard;
      }

  -- if none is left all was heard
  pub comes_last : {H : Type 0} (hear : H → Telling → H) (all left : List Assignment) (before now : H) (missed : Bool) → left ≡ [] →
      Comes hear all left before now missed → IsToldWhole (AreToldOf v sessions all) hear before now missed
  comes_last hear all left before now missed none come =
      let last : AreToldOf v sessions left [] = subst (λ (list : List Assignment). AreToldOf v sessions list []) (sym none) refl in
      record {
        told = come.told;
        right = subst (AreToldOf v sessions all) (append-nil come.told) (come.so_far [] last);
        heard = come.heard;
        some = come.some;
      }
