-- `expect` in all columns: in each the command of a plain script tells what isn't met there, and that is remembered.
use Rattle.std.proofs.Common.{◌≡◌, ℕ, ◌<◌, ◌⊎◌, ◌||◌, ◌^◌, Bool, true, false, List, [], ◌∷◌, ◌++◌, length, map, All, Option, None, Some, Result, Ok, Err, inl, inr, refl, sym, ap, ap₂, subst, ◌∙◌, append-nil, arith, if◌then◌else◌}
use Rattle.std.proofs.Math.Bool.{or-false}
use Rattle.std.specs.Prelude.{filter_map, IfErr}
use Rattle.std.specs.List.{cons_option, list_all, list_any}
use Rattle.std.proofs.Math.Pow.{pow-lt}
use Rattle.std.proofs.lemmas.Bool.{cases_order}
use Rattle.std.proofs.lemmas.List.Elements.{All-append, All-cons, All-head, All-nil}
use Rattle.group_text.specs.Texts.{GroupTextData}
use Rattle.ports.specs.declared.ports.PortFault.TheVariants as port
use Rattle.told_lines.specs.Lines as of_one
use Rattle.told_lines.specs.Lines.{Line}
use Rattle.told_lines.specs.Hearing.{HearsFront}
use Rattle.switch_paths.specs.Switching.{state_at}
use Rattle.node_values.specs.Givings.{letters_given}
use Rattle.script_lang.specs.declared.value.Value.{Value}
use Rattle.session_meaning.specs.Sessions.{SessionData}
use Rattle.session_meaning.specs.Effects.{is_met, letters_in, unmet_line, unmet_lines}
use Rattle.session_meaning.specs.Refusals.{none_at, values_refusal}
use Rattle.script_meaning.specs.declared.turn.Turn.{Turn}
use Rattle.script_meaning.specs.declared.turn.Turn.TheVariants.{Accepted, Refused, TooLarge}
use Rattle.formula_functions.specs.Tables.{value_named}
use Rattle.symbol_run.specs.declared.session.SymbolFault.{SymbolFault}
use Rattle.symbol_script.specs.declared.line.Assignment.{Assignment}
use Rattle.symbol_script.specs.declared.line.SymbolLine.{SymbolLine}
use Rattle.symbol_script.specs.declared.line.SymbolLine.TheVariants as asks
use Rattle.symbol_script.specs.declared.line.ValueVerb.TheVariants as verb
use Rattle.symbol_meaning.specs.Readings.{Valuations, plain_under, truths_in}
use Rattle.symbol_meaning.specs.Told.{SymbolTold, is_unmet}
use Rattle.symbol_meaning.specs.Merging.{AreToldOf, IsToldOf, unmet_in}
use Rattle.symbol_told.specs.Lines.{Telling}
use Rattle.symbol_told.specs.Printing.{lines_told}
use Rattle.symbol_run.specs.Turns.{faults_stopped, RefusedStopped, StopsAt}
use Rattle.symbol_stage.specs.Stages.{columns_on}
use Rattle.truth_makers.specs.declared.symbols.Symbols.{Symbols}
use Rattle.truth_makers.specs.Makers.{columns_in}
use Rattle.symbol_giving.specs.Letters.{named_in}
use Rattle.symbol_giving.specs.StandIns.{IsGiven}
use Rattle.symbol_giving.specs.Giving as own_columns
use Rattle.symbol_giving.proofs.PlainLemmas.{all_plain_alike}
use Rattle.symbol_giving.proofs.StandLemmas.{all_given, stand_refused}
use Rattle.symbol_expecting.specs.Expecting.{AreAllowed, AreMeantBy, ExpectsInAll, after_expect, expect_in, missed_after, plain_in, unmet_in_column}
use Rattle.symbol_expecting.specs.Faults.{RefusedExpected, faults_expected}
use Rattle.symbol_expecting.specs.Telling.{tellings}
use Rattle.symbol_expecting.specs.declared.fault.ExpectFault.{ExpectFault}
use Rattle.symbol_expecting.specs.declared.fault.ExpectFault.TheVariants as expecting
use Rattle.symbol_looking.proofs.ObeyingLemmas.{lines_of_tellings}
use Rattle.symbol_equiv.specs.Waves.{wave_of}
use Rattle.symbol_session.specs.Asked.{IsDoneInAll, IsKnown}
use Rattle.symbol_session.specs.Missing.{NotesMissed, Remembers, plain_by_table}
use Rattle.symbol_session.specs.Sessions.{IsSymbolSession, Stays, SymbolData, data_of, maker_of, truths_by, valuations_by}
use Rattle.symbol_session.specs.Turns.{BreaksAsked, DoesHeard, TakesAsked, begun, turn_expected, unheard}
use Rattle.symbol_session.proofs.DataLemmas.{inside_columns}
use Rattle.symbol_session.proofs.SilentLemmas.{is_wave, silent_railed}

-- ---- what is told

-- an assignment that is told of isn't met, and its line is no waveform line
of_one_unmet : (v : Valuations) (sessions : ℕ → SessionData) (own : Assignment) (told : List SymbolTold) → IsToldOf v sessions own told →
    All (λ line. (is_wave line ≡ false) × (is_unmet line ≡ true)) told
of_one_unmet v sessions own [] is = All-nil (λ line. (is_wave line ≡ false) × (is_unmet line ≡ true))
of_one_unmet v sessions own (line ∷ []) is =
    All-cons (λ line. (is_wave line ≡ false) × (is_unmet line ≡ true)) line []
    (rw is.told_is (refl, refl)) (All-nil (λ line. (is_wave line ≡ false) × (is_unmet line ≡ true)))
of_one_unmet v sessions own (line ∷ other ∷ more) is = absurd is

all_unmet : (v : Valuations) (sessions : ℕ → SessionData) (list : List Assignment) (told : List SymbolTold) → AreToldOf v sessions list told →
    All (λ line. (is_wave line ≡ false) × (is_unmet line ≡ true)) told
all_unmet v sessions [] told none = rw none (All-nil (λ line. (is_wave line ≡ false) × (is_unmet line ≡ true)))
all_unmet v sessions (own ∷ list) told (first, rest, here, later, whole) =
    rw whole
    (All-append (λ line. (is_wave line ≡ false) × (is_unmet line ≡ true)) first rest (of_one_unmet v sessions own first here)
    (all_unmet v sessions list rest later))

silent_of : (told : List SymbolTold) → All (λ line. (is_wave line ≡ false) × (is_unmet line ≡ true)) told → All (λ line. is_wave line ≡ false) told
silent_of told all = λ k d inside. (all k d inside).0

-- if none of them is told, each column meets all
nothing_told : (told : List SymbolTold) → All (λ line. (is_wave line ≡ false) × (is_unmet line ≡ true)) told → list_any is_unmet told ≡ false → told ≡ []
nothing_told [] all none = refl
nothing_told (line ∷ told) all none =
    let is : is_unmet line ≡ true = (All-head (λ line. (is_wave line ≡ false) × (is_unmet line ≡ true)) line told all).1 in
    absurd (let e : true ≡ false = sym (ap (λ (test : Bool). test || list_any is_unmet told) is) ∙ none in cc)

append_none : {A : Type 0} (front rest : List A) → [] ≡ front ++ rest → (front ≡ []) × (rest ≡ [])
append_none [] rest is = (refl, sym is)
append_none (one ∷ front) rest is = absurd (cc)

met_of : (v : Valuations) (sessions : ℕ → SessionData) (list : List Assignment) → AreToldOf v sessions list [] → (column : ℕ) → column < v.columns →
    unmet_in_column v sessions list column ≡ []
met_of v sessions [] none column inside = refl
met_of v sessions (own ∷ list) (first, rest, here, later, whole) column inside =
    let none = append_none first rest whole in
    let is : unmet_in v sessions own column ≡ None = (subst (IsToldOf v sessions own) none.0 here) column inside in
    ap₂ cons_option is (met_of v sessions list (subst (AreToldOf v sessions list) none.1 later) column inside)

-- no column writes a waveform line
unmet_is : (session : SessionData) (item : List ℕ × Value) → (unmet_line session item ≡ None) ⊎ ((line : Line) × (unmet_line session item ≡ Some line) × (wave_of line ≡ None))
unmet_is session item =
    let pairs = letters_in (letters_given session.circuit session.vectors item) in
    by (list_all (λ pair. is_met pair.1 (state_at session.state pair.0)) pairs)
    (of_one.Unmet item.0 (map (λ pair. pair.1) pairs) (map (λ pair. state_at session.state pair.0) pairs) session.count) refl
  where
    by : (test : Bool) (line : Line) → wave_of line ≡ None →
        ((if test then None else Some line) ≡ None) ⊎ ((own : Line) × ((if test then None else Some line) ≡ Some own) × (wave_of own ≡ None))
    by true line none = inl refl
    by false line none = inr (line, refl, none)

unmet_silent : (session : SessionData) (list : List (List ℕ × Value)) → filter_map wave_of (unmet_lines session list) ≡ []
unmet_silent session [] = refl
unmet_silent session (item ∷ list) = by (unmet_line session item) (unmet_is session item) (unmet_silent session list)
  where
    by : (found : Option Line) → (found ≡ None) ⊎ ((line : Line) × (found ≡ Some line) × (wave_of line ≡ None)) → filter_map wave_of (unmet_lines session list) ≡ [] →
        filter_map wave_of (cons_option found (unmet_lines session list)) ≡ []
    by None is rest = rest
    by (Some line) (inl is) rest = absurd (cc)
    by (Some line) (inr (own, same, none)) rest =
        let e : line ≡ own = cc in
        ap₂ cons_option (ap wave_of e ∙ none) rest

-- ---- the valuations

-- there are as many variables as the maker has
same_power : (a b : ℕ) → 2 ^ a ≡ 2 ^ b → a ≡ b
same_power a b same =
    elim (cases_order a b) [
      | inl equal ↦ equal
      | inr (inl less) ↦ absurd (omega (arith, same, pow-lt less))
      | inr (inr more) ↦ absurd (omega (arith, same, pow-lt more))
    ]

-- in each column the assignments are by the table what they are by the valuation
pub are_meant : (d : SymbolData) → IsSymbolSession d → (list : List Assignment) →
    IsKnown (valuations_by d) d.names.names (truths_by d) (asks.Values verb.Expect list) → AreMeantBy d.session d.names list (valuations_by d)
are_meant d own list known = record {
  columns = sym own.shape;
  truths = λ column inside.
      ap (λ (count : ℕ). truths_in count column)
      (sym (same_power (maker_of d).graph.variables (length (valuations_by d).variables) own.shape));
  plain = λ column inside.
      all_plain_alike ((valuations_by d).values column) (named_in d.session.stage d.names column) d.session.core.circuit d.session.core.vectors list
      (known.values column inside);
}

-- by the table itself they are so whatever is known
abbrev by_table : SymbolData → Valuations
by_table d = record {
  columns = columns_on d.session.stage;
  variables = [];
  truths = truths_in (maker_of d).graph.variables;
  values = named_in d.session.stage d.names;
}

pub all_given_here : (d : SymbolData) → 0 < columns_in (maker_of d) → (list : List Assignment) →
    ((v : Valuations) → AreMeantBy d.session d.names list v → AreAllowed v (own_columns.data_of d.session) list) →
    All (IsGiven d.session.core.circuit d.session.core.vectors) list
all_given_here d some list allowed =
    let c = d.session.core.circuit in
    let vectors = d.session.core.vectors in
    let meant : AreMeantBy d.session d.names list (by_table d) =
    record { columns = refl; truths = λ column inside. refl; plain = λ column inside. refl } in
    let none : values_refusal none_at c vectors (map (plain_under (named_in d.session.stage d.names 0) c vectors) list) ≡ None =
    allowed (by_table d) meant 0 some in
    all_given none_at c vectors list
    (sym (stand_refused c vectors (named_in d.session.stage d.names 0) none_at list) ∙ none)

-- ---- what becomes of the line

module _ {H : Type 0} (symbols : Symbols) (hear : H → Telling → H) (part : H → Telling → H → Type 0) (old : SymbolData) (own : IsSymbolSession old) (list : List Assignment)
    (before after : H) (texts : List GroupTextData) where
  abbrev v : Valuations
  v = valuations_by old

  abbrev asked : SymbolLine
  asked = asks.Values verb.Expect list

  -- in each column what isn't met is told and remembered
  expect_done : (new : ℕ → SessionData) (told : List SymbolTold) → AreAllowed v (data_of old) list → AreToldOf v (data_of old) list told →
      ((column : ℕ) → column < v.columns → new column ≡ after_expect v (data_of old) list column) → IsDoneInAll v (data_of old) asked new (lines_told (tellings told)) []
  expect_done new told allowed right moved = record {
    lines = unmet_in_column v (data_of old) list;
    each = λ column inside. record {
      mid = data_of old column;
      prepares = (refl, refl);
      does = record { allowed = allowed column inside; effect = (moved column inside, refl) };
    };
    merged = subst (AreToldOf v (data_of old) list) (sym (lines_of_tellings told)) right;
  }

  -- a fault broke it off
  expect_part : (told : List SymbolTold) → AreAllowed v (data_of old) list → AreToldOf v (data_of old) list told → HearsFront hear part before after (tellings told) →
      BreaksAsked hear part v (data_of old) asked before after
  expect_part told allowed right heard = begun (record {
    end = after_expect v (data_of old) list;
    told = tellings told;
    texts = [];
    does = expect_done (after_expect v (data_of old) list) told allowed right (λ column inside. refl);
    heard = heard;
  })

  -- all was told
  pub expect_whole : (new : ℕ → SessionData) (missed : Bool) → ExpectsInAll hear part v (data_of old) list before after (Ok missed) →
      ((column : ℕ) → column < v.columns → new column ≡ after_expect v (data_of old) list column) → DoesHeard symbols hear v (data_of old) asked new before after texts texts
  unfolding expect_done
  expect_whole new missed (allowed, whole) moved = record {
    told = tellings whole.told;
    texts = [];
    does = expect_done new whole.told allowed whole.right moved;
    railed = silent_railed symbols v.columns (unmet_in_column v (data_of old) list) whole.told (silent_of whole.told (all_unmet v (data_of old) list whole.told whole.right))
        (λ column inside. unmet_silent (data_of old column) (plain_in v (data_of old) list column));
    heard = whole.heard;
    analysed = sym (append-nil texts);
  }

  -- all was told, but it couldn't be remembered
  pub expect_forgotten : (missed : Bool) → ExpectsInAll hear part v (data_of old) list before after (Ok missed) → BreaksAsked hear part v (data_of old) asked before after
  expect_forgotten missed (allowed, whole) =
      expect_part whole.told allowed whole.right (inl ([], record { done = tellings whole.told; split = sym (append-nil (tellings whole.told)); heard = whole.heard }))

  -- or it is refused, or was broken off
  pub expect_stopped : (new : ℕ → SessionData) → ((column : ℕ) → column < v.columns → new column ≡ data_of old column) → (number : ℕ) (fault : ExpectFault) →
      ExpectsInAll hear part v (data_of old) list before after (Err fault) →
      TakesAsked symbols hear part v (data_of old) asked new before after texts texts (turn_expected number fault)
  expect_stopped new same number (expecting.Refused refusal) (are, unheard_yet) = (
    record {
      refusal = refusal;
      coded = refl;
      each = λ column inside. record { own = expect_in v (data_of old) list column; asks = refl; refused = are column inside };
    },
    record { same = same; unheard = unheard_yet; unasked = refl },
  )
  expect_stopped new same number expecting.Full (allowed, in_part) = expect_part in_part.told allowed in_part.right in_part.heard
  expect_stopped new same number expecting.NoMemory (inl none) = unheard none
  expect_stopped new same number expecting.NoMemory (inr (allowed, in_part)) = expect_part in_part.told allowed in_part.right in_part.heard
  expect_stopped new same number (expecting.Unheard fault) (allowed, in_part) = expect_part in_part.told allowed in_part.right in_part.heard

  -- nothing was told, so each column is as before
  pub met_moved : (new : ℕ → SessionData) → ((column : ℕ) → column < v.columns → new column ≡ data_of old column) →
      ExpectsInAll hear part v (data_of old) list before after (Ok false) → (column : ℕ) → column < v.columns → new column ≡ after_expect v (data_of old) list column
  met_moved new same (allowed, whole) column inside =
      let none = nothing_told whole.told (all_unmet v (data_of old) list whole.told whole.right) (sym whole.some) in
      let lines : unmet_in_column v (data_of old) list column ≡ [] = met_of v (data_of old) list (subst (AreToldOf v (data_of old) list) none whole.right) column inside in
      let missed : missed_after v (data_of old) list column ≡ (data_of old column).missed =
      ap (λ (wrote : List Line). (data_of old column).missed || list_any of_one.is_unmet wrote) lines ∙ or-false (data_of old column).missed in
      same column inside ∙ sym (ap (λ (test : Bool). record (data_of old column) { missed = test }) missed)

  -- what was told is remembered in each column
  pub missed_moved : (mid new : SymbolData) → ((column : ℕ) → column < columns_in (maker_of old) → data_of mid column ≡ data_of old column) →
      columns_in (maker_of mid) ≡ columns_in (maker_of old) →
      ((column : ℕ) → column < v.columns → plain_by_table mid list column ≡ plain_in v (data_of old) list column) → NotesMissed mid list new → (column : ℕ) →
      column < v.columns → data_of new column ≡ after_expect v (data_of old) list column
  missed_moved mid new same count plain notes column inside =
      let within = inside_columns old own column inside in
      let there : column < columns_in (maker_of mid) = subst (λ (n : ℕ). column < n) (sym count) within in
      notes.others column there
      ∙ ap₂ (λ (s : SessionData) (missed : Bool). record s { missed = missed }) (same column within)
      (notes.missed column there
      ∙ ap₂ (λ (s : SessionData) (values : List (List ℕ × Value)). s.missed || list_any of_one.is_unmet (unmet_lines s values)) (same column within) (plain column inside))

  -- and so it is, or it couldn't be
  pub remembered : (mid new : SymbolData) → ((column : ℕ) → column < columns_in (maker_of old) → data_of mid column ≡ data_of old column) →
      columns_in (maker_of mid) ≡ columns_in (maker_of old) →
      ((column : ℕ) → column < v.columns → plain_by_table mid list column ≡ plain_in v (data_of old) list column) → (missed : Bool) →
      ExpectsInAll hear part v (data_of old) list before after (Ok missed) → (result : Result Turn SymbolFault) → Remembers missed mid list new result →
      TakesAsked symbols hear part v (data_of old) asked (data_of new) before after texts texts result
  remembered mid new same count plain true told (Ok Accepted) notes =
      expect_whole (data_of new) true told (missed_moved mid new same count plain notes)
  remembered mid new same count plain false told (Ok Accepted) is =
      expect_whole (data_of new) false told
      (met_moved (data_of new) (λ column inside. ap (λ (d : SymbolData). data_of d column) is ∙ same column (inside_columns old own column inside)) told)
  remembered mid new same count plain true told (Ok (Refused code)) never = absurd never
  remembered mid new same count plain false told (Ok (Refused code)) never = absurd never
  remembered mid new same count plain true told (Ok (TooLarge fault)) never = absurd never
  remembered mid new same count plain false told (Ok (TooLarge fault)) never = absurd never
  remembered mid new same count plain true told (Err fault) is = expect_forgotten true told
  remembered mid new same count plain false told (Err fault) is = expect_forgotten false told

-- by the table the assignments are as before, where more functions were made
pub plain_still : (old mid : SymbolData) → mid.session.core ≡ old.session.core → Stays old mid → (list : List Assignment) (column : ℕ) →
    column < columns_in (maker_of old) → plain_by_table mid list column ≡ plain_by_table old list column
plain_still old mid core stays list column inside =
    ap (λ (s : SessionData). map (plain_under (named_in mid.session.stage mid.names column) s.circuit s.vectors) list) core
    ∙ ap₂ (λ (names : List (List ℕ)) (truths : List Bool).
    map (plain_under (value_named names truths) old.session.core.circuit old.session.core.vectors) list) stays.names (stays.truths column inside)

-- ---- the hearer's counts

pub expected_stops : (number : ℕ) (fault : ExpectFault) → IfErr (turn_expected number fault) (StopsAt number)
expected_stops number (expecting.Refused refusal) = tt
expected_stops number expecting.Full = refl
expected_stops number expecting.NoMemory = tt
expected_stops number (expecting.Unheard fault) = tt

pub expected_faults : (number : ℕ) (fault : ExpectFault) (faults : ℕ) → faults_stopped faults (turn_expected number fault) ≡ faults_expected faults (Err fault)
expected_faults number (expecting.Refused refusal) faults = refl
expected_faults number expecting.Full faults = refl
expected_faults number expecting.NoMemory faults = refl
expected_faults number (expecting.Unheard port.Failed) faults = refl
expected_faults number (expecting.Unheard port.NoMemory) faults = refl

pub expected_refusals : (number : ℕ) (fault : ExpectFault) (before now : ℕ) → RefusedExpected before now (Err fault) →
    RefusedStopped before now (turn_expected number fault)
expected_refusals number (expecting.Refused refusal) before now is = is
expected_refusals number expecting.Full before now is = is
expected_refusals number expecting.NoMemory before now is = inl is
expected_refusals number (expecting.Unheard port.Failed) before now is = is
expected_refusals number (expecting.Unheard port.NoMemory) before now is = is
