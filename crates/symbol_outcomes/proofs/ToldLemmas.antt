-- Something is told of each assignment of an `expect`: nothing, or the line of the first column in which it isn't met. And what is heard of lines is a
-- front of what is heard of more.
use Rattle.std.proofs.Common.{◌≡◌, ℕ, ◌<◌, ◌⊎◌, inl, inr, Bool, true, false, List, [], ◌∷◌, ◌++◌, map, Option, None, Some, refl, sym, ap, subst, ◌∙◌, append_assoc}
use Rattle.std.specs.Prelude.{is_some, if◌then◌else◌}
use Rattle.std.specs.List.{list_all}
use Rattle.ternary.specs.declared.tern.Tern.{Tern}
use Rattle.switch_paths.specs.Switching.{state_at}
use Rattle.vector_values.specs.Values.{Letter}
use Rattle.script_lang.specs.declared.value.Value.{Value}
use Rattle.node_values.specs.Givings.{is_vector, letters_given}
use Rattle.told_lines.specs.Lines as of_one
use Rattle.told_lines.specs.Lines.{Line}
use Rattle.told_lines.specs.Hearing.{HearsFront}
use Rattle.told_lines.proofs.HearingLemmas.{so_far-front, so_far-start}
use Rattle.session_meaning.specs.Sessions.{SessionData}
use Rattle.session_meaning.specs.Effects.{is_met, letters_in, unmet_line}
use Rattle.symbol_script.specs.declared.line.Assignment.{Assignment}
use Rattle.symbol_meaning.specs.Readings.{Valuations, plain_under}
use Rattle.symbol_meaning.specs.Told.{SymbolTold, Unmet}
use Rattle.symbol_meaning.specs.Merging.{AreToldOf, IsToldOf, is_formula, unmet_in, wanted_text}
use Rattle.symbol_told.specs.Lines.{Telling}
use Rattle.symbol_told.specs.Printing.{lines_told}
use Rattle.symbol_told.proofs.PrintingLemmas.{lines_told-append}
use Rattle.symbol_outcomes.proofs.SearchLemmas.{first_true, IsFirstTrue}

-- ---- assignments

-- nothing is there if it isn't told that something is
none_there : {A : Type 0} (found : Option A) → is_some found ≡ false → found ≡ None
none_there None is = refl
none_there (Some own) is = absurd (cc is)

-- a line that is there is that of the expectation
line_there : (met : Bool) (line : Line) → is_some (if met then None else Some line) ≡ true → (if met then None else Some line) ≡ Some line
line_there true line is = absurd (cc is)
line_there false line is = refl

abbrev letters_of : SessionData → List ℕ × Value → List (ℕ × Letter)
letters_of session item = letters_in (letters_given session.circuit session.vectors item)

abbrev wanted_of : SessionData → List ℕ × Value → List Letter
wanted_of session item = map (λ (pair : ℕ × Letter). pair.1) (letters_of session item)

abbrev got_of : SessionData → List ℕ × Value → List Tern
got_of session item = map (λ (pair : ℕ × Letter). state_at session.state pair.0) (letters_of session item)

unmet_there : (session : SessionData) (item : List ℕ × Value) → is_some (unmet_line session item) ≡ true →
    unmet_line session item ≡ Some (of_one.Unmet item.0 (wanted_of session item) (got_of session item) session.count)
unmet_there session item is =
    line_there (list_all (λ (pair : ℕ × Letter). is_met pair.1 (state_at session.state pair.0)) (letters_of session item))
    (of_one.Unmet item.0 (wanted_of session item) (got_of session item) session.count) is

module _ (v : Valuations) (sessions : ℕ → SessionData) where
  -- so something is told of an assignment
  pub told_of : (own : Assignment) → (told : List SymbolTold) × IsToldOf v sessions own told
  told_of own = by (first_true v.columns (λ (column : ℕ). is_some (unmet_in v sessions own column)))
    where
      by : (((column : ℕ) → column < v.columns → is_some (unmet_in v sessions own column) ≡ false)
          ⊎ IsFirstTrue v.columns (λ (column : ℕ). is_some (unmet_in v sessions own column))) → (told : List SymbolTold) × IsToldOf v sessions own told
      by (inl met) = ([], λ column inside. none_there (unmet_in v sessions own column) (met column inside))
      by (inr is) =
          let session = sessions is.column in
          let item = plain_under (v.values is.column) session.circuit session.vectors own in (
            Unmet own.name (wanted_text (is_vector session.circuit session.vectors own.name) (is_formula own.value) own.text (wanted_of session item))
                (got_of session item) session.count (v.truths is.column) ∷ [],
            record {
              column = is.column;
              inside = is.inside;
              met_before = λ other before. none_there (unmet_in v sessions own other) (is.before other before);
              name = own.name;
              wanted = wanted_of session item;
              got = got_of session item;
              n = session.count;
              unmet = unmet_there session item is.held;
              told_is = refl;
            },
          )

  -- and of all of them
  pub are_told : (list : List Assignment) → (told : List SymbolTold) × AreToldOf v sessions list told
  are_told [] = ([], refl)
  are_told (own ∷ list) =
      let (first, is) = told_of own in
      let (rest, are) = are_told list in (first ++ rest, (first, rest, is, are, refl))

  -- what is told of the first of them is told first of all
  pub are_told-append : (done left : List Assignment) (told more : List SymbolTold) → AreToldOf v sessions done told → AreToldOf v sessions left more →
      AreToldOf v sessions (done ++ left) (told ++ more)
  are_told-append [] left told more is later = subst (λ (front : List SymbolTold). AreToldOf v sessions left (front ++ more)) (sym is) later
  are_told-append (own ∷ done) left told more (first, rest, is, are, whole) later = (
    first,
    rest ++ more,
    is,
    are_told-append done left rest more are later,
    ap (λ (front : List SymbolTold). front ++ more) whole ∙ append_assoc first rest more,
  )

-- ---- tellings

-- lines that are told without rails
abbrev pub tellings_of : List SymbolTold → List Telling
tellings_of told = map (λ (line : SymbolTold). record { line = line; highs = []; lows = [] }) told

pub lines_of_tellings : (told : List SymbolTold) → lines_told (tellings_of told) ≡ told
lines_of_tellings [] = refl
lines_of_tellings (line ∷ told) = ap (λ (rest : List SymbolTold). line ∷ rest) (lines_of_tellings told)

-- what is told first, and then lines without rails
pub lines_before : (told : List Telling) (more : List SymbolTold) → lines_told (told ++ tellings_of more) ≡ lines_told told ++ more
lines_before told more =
    lines_told-append told (tellings_of more) ∙ ap (λ (rest : List SymbolTold). lines_told told ++ rest) (lines_of_tellings more)

-- a front of lines is a front of more
pub front_of_more : {H : Type 0} (hear : H → Telling → H) (part : H → Telling → H → Type 0) (before after : H) (told more : List Telling) →
    HearsFront hear part before after told → HearsFront hear part before after (told ++ more)
front_of_more hear part before after told more heard =
    so_far-front hear part before before after (told ++ more) (told ++ more) told more refl (so_far-start hear before (told ++ more)) heard
