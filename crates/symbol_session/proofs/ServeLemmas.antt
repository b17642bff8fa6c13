-- A session is served with the lines behind the one that it obeyed.
use Rattle.std.proofs.Common.{◌≡◌, ◌≢◌, ℕ, ◌<◌, Bool, false, List, ◌∷◌, Option, None, Some, Ok, sym, ap, subst, ◌∙◌}
use Rattle.line_words.specs.Files.{is_cut}
use Rattle.printed_lines.specs.declared.faults.FaultCode.{FaultCode}
use Rattle.script_meaning.specs.declared.turn.Turn.TheVariants.{Accepted}
use Rattle.symbol_lines.specs.Names.{NamesData, with_line}
use Rattle.symbol_script.specs.declared.line.SymbolLine.{SymbolLine}
use Rattle.symbol_script.specs.Lines.{names_of_line, symbol_reading_of}
use Rattle.symbol_meaning.specs.Readings.{Valuations}
use Rattle.symbol_meaning.specs.Scripts.{definition_in}
use Rattle.symbol_run.specs.Serving.{IsServed, names_after, truths_after}
use Rattle.symbol_run.proofs.ServingLemmas.{served_next}
use Rattle.truth_makers.specs.Makers.{columns_in}
use Rattle.symbol_session.specs.Sessions.{IsSymbolSession, ServesLines, SymbolData, maker_of, truths_by, valuations_by}
use Rattle.symbol_session.specs.Turns.{turn_unread}
use Rattle.symbol_session.proofs.KnownLemmas.{served_alike}
use Rattle.symbol_session.proofs.DataLemmas.{inside_columns}

-- the valuations go by the script
pub valuations_stay : (old new : SymbolData) → new.quiet ≡ old.quiet → new.text ≡ old.text → valuations_by new ≡ valuations_by old
valuations_stay old new quiet text =
    ap (λ (own : Bool). valuations_by (record new { quiet = own })) quiet
    ∙ ap (λ (own : List ℕ). valuations_by (record new { quiet = old.quiet; text = own })) text

-- behind a line whose definition, if it has one, is in the table
pub serves_next : (old new : SymbolData) → IsSymbolSession old → new.quiet ≡ old.quiet → new.text ≡ old.text → (cut : Option ℕ) (line : ℕ × List ℕ)
    (rest : List (ℕ × List ℕ)) (asked : Option SymbolLine) → is_cut cut line.0 ≡ false → symbol_reading_of old.quiet line.1 ≡ Ok asked →
    new.names.names ≡ names_after (definition_in asked) old.names.names →
    ((column : ℕ) → column < columns_in (maker_of old) → truths_by new column ≡ truths_after (definition_in asked) old.names.names (truths_by old column)) →
    ServesLines old cut (line ∷ rest) → ServesLines new cut rest
serves_next old new own quiet text cut line rest asked whole reads names truths (d, served) =
    let v : Valuations = valuations_by old in
    let next : NamesData = with_line d (names_of_line asked) in
    let is : IsServed old.quiet v next new.names.names (truths_by new) cut rest =
    served_alike old.quiet v next (names_after (definition_in asked) old.names.names) new.names.names
    (λ column. truths_after (definition_in asked) old.names.names (truths_by old column)) (truths_by new) cut rest names
    (λ column inside. truths column (inside_columns old own column inside))
    (served_next old.quiet v d old.names.names (truths_by old) cut line rest asked served whole reads) in (
      next,
      subst (λ (quiet_now : Bool). IsServed quiet_now (valuations_by new) next new.names.names (truths_by new) cut rest) (sym quiet)
          (subst (λ (valuations : Valuations). IsServed old.quiet valuations next new.names.names (truths_by new) cut rest) (sym (valuations_stay old new quiet text)) is),
    )

-- the same lines, where names and truth values stay
pub serves_still : (old new : SymbolData) → IsSymbolSession old → new.quiet ≡ old.quiet → new.text ≡ old.text → new.names.names ≡ old.names.names →
    ((column : ℕ) → column < columns_in (maker_of old) → truths_by new column ≡ truths_by old column) → (cut : Option ℕ) (lines : List (ℕ × List ℕ)) →
    ServesLines old cut lines → ServesLines new cut lines
serves_still old new own quiet text names truths cut lines (d, served) =
    let v : Valuations = valuations_by old in
    let is : IsServed old.quiet v d new.names.names (truths_by new) cut lines =
    served_alike old.quiet v d old.names.names new.names.names (truths_by old) (truths_by new) cut lines names
    (λ column inside. truths column (inside_columns old own column inside)) served in (
      d,
      subst (λ (quiet_now : Bool). IsServed quiet_now (valuations_by new) d new.names.names (truths_by new) cut lines) (sym quiet)
          (subst (λ (valuations : Valuations). IsServed old.quiet valuations d new.names.names (truths_by new) cut lines) (sym (valuations_stay old new quiet text)) is),
    )

-- a line that isn't read isn't accepted
pub unread_refused : (code : Option FaultCode) → turn_unread code ≢ Ok Accepted
unread_refused None is = absurd (cc)
unread_refused (Some code) is = absurd (cc)
