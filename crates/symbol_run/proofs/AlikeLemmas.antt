-- Columns whose data are the same run alike: what a script does goes by the data of the columns that there are.
use Rattle.std.proofs.Common.{◌≡◌, ℕ, ◌<◌, Bool, List, [], ◌∷◌, Option, None, Some, sym, ap, subst, ◌∙◌, arith}
use Rattle.group_text.specs.Texts.{GroupTextData}
use Rattle.told_lines.specs.Lines.{Line}
use Rattle.session_meaning.specs.Sessions.{SessionData}
use Rattle.session_meaning.specs.Effects.{unmet_line}
use Rattle.node_values.specs.Givings.{is_vector}
use Rattle.script_meaning.specs.Runs.{IsRefused, RefusedLine}
use Rattle.script_meaning.specs.FirstRefused.{IsObeyed}
use Rattle.symbol_script.specs.declared.line.Assignment.{Assignment}
use Rattle.symbol_script.specs.declared.line.SymbolLine.{SymbolLine}
use Rattle.symbol_script.specs.declared.line.SymbolLine.TheVariants as asks
use Rattle.symbol_script.specs.declared.line.ValueVerb.TheVariants.{Set, Charge, Expect}
use Rattle.symbol_script.specs.Lines.{symbol_reading_of}
use Rattle.symbol_meaning.specs.Readings.{Valuations, plain_under, reading_under}
use Rattle.symbol_meaning.specs.Told.{SymbolTold, Unmet}
use Rattle.symbol_meaning.specs.Merging.{is_formula, unmet_in, wanted_text, AreToldOf, IsToldOf, Merges}
use Rattle.symbol_meaning.specs.Runs.{asked_in, IsObeyedInAll, RunsInAll}
use Rattle.symbol_meaning.specs.Runs.RunsInAll.{ends, obeys, refuses}

module _ (v : Valuations) (one other : ℕ → SessionData) (same : (column : ℕ) → column < v.columns → one column ≡ other column) where
  -- an assignment is met in both, or in neither
  unmet_alike : (own : Assignment) (column : ℕ) → column < v.columns → unmet_in v one own column ≡ unmet_in v other own column
  unmet_alike own column inside =
      ap (λ (session : SessionData). unmet_line session (plain_under (v.values column) session.circuit session.vectors own)) (same column inside)

  -- so the same is told of it
  told_of_alike : (own : Assignment) (told : List SymbolTold) → IsToldOf v one own told → IsToldOf v other own told
  told_of_alike own [] is = λ column inside. sym (unmet_alike own column inside) ∙ is column inside
  told_of_alike own (told ∷ []) is = record {
    column = is.column;
    inside = is.inside;
    met_before = λ earlier before. sym (unmet_alike own earlier (omega (arith, before, is.inside))) ∙ is.met_before earlier before;
    name = is.name;
    wanted = is.wanted;
    got = is.got;
    n = is.n;
    unmet = sym (unmet_alike own is.column is.inside) ∙ is.unmet;
    told_is = is.told_is ∙ ap (λ (session : SessionData).
        Unmet is.name (wanted_text (is_vector session.circuit session.vectors own.name) (is_formula own.value) own.text is.wanted) is.got is.n
        (v.truths is.column)) (same is.column is.inside);
  }
  told_of_alike own (told ∷ next ∷ more) is = absurd is

  are_told_alike : (list : List Assignment) (told : List SymbolTold) → AreToldOf v one list told → AreToldOf v other list told
  are_told_alike [] told is = is
  are_told_alike (own ∷ list) told (first, rest, is, later, whole) = (first, rest, told_of_alike own first is, are_told_alike list rest later, whole)

  -- and of each line
  merges_alike : (asked : Option SymbolLine) (lines : ℕ → List Line) (told : List SymbolTold) → Merges v one asked lines told → Merges v other asked lines told
  merges_alike None lines told is = is
  merges_alike (Some (asks.Values Set list)) lines told is = is
  merges_alike (Some (asks.Values Charge list)) lines told is = is
  merges_alike (Some (asks.Values Expect list)) lines told is = are_told_alike list told is
  merges_alike (Some (asks.Names command)) lines told is = is
  merges_alike (Some (asks.Plain command)) lines told is = is

  module _ (quiet : Bool) (cut : Option ℕ) where
    obeyed_alike : (line : ℕ × List ℕ) (new : ℕ → SessionData) (told : List SymbolTold) (texts : List GroupTextData) →
        IsObeyedInAll quiet v cut one line new told texts → IsObeyedInAll quiet v cut other line new told texts
    obeyed_alike line new told texts is = record {
      lines = is.lines;
      each = λ column inside. subst (λ (session : SessionData).
          IsObeyed (reading_under quiet (v.values column)) cut session line (new column) (is.lines column) texts) (same column inside) (is.each column inside);
      merged = merges_alike (asked_in (symbol_reading_of quiet line.1)) is.lines told is.merged;
    }

    -- lines run from the data of the one as from those of the other
    pub runs_alike : (lines : List (ℕ × List ℕ)) (new : ℕ → SessionData) (told : List SymbolTold) (texts : List GroupTextData) (last : Option RefusedLine) →
        RunsInAll quiet v cut one lines new told texts last → (end : ℕ → SessionData) × RunsInAll quiet v cut other lines end told texts last
    runs_alike lines new told texts last (ends _) = (other, ends other)
    runs_alike lines new told texts last (obeys _ mid _ line rest own more here others _ is later) =
        (new, obeys other mid new line rest own more here others last (obeyed_alike line mid own here is) later)
    runs_alike lines new told texts last (refuses _ line rest cause is) = (
      other,
      refuses other line rest cause (λ column inside.
          subst (λ (session : SessionData). IsRefused (reading_under quiet (v.values column)) cut session line cause) (same column inside) (is column inside)),
    )
