-- A line that was broken off: what was heard is a front of what some run of it and the lines behind it tells. A session has one of these at each fault:
-- before the line told anything; in the midst of what it tells, if that is known whole; or in the midst of a command whose lines are told as they come.
use Rattle.std.proofs.Common.{◌≡◌, ◌≢◌, ℕ, ◌<◌, ◌≤◌, ◌⊎◌, inl, inr, false, Bool, List, [], ◌∷◌, ◌++◌, Option, None, Some, Ok, refl, sym, ap, ap₂, subst, ◌∙◌, append_assoc, arith}
use Rattle.std.proofs.lemmas.Bool.{cases_lt}
use Rattle.line_words.specs.Files.{is_cut}
use Rattle.netlist.specs.Circuits.{CircuitData}
use Rattle.group_text.specs.Texts.{GroupTextData}
use Rattle.told_lines.specs.Lines.{Line}
use Rattle.told_lines.specs.Hearing.{HearsFront}
use Rattle.script_lang.specs.declared.command.Command.TheVariants as family
use Rattle.script_lang.specs.declared.command.Run.TheVariants.{Cycle}
use Rattle.session_meaning.specs.Sessions.{ClockData, IsReady, SessionData, places_of}
use Rattle.session_meaning.specs.Preparing.{IsBuild}
use Rattle.session_meaning.specs.Refusals.{refusal_of, refusal_of_run}
use Rattle.session_meaning.specs.Effects.{AreBeats, places_in}
use Rattle.session_meaning.proofs.EffectLemmas.{beats-ready, beats_exist}
use Rattle.session_meaning.proofs.OutcomeLemmas.{built_performs}
use Rattle.script_meaning.specs.FirstRefused.{IsObeyed}
use Rattle.script_meaning.specs.FirstRefused.IsObeyed.{done as done_so}
use Rattle.symbol_script.specs.declared.line.Assignment.{Assignment}
use Rattle.symbol_script.specs.declared.line.SymbolLine.{SymbolLine}
use Rattle.symbol_script.specs.declared.line.SymbolLine.TheVariants as asks
use Rattle.symbol_script.specs.declared.line.ValueVerb.TheVariants.{Expect}
use Rattle.symbol_script.specs.Lines.{symbol_reading_of}
use Rattle.symbol_meaning.specs.Readings.{Valuations, command_under, reading_under}
use Rattle.symbol_meaning.specs.Told.{SymbolTold}
use Rattle.symbol_meaning.specs.Merging.{AreMerged, AreToldOf, Merges}
use Rattle.symbol_meaning.specs.Runs.{asked_in, IsObeyedInAll}
use Rattle.symbol_told.specs.Lines.{Telling}
use Rattle.symbol_told.specs.Printing.{lines_told}
use Rattle.symbol_run.specs.Turns.{BreaksLine}
use Rattle.symbol_outcomes.specs.Families.{IsFamily}
use Rattle.symbol_outcomes.proofs.LineLemmas.{lines_with}
use Rattle.symbol_outcomes.proofs.MergeLemmas.{merged_first}
use Rattle.symbol_outcomes.proofs.RunLemmas.{lines_run, runs_first}
use Rattle.symbol_outcomes.proofs.ToldLemmas.{are_told, are_told-append, front_of_more, lines_before, tellings_of}

-- what is told of lines that aren't those of an `expect`
merges_lines : (v : Valuations) (old : ℕ → SessionData) (asked : Option SymbolLine) (lines : ℕ → List Line) (told : List SymbolTold) →
    ((list : List Assignment) → asked ≢ Some (asks.Values Expect list)) → AreMerged v.columns lines told → Merges v old asked lines told
merges_lines v old (Some (asks.Values Expect list)) lines told other merged = absurd (other list refl)
merges_lines v old asked lines told other merged = merged

-- ---- phases

-- phases at some places, and then at others
beats-append : (done left : List ℕ) (old mid new : SessionData) (lines more : List Line) → AreBeats old done mid lines → AreBeats mid left new more →
    AreBeats old (done ++ left) new (lines ++ more)
beats-append [] left old mid new lines more (same, none) later =
    subst (λ (all : List Line). AreBeats old left new (all ++ more)) (sym none) (subst (λ (session : SessionData). AreBeats session left new more) same later)
beats-append (place ∷ done) left old mid new lines more (next, front, back, phase, beats, whole) later = (
  next,
  front,
  back ++ more,
  phase,
  beats-append done left next mid new back more beats later,
  ap (λ (all : List Line). all ++ more) whole ∙ append_assoc front back more,
)

-- a build keeps the data ready
built-ready : (old mid : SessionData) (texts : List GroupTextData) → IsBuild old mid texts → IsReady old → IsReady mid
built-ready old mid texts build ready =
    rw build.used (record { netlist = ready.netlist; states = ready.states; sound = ready.sound; free = ready.free; saved = ready.saved })

-- the phases at the places that are left, in a column; of a number that is no column's nothing is said
record LeftIn (columns : ℕ) (left : List ℕ) (session : SessionData) (column : ℕ) : Type 0 where
  end : SessionData
  lines : List Line
  beats : column < columns → AreBeats session left end lines

left_in : (columns : ℕ) (left : List ℕ) (session : SessionData) (column : ℕ) → (column < columns → IsReady session) → LeftIn columns left session column
left_in columns left session column ready = by (cases_lt column columns)
  where
    by : ((column < columns) ⊎ (columns ≤ column)) → LeftIn columns left session column
    by (inl inside) =
        let (end, lines, beats) = beats_exist left session (ready inside) in
        record { end = end; lines = lines; beats = λ within. beats }
    by (inr past) = record { end = session; lines = []; beats = λ inside. absurd (omega (arith, past, inside)) }

-- ---- what was heard

module _ {H : Type 0} (hear : H → Telling → H) (part : H → Telling → H → Type 0) (quiet : Bool) (v : Valuations) (cut : Option ℕ) (old : ℕ → SessionData)
    (columns : IsFamily v.columns old) (before after : H) where
  -- nothing was heard yet, whatever the line is and those behind it
  pub breaks_unheard : (lines : List (ℕ × List ℕ)) → after ≡ before → BreaksLine hear part quiet v cut old lines before after
  breaks_unheard lines same = record {
    told = [];
    heard = inl ([], record { done = []; split = refl; heard = same });
    runs = lines_run quiet v cut old columns lines;
  }

  module _ (line : ℕ × List ℕ) (rest : List (ℕ × List ℕ)) (told : List Telling) (texts : List GroupTextData) (heard : HearsFront hear part before after told)
      (new : ℕ → SessionData) where
    -- it would have been obeyed, and tells these first and then more
    breaks_first : (more : List SymbolTold) → IsObeyedInAll quiet v cut old line new (lines_told told ++ more) texts →
        BreaksLine hear part quiet v cut old (line ∷ rest) before after
    breaks_first more obeyed = record {
      told = told ++ tellings_of more;
      heard = front_of_more hear part before after told (tellings_of more) heard;
      runs = runs_first quiet v cut old columns new line rest (lines_told (told ++ tellings_of more)) texts
          (subst (λ (all : List SymbolTold). IsObeyedInAll quiet v cut old line new all texts) (sym (lines_before told more)) obeyed);
    }

    -- it would have been, and the first of the lines that the columns write are told together
    breaks_merged : (first others : ℕ → List Line) →
        ((column : ℕ) → column < v.columns → IsObeyed (reading_under quiet (v.values column)) cut (old column) line (new column) (first column ++ others column) texts) →
        ((list : List Assignment) → asked_in (symbol_reading_of quiet line.1) ≢ Some (asks.Values Expect list)) →
        AreMerged v.columns first (lines_told told) → BreaksLine hear part quiet v cut old (line ∷ rest) before after
    breaks_merged first others obeyed other merged =
        let all = λ (column : ℕ). first column ++ others column in
        let (more, whole) = merged_first v.columns columns.some (all 0) first others (lines_told told) merged
        (lines_with quiet v cut old columns line new all texts obeyed other) in
        breaks_first more (record {
          lines = all;
          each = obeyed;
          merged = merges_lines v old (asked_in (symbol_reading_of quiet line.1)) all (lines_told told ++ more) other whole;
        })

  module _ (line : ℕ × List ℕ) (rest : List (ℕ × List ℕ)) (new : ℕ → SessionData) (told : List Telling) (texts : List GroupTextData)
      (heard : HearsFront hear part before after told) where
    -- the line would have been obeyed in all columns, and of what it tells a front was heard
    pub breaks_behind : IsObeyedInAll quiet v cut old line new (lines_told told) texts → BreaksLine hear part quiet v cut old (line ∷ rest) before after
    breaks_behind obeyed = record {
      told = told;
      heard = heard;
      runs = runs_first quiet v cut old columns new line rest (lines_told told) texts obeyed;
    }

    -- it would have been, and the first of the lines that the columns write are told together; of that a front was heard
    pub breaks_within : (first others : ℕ → List Line) →
        ((column : ℕ) → column < v.columns → IsObeyed (reading_under quiet (v.values column)) cut (old column) line (new column) (first column ++ others column) texts) →
        ((list : List Assignment) → asked_in (symbol_reading_of quiet line.1) ≢ Some (asks.Values Expect list)) →
        AreMerged v.columns first (lines_told told) → BreaksLine hear part quiet v cut old (line ∷ rest) before after
    breaks_within = breaks_merged line rest told texts heard new

    -- it is an `expect`, which would have been obeyed; the first of its assignments were looked at, and of what is told of these a front was heard
    pub breaks_expecting : (lines : ℕ → List Line) (done left : List Assignment) →
        ((column : ℕ) → column < v.columns → IsObeyed (reading_under quiet (v.values column)) cut (old column) line (new column) (lines column) texts) →
        asked_in (symbol_reading_of quiet line.1) ≡ Some (asks.Values Expect (done ++ left)) →
        AreToldOf v old done (lines_told told) → BreaksLine hear part quiet v cut old (line ∷ rest) before after
    breaks_expecting lines done left obeyed asked are =
        let (more, later) = are_told v old left in
        breaks_first line rest told texts heard new more (record {
          lines = lines;
          each = obeyed;
          merged = subst (λ (own : Option SymbolLine). Merges v old own lines (lines_told told ++ more)) (sym asked)
              (are_told-append v old done left (lines_told told) more are later);
        })

    -- it is a `cycle`, which isn't refused; the circuit was built in all columns, and the phases at the first places were done, with these lines; of what
    -- is told of them together a front was heard. A phase at a further place may have been begun
    pub breaks_cycling : (times : ℕ) (mid : ℕ → SessionData) (done left : List ℕ) (lines : ℕ → List Line) → is_cut cut line.0 ≡ false →
        symbol_reading_of quiet line.1 ≡ Ok (Some (asks.Plain (family.Run (Cycle times)))) →
        refusal_of (old 0) (family.Run (Cycle times)) ≡ None →
        ((column : ℕ) → column < v.columns → IsBuild (old column) (mid column) texts) →
        places_in (places_of (old 0).clocks) times ≡ done ++ left →
        ((column : ℕ) → column < v.columns → AreBeats (mid column) done (new column) (lines column)) →
        AreMerged v.columns lines (lines_told told) → BreaksLine hear part quiet v cut old (line ∷ rest) before after
    breaks_cycling times mid done left lines inside asked allowed built split beats merged =
        breaks_merged line rest told texts heard (λ (column : ℕ). (own column).end) lines (λ (column : ℕ). (own column).lines) obeyed other merged
      where
        own : (column : ℕ) → LeftIn v.columns left (new column) column
        own column = left_in v.columns left (new column) column (λ within.
            beats-ready done (mid column) (new column) (lines column) (beats column within)
            (built-ready (old column) (mid column) texts (built column within) (columns.ready column within)))

        clocks_are : (column : ℕ) → column < v.columns → (mid column).clocks ≡ (old 0).clocks
        clocks_are column within =
            ap (λ (session : SessionData). session.clocks) (built column within).used ∙ (columns.alike 0 column columns.some within).clocks

        unrefused : (column : ℕ) → column < v.columns → refusal_of (old column) (family.Run (Cycle times)) ≡ None
        unrefused column within =
            let alike = columns.alike 0 column columns.some within in
            ap₂ (λ (c : CircuitData) (clocks : List ClockData). refusal_of_run c clocks (Cycle times)) alike.circuit alike.clocks ∙ allowed

        effect : (column : ℕ) → column < v.columns →
            AreBeats (mid column) (places_in (places_of (mid column).clocks) times) (own column).end (lines column ++ (own column).lines)
        effect column within =
            subst (λ (places : List ℕ). AreBeats (mid column) places (own column).end (lines column ++ (own column).lines))
            (sym (ap (λ (clocks : List ClockData). places_in (places_of clocks) times) (clocks_are column within) ∙ split))
            (beats-append done left (mid column) (new column) (own column).end (lines column) (own column).lines (beats column within) ((own column).beats within))

        obeyed : (column : ℕ) → column < v.columns →
            IsObeyed (reading_under quiet (v.values column)) cut (old column) line (own column).end (lines column ++ (own column).lines) texts
        obeyed column within =
            done_so (family.Run (Cycle times)) (own column).end (lines column ++ (own column).lines) texts
            (record { inside = inside; asked = ap (command_under (v.values column) (old column).circuit (old column).vectors) asked })
            (built_performs (old column) (mid column) (own column).end (family.Run (Cycle times)) (lines column ++ (own column).lines) texts refl
            (built column within) (unrefused column within) (effect column within))

        other : (list : List Assignment) → asked_in (symbol_reading_of quiet line.1) ≢ Some (asks.Values Expect list)
        other list same =
            let plain : Some (asks.Plain (family.Run (Cycle times))) ≡ Some (asks.Values Expect list) = sym (ap asked_in asked) ∙ same in
            cc plain
