-- What the lines of a script are judged by, however their run ends.
-- The plan: at the end, or at a refused line, by the comparison of all that they told with the good rows. Where it ends early something comes of
-- the lines that are left, for which nothing is analysed, and after which the same is kept: so a strong difference that shows by then is the
-- verdict on the whole, and all else that is told of it is known.
use Rattle.std.proofs.Common.{◌≡◌, ℕ, Bool, true, List, [], ◌∷◌, ◌++◌, All, Option, None, Some, is_some, Result, Ok, Err, IfOk, refl, sym, ap, subst, ◌∙◌, append-nil, append_assoc}
use Rattle.std.specs.Option.{option_map}
use Rattle.std.proofs.lemmas.List.{map-append}
use Rattle.ternary.specs.declared.tern.Tern.{Tern}
use Rattle.line_words.specs.Files.{cut_line, lines_in}
use Rattle.group_text.specs.Texts.{GroupTextData}
use Rattle.circuit_texts.specs.declared.texts.BuildFault.{BuildFault}
use Rattle.told_lines.specs.Lines.{Line, Told}
use Rattle.told_lines.specs.Noting.{WaveRowData, rows_in, rows_of, states_of}
use Rattle.session_meaning.specs.Sessions.{SessionData}
use Rattle.script_meaning.specs.declared.turn.Turn.{Turn}
use Rattle.script_meaning.specs.declared.turn.Turn.TheVariants.{Accepted, Refused, TooLarge}
use Rattle.run_ends.specs.Causes.{plain_cause}
use Rattle.script_meaning.specs.Runs.{RefusedLine, after_command}
use Rattle.script_meaning.specs.Turns.{TakesTurn}
use Rattle.script_meaning.specs.Halts.{HasObeyed, HasOutgrown}
use Rattle.script_meaning.proofs.RunLemmas.{HasCome, comes_to, comes_on, halts_refused, halts_large, halts_end, outcome_exists}
use Rattle.run_ends.proofs.SizeLemmas.{size_caused}
use Rattle.fault_sim.specs.declared.verdicts.Verdict.{Verdict}
use Rattle.fault_sim.specs.declared.verdicts.Verdict.TheVariants.{Detected}
use Rattle.fault_sim.specs.Masks.{masked_reading}
use Rattle.fault_sim.specs.Traces.{Trace, IsVerdict}
use Rattle.told_verdicts.specs.declared.compare.Place.{Place}
use Rattle.told_verdicts.specs.Comparing.{CompareData, compared, uncompared, verdict_by}
use Rattle.told_verdicts.proofs.ComparingLemmas.{verdicts_compared}
use Rattle.fault_meaning.specs.Early.{IsCalm, is_from, verdict_of, IsEarly, TellsAfter, JudgesLines}
use Rattle.fault_meaning.proofs.ReadingLemmas.{masked-sound}
use Rattle.fault_meaning.proofs.RunLemmas.{trace_of, shows_so}
use Rattle.fault_meaning.proofs.CalmLemmas.{IsCurrent, runs_calm}
use Rattle.fault_meaning.proofs.DetectedLemmas.{detected_in_all}
use Rattle.fault_meaning.proofs.PlaceLemmas.{IsPlaced, placed_on, calm_here}

-- the rows of lines and of others behind them
rows_of-append : (front back : List Line) → rows_of (front ++ back) ≡ rows_of front ++ rows_of back
rows_of-append [] back = refl
rows_of-append (line ∷ front) back =
    ap (λ (rows : List WaveRowData). rows_in line ++ rows) (rows_of-append front back)
    ∙ sym (append_assoc (rows_in line) (rows_of front) (rows_of back))

-- so it is with the states that they show
shown-append : (front back : List Line) → states_of (rows_of (front ++ back)) ≡ states_of (rows_of front) ++ states_of (rows_of back)
shown-append front back = ap states_of (rows_of-append front back) ∙ map-append (λ (row : WaveRowData). row.values) (rows_of front) (rows_of back)

module _ (stuck : Option (ℕ × Tern)) (script : List ℕ) (start : SessionData) (good : Trace) (rows : List WaveRowData) (same_rows : good.rows ≡ states_of rows)
    (new : SessionData) (now : CompareData) (asked told : List GroupTextData) where
  -- the lines were obeyed to the end, or to a line that is refused
  judged_obeyed : (refused : Option ℕ) (last : Option RefusedLine) → option_map (λ stopped. stopped.line) last ≡ refused →
      HasObeyed compared (masked_reading stuck) (cut_line script) start (lines_in script) new (uncompared rows) now asked told last →
      JudgesLines stuck script start good new asked told (verdict_of now refused)
  judged_obeyed refused last same obeyed =
      let outcome = obeyed.outcome in
      let bad = trace_of outcome in
      let shows = shows_so outcome in
      let stopped : bad.refused ≡ refused =
      shows.refused ∙ ap (option_map (λ (stopped : RefusedLine). stopped.line)) obeyed.stopped ∙ same in
      record {
        outcome = outcome;
        runs = obeyed.runs;
        bad = bad;
        shows = shows;
        judged = subst (λ (at : Option ℕ). IsVerdict good bad (verdict_of now at)) stopped
            (subst (λ (end : CompareData). IsVerdict good bad (verdict_of end bad.refused)) (sym obeyed.heard)
            (verdicts_compared good bad rows 0 outcome.lines same_rows shows.rows));
        analysed = obeyed.analysed;
        left = ap (λ (end : SessionData). end.kept) (sym obeyed.reached);
      }

  -- they were obeyed to a line for whose command the circuit is too large
  judged_outgrown : (number : ℕ) (size : BuildFault) →
      HasOutgrown compared (masked_reading stuck) (cut_line script) start (lines_in script) new (uncompared rows) now asked told number size →
      JudgesLines stuck script start good new asked told (verdict_of now (Some number))
  judged_outgrown number size outgrown =
      let caused = size_caused new.large new.circuit size outgrown.first in
      judged_obeyed (Some number) (Some (record { line = number; cause = caused.0 })) refl
      (outgrown.halted size caused.0 outgrown.first caused.1)

-- the trace of lines that no refusal ended
abbrev trace_so_far : List Line → Trace
trace_so_far lines = record { rows = states_of (rows_of lines); names = []; refused = None }

-- the lines so far were obeyed, which show a strong difference, and all that are left are calm
module _ (stuck : Option (ℕ × Tern)) (script : List ℕ) (start : SessionData) (good : Trace) (rows : List WaveRowData) (same_rows : good.rows ≡ states_of rows)
    (new : SessionData) (left : List (ℕ × List ℕ)) (now : CompareData) (asked told : List GroupTextData)
    (come : HasCome compared (masked_reading stuck) (cut_line script) start (lines_in script) (uncompared rows) asked new left now told) where
  -- it is detected in what was told so far
  detected_so_far : (place : Place) → now.strong ≡ Some place → IsVerdict good (trace_so_far come.lines) (Detected place.row place.entry)
  detected_so_far place is =
      subst (λ (found : Option Place). IsVerdict good (trace_so_far come.lines) (verdict_by found None now.weak)) is
      (subst (λ (end : CompareData). IsVerdict good (trace_so_far come.lines) (verdict_of end None)) (sym come.heard)
      (verdicts_compared good (trace_so_far come.lines) rows 0 come.lines same_rows refl))

  judged_early : IsCurrent new → All (λ (line : ℕ × List ℕ). IsCalm line.1) left → (place : Place) → now.strong ≡ Some place →
      JudgesLines stuck script start good new asked told (Detected place.row place.entry)
  judged_early current calm place is =
      let cut = cut_line script in
      let rest = outcome_exists (masked_reading stuck) (masked-sound stuck) cut left new come.ready in
      let still = runs_calm stuck cut new left rest.0 current calm rest.1 in
      let whole = after_command come.lines come.texts rest.0 in
      record {
        outcome = whole;
        runs = come.goes_on rest.0 rest.1;
        bad = trace_of whole;
        shows = shows_so whole;
        judged = detected_in_all good (trace_so_far come.lines) (trace_of whole) (states_of (rows_of rest.0.lines)) place.row place.entry
            ((shows_so whole).rows ∙ shown-append come.lines rest.0.lines) (detected_so_far place is);
        analysed = come.analysed ∙ ap (λ (texts : List GroupTextData). asked ++ texts)
            (sym (ap (λ (more : List GroupTextData). come.texts ++ more) still.0 ∙ append-nil come.texts));
        left = sym still.1;
      }

  -- the same by the verdict
  judged_so_far : IsCurrent new → All (λ (line : ℕ × List ℕ). IsCalm line.1) left → (calm : Bool) (verdict : Verdict) → IsEarly now calm verdict →
      JudgesLines stuck script start good new asked told verdict
  judged_so_far current lines calm verdict early =
      subst (JudgesLines stuck script start good new asked told) (sym early.judged) (by now.strong refl early.apart)
    where
      by : (found : Option Place) → now.strong ≡ found → is_some found ≡ true →
          JudgesLines stuck script start good new asked told (verdict_by found None now.weak)
      by None is apart = absurd (cc)
      by (Some place) is apart = judged_early current lines place is

-- what holds of each value under one fact holds of a result
pub ok_weaker : {T E : Type 0} (P Q : T → Type 0) (result : Result T E) → ((value : T) → P value → Q value) → IfOk result P → IfOk result Q
ok_weaker P Q (Ok value) weaker is = weaker value is
ok_weaker P Q (Err fault) weaker is = tt

-- a run that goes on after a line has accepted it
still_accepted : (now : CompareData) (number : ℕ) (calm : Bool) (turn : Turn) → TellsAfter now turn number calm None → turn ≡ Accepted
still_accepted now number calm Accepted tells = refl
still_accepted now number calm (Refused code) tells = absurd (cc)
still_accepted now number calm (TooLarge size) tells = absurd (cc)

-- ---- how a run ends

module _ (stuck : Option (ℕ × Tern)) (script : List ℕ) {cut : Option ℕ} (same_cut : cut ≡ cut_line script) {start : SessionData} (good : Trace)
    {rows : List WaveRowData} (same_rows : good.rows ≡ states_of rows) {asked : List GroupTextData} where
  -- at a line, after the lines before it
  module _ (part : CompareData → Told → CompareData → Type 0) (old : SessionData) {line : ℕ × List ℕ} {left : List (ℕ × List ℕ)} {now : CompareData}
      {told : List GroupTextData}
      (come : HasCome compared (masked_reading stuck) cut start (lines_in script) (uncompared rows) asked old (line ∷ left) now told)
      (new : SessionData) (more : CompareData) (further : List GroupTextData) where
    -- that was obeyed, and after which all is calm
    ended_early : (from : Option ℕ) (calm : Bool) (verdict : Verdict) → IsPlaced from (line ∷ left) old →
        TakesTurn compared part (masked_reading stuck) cut line old new now more told further (Ok Accepted) → calm ≡ is_from from line.0 →
        IsEarly more calm verdict → JudgesLines stuck script start good new asked further verdict
    ended_early from calm verdict placed turn is early =
        let here = calm_here compared part stuck cut from old new line left now more told further placed turn (sym is ∙ early.still) in
        let next = comes_on part old come new more further {turn = Accepted} turn refl in
        judged_so_far stuck script start good rows same_rows new left more asked further
        (subst (λ at. HasCome compared (masked_reading stuck) at start (lines_in script) (uncompared rows) asked new left more further) same_cut next)
        here.0 here.1 calm verdict early

    -- or that is refused, also since the circuit is too large for its command
    ended_here : (from : Option ℕ) (calm : Bool) (verdict : Verdict) (turn : Turn) → IsPlaced from (line ∷ left) old →
        TakesTurn compared part (masked_reading stuck) cut line old new now more told further (Ok turn) → calm ≡ is_from from line.0 →
        TellsAfter more turn line.0 calm (Some verdict) → JudgesLines stuck script start good new asked further verdict
    ended_here from calm verdict Accepted placed turn is tells = ended_early from calm verdict placed turn is tells
    ended_here from calm verdict (Refused code) placed turn is tells =
        let same : verdict_of more (Some line.0) ≡ verdict = cc in
        subst (JudgesLines stuck script start good new asked further) same
        (judged_obeyed stuck script start good rows same_rows new more asked further (Some line.0)
        (Some (record { line = line.0; cause = plain_cause code })) refl
        (halts_refused part old come new more further {turn = Refused code} turn refl same_cut))
    ended_here from calm verdict (TooLarge size) placed turn is tells =
        let same : verdict_of more (Some line.0) ≡ verdict = cc in
        subst (JudgesLines stuck script start good new asked further) same
        (judged_outgrown stuck script start good rows same_rows new more asked further line.0 size
        (halts_large part old come new more further {turn = TooLarge size} turn refl same_cut))

  module _ (part : CompareData → Told → CompareData → Type 0) (old : SessionData) {line : ℕ × List ℕ} {left rest : List (ℕ × List ℕ)} {now : CompareData}
      {told : List GroupTextData} (come : HasCome compared (masked_reading stuck) cut start (lines_in script) (uncompared rows) asked old left now told)
      (steps : left ≡ line ∷ rest) (new : SessionData) (more : CompareData) (further : List GroupTextData) (from : Option ℕ)
      (placed : IsPlaced from left old) (calm : Bool) (turn : Turn)
      (takes : TakesTurn compared part (masked_reading stuck) cut line old new now more told further (Ok turn)) (found : Option Verdict)
      (tells : TellsAfter more turn line.0 calm found) where
    -- it ends with the verdict that was found
    pub ends_here : (verdict : Verdict) → found ≡ Some verdict → calm ≡ is_from from line.0 →
        JudgesLines stuck script start good new asked further verdict
    ends_here verdict is at =
        ended_here part old (comes_to come steps) new more further from calm verdict turn
        (subst (λ lines. IsPlaced from lines old) steps placed) takes at
        (subst (TellsAfter more turn line.0 calm) is tells)

    -- or goes on
    pub goes_past : found ≡ None →
        HasCome compared (masked_reading stuck) cut start (lines_in script) (uncompared rows) asked new rest more further × IsPlaced from rest new
    goes_past none =
        let accepted = still_accepted more line.0 calm turn (subst (TellsAfter more turn line.0 calm) none tells) in
        let accepts = subst (λ one. TakesTurn compared part (masked_reading stuck) cut line old new now more told further (Ok one)) accepted takes in (
          comes_on part old (comes_to come steps) new more further {turn = turn} takes accepted,
          placed_on compared part stuck cut from old new line rest now more told further (subst (λ lines. IsPlaced from lines old) steps placed) accepts,
        )

  -- after all lines
  pub ends_whole : {new : SessionData} {now : CompareData} {told : List GroupTextData} →
      HasCome compared (masked_reading stuck) cut start (lines_in script) (uncompared rows) asked new [] now told →
      JudgesLines stuck script start good new asked told (verdict_of now None)
  ends_whole {new = new} {now = now} {told = told} come =
      judged_obeyed stuck script start good rows same_rows new now asked told None None refl (halts_end come same_cut)
