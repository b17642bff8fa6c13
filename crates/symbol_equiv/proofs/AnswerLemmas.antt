-- The answer of two runs that are compared, from what each came to and what was written of it.
use Rattle.std.proofs.Common.{◌≡◌, ℕ, ◌<◌, true, false, inl, inr, List, [], ◌∷◌, ◌++◌, length, Option, None, Some, Result, Ok, Err, OnErr, OnOk, refl, sym, ap, ap₂, subst, ◌∙◌, append_assoc, true≢false}
use Rattle.std.specs.Io.KnownBytes.{append_known}
use Rattle.std.proofs.lemmas.Nat.{pow_pos}
use Rattle.ports.specs.Sending.{WritesPart}
use Rattle.ports.proofs.SendingLemmas.{append_known-append}
use Rattle.netlist.specs.Circuits.{CircuitData}
use Rattle.group_text.specs.Texts.{GroupTextData}
use Rattle.circuit_texts.specs.Sizes.{TellsRefused}
use Rattle.truth_makers.specs.declared.symbols.Symbols.{Symbols}
use Rattle.truth_makers.specs.Makers.{columns_in}
use Rattle.run_ends.specs.declared.stop.End as end
use Rattle.run_ends.specs.declared.stop.End.TheVariants as ended
use Rattle.run_ends.specs.declared.stop.Stop.{Stop}
use Rattle.run_ends.specs.Answers.{Answer, IsBegun}
use Rattle.run_ends.specs.Causes.{plain_cause, size_cause}
use Rattle.run_ends.specs.Ends.{status_of}
use Rattle.session_meaning.specs.Sessions.{SessionData, places_of}
use Rattle.script_meaning.specs.declared.halt.Halt.{Halt}
use Rattle.script_meaning.specs.declared.halt.Halt.TheVariants.{End, Refused, TooLarge}
use Rattle.script_meaning.specs.Runs.{RefusedLine}
use Rattle.symbol_lines.specs.declared.names.NameFault.{NameFault}
use Rattle.symbol_lines.specs.Names.{no_names}
use Rattle.symbol_meaning.specs.Readings.{Valuations, reading_under, valuations_of}
use Rattle.symbol_meaning.specs.Scripts.{NamedStop, asked_lines, before_stop, read_of, stop_of, variables_of}
use Rattle.symbol_meaning.specs.Told.{SymbolTold}
use Rattle.symbol_meaning.specs.Runs.{end_text, RunsInAll}
use Rattle.symbol_meaning.specs.Comparing.{Difference, Shown, compared_answer, compared_text, refused_answer, AreCompared, IsEnded, IsEqualAnswer, RunsIn, ShowsIn, ShowsWaves}
use Rattle.symbol_meaning.specs.Comparing.IsEqualAnswer.{compared, refused_first, refused_second}
use Rattle.symbol_told.specs.Noting.{NotesData}
use Rattle.symbol_comparing.specs.Notes.{heads_of, names_of, rails_in, shown_in, AreNoted}
use Rattle.symbol_comparing.specs.Rails.{letters_in}
use Rattle.symbol_comparing.specs.Told.{end_by, AreValuationsOf, TellsSome}
use Rattle.symbol_run.specs.Answers.{cause_text, is_whole, names_text, size_text, HasEnding}
use Rattle.symbol_run.proofs.AlikeLemmas.{runs_alike}
use Rattle.symbol_run.proofs.AnswerLemmas.{first_known, named_alike}
use Rattle.symbol_equiv.specs.declared.fault.EqualFault.{EqualFault}
use Rattle.symbol_equiv.specs.declared.fault.EqualFault.TheVariants as fault
use Rattle.symbol_equiv.specs.Ends.{first_net, second_net, ComparesAs, IsEqualBy, IsRefusedPart, IsRefusedRun, IsRunTo, NotesRun, RunsAs, StartAlike}
use Rattle.symbol_equiv.specs.Notes.{StillShow}
use Rattle.symbol_equiv.specs.Runs.{HaltsWith, RunsNoted}
use Rattle.symbol_equiv.specs.Words.{all_watched}
use Rattle.symbol_equiv.proofs.HeadLemmas.{heads_from, heads_noted, heads_of_run}
use Rattle.symbol_equiv.proofs.KeptLemmas.{shown_still, valued_later}

-- the valuations of a quiet script
abbrev pub v_of : Option ℕ → List (ℕ × List ℕ) → Valuations
v_of cut lines = valuations_of (read_of true cut lines)

-- there is a column
pub some_column : (cut : Option ℕ) (lines : List (ℕ × List ℕ)) → 0 < (v_of cut lines).columns
some_column cut lines = pow_pos (length (variables_of (read_of true cut lines)))

-- the line of a refusal by names is that of the script's answer
names_ended : (cut : Option ℕ) (lines : List (ℕ × List ℕ)) (stop : Option NamedStop) → stop ≡ stop_of true cut lines → names_text stop ≡ end_text None stop
names_ended cut lines None is = refl
names_ended cut lines (Some (number, why)) is =
    named_alike (number, why) (λ same. first_known no_names (asked_lines true cut lines) number (sym is ∙ ap (λ (own : NameFault). Some (number, own)) same))

-- ---- one run

-- it came to a refusal, whose line has this text
pub record RefusedTo (cut : Option ℕ) (start : SessionData) (lines : List (ℕ × List ℕ)) (asked known : List GroupTextData) (text : List ℕ) : Type 0 where
  pub last : Option RefusedLine
  pub texts : List GroupTextData
  pub run : IsRunTo cut start lines last texts
  pub analysed : known ≡ asked ++ texts
  pub same : text ≡ end_text last (stop_of true cut lines)

module _ (cut : Option ℕ) (start : SessionData) (lines : List (ℕ × List ℕ)) (first : ℕ → SessionData)
    (starts : (column : ℕ) → column < (v_of cut lines).columns → first column ≡ start) (stop : Option NamedStop) (stopped : stop ≡ stop_of true cut lines) where
  -- a run from the session's data is one from the start
  runs_in : (new : ℕ → SessionData) (told : List SymbolTold) (texts : List GroupTextData) (last : Option RefusedLine) →
      RunsInAll true (v_of cut lines) cut first (before_stop stop lines) new told texts last → RunsIn cut start lines last texts
  runs_in new told texts last is =
      let (reached, runs) = runs_alike (v_of cut lines) first (λ column. start) starts true cut (before_stop stop lines) new told texts last is in record {
        end = reached;
        told = told;
        runs = subst (λ (own : Option NamedStop). RunsInAll true (v_of cut lines) cut (λ column. start) (before_stop own lines) reached told texts last) stopped runs;
      }

  -- how lines end that aren't obeyed to the end
  pub refused_to : (new : ℕ → SessionData) (circuit : CircuitData) (asked known : List GroupTextData) (halt : Halt) →
      ((column : ℕ) → column < (v_of cut lines).columns → (new column).circuit ≡ circuit) → is_whole halt stop ≡ false →
      HaltsWith true (v_of cut lines) cut first (before_stop stop lines) new asked known halt → RefusedTo cut start lines asked known (cause_text circuit halt stop)
  refused_to new circuit asked known End same whole run = record {
    last = None;
    texts = run.texts;
    run = record { runs = runs_in run.end _ run.texts None run.runs; ended = some_stop stop whole stopped };
    analysed = run.analysed;
    same = names_ended cut lines stop stopped ∙ ap (end_text None) stopped;
  }
    where
      some_stop : (own : Option NamedStop) → is_whole End own ≡ false → own ≡ stop_of true cut lines → IsEnded None (stop_of true cut lines)
      some_stop None is same_stop = absurd (true≢false is)
      some_stop (Some named) is same_stop = subst (λ (other : Option NamedStop). IsEnded None other) same_stop tt
  refused_to new circuit asked known (Refused number code) same whole run = record {
    last = Some (record { line = number; cause = plain_cause code });
    texts = run.texts;
    run = record { runs = runs_in run.end _ run.texts (Some (record { line = number; cause = plain_cause code })) run.runs; ended = tt };
    analysed = run.analysed;
    same = refl;
  }
  refused_to new circuit asked known (TooLarge number large) same whole is =
      let named : size_cause circuit large ≡ Some is.cause =
      ap (λ (own : CircuitData). size_cause own large) (sym (same 0 (some_column cut lines))) ∙ is.named 0 (some_column cut lines) in record {
        last = Some (record { line = number; cause = is.cause });
        texts = is.run.texts;
        run = record { runs = runs_in is.run.end _ is.run.texts (Some (record { line = number; cause = is.cause })) is.run.runs; ended = tt };
        analysed = is.run.analysed;
        same = ap (size_text number) named;
      }

  -- no line is refused
  pub noted_run : (maker : Symbols) (new : ℕ → SessionData) (notes : NotesData) (asked known : List GroupTextData) (halt : Halt) → is_whole halt stop ≡ true →
      AreValuationsOf maker (v_of cut lines) → RunsNoted maker true (v_of cut lines) cut first (before_stop stop lines) new notes asked known halt →
      NotesRun cut start lines maker notes asked known
  noted_run maker new notes asked known End whole valued run = record {
    texts = run.halts.texts;
    runs = runs_in run.halts.end _ run.halts.texts None run.halts.runs;
    by_names = sym stopped ∙ none;
    analysed = run.halts.analysed;
    valued = valued;
    whole = run.ends.whole;
    names = run.ends.names ∙ ap (all_watched true) all;
    shows = λ column inside.
        let (reached, shows) = run.ends.shows column inside in (
          reached,
          subst (λ (session : SessionData). ShowsWaves (reading_under true ((v_of cut lines).values column)) cut [] session lines reached (shown_in maker notes column))
              (starts column inside)
              (subst (λ (own : List (ℕ × List ℕ)). ShowsWaves (reading_under true ((v_of cut lines).values column)) cut [] (first column) own reached
              (shown_in maker notes column)) all shows),
        );
  }
    where
      none_named : (own : Option NamedStop) → is_whole End own ≡ true → own ≡ None
      none_named None is = refl
      none_named (Some named) is = absurd (true≢false (sym is))

      none : stop ≡ None
      none = none_named stop whole

      all : before_stop stop lines ≡ lines
      all = ap (λ (own : Option NamedStop). before_stop own lines) none
  noted_run maker new notes asked known (Refused number code) whole valued run = absurd (true≢false (sym whole))
  noted_run maker new notes asked known (TooLarge number large) whole valued run = absurd (true≢false (sym whole))

-- the first group that is too large is one of the circuit
ends_there : (cut : Option ℕ) (lines : List (ℕ × List ℕ)) (first : ℕ → SessionData) (stop : Option NamedStop) (new : ℕ → SessionData) (circuit : CircuitData)
    (asked known : List GroupTextData) (halt : Halt) → ((column : ℕ) → column < (v_of cut lines).columns → (new column).circuit ≡ circuit) →
    HaltsWith true (v_of cut lines) cut first (before_stop stop lines) new asked known halt → HasEnding circuit halt
ends_there cut lines first stop new circuit asked known End same run = tt
ends_there cut lines first stop new circuit asked known (Refused number code) same run = tt
ends_there cut lines first stop new circuit asked known (TooLarge number large) same is = (
  (new 0).large,
  subst (λ (own : CircuitData). TellsRefused (new 0).large own.graph large) (same 0 (some_column cut lines)) (is.first 0 (some_column cut lines)),
)

-- ---- by what is known of the session

module _ (cut : Option ℕ) (start : SessionData) (lines : List (ℕ × List ℕ)) (first new : ℕ → SessionData) (stop : Option NamedStop)
    (stopped : stop ≡ stop_of true cut lines) (asked known : List GroupTextData) (halt : Halt) (v : Valuations) (same : v ≡ v_of cut lines) where
  -- no line is refused
  abbrev NotedBy : Symbols → NotesData → Valuations → Type 0
  NotedBy maker notes own = ((column : ℕ) → column < own.columns → first column ≡ start) → AreValuationsOf maker own →
      RunsNoted maker true own cut first (before_stop stop lines) new notes asked known halt → NotesRun cut start lines maker notes asked known

  pub noted_by : (maker : Symbols) (notes : NotesData) → is_whole halt stop ≡ true → NotedBy maker notes v
  noted_by maker notes whole =
      subst (NotedBy maker notes) (sym same) (λ starts valued run. noted_run cut start lines first starts stop stopped maker new notes asked known halt whole valued run)

  -- one is
  abbrev RefusedBy : CircuitData → Valuations → Type 0
  RefusedBy circuit own = ((column : ℕ) → column < own.columns → first column ≡ start) →
      ((column : ℕ) → column < own.columns → (new column).circuit ≡ circuit) →
      HaltsWith true own cut first (before_stop stop lines) new asked known halt →
      RefusedTo cut start lines asked known (cause_text circuit halt stop)

  pub refused_by : (circuit : CircuitData) → is_whole halt stop ≡ false → RefusedBy circuit v
  refused_by circuit whole =
      subst (RefusedBy circuit) (sym same)
      (λ starts circuits run. refused_to cut start lines first starts stop stopped new circuit asked known halt circuits whole run)

  abbrev EndsBy : CircuitData → Valuations → Type 0
  EndsBy circuit own = ((column : ℕ) → column < own.columns → (new column).circuit ≡ circuit) →
      HaltsWith true own cut first (before_stop stop lines) new asked known halt → HasEnding circuit halt

  pub ends_by : (circuit : CircuitData) → EndsBy circuit v
  ends_by circuit = subst (EndsBy circuit) (sym same) (λ circuits run. ends_there cut lines first stop new circuit asked known halt circuits run)

-- notes that show the same over a later maker are such notes
pub notes_carried : (cut : Option ℕ) (start : SessionData) (lines : List (ℕ × List ℕ)) (maker last : Symbols) (notes later : NotesData)
    (asked known : List GroupTextData) → columns_in last ≡ columns_in maker → StillShow maker last notes later →
    NotesRun cut start lines maker notes asked known → NotesRun cut start lines last later asked known
notes_carried cut start lines maker last notes later asked known same still run = record {
  texts = run.texts;
  runs = run.runs;
  by_names = run.by_names;
  analysed = run.analysed;
  valued = valued_later maker last (v_of cut lines) same run.valued;
  whole = still.whole;
  names = ap names_of still.alike.words ∙ run.names;
  shows = λ column inside.
      let (reached, shows) = run.shows column inside in (
        reached,
        subst (λ (shown : List Shown). ShowsWaves (reading_under true ((v_of cut lines).values column)) cut [] start lines reached shown)
            (sym (shown_still maker last notes later still column (subst (λ (n : ℕ). column < n) run.valued.columns inside))) shows,
      );
}

-- ---- what was written of a refusal

-- words were written, and behind them a text, or a part of it
pub written_behind : (old mid new : Option (List ℕ)) (net text : List ℕ) (result : Result end.End Stop) → mid ≡ append_known old net →
    OnOk result (new ≡ append_known mid text) → OnOk result (new ≡ append_known old (net ++ text))
written_behind old mid new net text (Ok ending) sent is = is ∙ ap (λ (own : Option (List ℕ)). append_known own text) sent ∙ append_known-append old net text
written_behind old mid new net text (Err stop) sent is = tt

pub part_behind : (old mid new : Option (List ℕ)) (net text : List ℕ) (result : Result end.End Stop) → mid ≡ append_known old net →
    OnErr result (WritesPart mid new text) → OnErr result (WritesPart old new (net ++ text))
part_behind old mid new net text (Ok ending) sent is = tt
part_behind old mid new net text (Err stop) sent (left, part) = (
  left,
  record {
    sent = net ++ part.sent;
    whole = ap (λ (own : List ℕ). net ++ own) part.whole ∙ sym (append_assoc net part.sent left);
    grew = part.grew ∙ ap (λ (own : Option (List ℕ)). append_known own part.sent) sent ∙ append_known-append old net part.sent;
  },
)

-- a part of the words is one of both
pub part_before : (old new : Option (List ℕ)) (net text : List ℕ) → WritesPart old new net → WritesPart old new (net ++ text)
part_before old new net text (left, part) = (
  left ++ text,
  record {
    sent = part.sent;
    whole = ap (λ (own : List ℕ). own ++ text) part.whole ∙ append_assoc part.sent left text;
    grew = part.grew;
  },
)

module _ (net : List ℕ) (cut : Option ℕ) (start : SessionData) (lines : List (ℕ × List ℕ)) (old new : Option (List ℕ)) (asked known : List GroupTextData)
    (text : List ℕ) where
  -- the line was written whole
  pub refusal_written : RefusedTo cut start lines asked known text → new ≡ append_known old (net ++ text) → IsRefusedRun net cut start lines old new asked known
  refusal_written is grew = record {
    last = is.last;
    texts = is.texts;
    run = is.run;
    analysed = is.analysed;
    grew = grew ∙ ap (λ (own : List ℕ). append_known old (net ++ own)) is.same;
  }

  -- or a part of it
  pub refusal_begun : RefusedTo cut start lines asked known text → WritesPart old new (net ++ text) → IsRefusedPart net cut start lines old new
  refusal_begun is part = record {
    last = is.last;
    texts = is.texts;
    run = is.run;
    part = subst (λ (own : List ℕ). WritesPart old new (net ++ own)) is.same part;
  }

-- ---- the first run

module _ (cut : Option ℕ) (one other : SessionData) (lines : List (ℕ × List ℕ)) where
  -- its refusal is a right answer
  first_refused : (last : Option RefusedLine) (texts : List GroupTextData) → IsRunTo cut one lines last texts →
      IsEqualAnswer cut one other lines (refused_answer first_net last (stop_of true cut lines) texts)
  first_refused last texts run = refused_first (record { last = last; runs = run.runs; ended = run.ended; told_is = refl })

  pub first_written : (old new : Option (List ℕ)) (asked known : List GroupTextData) (ending : end.End) → IsRefusedRun first_net cut one lines old new asked known →
      ending ≡ ended.ScriptRefused → IsEqualBy cut one other lines old new asked known (Ok ending)
  first_written old new asked known ending is ends = record {
    answer = refused_answer first_net is.last (stop_of true cut lines) is.texts;
    right = (first_refused is.last is.texts is.run, is.analysed);
    ended = sym (ap status_of ends);
    grew = is.grew;
  }

  pub first_fault : (symbols : Symbols) (kept later : NotesData) (old new : Option (List ℕ)) (asked known more : List GroupTextData) (why : EqualFault) →
      RunsAs first_net cut one lines symbols kept later old new asked known (Err why) → IsEqualBy cut one other lines old new asked more (Err why)
  first_fault symbols kept later old new asked known more (fault.Stopped stop) (inl same) = inl same
  first_fault symbols kept later old new asked known more (fault.Stopped stop) (inr is) =
      inr (record { answer = refused_answer first_net is.last (stop_of true cut lines) is.texts; right = first_refused is.last is.texts is.run; part = is.part })
  first_fault symbols kept later old new asked known more (fault.FullAt number) is = is
  first_fault symbols kept later old new asked known more fault.Full is = inl is

  -- ---- the second run

  module _ (symbols : Symbols) (notes : NotesData) (before mid : List GroupTextData) (run : NotesRun cut one lines symbols notes before mid) where
    -- its refusal is a right answer
    second_line : (last : Option RefusedLine) → IsEnded last (stop_of true cut lines) → (stopped : RefusedLine) × (last ≡ Some stopped)
    second_line None is = absurd (subst (λ (own : Option NamedStop). IsEnded None own) run.by_names is)
    second_line (Some stopped) is = (stopped, refl)

    second_text : (last : Option RefusedLine) (stopped : RefusedLine) → last ≡ Some stopped → end_text last (stop_of true cut lines) ≡ end_text (Some stopped) None
    second_text last stopped is = ap (λ (own : Option RefusedLine). end_text own (stop_of true cut lines)) is

    abbrev second_answer : RefusedLine → List GroupTextData → Answer
    second_answer stopped texts = refused_answer second_net (Some stopped) None (run.texts ++ texts)

    second_refused : (last : Option RefusedLine) (stopped : RefusedLine) (texts : List GroupTextData) → last ≡ Some stopped → IsRunTo cut other lines last texts →
        IsEqualAnswer cut one other lines (second_answer stopped texts)
    second_refused last stopped texts is its = refused_second (record {
      first_texts = run.texts;
      second_texts = texts;
      by_names = run.by_names;
      first = run.runs;
      stopped = stopped;
      second = subst (λ (own : Option RefusedLine). RunsIn cut other lines own texts) is its.runs;
      told_is = refl;
    })

    pub second_written : (old new : Option (List ℕ)) (known : List GroupTextData) (ending : end.End) → IsRefusedRun second_net cut other lines old new mid known →
        ending ≡ ended.ScriptRefused → IsEqualBy cut one other lines old new before known (Ok ending)
    second_written old new known ending is ends =
        let (stopped, last) = second_line is.last is.run.ended in record {
          answer = second_answer stopped is.texts;
          right = (
            second_refused is.last stopped is.texts last is.run,
            is.analysed ∙ ap (λ (own : List GroupTextData). own ++ is.texts) run.analysed ∙ append_assoc before run.texts is.texts,
          );
          ended = sym (ap status_of ends);
          grew = is.grew ∙ ap (λ (own : List ℕ). append_known old (second_net ++ own)) (second_text is.last stopped last);
        }

    pub second_fault : (second_maker : Symbols) (kept later : NotesData) (old new : Option (List ℕ)) (known more : List GroupTextData) (why : EqualFault) →
        RunsAs second_net cut other lines second_maker kept later old new mid known (Err why) → IsEqualBy cut one other lines old new before more (Err why)
    second_fault second_maker kept later old new known more (fault.Stopped stop) (inl same) = inl same
    second_fault second_maker kept later old new known more (fault.Stopped stop) (inr is) =
        let (stopped, last) = second_line is.last is.run.ended in
        inr (record {
          answer = second_answer stopped is.texts;
          right = second_refused is.last stopped is.texts last is.run;
          part = subst (λ (own : List ℕ). WritesPart old new (second_net ++ own)) (second_text is.last stopped last) is.part;
        })
    second_fault second_maker kept later old new known more (fault.FullAt number) is = is
    second_fault second_maker kept later old new known more fault.Full is = inl is

    -- ---- the comparison

    module _ (maker : Symbols) (later others : NotesData) (known : List GroupTextData) (its : NotesRun cut other lines maker others mid known)
        (still : StillShow symbols maker notes later) where
      -- the heads of a run's notes go by the lines
      heads_by : (start : SessionData) (own_maker : Symbols) (own : NotesData) (asked after : List GroupTextData) → NotesRun cut start lines own_maker own asked after →
          heads_of own.waves ≡ heads_from true 0 start.count (places_of start.clocks) lines
      heads_by start own_maker own asked after is =
          let (reached, shows) = is.shows 0 (some_column cut lines) in
          sym (heads_noted own.words own.waves (letters_in own_maker (rails_in own) 0) is.whole.few)
          ∙ heads_of_run true ((v_of cut lines).values 0) cut [] start reached lines (shown_in own_maker own 0) shows

      -- so both runs' notes fit each other
      pub notes_fit : StartAlike one other → AreNoted maker later others
      notes_fit alike = record {
        alike = record {
          words = ap names_of still.alike.words ∙ run.names ∙ sym its.names;
          waves = ap heads_of still.alike.waves ∙ heads_by one symbols notes before mid run
              ∙ ap₂ (λ (count places : ℕ). heads_from true 0 count places lines) (sym alike.count) (sym alike.places)
              ∙ sym (heads_by other maker others mid known its);
        };
        first = still.whole.rails;
        second = its.whole.rails;
      }

      -- what the first notes show is what the first run shows
      first_shown : ShowsIn cut one lines (shown_in maker later)
      first_shown = λ column inside.
          let (reached, shows) = run.shows column inside in (
            reached,
            subst (λ (shown : List Shown). ShowsWaves (reading_under true ((v_of cut lines).values column)) cut [] one lines reached shown)
                (sym (shown_still symbols maker notes later still column (subst (λ (n : ℕ). column < n) run.valued.columns inside))) shows,
          )

      -- what is told of both is a right answer
      abbrev answer_of : List (List ℕ) → ℕ → List Difference → Answer
      answer_of variables waves told = compared_answer variables waves told (run.texts ++ its.texts)

      right_answer : (variables : List (List ℕ)) (waves : ℕ) (told : List Difference) → variables ≡ variables_of (read_of true cut lines) →
          AreCompared (v_of cut lines) (shown_in maker later) (shown_in maker others) waves told → IsEqualAnswer cut one other lines (answer_of variables waves told)
      right_answer variables waves told named is = compared (record {
        first_texts = run.texts;
        second_texts = its.texts;
        by_names = run.by_names;
        first = run.runs;
        second = its.runs;
        first_shown = shown_in maker later;
        second_shown = shown_in maker others;
        first_shows = first_shown;
        second_shows = its.shows;
        waves = waves;
        told = told;
        compared = is;
        told_is = ap (λ (own : List (List ℕ)). answer_of own waves told) named;
      })

      answer_text : (variables : List (List ℕ)) (waves : ℕ) (told : List Difference) → (answer_of variables waves told).text ≡ compared_text variables waves told
      answer_text variables waves [] = refl
      answer_text variables waves (own ∷ told) = refl

      answer_texts : (variables : List (List ℕ)) (waves : ℕ) (told : List Difference) → (answer_of variables waves told).texts ≡ run.texts ++ its.texts
      answer_texts variables waves [] = refl
      answer_texts variables waves (own ∷ told) = refl

      answer_status : (variables : List (List ℕ)) (waves : ℕ) (told : List Difference) → (answer_of variables waves told).status ≡ status_of (end_by told)
      answer_status variables waves [] = refl
      answer_status variables waves (own ∷ told) = refl

      begun : (variables : List (List ℕ)) (old new : Option (List ℕ)) → variables ≡ variables_of (read_of true cut lines) →
          TellsSome (v_of cut lines) variables (shown_in maker later) (shown_in maker others) old new → IsBegun (IsEqualAnswer cut one other lines) old new
      begun variables old new named is = record {
        answer = answer_of variables is.waves is.told;
        right = right_answer variables is.waves is.told named is.right;
        part = subst (λ (own : List ℕ). WritesPart old new own) (sym (answer_text variables is.waves is.told)) is.part;
      }

      pub equal_by : (variables : List (List ℕ)) (old new : Option (List ℕ)) (result : Result end.End EqualFault) → variables ≡ variables_of (read_of true cut lines) →
          ComparesAs (v_of cut lines) variables (shown_in maker later) (shown_in maker others) old new result → IsEqualBy cut one other lines old new before known result
      equal_by variables old new (Ok ending) named is = record {
        answer = answer_of variables is.waves is.told;
        right = (
          right_answer variables is.waves is.told named is.right,
          its.analysed ∙ ap (λ (own : List GroupTextData). own ++ its.texts) run.analysed ∙ append_assoc before run.texts its.texts
              ∙ ap (λ (own : List GroupTextData). before ++ own) (sym (answer_texts variables is.waves is.told)),
        );
        ended = answer_status variables is.waves is.told ∙ sym (ap status_of is.ends);
        grew = is.grew ∙ ap (append_known old) (sym (answer_text variables is.waves is.told));
      }
      equal_by variables old new (Err (fault.Stopped stop)) named (inl same) = inl same
      equal_by variables old new (Err (fault.Stopped stop)) named (inr is) = inr (begun variables old new named is)
      equal_by variables old new (Err (fault.FullAt number)) named is = absurd is
      equal_by variables old new (Err fault.Full) named is = inr (begun variables old new named is)
