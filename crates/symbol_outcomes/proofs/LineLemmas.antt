-- Each line has an outcome in all columns of a session: it is obeyed, and what the columns write is told together; or it is refused for one cause.
-- The plan: in a column a line is obeyed or refused. If it is refused in one it is refused so in all, since no refusal looks at a letter. If it is obeyed
-- in all, their data stay alike, the same texts are analysed, and their lines can be told together.
use Rattle.std.proofs.Common.{◌≡◌, ◌≢◌, ℕ, ◌<◌, ◌≤◌, ◌⊎◌, inl, inr, Bool, true, false, List, [], map, Option, None, Some, Result, Ok, Err, refl, sym, ap, ap₂, subst, ◌∙◌, arith}
use Rattle.std.proofs.lemmas.Bool.{cases_lt}
use Rattle.line_words.specs.Files.{is_cut}
use Rattle.netlist.specs.Circuits.{CircuitData}
use Rattle.group_text.specs.Texts.{GroupTextData}
use Rattle.script_lang.specs.declared.value.Value.{Value}
use Rattle.script_lang.specs.declared.command.Command.{Command}
use Rattle.script_lang.specs.declared.command.Command.TheVariants as family
use Rattle.script_lang.specs.declared.command.Give.TheVariants as give
use Rattle.script_lang.specs.declared.command.Tell.TheVariants as tell
use Rattle.script_lang.specs.declared.command.ScriptFault.{ScriptFault}
use Rattle.printed_lines.specs.declared.faults.FaultCode.TheVariants.{S11TooLong}
use Rattle.told_lines.specs.Lines.{Line}
use Rattle.run_ends.specs.Causes.{Cause, plain_cause}
use Rattle.run_ends.proofs.SizeLemmas.{size_caused}
use Rattle.session_meaning.specs.declared.fault.Refusal.{Refusal}
use Rattle.session_meaning.specs.Sessions.{IsReady, SessionData}
use Rattle.session_meaning.specs.Refusals.{refusal_of}
use Rattle.session_meaning.specs.Effects.{state_given, told_by, with_told, Effect}
use Rattle.session_meaning.specs.Preparing.{builds}
use Rattle.session_meaning.proofs.OutcomeLemmas.{still_performs}
use Rattle.session_meaning.proofs.EffectLemmas.{Ends}
use Rattle.session_meaning.proofs.EffectLemmas.Ends.{refused as refused_so, too_large as large_so, performed as performed_so}
use Rattle.script_meaning.specs.Codes.{refusal_code}
use Rattle.script_meaning.specs.Runs.{Asks, IsRefused, Reading}
use Rattle.script_meaning.specs.Runs.IsRefused.{too_long, unread, refused, too_large}
use Rattle.script_meaning.specs.FirstRefused.{IsObeyed}
use Rattle.script_meaning.specs.FirstRefused.IsObeyed.{idle, done}
use Rattle.script_meaning.proofs.RunLemmas.{script_coded}
use Rattle.script_meaning.proofs.LowerLemmas.{command_ends, ready-performs}
use Rattle.script_meaning.proofs.FirstRefusedLemmas.{not_refused}
use Rattle.symbol_script.specs.declared.line.Assignment.{Assignment}
use Rattle.symbol_script.specs.declared.line.SymbolLine.{SymbolLine}
use Rattle.symbol_script.specs.declared.line.SymbolLine.TheVariants as asks_for
use Rattle.symbol_script.specs.declared.line.ValueVerb.{ValueVerb}
use Rattle.symbol_script.specs.declared.line.ValueVerb.TheVariants.{Set, Charge, Expect}
use Rattle.symbol_script.specs.Lines.{symbol_reading_of}
use Rattle.symbol_meaning.specs.Readings.{Valuations, command_under, command_with, plain_under, reading_under}
use Rattle.symbol_meaning.specs.Told.{SymbolTold}
use Rattle.symbol_meaning.specs.Merging.{Merges}
use Rattle.symbol_meaning.specs.Runs.{AreRefused, asked_in, IsObeyedInAll}
use Rattle.symbol_meaning.specs.Laws.{AlikeButStates}
use Rattle.symbol_meaning.proofs.RefusalLemmas.{refused_alike}
use Rattle.symbol_outcomes.specs.Families.{IsFamily}
use Rattle.symbol_outcomes.specs.Outcomes.{ComesInAll}
use Rattle.symbol_outcomes.specs.Outcomes.ComesInAll.{obeyed as obeyed_in, refused as refused_in}
use Rattle.symbol_outcomes.specs.Shapes.{AreToldWith}
use Rattle.symbol_outcomes.proofs.ReadLemmas.{IsReadWell, IsToldTogether, read_well}
use Rattle.symbol_outcomes.proofs.AlikeLemmas.{AreOneLine, alike-performed}
use Rattle.symbol_outcomes.proofs.AlikeLemmas.AreOneLine.{plain, sets, charges, expects}
use Rattle.symbol_outcomes.proofs.ShapeLemmas.{performed_with}
use Rattle.symbol_outcomes.proofs.MergeLemmas.{are_merged_exist}
use Rattle.symbol_outcomes.proofs.ToldLemmas.{are_told}

-- ---- in a column

-- a line is obeyed there, or refused
data LineEnds (reading : Reading) (cut : Option ℕ) (session : SessionData) (line : ℕ × List ℕ) : Type 0 where
  obeyed_so : (new : SessionData) (wrote : List Line) (texts : List GroupTextData) → IsObeyed reading cut session line new wrote texts →
      LineEnds reading cut session line
  refused_for : (cause : Cause) → IsRefused reading cut session line cause → LineEnds reading cut session line

-- a command that builds nothing is refused, or done
done_unless : (session : SessionData) (command : Command) (new : SessionData) (lines : List Line) → builds command ≡ false → Effect session command new lines →
    Ends session command
done_unless session command new lines still effect = by (refusal_of session command) refl
  where
    by : (found : Option Refusal) → refusal_of session command ≡ found → Ends session command
    by (Some refusal) is = refused_so refusal is
    by None is = performed_so new lines [] (still_performs session new command lines still is effect)

-- so one that is given values is done if it isn't refused
values_end : (session : SessionData) (verb : ValueVerb) (list : List (List ℕ × Value)) → Ends session (command_with verb list)
values_end session Set list =
    done_unless session (family.Give (give.Set list)) (record session { state = state_given session (give.Set list) }) [] refl (refl, refl)
values_end session Charge list =
    done_unless session (family.Give (give.Charge list)) (record session { state = state_given session (give.Charge list) }) [] refl (refl, refl)
values_end session Expect list =
    let lines : List Line = told_by session (tell.Expect list) in
    done_unless session (family.Tell (tell.Expect list)) (with_told session lines) lines refl (refl, refl)

module _ (quiet : Bool) (values : List ℕ → Bool) (cut : Option ℕ) (session : SessionData) (line : ℕ × List ℕ) where
  -- how it is read there
  under : (read : Result (Option SymbolLine) ScriptFault) → symbol_reading_of quiet line.1 ≡ read →
      reading_under quiet values session.circuit session.vectors line.1 ≡ command_under values session.circuit session.vectors read
  under read is = ap (command_under values session.circuit session.vectors) is

  command_line : (command : Command) → Asks (reading_under quiet values) cut session line command → Ends session command →
      LineEnds (reading_under quiet values) cut session line
  command_line command asks (refused_so refusal is) = refused_for (plain_cause (refusal_code refusal)) (refused command refusal asks is refl)
  command_line command asks (large_so fault allowed building first) =
      let caused = size_caused session.large session.circuit fault first in
      refused_for caused.0 (too_large command fault asks allowed building first caused.1)
  command_line command asks (performed_so new wrote texts performs) = obeyed_so new wrote texts (done command new wrote texts asks performs)

  read_line : IsReady session → is_cut cut line.0 ≡ false → (read : Result (Option SymbolLine) ScriptFault) → symbol_reading_of quiet line.1 ≡ read →
      IsReadWell read → LineEnds (reading_under quiet values) cut session line
  read_line ready inside (Ok None) is well = obeyed_so session [] [] (idle (record { inside = inside; nothing = under (Ok None) is }))
  read_line ready inside (Ok (Some (asks_for.Names command))) is well =
      obeyed_so session [] [] (idle (record { inside = inside; nothing = under (Ok (Some (asks_for.Names command))) is }))
  read_line ready inside (Ok (Some (asks_for.Values verb list))) is well =
      let given = map (plain_under values session.circuit session.vectors) list in
      command_line (command_with verb given) (record { inside = inside; asked = under (Ok (Some (asks_for.Values verb list))) is }) (values_end session verb given)
  read_line ready inside (Ok (Some (asks_for.Plain command))) is well =
      command_line command (record { inside = inside; asked = under (Ok (Some (asks_for.Plain command))) is }) (command_ends session command ready well.0)
  read_line ready inside (Err fault) is named =
      let coded = script_coded fault named in
      refused_for (plain_cause coded.0) (unread fault coded.0 inside (under (Err fault) is) coded.1 refl)

  line_ends : IsReady session → LineEnds (reading_under quiet values) cut session line
  line_ends ready = by (is_cut cut line.0) refl
    where
      by : (far : Bool) → is_cut cut line.0 ≡ far → LineEnds (reading_under quiet values) cut session line
      by true is = refused_for (plain_cause S11TooLong) (too_long is refl)
      by false is = read_line ready is (symbol_reading_of quiet line.1) refl (read_well quiet line.1)

-- ---- in two columns

-- the commands that a line asks for under two valuations
one_line : (values others : List ℕ → Bool) (c : CircuitData) (vectors : List (List ℕ × List ℕ)) (read : Result (Option SymbolLine) ScriptFault) →
    IsReadWell read → (one other : Command) → command_under values c vectors read ≡ Ok (Some one) → command_under others c vectors read ≡ Ok (Some other) →
    AreOneLine one other
one_line values others c vectors (Err fault) well one other first second = absurd (cc first)
one_line values others c vectors (Ok None) well one other first second = absurd (cc first)
one_line values others c vectors (Ok (Some (asks_for.Names command))) well one other first second = absurd (cc first)
one_line values others c vectors (Ok (Some (asks_for.Plain command))) well one other first second =
    let own : command ≡ one = cc first in
    let its : command ≡ other = cc second in
    subst (λ (it : Command). AreOneLine it other) own (subst (λ (it : Command). AreOneLine command it) its (plain command well.1))
one_line values others c vectors (Ok (Some (asks_for.Values verb list))) well one other first second =
    let own : command_with verb (map (plain_under values c vectors) list) ≡ one = cc first in
    let its : command_with verb (map (plain_under others c vectors) list) ≡ other = cc second in
    subst (λ (it : Command). AreOneLine it other) own
    (subst (λ (it : Command). AreOneLine (command_with verb (map (plain_under values c vectors) list)) it) its
    (by verb (map (plain_under values c vectors) list) (map (plain_under others c vectors) list)))
  where
    by : (verb : ValueVerb) (a b : List (List ℕ × Value)) → AreOneLine (command_with verb a) (command_with verb b)
    by Set a b = sets a b
    by Charge a b = charges a b
    by Expect a b = expects a b

-- a command of a line that is no `expect` tells its lines together
together : (values : List ℕ → Bool) (c : CircuitData) (vectors : List (List ℕ × List ℕ)) (read : Result (Option SymbolLine) ScriptFault) → IsReadWell read →
    ((list : List Assignment) → asked_in read ≢ Some (asks_for.Values Expect list)) → (command : Command) → command_under values c vectors read ≡ Ok (Some command) →
    IsToldTogether command
together values c vectors (Err fault) well other command is = absurd (cc is)
together values c vectors (Ok None) well other command is = absurd (cc is)
together values c vectors (Ok (Some (asks_for.Names own))) well other command is = absurd (cc is)
together values c vectors (Ok (Some (asks_for.Plain own))) well other command is =
    let same : own ≡ command = cc is in
    subst IsToldTogether same well.1
together values c vectors (Ok (Some (asks_for.Values Set list))) well other command is =
    let same : family.Give (give.Set (map (plain_under values c vectors) list)) ≡ command = cc is in
    subst IsToldTogether same tt
together values c vectors (Ok (Some (asks_for.Values Charge list))) well other command is =
    let same : family.Give (give.Charge (map (plain_under values c vectors) list)) ≡ command = cc is in
    subst IsToldTogether same tt
together values c vectors (Ok (Some (asks_for.Values Expect list))) well other command is = absurd (other list refl)

-- what asks for nothing under one valuation asks for no command under another
nothing_asked : (values others : List ℕ → Bool) (c : CircuitData) (vectors : List (List ℕ × List ℕ)) (read : Result (Option SymbolLine) ScriptFault) (command : Command) →
    command_under values c vectors read ≡ Ok None → command_under others c vectors read ≡ Ok (Some command) → ⊥
nothing_asked values others c vectors (Err fault) command first second = cc first
nothing_asked values others c vectors (Ok None) command first second = cc second
nothing_asked values others c vectors (Ok (Some (asks_for.Names own))) command first second = cc second
nothing_asked values others c vectors (Ok (Some (asks_for.Plain own))) command first second = cc first
nothing_asked values others c vectors (Ok (Some (asks_for.Values verb list))) command first second = cc first

module _ (quiet : Bool) (values others : List ℕ → Bool) (cut : Option ℕ) (one two : SessionData) (line : ℕ × List ℕ) (alike : AlikeButStates one two) where
  -- how it is read by the one's data
  by_one : (found : Result (Option Command) ScriptFault) → reading_under quiet others two.circuit two.vectors line.1 ≡ found →
      command_under others one.circuit one.vectors (symbol_reading_of quiet line.1) ≡ found
  by_one found is =
      sym (ap₂ (λ (c : CircuitData) (vectors : List (List ℕ × List ℕ)). reading_under quiet others c vectors line.1) alike.circuit alike.vectors) ∙ is

  -- a line that is obeyed in both keeps the data alike, and the same texts are analysed
  pub obeyed_alike : (new later : SessionData) (wrote more : List Line) (texts analysed : List GroupTextData) →
      IsObeyed (reading_under quiet values) cut one line new wrote texts → IsObeyed (reading_under quiet others) cut two line later more analysed →
      AlikeButStates new later × (analysed ≡ texts)
  obeyed_alike new later wrote more texts analysed (idle nothing) (idle also) = (alike, refl)
  obeyed_alike new later wrote more texts analysed (idle nothing) (done command _ _ _ asks performs) =
      absurd (nothing_asked values others one.circuit one.vectors (symbol_reading_of quiet line.1) command nothing.nothing (by_one (Ok (Some command)) asks.asked))
  obeyed_alike new later wrote more texts analysed (done command _ _ _ asks performs) (idle nothing) =
      absurd (nothing_asked others values one.circuit one.vectors (symbol_reading_of quiet line.1) command (by_one (Ok None) nothing.nothing) asks.asked)
  obeyed_alike new later wrote more texts analysed (done command _ _ _ asks performs) (done other _ _ _ also does) =
      alike-performed command other
      (one_line values others one.circuit one.vectors (symbol_reading_of quiet line.1) (read_well quiet line.1) command other asks.asked (by_one (Ok (Some other)) also.asked))
      one two new later wrote more texts analysed performs does alike

  -- and unless it is an `expect`, what both write can be told together
  pub obeyed_with : (new later : SessionData) (wrote more : List Line) (texts analysed : List GroupTextData) →
      IsObeyed (reading_under quiet values) cut one line new wrote texts → IsObeyed (reading_under quiet others) cut two line later more analysed →
      ((list : List Assignment) → asked_in (symbol_reading_of quiet line.1) ≢ Some (asks_for.Values Expect list)) → AreToldWith wrote more
  obeyed_with new later wrote more texts analysed (idle nothing) (idle also) unlike = tt
  obeyed_with new later wrote more texts analysed (idle nothing) (done command _ _ _ asks performs) unlike =
      absurd (nothing_asked values others one.circuit one.vectors (symbol_reading_of quiet line.1) command nothing.nothing (by_one (Ok (Some command)) asks.asked))
  obeyed_with new later wrote more texts analysed (done command _ _ _ asks performs) (idle nothing) unlike =
      absurd (nothing_asked others values one.circuit one.vectors (symbol_reading_of quiet line.1) command (by_one (Ok None) nothing.nothing) asks.asked)
  obeyed_with new later wrote more texts analysed (done command _ _ _ asks performs) (done other _ _ _ also does) unlike =
      performed_with command other
      (one_line values others one.circuit one.vectors (symbol_reading_of quiet line.1) (read_well quiet line.1) command other asks.asked (by_one (Ok (Some other)) also.asked))
      (together values one.circuit one.vectors (symbol_reading_of quiet line.1) (read_well quiet line.1) unlike command asks.asked)
      one two new later wrote more texts analysed performs does alike

-- a line that is obeyed keeps the data ready
pub obeyed_ready : (reading : Reading) (cut : Option ℕ) (old new : SessionData) (line : ℕ × List ℕ) (wrote : List Line) (texts : List GroupTextData) →
    IsReady old → IsObeyed reading cut old line new wrote texts → IsReady new
obeyed_ready reading cut old new line wrote texts ready (idle nothing) = ready
obeyed_ready reading cut old new line wrote texts ready (done command _ _ _ asks performs) = ready-performs old new command wrote texts ready performs

-- ---- in all columns

module _ (quiet : Bool) (v : Valuations) (cut : Option ℕ) (old : ℕ → SessionData) (columns : IsFamily v.columns old) (line : ℕ × List ℕ) where
  -- a line that is refused in a column is refused for the same cause in all
  pub refused_in_all : (column : ℕ) → column < v.columns → (cause : Cause) → IsRefused (reading_under quiet (v.values column)) cut (old column) line cause →
      AreRefused quiet v cut old line cause
  refused_in_all column inside cause is = λ other within.
      refused_alike quiet (v.values column) (v.values other) cut (old column) (old other) line cause (columns.alike column other inside within) is

  module _ (new : ℕ → SessionData) (lines : ℕ → List Line) (texts : List GroupTextData)
      (each : (column : ℕ) → column < v.columns →
      IsObeyed (reading_under quiet (v.values column)) cut (old column) line (new column) (lines column) texts) where
    -- what is obeyed in all leads to columns of one session
    pub family_behind : IsFamily v.columns new
    family_behind = record {
      some = columns.some;
      ready = λ column inside.
          obeyed_ready (reading_under quiet (v.values column)) cut (old column) (new column) line (lines column) texts (columns.ready column inside) (each column inside);
      alike = λ one other inside within.
          (obeyed_alike quiet (v.values one) (v.values other) cut (old one) (old other) line (columns.alike one other inside within) (new one) (new other)
          (lines one) (lines other) texts texts (each one inside) (each other within)).0;
    }

    -- unless it is an `expect`, what any column writes can be told together with what the first one does
    pub lines_with : ((list : List Assignment) → asked_in (symbol_reading_of quiet line.1) ≢ Some (asks_for.Values Expect list)) →
        (column : ℕ) → column < v.columns → AreToldWith (lines 0) (lines column)
    lines_with unlike column inside =
        obeyed_with quiet (v.values 0) (v.values column) cut (old 0) (old column) line (columns.alike 0 column columns.some inside) (new 0) (new column)
        (lines 0) (lines column) texts texts (each 0 columns.some) (each column inside) unlike

    -- so something is told of all
    merges_exist : (asked : Option SymbolLine) → asked_in (symbol_reading_of quiet line.1) ≡ asked → (told : List SymbolTold) × Merges v old asked lines told
    merges_exist None is =
        are_merged_exist v.columns columns.some (lines 0) lines (lines_with (λ list same. absurd (let e : None ≡ Some (asks_for.Values Expect list) = sym is ∙ same in cc e)))
    merges_exist (Some (asks_for.Values Set own)) is =
        are_merged_exist v.columns columns.some (lines 0) lines
        (lines_with (λ list same. absurd (let e : Some (asks_for.Values Set own) ≡ Some (asks_for.Values Expect list) = sym is ∙ same in cc e)))
    merges_exist (Some (asks_for.Values Charge own)) is =
        are_merged_exist v.columns columns.some (lines 0) lines
        (lines_with (λ list same. absurd (let e : Some (asks_for.Values Charge own) ≡ Some (asks_for.Values Expect list) = sym is ∙ same in cc e)))
    merges_exist (Some (asks_for.Values Expect own)) is = are_told v old own
    merges_exist (Some (asks_for.Names command)) is =
        are_merged_exist v.columns columns.some (lines 0) lines
        (lines_with (λ list same. absurd (let e : Some (asks_for.Names command) ≡ Some (asks_for.Values Expect list) = sym is ∙ same in cc e)))
    merges_exist (Some (asks_for.Plain command)) is =
        are_merged_exist v.columns columns.some (lines 0) lines
        (lines_with (λ list same. absurd (let e : Some (asks_for.Plain command) ≡ Some (asks_for.Values Expect list) = sym is ∙ same in cc e)))

    pub obeyed_in_all : (told : List SymbolTold) × IsObeyedInAll quiet v cut old line new told texts
    obeyed_in_all =
        let (told, merged) = merges_exist (asked_in (symbol_reading_of quiet line.1)) refl in
        (told, record { lines = lines; each = each; merged = merged })

  -- what is obeyed in all leads to columns of one session
  pub family_obeyed : (new : ℕ → SessionData) (told : List SymbolTold) (texts : List GroupTextData) → IsObeyedInAll quiet v cut old line new told texts →
      IsFamily v.columns new
  family_obeyed new told texts is = family_behind new is.lines texts is.each

-- what a column comes to in which a line is obeyed; of a number that is no column's nothing is said
record ObeyedIn (quiet : Bool) (v : Valuations) (cut : Option ℕ) (old : ℕ → SessionData) (line : ℕ × List ℕ) (column : ℕ) : Type 0 where
  new : SessionData
  wrote : List Line
  texts : List GroupTextData
  is : column < v.columns → IsObeyed (reading_under quiet (v.values column)) cut (old column) line new wrote texts

module _ (quiet : Bool) (v : Valuations) (cut : Option ℕ) (old : ℕ → SessionData) (columns : IsFamily v.columns old) (line : ℕ × List ℕ) where
  -- a line that is obeyed in the first column is obeyed in each
  obeyed_too : (first : SessionData) (wrote : List Line) (texts : List GroupTextData) →
      IsObeyed (reading_under quiet (v.values 0)) cut (old 0) line first wrote texts → (column : ℕ) → ObeyedIn quiet v cut old line column
  obeyed_too first wrote texts obeyed column = by (cases_lt column v.columns)
    where
      ended : column < v.columns → LineEnds (reading_under quiet (v.values column)) cut (old column) line → ObeyedIn quiet v cut old line column
      ended inside (obeyed_so new lines analysed is) = record { new = new; wrote = lines; texts = analysed; is = λ within. is }
      ended inside (refused_for cause is) =
          absurd (not_refused (reading_under quiet (v.values 0)) cut (old 0) first line wrote texts cause obeyed
          (refused_in_all quiet v cut old columns line column inside cause is 0 columns.some))

      by : ((column < v.columns) ⊎ (v.columns ≤ column)) → ObeyedIn quiet v cut old line column
      by (inl inside) = ended inside (line_ends quiet (v.values column) cut (old column) line (columns.ready column inside))
      by (inr past) = record { new = old column; wrote = []; texts = []; is = λ inside. absurd (omega (arith, past, inside)) }

  -- so it is obeyed in all
  all_obeyed : (first : SessionData) (wrote : List Line) (texts : List GroupTextData) →
      IsObeyed (reading_under quiet (v.values 0)) cut (old 0) line first wrote texts → ComesInAll quiet v cut old line
  all_obeyed first wrote texts obeyed =
      let own = obeyed_too first wrote texts obeyed in
      let each = λ (column : ℕ) (inside : column < v.columns).
      subst (λ (all : List GroupTextData). IsObeyed (reading_under quiet (v.values column)) cut (old column) line (own column).new (own column).wrote all)
      (obeyed_alike quiet (v.values 0) (v.values column) cut (old 0) (old column) line (columns.alike 0 column columns.some inside) first (own column).new
      wrote (own column).wrote texts (own column).texts obeyed ((own column).is inside)).1
      ((own column).is inside) in
      let new = λ (column : ℕ). (own column).new in
      let lines = λ (column : ℕ). (own column).wrote in
      let (told, all) = obeyed_in_all quiet v cut old columns line new lines texts each in
      obeyed_in new told texts all (family_behind quiet v cut old columns line new lines texts each)

  -- each line has an outcome
  pub line_comes : ComesInAll quiet v cut old line
  line_comes = by (line_ends quiet (v.values 0) cut (old 0) line (columns.ready 0 columns.some))
    where
      by : LineEnds (reading_under quiet (v.values 0)) cut (old 0) line → ComesInAll quiet v cut old line
      by (obeyed_so new wrote texts is) = all_obeyed new wrote texts is
      by (refused_for cause is) = refused_in cause (refused_in_all quiet v cut old columns line 0 columns.some cause is)
