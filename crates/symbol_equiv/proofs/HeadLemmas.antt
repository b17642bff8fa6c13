-- Which waveform lines a quiet script writes, by their numbers, goes by its lines alone: two circuits have the same ones.
-- A command that isn't `step`, `phase` or `cycle` writes none, and a `cycle` writes one for each place of the clocks that the last `clock` gave.
use Rattle.std.proofs.Common.{◌≡◌, ℕ, zero, suc, ◌+◌, ◌≤◌, ◌==◌, Bool, true, false, List, [], ◌∷◌, ◌++◌, length, map, take, drop, filter_map, All, Option, None, Some, option_map, Result, Ok, Err, refl, sym, ap, ap₂, ◌∙◌, if◌then◌else◌, length-append}
use Rattle.std.specs.List.{cons_option, flat_map, list_all}
use Rattle.std.proofs.lemmas.List.{length-take-le, map-append}
use Rattle.std.proofs.lemmas.List.Elements.{All-head, All-tail, filter_map-append}
use Rattle.ternary.specs.declared.tern.Tern.{Tern}
use Rattle.netlist.specs.Circuits.{CircuitData}
use Rattle.switch_paths.specs.declared.switching.Switch.{Switch}
use Rattle.switch_paths.specs.Switching.{state_at}
use Rattle.group_text.specs.Texts.{GroupTextData}
use Rattle.script_lang.specs.declared.command.Command.{Command}
use Rattle.script_lang.specs.declared.command.Command.TheVariants as family
use Rattle.script_lang.specs.declared.command.Setup.{Setup}
use Rattle.script_lang.specs.declared.command.Setup.TheVariants.{Watch, Limit, Clock, Keep, Widen, Save, Vector}
use Rattle.script_lang.specs.declared.command.Run.{Run}
use Rattle.script_lang.specs.declared.command.Run.TheVariants.{Step, Phase, Cycle, Report}
use Rattle.script_lang.specs.declared.command.Tell.{Tell}
use Rattle.script_lang.specs.declared.command.Tell.TheVariants.{Expect, Show, Look}
use Rattle.script_lang.specs.declared.command.ScriptFault.{ScriptFault}
use Rattle.script_lang.specs.declared.value.Value.{Value}
use Rattle.vector_values.specs.Values.{Letter}
use Rattle.told_lines.specs.Lines.{Line, Wave, Unmet, Shown, Looked, AtEnd, AtGate, Reported, Refused}
use Rattle.node_looks.specs.Looks.{at_end, at_gate, end_line, end_lines, gate_line, gate_lines, looked_lines, numbered, other_end}
use Rattle.node_values.specs.Givings.{letters_given}
use Rattle.netlist.specs.Edits.{node_named}
use Rattle.session_meaning.specs.Sessions.{SessionData, places_of}
use Rattle.session_meaning.specs.Effects.{clock_of, is_met, letters_in, one_more, places_in, setup_after, shown_line, told_by, unmet_by, unmet_line, AreBeats, Effect}
use Rattle.session_meaning.specs.Outcomes.{Performs}
use Rattle.session_meaning.specs.Preparing.{builds, BuildsIf}
use Rattle.script_meaning.specs.FirstRefused.{IsObeyed}
use Rattle.script_meaning.specs.FirstRefused.IsObeyed.{done, idle}
use Rattle.symbol_script.specs.declared.line.SymbolLine.{SymbolLine}
use Rattle.symbol_script.specs.declared.line.SymbolLine.TheVariants as asks
use Rattle.symbol_script.specs.declared.line.ValueVerb.TheVariants.{Set, Charge, Expect as Wanted}
use Rattle.symbol_script.specs.Lines.{symbol_reading_of}
use Rattle.symbol_meaning.specs.Readings.{command_under, reading_under}
use Rattle.symbol_meaning.specs.Comparing as shows
use Rattle.symbol_meaning.specs.Comparing.{Watched, by_words, shown_by, words_of_line, ShowsWaves}
use Rattle.symbol_meaning.specs.Comparing.ShowsWaves.{no_line, one_more as one_line}
use Rattle.symbol_told.specs.declared.notes.WaveNote.{WaveNote}
use Rattle.symbol_comparing.specs.Notes.{heads_of, shown_from}
use Rattle.symbol_equiv.specs.Words.{counted_words, names_watched}
use Rattle.symbol_equiv.proofs.WordLemmas.{words_in_line}

-- ---- numbers of waveform lines

-- the number of a waveform line, and those of lines
abbrev pub number_in : Line → Option ℕ
number_in (Wave n k mark states) = Some n
number_in other = None

abbrev pub numbers : List Line → List ℕ
numbers lines = filter_map number_in lines

-- those of so many waveform lines behind so many, and how many there are then
abbrev pub numbers_from : ℕ → ℕ → List ℕ
numbers_from count zero = []
numbers_from count (suc more) = one_more count ∷ numbers_from (one_more count) more

abbrev pub count_after : ℕ → ℕ → ℕ
count_after count zero = count
count_after count (suc more) = count_after (one_more count) more

-- how many a command writes, where the clocks have so many places, and how many these have behind it
abbrev waves_in_run : ℕ → Run → ℕ
waves_in_run places Step = 1
waves_in_run places Phase = 1
waves_in_run places (Cycle times) = length (places_in places times)
waves_in_run places Report = 0

abbrev waves_in : ℕ → Command → ℕ
waves_in places (family.Edit edit) = 0
waves_in places (family.Give give) = 0
waves_in places (family.Setup setup) = 0
waves_in places (family.Run run) = waves_in_run places run
waves_in places (family.Tell tell) = 0

abbrev places_in_list : List (List ℕ × List Tern) → ℕ
places_in_list [] = 0
places_in_list (item ∷ items) = length item.1

abbrev places_by_setup : ℕ → Setup → ℕ
places_by_setup places (Watch names) = places
places_by_setup places (Limit number) = places
places_by_setup places (Clock list) = places_in_list list
places_by_setup places (Keep number) = places
places_by_setup places (Widen number) = places
places_by_setup places (Save name) = places
places_by_setup places (Vector name words) = places

abbrev places_by : ℕ → Command → ℕ
places_by places (family.Edit edit) = places
places_by places (family.Give give) = places
places_by places (family.Setup setup) = places_by_setup places setup
places_by places (family.Run run) = places
places_by places (family.Tell tell) = places

-- the same of a line that is read so
abbrev waves_asked : ℕ → Option SymbolLine → ℕ
waves_asked places None = 0
waves_asked places (Some (asks.Values verb list)) = 0
waves_asked places (Some (asks.Names command)) = 0
waves_asked places (Some (asks.Plain command)) = waves_in places command

abbrev waves_read : ℕ → Result (Option SymbolLine) ScriptFault → ℕ
waves_read places (Ok asked) = waves_asked places asked
waves_read places (Err fault) = 0

abbrev places_asked : ℕ → Option SymbolLine → ℕ
places_asked places None = places
places_asked places (Some (asks.Values verb list)) = places
places_asked places (Some (asks.Names command)) = places
places_asked places (Some (asks.Plain command)) = places_by places command

abbrev places_read : ℕ → Result (Option SymbolLine) ScriptFault → ℕ
places_read places (Ok asked) = places_asked places asked
places_read places (Err fault) = places

-- ---- a command that tells writes none

abbrev number_of : Option Line → Option ℕ
number_of None = None
number_of (Some line) = number_in line

none_first : (found : Option Line) (rest : List Line) → number_of found ≡ None → numbers rest ≡ [] → numbers (cons_option found rest) ≡ []
none_first None rest is later = later
none_first (Some line) rest is later = ap₂ (λ (own : Option ℕ) (others : List ℕ). cons_option own others) is later

none_among : {X : Type 0} (g : X → Option Line) → ((x : X) → number_of (g x) ≡ None) → (xs : List X) → numbers (filter_map g xs) ≡ []
none_among g none [] = refl
none_among g none (x ∷ xs) = none_first (g x) (filter_map g xs) (none x) (none_among g none xs)

none_behind : (front rest : List Line) → numbers front ≡ [] → numbers rest ≡ [] → numbers (front ++ rest) ≡ []
none_behind front rest first later = filter_map-append number_in front rest ∙ ap₂ (λ (xs ys : List ℕ). xs ++ ys) first later

-- an expectation
unmet_none : (session : SessionData) (item : List ℕ × Value) → number_of (unmet_line session item) ≡ None
unmet_none session item = by (letters_in (letters_given session.circuit session.vectors item))
  where
    of_test : (test : Bool) (line : Line) → number_in line ≡ None → number_of (if test then None else Some line) ≡ None
    of_test true line is = refl
    of_test false line is = is

    by : (pairs : List (ℕ × Letter)) → number_of (unmet_by session item.0 pairs) ≡ None
    by pairs =
        of_test (list_all (λ pair. is_met pair.1 (state_at session.state pair.0)) pairs)
        (Unmet item.0 (map (λ pair. pair.1) pairs) (map (λ pair. state_at session.state pair.0) pairs) session.count) refl

-- a name that is shown
shown_none : (session : SessionData) (names : List (List ℕ)) → numbers (map (shown_line session) names) ≡ []
shown_none session [] = refl
shown_none session (name ∷ names) = shown_none session names

-- one that is looked at
end_none : (c : CircuitData) (state : List Tern) (node : ℕ) (place : ℕ × Option Switch) → number_of (end_line c state node place) ≡ None
end_none c state node (number, None) = refl
end_none c state node (number, Some switch) = by (other_end node switch)
  where
    by : (other : Option ℕ) → number_of (option_map (at_end c state number switch) other) ≡ None
    by None = refl
    by (Some end) = refl

gate_none : (c : CircuitData) (state : List Tern) (node : ℕ) (place : ℕ × Option Switch) → number_of (gate_line c state node place) ≡ None
gate_none c state node (number, None) = refl
gate_none c state node (number, Some switch) = by (switch.gate == node)
  where
    by : (test : Bool) → number_of (if test then Some (at_gate c state number switch) else None) ≡ None
    by true = refl
    by false = refl

node_none : (c : CircuitData) (state : List Tern) (name : List ℕ) → numbers (looked_lines c state name) ≡ []
node_none c state name =
    let node : ℕ = node_named c name in
    none_behind (end_lines c state node) (gate_lines c state node) (none_among (end_line c state node) (end_none c state node) (numbered c))
    (none_among (gate_line c state node) (gate_none c state node) (numbered c))

looked_none : (c : CircuitData) (state : List Tern) (names : List (List ℕ)) → numbers (flat_map (looked_lines c state) names) ≡ []
looked_none c state [] = refl
looked_none c state (name ∷ names) =
    none_behind (looked_lines c state name) (flat_map (looked_lines c state) names) (node_none c state name) (looked_none c state names)

told_none : (session : SessionData) (tell : Tell) → numbers (told_by session tell) ≡ []
told_none session (Expect list) = none_among (unmet_line session) (unmet_none session) list
told_none session (Show names) = shown_none session names
told_none session (Look names) = looked_none session.circuit session.state names

-- ---- a command

-- what lines it writes, and where it leaves the data
pub record Counts (old : SessionData) (waves places : ℕ) (new : SessionData) (wrote : List Line) : Type 0 where
  pub lines : numbers wrote ≡ numbers_from old.count waves
  pub count : new.count ≡ count_after old.count waves
  pub clocks : places_of new.clocks ≡ places

-- a `cycle` settles at each place once
beats_count : (old new : SessionData) (places : List ℕ) (wrote : List Line) → AreBeats old places new wrote →
    Counts old (length places) (places_of old.clocks) new wrote
beats_count old new [] wrote (same, none) = record {
  lines = ap numbers none;
  count = ap (λ (own : SessionData). own.count) same;
  clocks = ap (λ (own : SessionData). places_of own.clocks) same;
}
beats_count old new (place ∷ places) wrote (mid, front, back, phase, later, whole) =
    let rest = beats_count mid new places back later in
    let counted : mid.count ≡ one_more old.count = ap (λ (own : SessionData). own.count) phase.moved in
    let kept : places_of mid.clocks ≡ places_of old.clocks = ap (λ (own : SessionData). places_of own.clocks) phase.moved in
    let first : numbers front ≡ mid.count ∷ [] = ap numbers phase.wrote in
    record {
      lines = ap numbers whole ∙ filter_map-append number_in front back
          ∙ ap₂ (λ (own others : List ℕ). own ++ others) (first ∙ ap (λ (n : ℕ). n ∷ []) counted)
          (rest.lines ∙ ap (λ (n : ℕ). numbers_from n (length places)) counted);
      count = rest.count ∙ ap (λ (n : ℕ). count_after n (length places)) counted;
      clocks = rest.clocks ∙ kept;
    }

-- the clocks of a `clock` have as many places as the first of its items has letters
clocks_placed : (c : CircuitData) (list : List (List ℕ × List Tern)) → places_of (map (clock_of c) list) ≡ places_in_list list
clocks_placed c [] = refl
clocks_placed c (item ∷ list) = refl

setup_placed : (old : SessionData) (setup : Setup) → places_of (setup_after old setup).clocks ≡ places_by_setup (places_of old.clocks) setup
setup_placed old (Watch names) = refl
setup_placed old (Limit number) = refl
setup_placed old (Clock list) = clocks_placed old.circuit list
setup_placed old (Keep number) = refl
setup_placed old (Widen number) = refl
setup_placed old (Save name) = refl
setup_placed old (Vector name words) = refl

setup_counted : (old : SessionData) (setup : Setup) → (setup_after old setup).count ≡ old.count
setup_counted old (Watch names) = refl
setup_counted old (Limit number) = refl
setup_counted old (Clock list) = refl
setup_counted old (Keep number) = refl
setup_counted old (Widen number) = refl
setup_counted old (Save name) = refl
setup_counted old (Vector name words) = refl

-- what stands before the effect leaves both
builds_count : (test : Bool) (old mid : SessionData) (texts : List GroupTextData) → BuildsIf test old mid texts →
    (mid.count ≡ old.count) × (places_of mid.clocks ≡ places_of old.clocks)
builds_count true old mid texts is =
    (ap (λ (own : SessionData). own.count) is.used, ap (λ (own : SessionData). places_of own.clocks) is.used)
builds_count false old mid texts (same, none) =
    (ap (λ (own : SessionData). own.count) same, ap (λ (own : SessionData). places_of own.clocks) same)

effect_count : (old new : SessionData) (command : Command) (wrote : List Line) → Effect old command new wrote →
    Counts old (waves_in (places_of old.clocks) command) (places_by (places_of old.clocks) command) new wrote
effect_count old new (family.Edit edit) wrote (same, none) = record {
  lines = ap numbers none;
  count = ap (λ (own : SessionData). own.count) same;
  clocks = ap (λ (own : SessionData). places_of own.clocks) same;
}
effect_count old new (family.Give give) wrote (same, none) = record {
  lines = ap numbers none;
  count = ap (λ (own : SessionData). own.count) same;
  clocks = ap (λ (own : SessionData). places_of own.clocks) same;
}
effect_count old new (family.Setup setup) wrote (same, none) = record {
  lines = ap numbers none;
  count = ap (λ (own : SessionData). own.count) same ∙ setup_counted old setup;
  clocks = ap (λ (own : SessionData). places_of own.clocks) same ∙ setup_placed old setup;
}
effect_count old new (family.Run Step) wrote is =
    let counted : new.count ≡ one_more old.count = ap (λ (own : SessionData). own.count) is.moved in record {
      lines = ap numbers is.wrote ∙ ap (λ (n : ℕ). n ∷ []) counted;
      count = counted;
      clocks = ap (λ (own : SessionData). places_of own.clocks) is.moved;
    }
effect_count old new (family.Run Phase) wrote is =
    let counted : new.count ≡ one_more old.count = ap (λ (own : SessionData). own.count) is.moved in record {
      lines = ap numbers is.wrote ∙ ap (λ (n : ℕ). n ∷ []) counted;
      count = counted;
      clocks = ap (λ (own : SessionData). places_of own.clocks) is.moved;
    }
effect_count old new (family.Run (Cycle times)) wrote is = beats_count old new (places_in (places_of old.clocks) times) wrote is
effect_count old new (family.Run Report) wrote is = record {
  lines = ap numbers is.wrote;
  count = ap (λ (own : SessionData). own.count) is.moved;
  clocks = ap (λ (own : SessionData). places_of own.clocks) is.moved;
}
effect_count old new (family.Tell tell) wrote (same, told) = record {
  lines = ap numbers told ∙ told_none old tell;
  count = ap (λ (own : SessionData). own.count) same;
  clocks = ap (λ (own : SessionData). places_of own.clocks) same;
}

performs_count : (old new : SessionData) (command : Command) (wrote : List Line) (texts : List GroupTextData) → Performs old command new wrote texts →
    Counts old (waves_in (places_of old.clocks) command) (places_by (places_of old.clocks) command) new wrote
performs_count old new command wrote texts is =
    let (counted, placed) = builds_count (builds command) old is.mid texts is.prepares in
    let own = effect_count is.mid new command wrote is.does.effect in record {
      lines = own.lines ∙ ap₂ (λ (n places : ℕ). numbers_from n (waves_in places command)) counted placed;
      count = own.count ∙ ap₂ (λ (n places : ℕ). count_after n (waves_in places command)) counted placed;
      clocks = own.clocks ∙ ap (λ (places : ℕ). places_by places command) placed;
    }

-- ---- a line

-- the command that a line asks for, or else this one
abbrev command_in : Command → Result (Option Command) ScriptFault → Command
command_in other (Ok (Some command)) = command
command_in other (Ok None) = other
command_in other (Err fault) = other

module _ (values : List ℕ → Bool) (c : CircuitData) (vectors : List (List ℕ × List ℕ)) (places : ℕ) where
  -- a line that asks for nothing of a plain script
  idle_read : (reading : Result (Option SymbolLine) ScriptFault) → command_under values c vectors reading ≡ Ok None →
      (waves_read places reading ≡ 0) × (places_read places reading ≡ places)
  idle_read (Err fault) is = absurd (cc is)
  idle_read (Ok None) is = (refl, refl)
  idle_read (Ok (Some (asks.Values verb list))) is = absurd (cc is)
  idle_read (Ok (Some (asks.Names command))) is = (refl, refl)
  idle_read (Ok (Some (asks.Plain command))) is = absurd (cc is)

  -- and one that asks for a command
  asked_read : (reading : Result (Option SymbolLine) ScriptFault) (command : Command) → command_under values c vectors reading ≡ Ok (Some command) →
      (waves_in places command ≡ waves_read places reading) × (places_by places command ≡ places_read places reading)
  asked_read (Err fault) command is = absurd (cc is)
  asked_read (Ok None) command is = absurd (cc is)
  asked_read (Ok (Some (asks.Values Set list))) command is = (
    sym (ap (λ (own : Result (Option Command) ScriptFault). waves_in places (command_in command own)) is),
    sym (ap (λ (own : Result (Option Command) ScriptFault). places_by places (command_in command own)) is),
  )
  asked_read (Ok (Some (asks.Values Charge list))) command is = (
    sym (ap (λ (own : Result (Option Command) ScriptFault). waves_in places (command_in command own)) is),
    sym (ap (λ (own : Result (Option Command) ScriptFault). places_by places (command_in command own)) is),
  )
  asked_read (Ok (Some (asks.Values Wanted list))) command is = (
    sym (ap (λ (own : Result (Option Command) ScriptFault). waves_in places (command_in command own)) is),
    sym (ap (λ (own : Result (Option Command) ScriptFault). places_by places (command_in command own)) is),
  )
  asked_read (Ok (Some (asks.Names names))) command is = absurd (cc is)
  asked_read (Ok (Some (asks.Plain plain))) command is = (
    sym (ap (λ (own : Result (Option Command) ScriptFault). waves_in places (command_in command own)) is),
    sym (ap (λ (own : Result (Option Command) ScriptFault). places_by places (command_in command own)) is),
  )

-- what a line writes, whatever the circuit is
line_count : (quiet : Bool) (values : List ℕ → Bool) (cut : Option ℕ) (old new : SessionData) (line : ℕ × List ℕ) (wrote : List Line) (texts : List GroupTextData) →
    IsObeyed (reading_under quiet values) cut old line new wrote texts →
    Counts old (waves_read (places_of old.clocks) (symbol_reading_of quiet line.1)) (places_read (places_of old.clocks) (symbol_reading_of quiet line.1)) new wrote
line_count quiet values cut old new line wrote texts (idle nothing) =
    let (none, same) = idle_read values old.circuit old.vectors (places_of old.clocks) (symbol_reading_of quiet line.1) nothing.nothing in record {
      lines = sym (ap (numbers_from old.count) none);
      count = sym (ap (count_after old.count) none);
      clocks = sym same;
    }
line_count quiet values cut old new line wrote texts (done command last own analysed asked performs) =
    let (waves, places) = asked_read values old.circuit old.vectors (places_of old.clocks) (symbol_reading_of quiet line.1) command asked.asked in
    let counts = performs_count old new command wrote texts performs in record {
      lines = counts.lines ∙ ap (numbers_from old.count) waves;
      count = counts.count ∙ ap (count_after old.count) waves;
      clocks = counts.clocks ∙ places;
    }

-- ---- what is shown

-- of a shown line its number and how many words it has
abbrev heads_shown : List shows.Shown → List (ℕ × ℕ)
heads_shown shown = map (λ own. (own.0, length own.1)) shown

words_shown : (words : List Watched) (states : List Tern) → length (by_words words states) ≡ length words
words_shown [] states = refl
words_shown (own ∷ words) states = ap suc (words_shown words (drop own.1 states))

abbrev numbered_by : ℕ → List ℕ → List (ℕ × ℕ)
numbered_by words list = map (λ n. (n, words)) list

lines_shown : (words : List Watched) (lines : List Line) → heads_shown (filter_map (shown_by words) lines) ≡ numbered_by (length words) (numbers lines)
lines_shown words [] = refl
lines_shown words (Wave n k mark states ∷ lines) =
    ap₂ (λ (count : ℕ) (rest : List (ℕ × ℕ)). (n, count) ∷ rest) (words_shown words states) (lines_shown words lines)
lines_shown words (Unmet name wanted got n ∷ lines) = lines_shown words lines
lines_shown words (Shown name states ∷ lines) = lines_shown words lines
lines_shown words (Looked name state sort ∷ lines) = lines_shown words lines
lines_shown words (AtEnd switch gate gate_state end end_state ∷ lines) = lines_shown words lines
lines_shown words (AtGate switch source source_state drain drain_state ∷ lines) = lines_shown words lines
lines_shown words (Reported groups texts fresh ∷ lines) = lines_shown words lines
lines_shown words (Refused place code name count ∷ lines) = lines_shown words lines

-- what lines show where so many words are watched before them, by their words alone
abbrev pub heads_from : Bool → (words count places : ℕ) → List (ℕ × List ℕ) → List (ℕ × ℕ)
heads_from quiet words count places [] = []
heads_from quiet words count places (line ∷ lines) =
    numbered_by words (numbers_from count (waves_read places (symbol_reading_of quiet line.1)))
    ++ heads_from quiet (words + length (names_watched quiet line)) (count_after count (waves_read places (symbol_reading_of quiet line.1)))
    (places_read places (symbol_reading_of quiet line.1)) lines

pub heads_of_run : (quiet : Bool) (values : List ℕ → Bool) (cut : Option ℕ) (words : List Watched) (old new : SessionData) (lines : List (ℕ × List ℕ))
    (shown : List shows.Shown) → ShowsWaves (reading_under quiet values) cut words old lines new shown →
    heads_shown shown ≡ heads_from quiet (length words) old.count (places_of old.clocks) lines
heads_of_run quiet values cut words old new lines shown (no_line _ _) = refl
heads_of_run quiet values cut words old new lines shown (one_line _ _ mid _ line rest wrote texts more obeyed later) =
    let counts = line_count quiet values cut old mid line wrote texts obeyed in
    let own : List Watched = words_of_line (reading_under quiet values) old line in
    let watched : length (words ++ own) ≡ length words + length (names_watched quiet line) =
    length-append words own ∙ ap (λ (n : ℕ). length words + n)
    (ap (λ (list : List Watched). length list) (words_in_line quiet values old line old.circuit old.vectors refl refl)
    ∙ words_counted old.circuit old.vectors (names_watched quiet line)) in
    map-append (λ (each : shows.Shown). (each.0, length each.1)) (filter_map (shown_by words) wrote) more
    ∙ ap₂ (λ (front rest_heads : List (ℕ × ℕ)). front ++ rest_heads) (lines_shown words wrote ∙ ap (numbered_by (length words)) counts.lines)
    (heads_of_run quiet values cut (words ++ own) mid new rest more later
    ∙ ap (λ (n : ℕ). heads_from quiet n mid.count (places_of mid.clocks) rest) watched
    ∙ ap₂ (λ (n places : ℕ). heads_from quiet (length words + length (names_watched quiet line)) n places rest) counts.count counts.clocks)
  where
    words_counted : (c : CircuitData) (vectors : List (List ℕ × List ℕ)) (names : List (List ℕ)) → length (counted_words c vectors names) ≡ length names
    words_counted c vectors [] = refl
    words_counted c vectors (name ∷ names) = ap suc (words_counted c vectors names)

-- the heads of notes are those of what they show
pub heads_noted : (words : List Watched) (waves : List WaveNote) (states : List Tern) → All (λ (wave : WaveNote). wave.words ≤ length words) waves →
    heads_shown (shown_from words waves states) ≡ heads_of waves
heads_noted words [] states few = refl
heads_noted words (wave ∷ waves) states few =
    ap₂ (λ (count : ℕ) (rest : List (ℕ × ℕ)). (wave.n, count) ∷ rest)
    (words_shown (take wave.words words) (take wave.nodes states)
    ∙ length-take-le wave.words words (All-head (λ (own : WaveNote). own.words ≤ length words) wave waves few))
    (heads_noted words waves (drop wave.nodes states) (All-tail (λ (own : WaveNote). own.words ≤ length words) wave waves few))
