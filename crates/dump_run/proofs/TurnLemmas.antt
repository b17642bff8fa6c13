-- What a command and its line come to, by what the session and its hearer or onlooker say of the command.
use Rattle.std.proofs.Common.{◌≡◌, ◌≢◌, ◌⊎◌, ℕ, ◌<◌, ◌≤◌, inl, inr, Bool, true, false, true≢false, List, [], ◌∷◌, ◌++◌, map, length, All, Option, None, Some, Result, Ok, Err, OnOk, refl, sym, ap, subst, ◌∙◌, append-nil, arith}
use Rattle.std.specs.Prelude.{IfErr, is_some}
use Rattle.std.proofs.lemmas.List.Elements.{All-append, All-nil, All-cons, All-weaker}
use Rattle.ternary.specs.declared.tern.Tern.{Tern}
use Rattle.switch_paths.specs.Graphs.{nodes}
use Rattle.settling.specs.Passes.{Pass, last_behind, see_passes}
use Rattle.line_words.specs.Files.{is_cut}
use Rattle.group_text.specs.Texts.{GroupTextData}
use Rattle.script_lang.specs.declared.command.Command.{Command}
use Rattle.script_lang.specs.declared.command.Command.TheVariants as family
use Rattle.script_lang.specs.declared.command.Setup.TheVariants as setup
use Rattle.script_lang.specs.declared.command.ScriptFault.{ScriptFault}
use Rattle.script_lang.specs.declared.command.ScriptFault.TheVariants as script
use Rattle.script_lang.specs.Forms.{IsFormed}
use Rattle.told_lines.specs.Lines.{Line, Told}
use Rattle.told_lines.specs.Hearing.{hear_all, of_column}
use Rattle.printed_lines.specs.declared.faults.FaultCode.{FaultCode}
use Rattle.printed_lines.specs.declared.faults.FaultCode.TheVariants.{S11TooLong}
use Rattle.wave_dump.specs.Dumps.{Page}
use Rattle.wave_dump.specs.Entries.{IsInside}
use Rattle.wave_dump.specs.Scenes.{EntryData, Scene, Watched}
use Rattle.wave_dump.specs.Writing.{DumpData, Sheet, Shows, HearsPart, Telling, begin, hear, rest, see_state, tell_all}
use Rattle.run_ends.specs.declared.stop.Stop.{Stop}
use Rattle.run_ends.specs.Causes.{plain_cause}
use Rattle.session_meaning.specs.declared.fault.ApplyFault.{ApplyFault}
use Rattle.session_meaning.specs.declared.fault.ApplyFault.TheVariants.{Refused, GroupNodes, GroupSwitches, WriteFault, NoMemory}
use Rattle.session_meaning.specs.Sessions.{SessionData, IsSession}
use Rattle.session_meaning.specs.Outcomes.{Accepts, Begins, Keeps, Obeys, Performs}
use Rattle.session_meaning.proofs.PassingLemmas.{known_few}
use Rattle.session_meaning.specs.Passing.{IsUnseen, KnowsBehind, PassesThrough, Sees, known_behind}
use Rattle.session_meaning.proofs.ValueLemmas.{name-within}
use Rattle.script_meaning.specs.Codes.{script_code}
use Rattle.script_meaning.specs.declared.turn.Turn.{Turn}
use Rattle.script_meaning.specs.declared.turn.Turn.TheVariants as turn
use Rattle.script_meaning.specs.Runs.{Asks, plain_reading, refused, too_long}
use Rattle.script_meaning.specs.Turns.{turn_after}
use Rattle.script_meaning.proofs.PerformLemmas.{performs-allowed}
use Rattle.script_meaning.proofs.TurnLemmas.{is_unread}
use Rattle.script_meaning.proofs.UniqueRuns.{same_command}
use Rattle.dump_run.specs.Dumped.{IsDumpRefused, as_ever, too_late, IsTimely, comments, entries_asked, entry_of, is_move, is_watch, passing, scenes_of}
use Rattle.dump_run.specs.Turns.{DumpsCommand, DumpsTurn, RefusesUnder, Rests, TellsCommand, TellsPart, has_begun, told_in, watched_in}
use Rattle.dump_run.proofs.SceneLemmas.{hear_all-page, lines_part, parts_told, passes-closed, some-begun, tell_comments, tell_passing, tell_watched, told-adds, watched_sheet}
use Rattle.dump_run.proofs.CommandLemmas.{few_nodes, move_other, no_passes, no_refusals, no_words, or_false, or_true, silent, some_passes, timely_early, timely_other}

-- ---- words are inside

-- of more nodes too
pub inside_more : (count more : ℕ) (entries : List EntryData) → count ≤ more → All (IsInside count) entries → All (IsInside more) entries
inside_more count more entries few all =
    All-weaker (IsInside count) (IsInside more)
    (λ entry inside. All-weaker (λ (node : ℕ). node < count) (λ (node : ℕ). node < more) (λ node below. omega (arith, below, few)) entry.nodes inside)
    entries all

-- so are those that a `watch` names
words_inside : (session : SessionData) → IsSession session → (names : List (List ℕ)) →
    All (IsInside (length session.state)) (map (entry_of session.circuit session.vectors) names)
words_inside session is [] = All-nil (IsInside (length session.state))
words_inside session is (name ∷ names) =
    All-cons (IsInside (length session.state)) (entry_of session.circuit session.vectors name) (map (entry_of session.circuit session.vectors) names)
    (subst (λ (count : ℕ). All (λ (node : ℕ). node < count) (entry_of session.circuit session.vectors name).nodes) (sym is.ready.states)
    (name-within session.circuit is.ready.netlist session.vectors is.vectors name))
    (words_inside session is names)

-- between steps, the state at rest is known
pub rests_known : (sheet : Sheet) (state : List Tern) → Rests sheet state → Shows sheet state
rests_known sheet state rests = record { inside = rests.inside; shown = λ begun. absurd (true≢false (sym begun ∙ rests.closed)) }

-- ---- a command that takes no step

module _ (old new : SessionData) (command : Command) (before after : Sheet) (asked told : List GroupTextData) where
  -- was kept
  kept_rests : Keeps old new before after asked told → Rests before old.state → Rests after new.state
  kept_rests keeps rests =
      subst (λ (sheet : Sheet). Rests sheet new.state) (sym keeps.unheard)
      (subst (λ (session : SessionData). Rests before session.state) (sym keeps.same) rests)

  module _ (still : is_move command ≡ false) (other : is_watch command ≡ false) where
    -- what it tells are its lines
    tells_lines : (end : SessionData) (lines : List Line) (texts : List GroupTextData) → Performs old command end lines texts →
        tell_all (told_in old.state before) (scenes_of old command [] lines end)
        ≡ told_in end.state (hear_all hear before (of_column 0 lines))
    tells_lines end lines texts performs =
        parts_told (told_in old.state before) (told_in old.state before) (told_in old.state before)
        (told_in old.state (hear_all hear before (of_column 0 lines))) (map Watched (entries_asked old command)) [] (comments lines) end.state
        (ap (λ (words : List EntryData). tell_all (told_in old.state before) (map Watched words)) (no_words old command other)) refl
        (tell_comments old.state before lines (no_refusals performs.mid end command lines still performs.does.effect))

    tells_accepted : Accepts hear old command new before after asked told → TellsCommand command old new before after asked told
    tells_accepted accepts =
        let lines : List Told = of_column 0 accepts.lines in
        record {
          timely = timely_other (has_begun before) command other;
          begun = ap has_begun accepts.heard
              ∙ (ap (λ (page : Page). is_some page.shown) (hear_all-page before lines).0 ∙ or_false (has_begun before) (is_move command) still);
          through = [];
          wrote = accepts.lines;
          texts = accepts.texts;
          performs = accepts.performs;
          passes = no_passes old command still;
          tells = tells_lines new accepts.lines accepts.texts accepts.performs ∙ ap (told_in new.state) (sym accepts.heard);
          analysed = accepts.analysed;
        }

    tells_begun : Begins hear HearsPart old command new before after asked told → TellsPart command old before after
    tells_begun begins =
        let part = lines_part before after (of_column 0 begins.lines) begins.heard in
        record {
          timely = timely_other (has_begun before) command other;
          new = begins.end;
          through = [];
          wrote = begins.lines;
          texts = begins.texts;
          performs = begins.performs;
          passes = no_passes old command still;
          sink = part.sink;
          left = part.longer.more;
          due = ap (λ (t : Telling). t.sheet.due) (tells_lines begins.end begins.lines begins.texts begins.performs) ∙ part.longer.due;
        }

    pub still_turn : (refusals now : ℕ) (ended : Result (Unit {0}) ApplyFault) →
        Obeys hear HearsPart old command new before after asked told refusals now ended →
        DumpsCommand command old new before after asked told (turn_after ended)
    still_turn refusals now (Ok _) obeys = tells_accepted obeys.0
    still_turn refusals now (Err (Refused refusal)) obeys =
        (inl (timely_other (has_begun before) command other, (refusal, obeys.0.cause, refl)), obeys.0.keeps)
    still_turn refusals now (Err (GroupNodes node count)) obeys = obeys.0
    still_turn refusals now (Err (GroupSwitches node count)) obeys = obeys.0
    still_turn refusals now (Err WriteFault) obeys = inr (tells_begun obeys.0)
    still_turn refusals now (Err NoMemory) (inl stays) = inl stays.0.unheard
    still_turn refusals now (Err NoMemory) (inr begins) = inr (tells_begun begins.0)

    pub still_rests : (refusals now : ℕ) (ended : Result (Unit {0}) ApplyFault) →
        Obeys hear HearsPart old command new before after asked told refusals now ended → Rests before old.state →
        OnOk (turn_after ended) (Rests after new.state)
    still_rests refusals now (Ok _) obeys rests =
        let accepts = obeys.0 in
        let page = hear_all-page before (of_column 0 accepts.lines) in
        subst (λ (sheet : Sheet). Rests sheet new.state) (sym accepts.heard)
        (record {
          closed = page.1 ∙ rests.closed;
          inside = subst (λ (page : Page). All (IsInside (length new.state)) page.entries) (sym page.0)
              (inside_more (length old.state) (length new.state) before.page.entries
              (few_nodes old new command accepts.lines accepts.texts still accepts.performs) rests.inside);
        })
    still_rests refusals now (Err (Refused refusal)) obeys rests = kept_rests obeys.0.keeps rests
    still_rests refusals now (Err (GroupNodes node count)) obeys rests = kept_rests obeys.0.keeps rests
    still_rests refusals now (Err (GroupSwitches node count)) obeys rests = kept_rests obeys.0.keeps rests
    still_rests refusals now (Err WriteFault) obeys rests = tt
    still_rests refusals now (Err NoMemory) obeys rests = tt

  -- ---- one that moves

  -- the dump is as it was: so are all that a refused command keeps
  kept_sheet : {H : Type 0} (was is : H) → Keeps old new was is asked told → after ≡ before → Keeps old new before after asked told
  kept_sheet was is keeps same = record { same = keeps.same; unheard = same; unasked = keeps.unasked }

  module _ (moves : is_move command ≡ true) (formed : IsFormed command) (session : IsSession old) where
    -- what it tells are its steps and phases
    tells_moved : {H : Type 0} (hears : H → Told → H) (was is : H) → Accepts hears old command new was is asked told →
        Sees begin see_state rest (PassesThrough old command) before after → TellsCommand command old new before after asked told
    tells_moved hears was is accepts sees =
        let other = move_other command moves in
        let performs = accepts.performs in
        let some = some_passes old command sees.passes formed session
        (performs-allowed old new command accepts.lines accepts.texts performs) moves sees.through in
        let all : List Pass = some.0 ∷ some.1 in
        let lines = silent performs.mid new command accepts.lines moves performs.does.effect in
        let behind = told_in (last_behind old.state sees.passes) (see_passes begin see_state rest before sees.passes) in
        record {
          timely = timely_other (has_begun before) command other;
          begun = ap has_begun sees.seen
              ∙ (ap (λ (passes : List Pass). has_begun (see_passes begin see_state rest before passes)) some.2
              ∙ (some-begun before some.0 some.1 ∙ or_true (has_begun before) (is_move command) moves));
          through = sees.passes;
          wrote = accepts.lines;
          texts = accepts.texts;
          performs = performs;
          passes = sees.through;
          tells = parts_told (told_in old.state before) (told_in old.state before) behind behind
              (map Watched (entries_asked old command)) (passing sees.passes) (comments accepts.lines) new.state
              (ap (λ (words : List EntryData). tell_all (told_in old.state before) (map Watched words)) (no_words old command other))
              (tell_passing old.state before sees.passes) (ap (tell_all behind) lines)
              ∙ ap (told_in new.state) (sym sees.seen);
          analysed = accepts.analysed;
        }

    pub move_turn : {H : Type 0} (hears : H → Told → H) (parts : H → Told → H → Type 0) (was is : H) (refusals now : ℕ)
        (ended : Result (Unit {0}) ApplyFault) → Obeys hears parts old command new was is asked told refusals now ended →
        OnOk ended (Sees begin see_state rest (PassesThrough old command) before after) → IfErr ended (λ _. after ≡ before) →
        DumpsCommand command old new before after asked told (turn_after ended)
    move_turn hears parts was is refusals now (Ok _) obeys sees same = tells_moved hears was is obeys.0 sees
    move_turn hears parts was is refusals now (Err (Refused refusal)) obeys sees same =
        (inl (timely_other (has_begun before) command (move_other command moves), (refusal, obeys.0.cause, refl)), kept_sheet was is obeys.0.keeps same)
    move_turn hears parts was is refusals now (Err (GroupNodes node count)) obeys sees same = record {
      allowed = obeys.0.allowed;
      building = obeys.0.building;
      first = obeys.0.first;
      keeps = kept_sheet was is obeys.0.keeps same;
    }
    move_turn hears parts was is refusals now (Err (GroupSwitches node count)) obeys sees same = record {
      allowed = obeys.0.allowed;
      building = obeys.0.building;
      first = obeys.0.first;
      keeps = kept_sheet was is obeys.0.keeps same;
    }
    move_turn hears parts was is refusals now (Err WriteFault) obeys sees same = inl same
    move_turn hears parts was is refusals now (Err NoMemory) obeys sees same = inl same

    pub move_rests : {H : Type 0} (hears : H → Told → H) (parts : H → Told → H → Type 0) (was is : H) (refusals now : ℕ)
        (ended : Result (Unit {0}) ApplyFault) → Obeys hears parts old command new was is asked told refusals now ended →
        OnOk ended (Sees begin see_state rest (PassesThrough old command) before after) → IfErr ended (λ _. after ≡ before) →
        OnOk ended (KnowsBehind Shows after old command new) → Rests before old.state → OnOk (turn_after ended) (Rests after new.state)
    move_rests hears parts was is refusals now (Ok _) obeys sees same some rests = record {
      closed = ap (λ (sheet : Sheet). sheet.is_open) sees.seen ∙ passes-closed before sees.passes rests.closed;
      inside = inside_more (length (known_behind old command new)) (length new.state) after.page.entries
          (known_few old new command some.moves) some.known.inside;
    }
    move_rests hears parts was is refusals now (Err (Refused refusal)) obeys sees same some rests = kept_rests (kept_sheet was is obeys.0.keeps same) rests
    move_rests hears parts was is refusals now (Err (GroupNodes node count)) obeys sees same some rests =
        kept_rests (kept_sheet was is obeys.0.keeps same) rests
    move_rests hears parts was is refusals now (Err (GroupSwitches node count)) obeys sees same some rests =
        kept_rests (kept_sheet was is obeys.0.keeps same) rests
    move_rests hears parts was is refusals now (Err WriteFault) obeys sees same some rests = tt
    move_rests hears parts was is refusals now (Err NoMemory) obeys sees same some rests = tt

  -- where the sink failed behind a command, all that it tells was told
  pub turn_stopped : (ended : Turn) (stop : Stop) → DumpsCommand command old new before after asked told (Ok ended) →
      DumpsCommand command old new before after asked told (Err stop)
  turn_stopped turn.Accepted stop tells =
      let adds = told-adds old.state new.state before after (scenes_of old command tells.through tells.wrote new) tells.tells in
      inr (record {
        timely = tells.timely;
        new = new;
        through = tells.through;
        wrote = tells.wrote;
        texts = tells.texts;
        performs = tells.performs;
        passes = tells.passes;
        sink = adds.sink;
        left = [];
        due = ap (λ (t : Telling). t.sheet.due) tells.tells ∙ sym (append-nil after.due);
      })
  turn_stopped (turn.Refused code) stop refuses = inl refuses.1.unheard
  turn_stopped (turn.TooLarge fault) stop refuses = inl refuses.keeps.unheard

-- a hearer that never fails met no fault: the onlooker is as it was
pub unseen_same : (before after : DumpData) (ended : Result (Unit {0}) ApplyFault) → IsUnseen before after 0 0 0 0 ended →
    IfErr ended (λ _. after.sheet ≡ before.sheet)
unseen_same before after (Ok _) unseen = tt
unseen_same before after (Err fault) (inl same) = ap (λ (dump : DumpData). dump.sheet) same
unseen_same before after (Err fault) (inr (inl counted)) = absurd (omega (arith, counted))
unseen_same before after (Err fault) (inr (inr counted)) = absurd (omega (arith, counted))

-- ---- `watch`

-- no list begins where none is left
none_left : {X : Type 0} (front rest : List X) (next : X) → [] ≡ front ++ next ∷ rest → ⊥
none_left [] rest next is = cc
none_left (one ∷ front) rest next is = cc

module _ (old mid : SessionData) (names : List (List ℕ)) (before told_before after : Sheet) (asked told : List GroupTextData)
    (early : has_begun before ≡ false) where
  abbrev watching : Command
  watching = family.Setup (setup.Watch names)

  -- it tells no line
  watch_stopped : Begins hear HearsPart old watching mid before told_before asked told → ⊥
  watch_stopped begins =
      let part = begins.heard in
      none_left part.front part.rest part.next (sym (ap (of_column 0) begins.performs.does.effect.1) ∙ part.split)

  -- where it isn't accepted
  pub watch_refused : (refusals now : ℕ) (ended : Result (Unit {0}) ApplyFault) (result : Result Turn Stop) →
      Obeys hear HearsPart old watching mid before told_before asked told refusals now ended → turn_after ended ≡ result → result ≢ Ok turn.Accepted →
      DumpsCommand watching old mid before told_before asked told result
  watch_refused refusals now (Ok _) result obeys is other = absurd (other (sym is))
  watch_refused refusals now (Err (Refused refusal)) result obeys is other =
      subst (DumpsCommand watching old mid before told_before asked told) is
      (inl (timely_early (has_begun before) watching early, (refusal, obeys.0.cause, refl)), obeys.0.keeps)
  watch_refused refusals now (Err (GroupNodes node count)) result obeys is other =
      subst (DumpsCommand watching old mid before told_before asked told) is obeys.0
  watch_refused refusals now (Err (GroupSwitches node count)) result obeys is other =
      subst (DumpsCommand watching old mid before told_before asked told) is obeys.0
  watch_refused refusals now (Err WriteFault) result obeys is other = absurd (watch_stopped obeys.0)
  watch_refused refusals now (Err NoMemory) result (inl stays) is other =
      subst (DumpsCommand watching old mid before told_before asked told) is (inl stays.0.unheard)
  watch_refused refusals now (Err NoMemory) result (inr begins) is other = absurd (watch_stopped begins.0)

  pub watch_kept : (refusals now : ℕ) (ended : Result (Unit {0}) ApplyFault) (result : Result Turn Stop) →
      Obeys hear HearsPart old watching mid before told_before asked told refusals now ended → turn_after ended ≡ result → result ≢ Ok turn.Accepted →
      Rests before old.state → OnOk result (Rests told_before mid.state)
  watch_kept refusals now (Ok _) result obeys is other rests = absurd (other (sym is))
  watch_kept refusals now (Err (Refused refusal)) result obeys is other rests =
      subst (λ (one : Result Turn Stop). OnOk one (Rests told_before mid.state)) is
      (kept_rests old mid watching before told_before asked told obeys.0.keeps rests)
  watch_kept refusals now (Err (GroupNodes node count)) result obeys is other rests = absurd (true≢false (sym obeys.0.building))
  watch_kept refusals now (Err (GroupSwitches node count)) result obeys is other rests = absurd (true≢false (sym obeys.0.building))
  watch_kept refusals now (Err WriteFault) result obeys is other rests =
      subst (λ (one : Result Turn Stop). OnOk one (Rests told_before mid.state)) is tt
  watch_kept refusals now (Err NoMemory) result obeys is other rests =
      subst (λ (one : Result Turn Stop). OnOk one (Rests told_before mid.state)) is tt

  -- where it is: it told nothing, and left all that its words are read by
  watch_accepts : (refusals now : ℕ) (ended : Result (Unit {0}) ApplyFault) →
      Obeys hear HearsPart old watching mid before told_before asked told refusals now ended → turn_after ended ≡ Ok turn.Accepted →
      Accepts hear old watching mid before told_before asked told
  watch_accepts refusals now (Ok _) obeys is = obeys.0
  watch_accepts refusals now (Err (Refused refusal)) obeys is = absurd (cc)
  watch_accepts refusals now (Err (GroupNodes node count)) obeys is = absurd (cc)
  watch_accepts refusals now (Err (GroupSwitches node count)) obeys is = absurd (cc)
  watch_accepts refusals now (Err WriteFault) obeys is = absurd (cc)
  watch_accepts refusals now (Err NoMemory) obeys is = absurd (cc)

  module _ (accepts : Accepts hear old watching mid before told_before asked told) where
    watch_quiet : told_before ≡ before
    watch_quiet = accepts.heard ∙ ap (λ (lines : List Line). hear_all hear before (of_column 0 lines)) accepts.performs.does.effect.1

    watch_core : mid ≡ record old { watched = mid.watched }
    watch_core =
        let same : mid ≡ record accepts.performs.mid { watched = mid.watched } =
        accepts.performs.does.effect.0 ∙ ap (λ (watched : List ℕ). record accepts.performs.mid { watched = watched })
        (sym (ap (λ (s : SessionData). s.watched) accepts.performs.does.effect.0)) in
        same ∙ ap (λ (s : SessionData). record s { watched = mid.watched }) accepts.performs.prepares.0

    -- its words are watched
    watch_words : (sheet : Sheet) → watched_in mid names sheet ≡ watched_in old names sheet
    watch_words sheet = ap (λ (s : SessionData). watched_in s names sheet) watch_core

    watch_told : after ≡ watched_in mid names told_before → after ≡ watched_in old names before
    watch_told watched = watched ∙ (watch_words told_before ∙ ap (watched_in old names) watch_quiet)

    abbrev watch_scenes : List Scene
    watch_scenes = scenes_of old watching [] accepts.lines mid

    tells_words : tell_all (told_in old.state before) watch_scenes ≡ told_in mid.state (watched_in old names before)
    tells_words =
        let words = told_in old.state (watched_in old names before) in
        parts_told (told_in old.state before) words words words (map Watched (map (entry_of old.circuit old.vectors) names)) []
        (comments accepts.lines) mid.state (tell_watched old names before) refl
        (ap (λ (lines : List Line). tell_all words (comments lines)) accepts.performs.does.effect.1)

    tells_watched : after ≡ watched_in mid names told_before → TellsCommand watching old mid before after asked told
    tells_watched watched = record {
      timely = timely_early (has_begun before) watching early;
      begun = ap has_begun (watch_told watched ∙ watched_sheet old names before) ∙ or_false (has_begun before) false refl;
      through = [];
      wrote = accepts.lines;
      texts = accepts.texts;
      performs = accepts.performs;
      passes = refl;
      tells = tells_words ∙ ap (told_in mid.state) (sym (watch_told watched));
      analysed = accepts.analysed;
    }

    -- at lack of memory on the way no text is due for them
    tells_unwatched : after.due ≡ told_before.due → after.before ≡ told_before.before → TellsPart watching old before after
    tells_unwatched due sink = record {
      timely = timely_early (has_begun before) watching early;
      new = mid;
      through = [];
      wrote = accepts.lines;
      texts = accepts.texts;
      performs = accepts.performs;
      passes = refl;
      sink = sink ∙ ap (λ (sheet : Sheet). sheet.before) watch_quiet;
      left = [];
      due = ap (λ (t : Telling). t.sheet.due) tells_words
          ∙ (ap (λ (sheet : Sheet). sheet.due) (watched_sheet old names before)
          ∙ (sym (due ∙ ap (λ (sheet : Sheet). sheet.due) watch_quiet) ∙ sym (append-nil after.due)));
    }

    watched_rests : IsSession old → Rests before old.state → after ≡ watched_in mid names told_before → Rests after mid.state
    watched_rests session rests watched =
        subst (λ (sheet : Sheet). Rests sheet mid.state) (sym (watch_told watched ∙ watched_sheet old names before))
        (subst (λ (state : List Tern). Rests (record before {
          page = record before.page { entries = before.page.entries ++ map (entry_of old.circuit old.vectors) names };
        }) state) (sym (ap (λ (s : SessionData). s.state) watch_core))
        (record {
          closed = rests.closed;
          inside = All-append (IsInside (length old.state)) before.page.entries (map (entry_of old.circuit old.vectors) names) rests.inside
              (words_inside old session names);
        }))

  -- the same by what the call of the command answered
  module _ (refusals now : ℕ) (ended : Result (Unit {0}) ApplyFault)
      (obeys : Obeys hear HearsPart old watching mid before told_before asked told refusals now ended) (is : turn_after ended ≡ Ok turn.Accepted) where
    pub watch_turn : after ≡ watched_in mid names told_before → DumpsCommand watching old mid before after asked told (Ok turn.Accepted)
    watch_turn watched = tells_watched (watch_accepts refusals now ended obeys is) watched

    pub watch_cut : (stop : Stop) → after.due ≡ told_before.due → after.before ≡ told_before.before →
        DumpsCommand watching old mid before after asked told (Err stop)
    watch_cut stop due sink = inr (tells_unwatched (watch_accepts refusals now ended obeys is) due sink)

    pub watch_rests : IsSession old → Rests before old.state → after ≡ watched_in mid names told_before → Rests after mid.state
    watch_rests session rests watched = watched_rests (watch_accepts refusals now ended obeys is) session rests watched

-- ---- a line

-- one that asks for a command comes to what the command comes to
pub asked_turn : (cut : Option ℕ) (line : ℕ × List ℕ) (command : Command) (old new : SessionData) (before after : Sheet) (asked told : List GroupTextData)
    (result : Result Turn Stop) → Asks plain_reading cut old line command → DumpsCommand command old new before after asked told result →
    DumpsTurn cut line old new before after asked told result
asked_turn cut line command old new before after asked told (Ok turn.Accepted) asks tells = inr (command, asks, tells)
asked_turn cut line command old new before after asked told (Ok (turn.Refused code)) asks refuses = (by refuses.0, refuses.1)
  where
    by : RefusesUnder (has_begun before) old command code → IsDumpRefused cut (has_begun before) old line (plain_cause code)
    by (inl (timely, (refusal, is, under))) =
        as_ever (refused command refusal asks is (ap plain_cause under))
        (λ other again. subst (IsTimely (has_begun before)) (same_command asks again) timely)
    by (inr (late, under)) = too_late command asks late (ap plain_cause under)
asked_turn cut line command old new before after asked told (Ok (turn.TooLarge fault)) asks refuses =
    record { command = command; asks = asks; refuses = refuses }
asked_turn cut line command old new before after asked told (Err stop) asks (inl same) = inl same
asked_turn cut line command old new before after asked told (Err stop) asks (inr part) = inr (command, asks, part)

-- one that is too far is refused
pub far_turn : (cut : Option ℕ) (begun : Bool) (session : SessionData) (line : ℕ × List ℕ) → is_cut cut line.0 ≡ true →
    IsDumpRefused cut begun session line (plain_cause S11TooLong)
far_turn cut begun session line far = as_ever (too_long far refl) (λ command asks. absurd (true≢false (sym far ∙ asks.inside)))

-- so is one that can't be read, if its fault has a code
pub unread_turn : (cut : Option ℕ) (begun : Bool) (session : SessionData) (line : ℕ × List ℕ) (fault : ScriptFault) (code : FaultCode) →
    is_cut cut line.0 ≡ false → (fault ≡ script.NoMemory) ⊎ (plain_reading session.circuit session.vectors line.1 ≡ Err fault) →
    script_code fault ≡ Some code → IsDumpRefused cut begun session line (plain_cause code)
unread_turn cut begun session line fault code inside (inl want) coded =
    let none : None ≡ Some code = sym (ap script_code want) ∙ coded in absurd (cc)
unread_turn cut begun session line fault code inside (inr is) coded =
    as_ever (is_unread plain_reading cut session line fault code inside (inr is) coded)
    (λ command asks. absurd (ok_no_fault (sym asks.asked ∙ is)))
  where
    ok_no_fault : {command : Option Command} {fault : ScriptFault} → Ok command ≡ Err fault → ⊥
    ok_no_fault is = cc
