-- How a script runs: something comes of it from everywhere, and what was heard so far is where its lines begin.
-- The plan: a record of how far a script has come says that each outcome from here, after what was told and analysed before it, is an
-- outcome from the start. Each line takes it one step on; at the end, at a refused line and at a fault it gives what is told of the whole.
use Rattle.std.proofs.Common.{◌≡◌, ◌≢◌, ℕ, inl, inr, Bool, true, false, List, [], ◌∷◌, ◌++◌, Option, None, Some, Result, Ok, Err, refl, sym, ap, subst, ◌∙◌, append_assoc, append-nil}
use Rattle.line_words.specs.Files.{is_cut}
use Rattle.group_text.specs.Texts.{GroupTextData}
use Rattle.circuit_texts.specs.declared.texts.BuildFault.{BuildFault}
use Rattle.circuit_texts.specs.Sizes.{TellsRefused}
use Rattle.script_lang.specs.declared.command.Command.{Command}
use Rattle.script_lang.specs.declared.command.ScriptFault.{ScriptFault}
use Rattle.script_lang.specs.declared.command.ScriptFault.TheVariants as script
use Rattle.session_meaning.specs.Sessions.{SessionData, IsReady}
use Rattle.told_lines.specs.Lines.{Line, Told}
use Rattle.told_lines.specs.Hearing.{hear_all, HearsFront, of_column}
use Rattle.told_lines.proofs.HearingLemmas.{hear_all-append, of_column-append, so_far-front}
use Rattle.session_meaning.specs.Outcomes.{Keeps}
use Rattle.printed_lines.specs.declared.faults.FaultCode.{FaultCode}
use Rattle.printed_lines.specs.declared.faults.FaultCode.TheVariants.{S11TooLong}
use Rattle.run_ends.specs.declared.stop.Stop.{Stop}
use Rattle.script_meaning.specs.declared.turn.Turn.{Turn}
use Rattle.script_meaning.specs.declared.turn.Turn.TheVariants.{Accepted, Refused, TooLarge}
use Rattle.run_ends.specs.Causes.{Cause, plain_cause, size_cause}
use Rattle.script_meaning.specs.Codes.{script_code, refusal_code}
use Rattle.script_meaning.specs.Runs.{Reading, IsSound, RefusedLine, Outcome, Runs, ends, passes, obeys, refuses, IsIdle, Asks, IsRefused, too_long, unread, refused, too_large, at_end, refused_at, after_command}
use Rattle.script_meaning.specs.Turns.{Follows, TakesTurn}
use Rattle.script_meaning.specs.Halts.{HasObeyed, HasOutgrown, BreaksOff}
use Rattle.session_meaning.proofs.EffectLemmas.{refused as refused_so, too_large as large_so, performed as performed_so}
use Rattle.script_meaning.proofs.LowerLemmas.{command_ends, ready-performs}
use Rattle.run_ends.proofs.SizeLemmas.{size_caused}
use Rattle.script_meaning.proofs.FirstRefusedLemmas.{after_command-twice}

-- a fault of a line has a code, but for lack of memory
pub script_coded : (fault : ScriptFault) → fault ≢ script.NoMemory → (code : FaultCode) × (script_code fault ≡ Some code)
script_coded script.LineTooLong other = (_, refl)
script_coded script.BadByte other = (_, refl)
script_coded script.BadCommand other = (_, refl)
script_coded script.FewWords other = (_, refl)
script_coded script.ManyWords other = (_, refl)
script_coded script.BadValue other = (_, refl)
script_coded script.BadNumber other = (_, refl)
script_coded script.NoMemory other = absurd (other refl)

-- something comes of a script
abbrev pub HasOutcome : Reading → Option ℕ → SessionData → List (ℕ × List ℕ) → Type 0
HasOutcome reading cut session lines = (outcome : Outcome) × Runs reading cut session lines outcome

-- one line of a script, from ready data, where something comes of the lines after it from all ready data
module _ (reading : Reading) (sound : IsSound reading) (cut : Option ℕ) (session : SessionData) (line : ℕ × List ℕ) (lines : List (ℕ × List ℕ)) (ready : IsReady session) (goes : (new : SessionData) → IsReady new → HasOutcome reading cut new lines) where
  -- of a refused line its refusal
  outcome-refused : (cause : Cause) → IsRefused reading cut session line cause → HasOutcome reading cut session (line ∷ lines)
  outcome-refused cause is = (refused_at session line.0 cause, refuses session line lines cause is)

  -- of a line that asks for a command, by what that comes to
  outcome-asked : (command : Command) → Asks reading cut session line command → HasOutcome reading cut session (line ∷ lines)
  outcome-asked command asks =
      elim (command_ends session command ready (sound.formed session.circuit session.vectors line.1 command asks.asked)) [
        | refused_so refusal is ↦ outcome-refused (plain_cause (refusal_code refusal)) (refused command refusal asks is refl)
        | large_so fault allowed building first ↦
            let caused = size_caused session.large session.circuit fault first in
            outcome-refused caused.0 (too_large command fault asks allowed building first caused.1)
        | performed_so new wrote texts performs ↦
            let rest = goes new (ready-performs session new command wrote texts ready performs) in
            (after_command wrote texts rest.0, obeys session new line lines command wrote texts rest.0 asks performs rest.1)
      ]

  -- by what the line is read as
  outcome-read : is_cut cut line.0 ≡ false → (read : Result (Option Command) ScriptFault) → reading session.circuit session.vectors line.1 ≡ read →
      HasOutcome reading cut session (line ∷ lines)
  outcome-read inside (Ok None) is =
      let rest = goes session ready in
      (rest.0, passes session line lines rest.0 (record { inside = inside; nothing = is }) rest.1)
  outcome-read inside (Ok (Some command)) is = outcome-asked command (record { inside = inside; asked = is })
  outcome-read inside (Err fault) is =
      let coded = script_coded fault (λ want. sound.named session.circuit session.vectors line.1 (is ∙ ap Err want)) in
      outcome-refused (plain_cause coded.0) (unread fault coded.0 inside is coded.1 refl)

  -- by whether the line holds the first byte too many
  outcome-by_cut : (far : Bool) → is_cut cut line.0 ≡ far → HasOutcome reading cut session (line ∷ lines)
  outcome-by_cut true is = outcome-refused (plain_cause S11TooLong) (too_long is refl)
  outcome-by_cut false is = outcome-read is (reading session.circuit session.vectors line.1) refl

pub outcome_exists : (reading : Reading) → IsSound reading → (cut : Option ℕ) (lines : List (ℕ × List ℕ)) (session : SessionData) → IsReady session → HasOutcome reading cut session lines
outcome_exists reading sound cut [] session ready = (at_end session, ends session)
outcome_exists reading sound cut (line ∷ lines) session ready =
    outcome-by_cut reading sound cut session line lines ready (λ new still. outcome_exists reading sound cut lines new still) (is_cut cut line.0) refl

-- how far a script has come: the lines told and the texts analysed since its start, which each outcome from here goes on from, and
-- data that are ready
pub record HasCome {H : Type 0} (hear : H → Told → H) (reading : Reading) (cut : Option ℕ) (start : SessionData) (all : List (ℕ × List ℕ)) (before : H)
    (asked : List GroupTextData) (now : SessionData) (left : List (ℕ × List ℕ)) (after : H) (told : List GroupTextData) : Type 0 where
  pub lines : List Line
  pub texts : List GroupTextData
  pub heard : after ≡ hear_all hear before (of_column 0 lines)
  pub analysed : told ≡ asked ++ texts
  pub goes_on : (rest : Outcome) → Runs reading cut now left rest → Runs reading cut start all (after_command lines texts rest)
  pub ready : IsReady now

module _ {H : Type 0} {hear : H → Told → H} where
  -- at the start nothing was told or analysed
  pub comes_first : {reading : Reading} {cut : Option ℕ} {start : SessionData} {all : List (ℕ × List ℕ)} {before : H} {asked : List GroupTextData} →
      IsReady start → HasCome hear reading cut start all before asked start all before asked
  comes_first {before = before} {asked = asked} ready =
      record { lines = []; texts = []; heard = refl; analysed = sym (append-nil asked); goes_on = λ rest runs. runs; ready = ready }

  -- the lines that are left, in other words
  pub comes_to : {reading : Reading} {cut : Option ℕ} {start now : SessionData} {all left rest : List (ℕ × List ℕ)} {before after : H}
      {asked told : List GroupTextData} →
      HasCome hear reading cut start all before asked now left after told → left ≡ rest → HasCome hear reading cut start all before asked now rest after told
  comes_to {reading = reading} {cut = cut} {start = start} {now = now} {all = all} {before = before} {after = after} {asked = asked} {told = told} come same =
      subst (λ lines. HasCome hear reading cut start all before asked now lines after told) same come

  -- to the end
  pub halts_end : {reading : Reading} {cut cuts : Option ℕ} {start now : SessionData} {all : List (ℕ × List ℕ)} {before after : H}
      {asked told : List GroupTextData} →
      HasCome hear reading cut start all before asked now [] after told → cut ≡ cuts →
      HasObeyed hear reading cuts start all now before after asked told None
  halts_end {reading = reading} {start = start} {now = now} {all = all} {before = before} {after = after} {asked = asked} {told = told} come same =
      subst (λ at. HasObeyed hear reading at start all now before after asked told None) same
      (record {
        outcome = after_command come.lines come.texts (at_end now);
        runs = come.goes_on (at_end now) (ends now);
        reached = refl;
        stopped = refl;
        heard = come.heard ∙ ap (λ (lines : List Line). hear_all hear before (of_column 0 lines)) (sym (append-nil come.lines));
        analysed = come.analysed ∙ ap (λ (texts : List GroupTextData). asked ++ texts) (sym (append-nil come.texts));
      })

-- where it stopped between two lines, all was heard that those before it tell
pub stops_here : {H : Type 0} {hear : H → Told → H} (part : H → Told → H → Type 0) {reading : Reading} {cut cuts : Option ℕ} {start now : SessionData}
    {all left : List (ℕ × List ℕ)} {before after : H} {asked told : List GroupTextData} →
    HasCome hear reading cut start all before asked now left after told → IsSound reading → cut ≡ cuts →
    BreaksOff hear part reading cuts start all before after
stops_here {hear = hear} part {reading} {cut} {cuts} {start} {now} {all} {left} {before} {after} come sound same =
    let rest = outcome_exists reading sound cut left now come.ready in
    subst (λ at. BreaksOff hear part reading at start all before after) same
    (record {
      outcome = after_command come.lines come.texts rest.0;
      runs = come.goes_on rest.0 rest.1;
      heard = inl (
        of_column 0 rest.0.lines,
        record { done = of_column 0 come.lines; split = of_column-append 0 come.lines rest.0.lines; heard = come.heard },
      );
    })

-- at a line, after those before it; what is told of the whole is told where the line that is too far is known in other words
module _ {H : Type 0} {hear : H → Told → H} (part : H → Told → H → Type 0) {reading : Reading} {cut : Option ℕ} {start : SessionData}
    {all : List (ℕ × List ℕ)} {before : H} {asked : List GroupTextData} (now : SessionData) {line : ℕ × List ℕ} {left : List (ℕ × List ℕ)} {after : H}
    {told : List GroupTextData} (come : HasCome hear reading cut start all before asked now (line ∷ left) after told) where
  -- past a line that asks for nothing
  comes_past : IsIdle reading cut now line → HasCome hear reading cut start all before asked now left after told
  comes_past idle = record {
    lines = come.lines;
    texts = come.texts;
    heard = come.heard;
    analysed = come.analysed;
    goes_on = λ rest runs. come.goes_on rest (passes now line left rest idle runs);
    ready = come.ready;
  }

  -- past the line of a command, with its lines and texts
  comes_by : (new : SessionData) (more : H) (further : List GroupTextData) → Follows hear reading cut line now new after more told further →
      HasCome hear reading cut start all before asked new left more further
  comes_by new more further follows =
      let accepts = follows.accepts in
      record {
        lines = come.lines ++ accepts.lines;
        texts = come.texts ++ accepts.texts;
        heard = accepts.heard ∙ ap (λ h. hear_all hear h (of_column 0 accepts.lines)) come.heard
            ∙ sym (hear_all-append hear before (of_column 0 come.lines) (of_column 0 accepts.lines))
            ∙ ap (hear_all hear before) (sym (of_column-append 0 come.lines accepts.lines));
        analysed = accepts.analysed ∙ ap (λ (texts : List GroupTextData). texts ++ accepts.texts) come.analysed
            ∙ append_assoc asked come.texts accepts.texts;
        goes_on = λ rest runs. subst (Runs reading cut start all) (after_command-twice come.lines accepts.lines come.texts accepts.texts rest)
            (come.goes_on (after_command accepts.lines accepts.texts rest)
            (obeys now new line left follows.command accepts.lines accepts.texts rest follows.asks accepts.performs runs));
        ready = ready-performs now new follows.command accepts.lines accepts.texts come.ready accepts.performs;
      }

  -- past a line that is accepted
  comes_accepted : (new : SessionData) (more : H) (further : List GroupTextData) →
      TakesTurn hear part reading cut line now new after more told further (Ok Accepted) →
      HasCome hear reading cut start all before asked new left more further
  comes_accepted new more further (inl passed) =
      let keeps = passed.keeps in
      subst (λ (session : SessionData). HasCome hear reading cut start all before asked session left more further) (sym keeps.same)
      (subst (λ h. HasCome hear reading cut start all before asked now left h further) (sym keeps.unheard)
      (subst (λ (texts : List GroupTextData). HasCome hear reading cut start all before asked now left after texts) (sym keeps.unasked)
      (comes_past passed.idle)))
  comes_accepted new more further (inr follows) = comes_by new more further follows

  pub comes_on : (new : SessionData) (more : H) (further : List GroupTextData) {turn : Turn} →
      TakesTurn hear part reading cut line now new after more told further (Ok turn) → turn ≡ Accepted →
      HasCome hear reading cut start all before asked new left more further
  comes_on new more further turn is =
      comes_accepted new more further (subst (λ one. TakesTurn hear part reading cut line now new after more told further (Ok one)) is turn)

  -- to a line that is refused for this cause
  refused_here : (cause : Cause) → IsRefused reading cut now line cause →
      HasObeyed hear reading cut start all now before after asked told (Some (record { line = line.0; cause = cause }))
  refused_here cause is = record {
    outcome = after_command come.lines come.texts (refused_at now line.0 cause);
    runs = come.goes_on (refused_at now line.0 cause) (refuses now line left cause is);
    reached = refl;
    stopped = refl;
    heard = come.heard ∙ ap (λ (lines : List Line). hear_all hear before (of_column 0 lines)) (sym (append-nil come.lines));
    analysed = come.analysed ∙ ap (λ (texts : List GroupTextData). asked ++ texts) (sym (append-nil come.texts));
  }

  -- what is told of the data as they are is told of the data that a refused command kept
  obeyed_kept : (new : SessionData) (more : H) (further : List GroupTextData) (last : Option RefusedLine) →
      Keeps now new after more told further → HasObeyed hear reading cut start all now before after asked told last →
      HasObeyed hear reading cut start all new before more asked further last
  obeyed_kept new more further last keeps obeyed =
      subst (λ (session : SessionData). HasObeyed hear reading cut start all session before more asked further last) (sym keeps.same)
      (subst (λ h. HasObeyed hear reading cut start all now before h asked further last) (sym keeps.unheard)
      (subst (λ (texts : List GroupTextData). HasObeyed hear reading cut start all now before after asked texts last) (sym keeps.unasked) obeyed))

  -- to a line that is refused under a code
  refused_under : (new : SessionData) (more : H) (further : List GroupTextData) (code : FaultCode) →
      TakesTurn hear part reading cut line now new after more told further (Ok (Refused code)) →
      HasObeyed hear reading cut start all new before more asked further (Some (record { line = line.0; cause = plain_cause code }))
  refused_under new more further code (is, keeps) =
      obeyed_kept new more further (Some (record { line = line.0; cause = plain_cause code })) keeps (refused_here (plain_cause code) is)

  pub halts_refused : (new : SessionData) (more : H) (further : List GroupTextData) {turn : Turn} {code : FaultCode} {cuts : Option ℕ} →
      TakesTurn hear part reading cut line now new after more told further (Ok turn) → turn ≡ Refused code → cut ≡ cuts →
      HasObeyed hear reading cuts start all new before more asked further (Some (record { line = line.0; cause = plain_cause code }))
  halts_refused new more further {code = code} turn is same =
      subst (λ at. HasObeyed hear reading at start all new before more asked further (Some (record { line = line.0; cause = plain_cause code }))) same
      (refused_under new more further code (subst (λ one. TakesTurn hear part reading cut line now new after more told further (Ok one)) is turn))

  -- to a line for whose command the circuit is too large
  outgrown_by : (new : SessionData) (more : H) (further : List GroupTextData) (fault : BuildFault) →
      TakesTurn hear part reading cut line now new after more told further (Ok (TooLarge fault)) →
      HasOutgrown hear reading cut start all new before more asked further line.0 fault
  outgrown_by new more further fault out =
      let keeps = out.refuses.keeps in
      record {
        first = subst (λ (session : SessionData). TellsRefused session.large session.circuit.graph fault) (sym keeps.same) out.refuses.first;
        halted = λ other cause tells named.
            obeyed_kept new more further (Some (record { line = line.0; cause = cause })) keeps
            (refused_here cause
            (too_large out.command other out.asks out.refuses.allowed out.refuses.building
            (subst (λ (session : SessionData). TellsRefused session.large session.circuit.graph other) keeps.same tells)
            (subst (λ (session : SessionData). size_cause session.circuit other ≡ Some cause) keeps.same named)));
      }

  pub halts_large : (new : SessionData) (more : H) (further : List GroupTextData) {turn : Turn} {fault : BuildFault} {cuts : Option ℕ} →
      TakesTurn hear part reading cut line now new after more told further (Ok turn) → turn ≡ TooLarge fault → cut ≡ cuts →
      HasOutgrown hear reading cuts start all new before more asked further line.0 fault
  halts_large new more further {fault = fault} turn is same =
      subst (λ at. HasOutgrown hear reading at start all new before more asked further line.0 fault) same
      (outgrown_by new more further fault (subst (λ one. TakesTurn hear part reading cut line now new after more told further (Ok one)) is turn))

  -- where it stopped in the lines of an outcome from here, a front was heard of what all lines tell
  breaks_in : (rest : Outcome) → Runs reading cut now (line ∷ left) rest → (last : H) (wrote others : List Line) → rest.lines ≡ wrote ++ others →
      HearsFront hear part after last (of_column 0 wrote) → BreaksOff hear part reading cut start all before last
  breaks_in rest runs last wrote others is front = record {
    outcome = after_command come.lines come.texts rest;
    runs = come.goes_on rest runs;
    heard = so_far-front hear part before after last (of_column 0 (come.lines ++ rest.lines)) (of_column 0 rest.lines) (of_column 0 wrote) (of_column 0 others)
        (ap (of_column 0) is ∙ of_column-append 0 wrote others)
        (record { done = of_column 0 come.lines; split = of_column-append 0 come.lines rest.lines; heard = come.heard }) front;
  }

  -- to a line at which it stopped: what was heard is where the lines begin that would have been told
  breaks_off : IsSound reading → (new : SessionData) (more : H) (further : List GroupTextData) (stop : Stop) →
      TakesTurn hear part reading cut line now new after more told further (Err stop) → BreaksOff hear part reading cut start all before more
  breaks_off sound new more further stop (inl same) =
      let rest = outcome_exists reading sound cut (line ∷ left) now come.ready in
      breaks_in rest.0 rest.1 more [] rest.0.lines refl (inl ([], record { done = []; split = refl; heard = same }))
  breaks_off sound new more further stop (inr starts) =
      let begins = starts.begins in
      let rest = outcome_exists reading sound cut left begins.end
      (ready-performs now begins.end starts.command begins.lines begins.texts come.ready begins.performs) in
      breaks_in (after_command begins.lines begins.texts rest.0)
      (obeys now begins.end line left starts.command begins.lines begins.texts rest.0 starts.asks begins.performs rest.1)
      more begins.lines rest.0.lines refl (inr begins.heard)

  pub halts_stop : IsSound reading → (new : SessionData) (more : H) (further : List GroupTextData) (stop : Stop) {cuts : Option ℕ} →
      TakesTurn hear part reading cut line now new after more told further (Err stop) → cut ≡ cuts →
      BreaksOff hear part reading cuts start all before more
  halts_stop sound new more further stop turn same =
      subst (λ at. BreaksOff hear part reading at start all before more) same (breaks_off sound new more further stop turn)
