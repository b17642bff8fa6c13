-- How a script is dumped: a record of how far it has come says that each outcome from here, behind what was told and analysed before it, is an
-- outcome from the start. Each line takes it one step on; at the end, at a refused line and at a fault it gives what was told of the whole.
use Rattle.std.proofs.Common.{◌≡◌, ℕ, inl, inr, Bool, true, false, ◌||◌, List, [], ◌∷◌, ◌++◌, Option, None, Some, Result, Ok, Err, refl, sym, ap, subst, ◌∙◌, append_assoc, append-nil}
use Rattle.group_text.specs.Texts.{GroupTextData}
use Rattle.circuit_texts.specs.declared.texts.BuildFault.{BuildFault}
use Rattle.circuit_texts.specs.Sizes.{TellsRefused}
use Rattle.script_lang.specs.declared.command.Command.{Command}
use Rattle.printed_lines.specs.declared.faults.FaultCode.{FaultCode}
use Rattle.wave_dump.specs.Scenes.{Scene}
use Rattle.wave_dump.specs.Writing.{Sheet, Telling, tell_all}
use Rattle.run_ends.specs.declared.stop.Stop.{Stop}
use Rattle.run_ends.specs.Causes.{Cause, plain_cause, size_cause}
use Rattle.session_meaning.specs.Sessions.{SessionData, IsReady}
use Rattle.session_meaning.specs.Outcomes.{Keeps}
use Rattle.script_meaning.specs.declared.turn.Turn.{Turn}
use Rattle.script_meaning.specs.declared.turn.Turn.TheVariants.{Accepted, Refused, TooLarge}
use Rattle.script_meaning.specs.Runs.{RefusedLine, Asks, plain_reading, too_large}
use Rattle.script_meaning.specs.Turns.{Outgrows, Passes}
use Rattle.script_meaning.proofs.LowerLemmas.{ready-performs}
use Rattle.dump_run.specs.Dumped.{Dumped, Dumps, IsDumpRefused, as_ever, ends, passes, obeys, refuses, IsTimely, behind, dumped_at, dump_refused, is_move, scenes_of}
use Rattle.dump_run.specs.Turns.{DumpsPart, DumpsTurn, HasDumped, TellsCommand, TellsPart, has_begun, told_in}
use Rattle.dump_run.proofs.SceneLemmas.{tell_all-adds, tell_all-append, told-adds}
use Rattle.dump_run.proofs.CommandLemmas.{building_other, timely_other}
use Rattle.dump_run.proofs.OutcomeLemmas.{dump_exists}
use Rattle.script_meaning.proofs.UniqueRuns.{same_command}

-- behind scenes and texts, what is behind others is behind both
behind-twice : (front back : List Scene) (texts more : List GroupTextData) (rest : Dumped) →
    behind front texts (behind back more rest) ≡ behind (front ++ back) (texts ++ more) rest
behind-twice front back texts more rest =
    ap (λ (scenes : List Scene). record { scenes = scenes; texts = texts ++ (more ++ rest.texts); end = rest.end; refused = rest.refused })
    (sym (append_assoc front back rest.scenes))
    ∙ ap (λ (all : List GroupTextData). record { scenes = (front ++ back) ++ rest.scenes; texts = all; end = rest.end; refused = rest.refused })
    (sym (append_assoc texts more rest.texts))

-- how far a script has come: the scenes told and the texts analysed since its start, which each outcome from here goes on from, and data that
-- are ready
pub record HasCome (cut : Option ℕ) (start : SessionData) (all : List (ℕ × List ℕ)) (before : Sheet) (asked : List GroupTextData) (now : SessionData)
    (left : List (ℕ × List ℕ)) (after : Sheet) (told : List GroupTextData) : Type 0 where
  pub scenes : List Scene
  pub texts : List GroupTextData
  pub tells : tell_all (told_in start.state before) scenes ≡ told_in now.state after
  pub analysed : told ≡ asked ++ texts
  pub goes_on : (rest : Dumped) → Dumps cut (has_begun after) now left rest → Dumps cut (has_begun before) start all (behind scenes texts rest)
  pub ready : IsReady now

-- at the start nothing was told or analysed
pub comes_first : {cut : Option ℕ} {start : SessionData} {all : List (ℕ × List ℕ)} {before : Sheet} {asked : List GroupTextData} → IsReady start →
    HasCome cut start all before asked start all before asked
comes_first {asked = asked} ready =
    record { scenes = []; texts = []; tells = refl; analysed = sym (append-nil asked); goes_on = λ rest dumps. dumps; ready = ready }

-- the lines that are left, in other words
pub comes_to : {cut : Option ℕ} {start now : SessionData} {all left rest : List (ℕ × List ℕ)} {before after : Sheet} {asked told : List GroupTextData} →
    HasCome cut start all before asked now left after told → left ≡ rest → HasCome cut start all before asked now rest after told
comes_to {cut} {start} {now} {all} {left} {rest} {before} {after} {asked} {told} come same =
    subst (λ (lines : List (ℕ × List ℕ)). HasCome cut start all before asked now lines after told) same come

module _ {cut : Option ℕ} {start now : SessionData} {all left : List (ℕ × List ℕ)} {before after : Sheet} {asked told : List GroupTextData}
    (come : HasCome cut start all before asked now left after told) where
  -- what an outcome from here tells is told behind what was told so far
  tells_rest : (scenes : List Scene) → tell_all (told_in start.state before) (come.scenes ++ scenes) ≡ tell_all (told_in now.state after) scenes
  tells_rest scenes =
      tell_all-append (told_in start.state before) come.scenes scenes ∙ ap (λ (t : Telling). tell_all t scenes) come.tells

  -- it has come to its end so
  comes_end : (rest : Dumped) → Dumps cut (has_begun after) now left rest → rest.scenes ≡ [] → rest.texts ≡ [] → rest.end ≡ now →
      HasDumped cut start all now before after asked told rest.refused
  comes_end rest dumps none no_texts reached = record {
    dumped = behind come.scenes come.texts rest;
    dumps = come.goes_on rest dumps;
    reached = reached;
    stopped = refl;
    tells = tells_rest rest.scenes ∙ ap (tell_all (told_in now.state after)) none;
    analysed = come.analysed ∙ ap (λ (texts : List GroupTextData). asked ++ texts) (sym (ap (λ (more : List GroupTextData). come.texts ++ more) no_texts
        ∙ append-nil come.texts));
  }

  -- a part of an outcome from here is a part of one from the start
  comes_part : (rest : Dumped) → Dumps cut (has_begun after) now left rest → (last : Sheet) (unsent : List ℕ) → last.before ≡ after.before →
      (tell_all (told_in now.state after) rest.scenes).sheet.due ≡ last.due ++ unsent → DumpsPart cut start all before last
  comes_part rest dumps last unsent sink due = record {
    dumped = behind come.scenes come.texts rest;
    dumps = come.goes_on rest dumps;
    sink = sink ∙ (told-adds start.state now.state before after come.scenes come.tells).sink;
    left = unsent;
    due = ap (λ (t : Telling). t.sheet.due) (tells_rest rest.scenes) ∙ due;
  }

  -- where it stopped between two lines
  comes_stop : DumpsPart cut start all before after
  comes_stop =
      let rest = dump_exists cut left (has_begun after) now come.ready in
      let adds = tell_all-adds (told_in now.state after) rest.0.scenes in
      comes_part rest.0 rest.1 after adds.more refl adds.due

-- to the end
pub halts_end : {cut cuts : Option ℕ} {start now : SessionData} {all : List (ℕ × List ℕ)} {before after : Sheet} {asked told : List GroupTextData} →
    HasCome cut start all before asked now [] after told → cut ≡ cuts → HasDumped cuts start all now before after asked told None
halts_end {cut} {cuts} {start} {now} {all} {before} {after} {asked} {told} come same =
    subst (λ (at : Option ℕ). HasDumped at start all now before after asked told None) same
    (comes_end come (dumped_at now) (ends (has_begun after) now) refl refl refl)

-- at a line, after those before it; what is told of the whole is told where the line that is too far is known in other words
module _ {cut : Option ℕ} {start : SessionData} {all : List (ℕ × List ℕ)} {before : Sheet} {asked : List GroupTextData} (now : SessionData)
    {line : ℕ × List ℕ} {left : List (ℕ × List ℕ)} {after : Sheet} {told : List GroupTextData}
    (come : HasCome cut start all before asked now (line ∷ left) after told) where
  -- past a line that asks for nothing
  comes_past : (new : SessionData) (more : Sheet) (further : List GroupTextData) → Passes plain_reading cut line now new after more told further →
      HasCome cut start all before asked new left more further
  comes_past new more further passed =
      let keeps = passed.keeps in
      let here : HasCome cut start all before asked now left after told = record {
        scenes = come.scenes;
        texts = come.texts;
        tells = come.tells;
        analysed = come.analysed;
        goes_on = λ rest dumps. come.goes_on rest (passes (has_begun after) now line left rest passed.idle dumps);
        ready = come.ready;
      } in
      subst (λ (session : SessionData). HasCome cut start all before asked session left more further) (sym keeps.same)
      (subst (λ (sheet : Sheet). HasCome cut start all before asked now left sheet further) (sym keeps.unheard)
      (subst (λ (texts : List GroupTextData). HasCome cut start all before asked now left after texts) (sym keeps.unasked) here))

  -- past the line of a command, with what it tells
  comes_by : (new : SessionData) (more : Sheet) (further : List GroupTextData) (command : Command) → Asks plain_reading cut now line command →
      TellsCommand command now new after more told further → HasCome cut start all before asked new left more further
  comes_by new more further command asks tells =
      let scenes = scenes_of now command tells.through tells.wrote new in
      record {
        scenes = come.scenes ++ scenes;
        texts = come.texts ++ tells.texts;
        tells = tells_rest come scenes ∙ tells.tells;
        analysed = tells.analysed ∙ (ap (λ (texts : List GroupTextData). texts ++ tells.texts) come.analysed
            ∙ append_assoc asked come.texts tells.texts);
        goes_on = λ rest dumps. subst (Dumps cut (has_begun before) start all) (behind-twice come.scenes scenes come.texts tells.texts rest)
            (come.goes_on (behind scenes tells.texts rest)
            (obeys (has_begun after) now new line left command tells.through tells.wrote tells.texts rest asks tells.timely tells.performs
            tells.passes (subst (λ (begun : Bool). Dumps cut begun new left rest) tells.begun dumps)));
        ready = ready-performs now new command tells.wrote tells.texts come.ready tells.performs;
      }

  -- past a line that is accepted
  comes_accepted : (new : SessionData) (more : Sheet) (further : List GroupTextData) → DumpsTurn cut line now new after more told further (Ok Accepted) →
      HasCome cut start all before asked new left more further
  comes_accepted new more further (inl passed) = comes_past new more further passed
  comes_accepted new more further (inr (command, asks, tells)) = comes_by new more further command asks tells

  pub comes_on : (new : SessionData) (more : Sheet) (further : List GroupTextData) {turn : Turn} →
      DumpsTurn cut line now new after more told further (Ok turn) → turn ≡ Accepted → HasCome cut start all before asked new left more further
  comes_on new more further turn is =
      comes_accepted new more further (subst (λ (one : Turn). DumpsTurn cut line now new after more told further (Ok one)) is turn)

  -- to a line that is refused for this cause
  refused_here : (cause : Cause) → IsDumpRefused cut (has_begun after) now line cause →
      HasDumped cut start all now before after asked told (Some (record { line = line.0; cause = cause }))
  refused_here cause is =
      comes_end come (dump_refused now line.0 cause) (refuses (has_begun after) now line left cause is) refl refl refl

  -- what is told of the data as they are is told of the data that a refused command kept
  dumped_kept : (new : SessionData) (more : Sheet) (further : List GroupTextData) (last : Option RefusedLine) → Keeps now new after more told further →
      HasDumped cut start all now before after asked told last → HasDumped cut start all new before more asked further last
  dumped_kept new more further last keeps dumped =
      subst (λ (session : SessionData). HasDumped cut start all session before more asked further last) (sym keeps.same)
      (subst (λ (sheet : Sheet). HasDumped cut start all now before sheet asked further last) (sym keeps.unheard)
      (subst (λ (texts : List GroupTextData). HasDumped cut start all now before after asked texts last) (sym keeps.unasked) dumped))

  -- to a line that is refused under a code
  refused_under : (new : SessionData) (more : Sheet) (further : List GroupTextData) (code : FaultCode) →
      DumpsTurn cut line now new after more told further (Ok (Refused code)) →
      HasDumped cut start all new before more asked further (Some (record { line = line.0; cause = plain_cause code }))
  refused_under new more further code (is, keeps) =
      dumped_kept new more further (Some (record { line = line.0; cause = plain_cause code })) keeps (refused_here (plain_cause code) is)

  pub halts_refused : (new : SessionData) (more : Sheet) (further : List GroupTextData) {turn : Turn} {code : FaultCode} {cuts : Option ℕ} →
      DumpsTurn cut line now new after more told further (Ok turn) → turn ≡ Refused code → cut ≡ cuts →
      HasDumped cuts start all new before more asked further (Some (record { line = line.0; cause = plain_cause code }))
  halts_refused new more further {code = code} turn is same =
      subst (λ (at : Option ℕ). HasDumped at start all new before more asked further (Some (record { line = line.0; cause = plain_cause code }))) same
      (refused_under new more further code (subst (λ (one : Turn). DumpsTurn cut line now new after more told further (Ok one)) is turn))

  -- to a line for whose command the circuit is too large
  abbrev HasOutgrown : Option ℕ → SessionData → Sheet → List GroupTextData → BuildFault → Type 0
  HasOutgrown at new more further fault =
      TellsRefused new.large new.circuit.graph fault
      × ((cause : Cause) → size_cause new.circuit fault ≡ Some cause →
      HasDumped at start all new before more asked further (Some (record { line = line.0; cause = cause })))

  outgrown_by : (new : SessionData) (more : Sheet) (further : List GroupTextData) (fault : BuildFault) →
      DumpsTurn cut line now new after more told further (Ok (TooLarge fault)) → HasOutgrown cut new more further fault
  outgrown_by new more further fault out =
      let keeps = out.refuses.keeps in (
        subst (λ (session : SessionData). TellsRefused session.large session.circuit.graph fault) (sym keeps.same) out.refuses.first,
        λ cause named.
            dumped_kept new more further (Some (record { line = line.0; cause = cause })) keeps
            (refused_here cause
            (as_ever
            (too_large out.command fault out.asks out.refuses.allowed out.refuses.building out.refuses.first
            (subst (λ (session : SessionData). size_cause session.circuit fault ≡ Some cause) keeps.same named))
            (λ other again. subst (IsTimely (has_begun after)) (same_command out.asks again)
            (timely_other (has_begun after) out.command (building_other out.command out.refuses.building))))),
      )

  pub halts_large : (new : SessionData) (more : Sheet) (further : List GroupTextData) {turn : Turn} {fault : BuildFault} {cuts : Option ℕ} →
      DumpsTurn cut line now new after more told further (Ok turn) → turn ≡ TooLarge fault → cut ≡ cuts → HasOutgrown cuts new more further fault
  halts_large new more further {fault = fault} turn is same =
      subst (λ (at : Option ℕ). HasOutgrown at new more further fault) same
      (outgrown_by new more further fault (subst (λ (one : Turn). DumpsTurn cut line now new after more told further (Ok one)) is turn))

  -- to a line at which it stopped
  breaks_off : (new : SessionData) (more : Sheet) (further : List GroupTextData) (stop : Stop) →
      DumpsTurn cut line now new after more told further (Err stop) → DumpsPart cut start all before more
  breaks_off new more further stop (inl same) = subst (DumpsPart cut start all before) (sym same) (comes_stop come)
  breaks_off new more further stop (inr (command, asks, part)) =
      let scenes = scenes_of now command part.through part.wrote part.new in
      let rest = dump_exists cut left (has_begun after || is_move command) part.new
      (ready-performs now part.new command part.wrote part.texts come.ready part.performs) in
      let mid = tell_all (told_in now.state after) scenes in
      let adds = tell_all-adds mid rest.0.scenes in
      comes_part come (behind scenes part.texts rest.0)
      (obeys (has_begun after) now part.new line left command part.through part.wrote part.texts rest.0 asks part.timely part.performs part.passes
      rest.1) more (part.left ++ adds.more) part.sink
      (ap (λ (t : Telling). t.sheet.due) (tell_all-append (told_in now.state after) scenes rest.0.scenes)
      ∙ (adds.due ∙ (ap (λ (due : List ℕ). due ++ adds.more) part.due ∙ append_assoc more.due part.left adds.more)))

  pub halts_stop : (new : SessionData) (more : Sheet) (further : List GroupTextData) (stop : Stop) {cuts : Option ℕ} →
      DumpsTurn cut line now new after more told further (Err stop) → cut ≡ cuts → DumpsPart cuts start all before more
  halts_stop new more further stop turn same =
      subst (λ (at : Option ℕ). DumpsPart at start all before more) same (breaks_off new more further stop turn)
