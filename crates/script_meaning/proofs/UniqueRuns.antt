-- A script runs in one way alone: each line asks for nothing, has one effect, or is refused for one cause, and no two of these.
use Rattle.std.proofs.Common.{◌≡◌, ℕ, List, [], Option, refl, sym, ap, subst, ◌∙◌, true≢false}
use Rattle.group_text.specs.Texts.{GroupTextData}
use Rattle.script_lang.specs.declared.command.Command.{Command}
use Rattle.session_meaning.specs.Sessions.{SessionData}
use Rattle.told_lines.specs.Lines.{Line}
use Rattle.session_meaning.proofs.UniqueBuilds.{TellsRefused-unique}
use Rattle.session_meaning.proofs.UniqueEffects.{performs_unique}
use Rattle.run_ends.specs.Causes.{Cause, plain_cause}
use Rattle.script_meaning.specs.Codes.{refusal_code}
use Rattle.script_meaning.specs.Runs.{Reading, Outcome, Runs, Asks, IsRefused, refused_at, after_command, answer_told}
use Rattle.script_meaning.specs.Runs.Runs.{ends, passes, obeys, refuses}
use Rattle.script_meaning.specs.Runs.IsRefused.{too_long, unread, refused, too_large}
use Rattle.script_meaning.specs.FirstRefused.{IsObeyed}
use Rattle.script_meaning.specs.FirstRefused.IsObeyed.{idle, done}
use Rattle.script_meaning.specs.Laws.{RunsAreUnique, ScriptAnswersAreUnique}
use Rattle.script_meaning.proofs.FirstRefusedLemmas.{not_refused}

-- a line asks for one command
pub same_command : {reading : Reading} {cut : Option ℕ} {session : SessionData} {line : ℕ × List ℕ} {command other : Command} →
    Asks reading cut session line command → Asks reading cut session line other → command ≡ other
same_command one two = cc (one.asked, two.asked)

-- a line that is obeyed leads to one session, and writes one list of lines
pub record LeadsToOne (new later : SessionData) (wrote more : List Line) : Type 0 where
  pub end : new ≡ later
  pub wrote_is : wrote ≡ more

pub obeyed_unique : (reading : Reading) (cut : Option ℕ) (old new later : SessionData) (line : ℕ × List ℕ) (wrote more : List Line) (texts others : List GroupTextData) →
    IsObeyed reading cut old line new wrote texts → IsObeyed reading cut old line later more others → LeadsToOne new later wrote more
obeyed_unique reading cut old new later line wrote more texts others (idle is) (idle also) = record { end = refl; wrote_is = refl }
obeyed_unique reading cut old new later line wrote more texts others (idle is) (done command to lines analysed asks performs) = absurd (cc (is.nothing, asks.asked))
obeyed_unique reading cut old new later line wrote more texts others (done command to lines analysed asks performs) (idle is) = absurd (cc (is.nothing, asks.asked))
obeyed_unique reading cut old new later line wrote more texts others (done command to lines analysed asks performs) (done command_2 to_2 lines_2 analysed_2 asks_2 performs_2) =
    let same = performs_unique old to to_2 command command_2 lines lines_2 analysed analysed_2 performs performs_2 (same_command asks asks_2) in
    record { end = same.end; wrote_is = same.wrote }

-- it is refused for one cause
pub cause_unique : {reading : Reading} {cut : Option ℕ} {session : SessionData} {line : ℕ × List ℕ} {cause other : Cause} →
    IsRefused reading cut session line cause → IsRefused reading cut session line other → cause ≡ other
cause_unique (too_long past is) (too_long again also) = is ∙ sym also
cause_unique (too_long past is) (unread fault code inside read coded also) = absurd (true≢false (sym past ∙ inside))
cause_unique (too_long past is) (refused command refusal asks found also) = absurd (true≢false (sym past ∙ asks.inside))
cause_unique (too_long past is) (too_large command fault asks allowed building told named) = absurd (true≢false (sym past ∙ asks.inside))
cause_unique (unread fault code inside read coded is) (too_long past also) = absurd (true≢false (sym past ∙ inside))
cause_unique (unread fault code inside read coded is) (unread other what within again named also) =
    let same : fault ≡ other = cc (read, again) in
    let codes : code ≡ what = cc (same, coded, named) in
    is ∙ ap plain_cause codes ∙ sym also
cause_unique (unread fault code inside read coded is) (refused command refusal asks found also) = absurd (cc (read, asks.asked))
cause_unique (unread fault code inside read coded is) (too_large command other asks allowed building told named) = absurd (cc (read, asks.asked))
cause_unique (refused command refusal asks found is) (too_long past also) = absurd (true≢false (sym past ∙ asks.inside))
cause_unique (refused command refusal asks found is) (unread fault code inside read coded also) = absurd (cc (read, asks.asked))
cause_unique (refused command refusal asks found is) (refused other further asked again also) =
    let same : command ≡ other = same_command asks asked in
    let refusals : refusal ≡ further = cc (same, found, again) in
    is ∙ ap (λ what. plain_cause (refusal_code what)) refusals ∙ sym also
cause_unique (refused command refusal asks found is) (too_large other fault asked allowed building told named) =
    let same : command ≡ other = same_command asks asked in absurd (cc (same, found, allowed))
cause_unique (too_large command fault asks allowed building told named) (too_long past also) = absurd (true≢false (sym past ∙ asks.inside))
cause_unique (too_large command fault asks allowed building told named) (unread other code inside read coded also) = absurd (cc (read, asks.asked))
cause_unique (too_large command fault asks allowed building told named) (refused other refusal asked found also) =
    let same : command ≡ other = same_command asks asked in absurd (cc (same, found, allowed))
cause_unique {session = session} (too_large command fault asks allowed building told named) (too_large other further asked clear builds tells called) =
    let same : fault ≡ further = TellsRefused-unique session.large session.circuit.graph fault further told tells in
    cc (same, named, called)

-- so it runs in one way
unique_runs : {reading : Reading} {cut : Option ℕ} {start : SessionData} {lines : List (ℕ × List ℕ)} {outcome other : Outcome} →
    Runs reading cut start lines outcome → Runs reading cut start lines other → outcome ≡ other
unique_runs (ends session) (ends _) = refl
unique_runs (passes session line lines rest is runs) (passes _ _ _ other also others) = unique_runs runs others
unique_runs (passes session line lines rest is runs) (obeys _ new _ _ command wrote texts other asks performs others) =
    absurd (cc (is.nothing, asks.asked))
unique_runs {reading} {cut} (passes session line lines rest is runs) (refuses _ _ _ cause stops) =
    absurd (not_refused reading cut session session line [] [] cause (idle is) stops)
unique_runs (obeys session new line lines command wrote texts rest asks performs runs) (passes _ _ _ other is others) =
    absurd (cc (is.nothing, asks.asked))
unique_runs {reading} {cut} (obeys session new line lines command wrote texts rest asks performs runs)
    (obeys _ later _ _ asked more others other asks_so does beyond) =
    let same = performs_unique session new later command asked wrote more texts others performs does (same_command asks asks_so) in
    let after : rest ≡ other = unique_runs runs (subst (λ (at : SessionData). Runs reading cut at lines other) (sym same.end) beyond) in
    ap (λ (lines : List Line). after_command lines texts rest) same.wrote
    ∙ ap (λ (analysed : List GroupTextData). after_command more analysed rest) same.analysed ∙ ap (after_command more others) after
unique_runs {reading} {cut} (obeys session new line lines command wrote texts rest asks performs runs) (refuses _ _ _ cause stops) =
    absurd (not_refused reading cut session new line wrote texts cause (done command new wrote texts asks performs) stops)
unique_runs {reading} {cut} (refuses session line lines cause stops) (passes _ _ _ other is others) =
    absurd (not_refused reading cut session session line [] [] cause (idle is) stops)
unique_runs {reading} {cut} (refuses session line lines cause stops) (obeys _ new _ _ command wrote texts other asks performs others) =
    absurd (not_refused reading cut session new line wrote texts cause (done command new wrote texts asks performs) stops)
unique_runs (refuses session line lines cause stops) (refuses _ _ _ other also) = ap (refused_at session line.0) (cause_unique stops also)

pub runs_unique : RunsAreUnique
runs_unique reading cut start lines outcome other one two = unique_runs one two

-- and has one answer
pub answer_unique : ScriptAnswersAreUnique
answer_unique reading cut start lines answer other one two =
    one.told ∙ ap answer_told (unique_runs one.runs two.runs) ∙ sym two.told
