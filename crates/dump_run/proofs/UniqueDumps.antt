-- A script has one dump: each line asks for nothing, tells one list of scenes, or is refused for one cause, and no two of these.
use Rattle.std.proofs.Common.{◌≡◌, ℕ, Bool, ◌&&◌, ◌||◌, List, [], Option, refl, sym, ap, subst, ◌∙◌, true≢false}
use Rattle.settling.specs.Passes.{Pass}
use Rattle.group_text.specs.Texts.{GroupTextData}
use Rattle.script_lang.specs.declared.command.Command.{Command}
use Rattle.told_lines.specs.Lines.{Line}
use Rattle.session_meaning.specs.Sessions.{SessionData}
use Rattle.session_meaning.specs.Outcomes.{Performs}
use Rattle.session_meaning.specs.Passing.{PassesThrough}
use Rattle.session_meaning.proofs.PassingLemmas.{passes_unique}
use Rattle.session_meaning.proofs.UniqueEffects.{performs_unique}
use Rattle.run_ends.specs.Causes.{Cause}
use Rattle.script_meaning.specs.Runs.{IsIdle, Asks, plain_reading}
use Rattle.script_meaning.specs.FirstRefused.{idle, done}
use Rattle.script_meaning.proofs.FirstRefusedLemmas.{not_refused}
use Rattle.script_meaning.proofs.UniqueRuns.{same_command, cause_unique}
use Rattle.dump_run.specs.Dumped.{Dumped, Dumps, IsDumpRefused, as_ever, too_late, ends, passes, obeys, refuses, IsTimely, is_watch, is_move, scenes_of, behind, dump_refused, answer_dumped}
use Rattle.dump_run.specs.Laws.{DumpsAreUnique, DumpAnswersAreUnique}

-- a line is refused for one cause: no command is both in time and too late
dump_cause_unique : {cut : Option ℕ} {begun : Bool} {session : SessionData} {line : ℕ × List ℕ} {cause other : Cause} →
    IsDumpRefused cut begun session line cause → IsDumpRefused cut begun session line other → cause ≡ other
dump_cause_unique (as_ever is alone) (as_ever also only) = cause_unique is also
dump_cause_unique (as_ever is alone) (too_late command asks late also) = absurd (true≢false (sym late ∙ alone command asks))
dump_cause_unique (too_late command asks late is) (as_ever also alone) = absurd (true≢false (sym late ∙ alone command asks))
dump_cause_unique (too_late command asks late is) (too_late other again later also) = is ∙ sym also

-- a line that asks for nothing isn't refused
idle_apart : {cut : Option ℕ} {begun : Bool} {session : SessionData} {line : ℕ × List ℕ} {cause : Cause} →
    IsIdle plain_reading cut session line → ¬ IsDumpRefused cut begun session line cause
idle_apart {cut} {begun} {session} {line} {cause} is (as_ever stops alone) =
    not_refused plain_reading cut session session line [] [] cause (idle is) stops
idle_apart is (too_late command asks late because) = absurd (cc (is.nothing, asks.asked))

-- nor is one whose command is obeyed in time
obeyed_apart : {cut : Option ℕ} {begun : Bool} {session : SessionData} {line : ℕ × List ℕ} {cause : Cause} (command : Command) (new : SessionData)
    (wrote : List Line) (texts : List GroupTextData) → Asks plain_reading cut session line command → IsTimely begun command →
    Performs session command new wrote texts → ¬ IsDumpRefused cut begun session line cause
obeyed_apart {cut} {begun} {session} {line} {cause} command new wrote texts asks timely performs (as_ever stops alone) =
    not_refused plain_reading cut session new line wrote texts cause (done command new wrote texts asks performs) stops
obeyed_apart {cut} {begun} {session} {line} {cause} command new wrote texts asks timely performs (too_late other again late because) =
    true≢false (sym late ∙ ap (λ (it : Command). begun && is_watch it) (same_command again asks) ∙ timely)

-- so it has one dump
unique_dumps : {cut : Option ℕ} {begun : Bool} {start : SessionData} {lines : List (ℕ × List ℕ)} {dumped other : Dumped} →
    Dumps cut begun start lines dumped → Dumps cut begun start lines other → dumped ≡ other
unique_dumps (ends begun session) (ends _ _) = refl
unique_dumps (passes begun session line lines rest is dumps) (passes _ _ _ _ other also others) = unique_dumps dumps others
unique_dumps (passes begun session line lines rest is dumps) (obeys _ _ new _ _ command through wrote texts other asks timely performs passing others) =
    absurd (cc (is.nothing, asks.asked))
unique_dumps (passes begun session line lines rest is dumps) (refuses _ _ _ _ cause stops) = absurd (idle_apart is stops)
unique_dumps (obeys begun session new line lines command through wrote texts rest asks timely performs passing dumps) (passes _ _ _ _ other is others) =
    absurd (cc (is.nothing, asks.asked))
unique_dumps {cut} (obeys begun session new line lines command through wrote texts rest asks timely performs passing dumps)
    (obeys _ _ later _ _ asked over more others other again prompt does passed beyond) =
    let equal : command ≡ asked = same_command asks again in
    let same = performs_unique session new later command asked wrote more texts others performs does equal in
    let way : through ≡ over =
    passes_unique session command through over passing (subst (λ (it : Command). PassesThrough session it over) (sym equal) passed) in
    let after : rest ≡ other =
    unique_dumps dumps
    (subst (λ (it : Command). Dumps cut (begun || is_move it) new lines other) (sym equal)
    (subst (λ (at : SessionData). Dumps cut (begun || is_move asked) at lines other) (sym same.end) beyond)) in
    ap (λ (it : Command). behind (scenes_of session it through wrote new) texts rest) equal
    ∙ ap (λ (it : List Pass). behind (scenes_of session asked it wrote new) texts rest) way
    ∙ ap (λ (it : List Line). behind (scenes_of session asked over it new) texts rest) same.wrote
    ∙ ap (λ (it : SessionData). behind (scenes_of session asked over more it) texts rest) same.end
    ∙ ap (λ (it : List GroupTextData). behind (scenes_of session asked over more later) it rest) same.analysed
    ∙ ap (behind (scenes_of session asked over more later) others) after
unique_dumps (obeys begun session new line lines command through wrote texts rest asks timely performs passing dumps) (refuses _ _ _ _ cause stops) =
    absurd (obeyed_apart command new wrote texts asks timely performs stops)
unique_dumps (refuses begun session line lines cause stops) (passes _ _ _ _ other is others) = absurd (idle_apart is stops)
unique_dumps (refuses begun session line lines cause stops) (obeys _ _ new _ _ command through wrote texts other asks timely performs passing others) =
    absurd (obeyed_apart command new wrote texts asks timely performs stops)
unique_dumps (refuses begun session line lines cause stops) (refuses _ _ _ _ other also) =
    ap (dump_refused session line.0) (dump_cause_unique stops also)

pub dumps_unique : DumpsAreUnique
dumps_unique cut begun start lines dumped other one two = unique_dumps one two

-- and has one answer
pub dump_answer_unique : DumpAnswersAreUnique
dump_answer_unique script start answer other one two =
    one.told ∙ ap (answer_dumped start) (unique_dumps one.dumps two.dumps) ∙ sym two.told
