-- The run of a script is summed up in one way, and covers one; of the reasons of a node the status and the texts that are analysed are determined.
use Rattle.std.proofs.Common.{◌≡◌, ℕ, List, ◌∷◌, Option, None, Some, sym, ap, subst, ◌∙◌, count_by}
use Rattle.std.specs.Prelude.{is_some}
use Rattle.switch_paths.specs.Graphs.{nodes}
use Rattle.line_words.specs.Files.{lines_in, cut_line}
use Rattle.netlist.specs.Circuits.{CircuitData}
use Rattle.netlist.specs.Names.{node_of}
use Rattle.sim_read.specs.Meaning.{netlist_of}
use Rattle.group_text.specs.Texts.{GroupTextData}
use Rattle.net_gen.specs.declared.families.GenPart.TheVariants as part
use Rattle.command_line.specs.Samples.{Sample, text_of}
use Rattle.settling.specs.Passes.{View, states_of}
use Rattle.state_cover.specs.Laws.{TellStates}
use Rattle.state_cover.proofs.LawLemmas.{told_once}
use Rattle.state_cover.specs.Lines.{cover_text}
use Rattle.session_meaning.specs.Sessions.{SessionData, start_of}
use Rattle.run_ends.specs.declared.status.Status.{Status}
use Rattle.run_ends.specs.Answers.{Answer}
use Rattle.script_meaning.specs.Runs.{RefusedLine, Outcome, plain_reading}
use Rattle.script_meaning.proofs.UniqueRuns.{runs_unique}
use Rattle.script_meaning.proofs.ShownLemmas.{shows_unique}
use Rattle.circuit_reports.specs.Alike.{AreAlike}
use Rattle.circuit_reports.proofs.UniqueAnswers.{over_unique}
use Rattle.script_reports.specs.Summaries.{summed_up, IsSummedUp}
use Rattle.script_reports.specs.Answers.{IsSummary, IsSampleSummary}
use Rattle.script_reports.specs.Covered.{TellsCover, IsCoveredAt, IsCovered}
use Rattle.script_reports.specs.Reasoned.{IsExplained, IsExplainedAt, IsReasoned}

-- a run is summed up in one way
summed_unique : (nodes switches : ℕ) (cut : Option ℕ) (start : SessionData) (lines : List (ℕ × List ℕ)) (answer other : Answer) →
    IsSummedUp nodes switches cut start lines answer → IsSummedUp nodes switches cut start lines other → answer ≡ other
summed_unique nodes switches cut start lines answer other one two =
    one.told ∙ ap (summed_up nodes switches) (runs_unique plain_reading cut start lines one.outcome two.outcome one.runs two.runs) ∙ sym two.told

-- so is a sample
pub sample_unique : (sample : Sample) (answer other : Answer) → IsSampleSummary sample answer → IsSampleSummary sample other → answer ≡ other
sample_unique sample answer other one two =
    let script = text_of part.Script sample in
    over_unique (IsSummary script)
    (λ circuit answer other one two.
    summed_unique (nodes circuit.graph) (count_by is_some circuit.graph.places) (cut_line script) (start_of circuit) (lines_in script) answer other one two)
    (netlist_of (text_of part.Net sample)) answer other one two

-- a node is explained under one status, or a line was refused
explained_alike : (end : SessionData) (node : Option ℕ) (ended other : Status) (text more : List ℕ) → IsExplained end node ended text →
    IsExplained end node other more → ended ≡ other
explained_alike end None ended other text more one two = one.0 ∙ sym two.0
explained_alike end (Some node) ended other text more one two = one.0 ∙ sym two.0

told_alike : (name : List ℕ) (end : SessionData) (stopped : Option RefusedLine) (ended other : Status) (text more : List ℕ) →
    IsExplainedAt name end stopped ended text → IsExplainedAt name end stopped other more → ended ≡ other
told_alike name end None ended other text more one two = explained_alike end (node_of end.circuit.names name) ended other text more one two
told_alike name end (Some stopped) ended other text more one two = one.0 ∙ sym two.0

-- so any two answers that tell reasons are alike
pub reasoned_alike : (script name : List ℕ) (circuit : CircuitData) (answer other : Answer) → IsReasoned script name circuit answer →
    IsReasoned script name circuit other → AreAlike answer other
reasoned_alike script name circuit answer other one two =
    let same : one.outcome ≡ two.outcome =
    runs_unique plain_reading (cut_line script) (start_of circuit) (lines_in script) one.outcome two.outcome one.runs two.runs in
    record {
      status = told_alike name two.outcome.end two.outcome.refused answer.status other.status answer.text other.text
          (subst (λ (outcome : Outcome). IsExplainedAt name outcome.end outcome.refused answer.status answer.text) same one.explained) two.explained;
      texts = one.texts ∙ ap (λ (outcome : Outcome). outcome.texts) same ∙ sym two.texts;
    }

-- a cover is told in one way
cover_unique : (cut : Option ℕ) (start end : SessionData) (lines : List (ℕ × List ℕ)) (text more : List ℕ) → TellsCover cut start lines end text →
    TellsCover cut start lines end more → text ≡ more
cover_unique cut start end lines text more one two =
    let shown : one.shown ≡ two.shown = shows_unique plain_reading cut start lines end end one.shown two.shown one.shows two.shows in
    let tells = subst (λ (views : List View). TellStates (start.state ∷ states_of views) one.hads) shown one.tells in
    one.told
    ∙ ap (cover_text end.circuit) (told_once (start.state ∷ states_of two.shown) one.hads two.hads (one.count ∙ sym two.count) tells two.tells)
    ∙ sym two.told

covered_at : (cut : Option ℕ) (start end : SessionData) (lines : List (ℕ × List ℕ)) (stopped : Option RefusedLine) (ended other : Status) (text more : List ℕ) →
    IsCoveredAt cut start lines end stopped ended text → IsCoveredAt cut start lines end stopped other more → (ended ≡ other) × (text ≡ more)
covered_at cut start end lines None ended other text more one two = (one.0 ∙ sym two.0, cover_unique cut start end lines text more one.1 two.1)
covered_at cut start end lines (Some stopped) ended other text more one two = (one.0 ∙ sym two.0, one.1 ∙ sym two.1)

pub covered_unique : (script : List ℕ) (circuit : CircuitData) (answer other : Answer) → IsCovered script circuit answer → IsCovered script circuit other →
    answer ≡ other
covered_unique script circuit answer other one two =
    let same : one.outcome ≡ two.outcome =
    runs_unique plain_reading (cut_line script) (start_of circuit) (lines_in script) one.outcome two.outcome one.runs two.runs in
    let told = covered_at (cut_line script) (start_of circuit) two.outcome.end (lines_in script) two.outcome.refused answer.status other.status answer.text
    other.text
    (subst (λ (outcome : Outcome). IsCoveredAt (cut_line script) (start_of circuit) (lines_in script) outcome.end outcome.refused answer.status answer.text)
    same one.covered) two.covered in
    let texts : answer.texts ≡ other.texts = one.texts ∙ ap (λ (outcome : Outcome). outcome.texts) same ∙ sym two.texts in
    ap (λ (status : Status). record { status = status; text = answer.text; texts = answer.texts }) told.0
    ∙ ap (λ (text : List ℕ). record { status = other.status; text = text; texts = answer.texts }) told.1
    ∙ ap (λ (all : List GroupTextData). record { status = other.status; text = other.text; texts = all }) texts
