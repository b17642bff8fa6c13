-- The answer to a line that is heard in a talk, from the data that the lines before it left.
use Rattle.std.specs.Prelude.{◌≡◌, ℕ, ◌⊎◌, List, [], ◌∷◌, ◌++◌, Option, None, Some, Result}
use Rattle.ternary.specs.Counts.{raised}
use Rattle.line_words.specs.Lines.{without_return}
use Rattle.netlist.specs.Circuits.{CircuitData}
use Rattle.netlist.specs.Names.{node_of}
use Rattle.group_text.specs.Texts.{GroupTextData}
use Rattle.talk_port.specs.Talks.{TalkData}
use Rattle.told_lines.specs.Lines.{text_of}
use Rattle.printed_lines.specs.declared.faults.FaultPlace.TheVariants.{Heard}
use Rattle.printed_lines.specs.declared.faults.FaultCode.TheVariants.{E1UnknownNode}
use Rattle.session_meaning.specs.Sessions.{SessionData, start_of}
use Rattle.run_ends.specs.Causes.{plain_cause, cause_line}
use Rattle.script_meaning.specs.Runs.{Outcome, RefusedLine, Runs, plain_reading}
use Rattle.script_reports.specs.Reasoned.{ExplainsNode}
use Rattle.talk_run.specs.Asking.{Asked, OfScript, Why, Echo, Quit, Refused, asked_of, echo_line}
use Rattle.talk_run.specs.Telling.{Begins, Speaks}

-- what a talk goes by: the data of the session, how many lines were heard, and the texts of groups that were analysed
pub record TalkMind : Type 0 where
  pub core : SessionData
  pub heard : ℕ
  pub analysed : List GroupTextData

-- these data, after so many lines
abbrev pub mind_of : SessionData → ℕ → List GroupTextData → TalkMind
mind_of core heard analysed = record { core = core; heard = heard; analysed = analysed }

-- the same with one line more heard
abbrev pub counted : TalkMind → TalkMind
counted mind = record mind { heard = raised mind.heard 1 }

-- at the start no line was heard
abbrev pub start_in : CircuitData → List GroupTextData → TalkMind
start_in circuit analysed = record { core = start_of circuit; heard = 0; analysed = analysed }

-- the text of the refusal of a line, if it has one
abbrev pub refusal_said : Option RefusedLine → List ℕ
refusal_said None = []
refusal_said (Some stopped) = cause_line (Heard stopped.line) stopped.cause

-- a line is obeyed as the script that has it alone, with its number: what that writes is said, or the line of its refusal
pub record IsObeyed (now : TalkMind) (line text : List ℕ) (new : TalkMind) : Type 0 where
  pub outcome : Outcome
  pub runs : Runs plain_reading None now.core ((now.heard, line) ∷ []) outcome
  pub said : text ≡ text_of outcome.lines ++ refusal_said outcome.refused
  pub becomes : new ≡ record now { core = outcome.end; analysed = now.analysed ++ outcome.texts }

-- the text explains the node of a name; one that isn't in use is refused
abbrev pub ExplainsName : TalkMind → Option ℕ → List ℕ → Type 0
ExplainsName now None text = text ≡ cause_line (Heard now.heard) (plain_cause E1UnknownNode)
ExplainsName now (Some node) text = ExplainsNode now.core.circuit now.core.state node text

-- what a line is answered, by what it asks for
abbrev pub AnswersAsked : Asked → TalkMind → List ℕ → List ℕ → TalkMind → Type 0
AnswersAsked OfScript now line text new = IsObeyed now line text new
AnswersAsked (Why name) now line text new = (new ≡ now) × ExplainsName now (node_of now.core.circuit.names name) text
AnswersAsked (Echo words) now line text new = (new ≡ now) × (text ≡ echo_line words)
AnswersAsked Quit now line text new = (new ≡ now) × (text ≡ [])
AnswersAsked (Refused code) now line text new = (new ≡ now) × (text ≡ cause_line (Heard now.heard) (plain_cause code))

-- what is asked for is answered; at a fault a part of an answer was said, or nothing
abbrev pub Replies : {E : Type 0} → Asked → TalkMind → List ℕ → TalkMind → Option TalkData → Option TalkData → Result (Unit {0}) E → Type 0
Replies asked now line new before after result =
    Speaks (λ text. AnswersAsked asked now line text new) (λ text. (end : TalkMind) × AnswersAsked asked now line text end) before after result

-- the answer to a line that is heard, of which a prefix is kept
abbrev pub IsAnswer : TalkMind → List ℕ → List ℕ → TalkMind → Type 0
IsAnswer old kept text new = AnswersAsked (asked_of (without_return kept)) (counted old) (without_return kept) text new

-- nothing of an answer was said, or a part of one
abbrev pub BreaksAnswer : TalkMind → List ℕ → TalkMind → Option TalkData → Option TalkData → Type 0
BreaksAnswer old kept new before after =
    (after ≡ before) ⊎ Begins (λ text. (end : TalkMind) × IsAnswer old kept text end) before after
