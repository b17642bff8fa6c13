-- What a talk comes to, by what its netlist or its deck means.
use Rattle.std.specs.Prelude.{◌≡◌, ◌⊎◌, ℕ, List, Option, option_map, Result, Ok, Err}
use Rattle.netlist.specs.Circuits.{CircuitData}
use Rattle.group_text.specs.Texts.{GroupTextData}
use Rattle.talk_port.specs.Talks.{TalkData, SaysPart, said_next}
use Rattle.run_ends.specs.declared.stop.End as end
use Rattle.run_ends.specs.declared.stop.Stop.{Stop}
use Rattle.run_ends.specs.Answers.{Answer}
use Rattle.run_ends.specs.Ends.{status_of, status_after}
use Rattle.run_ends.specs.Stops.{faults_read}
use Rattle.run_ends.specs.declared.status.Status.{Status}
use Rattle.run_ends.specs.declared.status.Status.TheVariants.{ReadFault, WriteFault, NoMemory}
use Rattle.cosmos_app.specs.declared.named.CircuitRefusal.{CircuitRefusal}
use Rattle.cosmos_app.specs.Counts.{files_count}
use Rattle.cosmos_app.specs.Named.{circuit_named, IsCircuitRefusal}
use Rattle.talk_run.specs.Talking.{TalksIn}

-- a text was said; at a fault a part of it
abbrev pub SaysWhole : {E : Type 0} → List ℕ → Option TalkData → Option TalkData → Result (Unit {0}) E → Type 0
SaysWhole text before after (Ok _) = after ≡ option_map (said_next text) before
SaysWhole text before after (Err fault) = SaysPart before after text

-- a text was said, and ends the talk so; if the talk was stopped, a part of it was said
abbrev pub SaysText : List ℕ → end.End → Option TalkData → Option TalkData → Result end.End Stop → Type 0
SaysText text ending before after (Ok other) = (other ≡ ending) × (after ≡ option_map (said_next text) before)
SaysText text ending before after (Err stop) = SaysPart before after text

-- the line of a refusal was said before any line was heard, and ends the talk
abbrev pub SaysRefusal : (Answer → Type 0) → Option TalkData → Option TalkData → Result end.End Stop → Type 0
SaysRefusal IsRefusal before after (Ok ending) =
    (answer : Answer) × IsRefusal answer × (answer.status ≡ status_of ending) × (after ≡ option_map (said_next answer.text) before)
SaysRefusal IsRefusal before after (Err stop) =
    (after ≡ before) ⊎ ((answer : Answer) × IsRefusal answer × SaysPart before after answer.text)

-- the talk about a netlist or a deck of this meaning: that in its circuit, or its refusal
abbrev pub IsTalkOver : Result CircuitData CircuitRefusal → List GroupTextData → Option TalkData → Option TalkData → Result end.End Stop → Type 0
IsTalkOver (Ok circuit) asked before after ended = TalksIn circuit asked before after ended
IsTalkOver (Err refusal) asked before after ended = SaysRefusal (IsCircuitRefusal refusal) before after ended

-- the talk about what a name holds: a deck if the name is that of one, and else a netlist
abbrev pub IsTalk : List ℕ → (List ℕ → List ℕ) → List GroupTextData → Option TalkData → Option TalkData → Result end.End Stop → Type 0
IsTalk net holds asked before after ended = IsTalkOver (circuit_named net (holds net)) asked before after ended

-- and it ends with this status
abbrev pub IsTalkTo : List ℕ → (List ℕ → List ℕ) → List GroupTextData → Option TalkData → Option TalkData → Status → Type 0
IsTalkTo net holds asked before after status =
    (ended : Result end.End Stop) × (status ≡ status_after ended) × IsTalk net holds asked before after ended

-- all that was said is handed on, unless a fault or lack of memory stopped the talk
abbrev pub HandsOn : ℕ → Status → Type 0
HandsOn behind ReadFault = Unit {0}
HandsOn behind WriteFault = Unit {0}
HandsOn behind NoMemory = Unit {0}
HandsOn behind status = behind ≡ 0

-- a part of a talk that is stopped by a fault of reading raises one count: that of the files' faults, or of the lines that could not be heard
abbrev pub ReadsOnce : {X : Type 0} → ℕ → ℕ → ℕ → ℕ → Result X Stop → Type 0
ReadsOnce files files_now unheard unheard_now result =
    ((files_now ≡ faults_read files result) × (unheard_now ≡ unheard)) ⊎ ((files_now ≡ files) × (unheard_now ≡ faults_read unheard result))

-- and the whole talk, by its status
abbrev pub HasReadOnce : ℕ → ℕ → ℕ → ℕ → Status → Type 0
HasReadOnce files files_now unheard unheard_now status =
    ((files_now ≡ files_count files status) × (unheard_now ≡ unheard)) ⊎ ((files_now ≡ files) × (unheard_now ≡ files_count unheard status))
