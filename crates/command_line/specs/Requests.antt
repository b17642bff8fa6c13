-- What the words of a command line ask for.
use Rattle.std.specs.Prelude.{ℕ, List, [], ◌∷◌, map, codes, bytes_eq, if◌then◌else◌, Option, Some, None, String, string_bytes}
use Rattle.std.specs.declared.alloc.Global.{Global}
use Rattle.help_texts.specs.Texts.{text_of, topics}
use Rattle.help_texts.specs.declared.pages.TheConstants.{PAGE, VERSION}
use Rattle.net_gen.specs.declared.families.GenPart.{GenPart}
use Rattle.command_line.specs.declared.request.Alone as code_alone
use Rattle.command_line.specs.declared.request.Alone.TheVariants as code_alone_is
use Rattle.command_line.specs.declared.request.Purpose as code_purpose
use Rattle.command_line.specs.declared.request.Purpose.TheVariants as code_purpose_is
use Rattle.command_line.specs.declared.request.Question as code_question
use Rattle.command_line.specs.declared.request.Question.TheVariants as code_question_is
use Rattle.command_line.specs.declared.request.Report as code_report
use Rattle.command_line.specs.declared.request.Report.TheVariants as code_report_is
use Rattle.command_line.specs.declared.request.Request as code_request
use Rattle.command_line.specs.declared.request.Request.TheVariants as code_request_is
use Rattle.command_line.specs.Columns.{columns_of, columns_seen}
use Rattle.command_line.specs.Decks.{is_deck_name}
use Rattle.command_line.specs.Samples.{Sample, part_of, sample_of, sample_seen}

-- what may be asked about a netlist or a deck: the run of the script with this name in its circuit, or in so many columns of it, a check,
-- its groups, its listing, its findings, the reasons of the node with the second name at the end of the script with the first, the verdicts
-- on the faults of the list with the second name beside the run of the script with the first, or which of 0 and 1 its nodes never had in
-- the run of the script with this name
pub data Question : Type 0 where
  Simulate : List ℕ → Question
  Batch : ℕ → List ℕ → Question
  Check : Question
  Groups : Question
  Compile : Question
  Lint : Question
  Explain : List ℕ → List ℕ → Question
  Judge : List ℕ → List ℕ → Question
  Cover : List ℕ → Question

-- what words ask for: a question about the netlist with this name, a part of a sample, a sample's run summed up, a question about the deck
-- with this name, a text that is shown as it stands, or nothing that there is
pub data Request : Type 0 where
  About : List ℕ → Question → Request
  Generate : GenPart → Sample → Request
  SumUp : Sample → Request
  OverDeck : List ℕ → Question → Request
  Show : List ℕ → Request
  Unclear : Request

-- a text, if there is one
abbrev pub shown : Option (List ℕ) → Request
shown (Some text) = Show text
shown None = Unclear

-- what one word asks for: `help` for the page, and `version` for the version's line
abbrev pub by_one : List ℕ → Request
by_one command =
    if bytes_eq command (codes "help") then Show PAGE.now
    else (if bytes_eq command (codes "version") then Show VERSION.now else Unclear)

-- what a word alone asks about a netlist
abbrev pub question_of : List ℕ → Option Question
question_of command =
    if bytes_eq command (codes "check") then Some Check
    else (if bytes_eq command (codes "groups") then Some Groups
    else (if bytes_eq command (codes "compile") then Some Compile else None))

-- a question about a netlist, if there is one
abbrev pub about : List ℕ → Option Question → Request
about net (Some question) = About net question
about net None = Unclear

-- a question about a deck, if the name is that of one, and else about a netlist
abbrev pub over : List ℕ → Question → Request
over net question = if is_deck_name net then OverDeck net question else About net question

-- what two words ask for: `help WORD` for the topic of this name, `lint NET` for the findings of a netlist or a deck, or the question of the
-- first about the netlist of the second
abbrev pub by_two : List ℕ → List ℕ → Request
by_two command word =
    if bytes_eq command (codes "help") then shown (text_of topics word)
    else (if bytes_eq command (codes "lint") then over word Lint else about word (question_of command))

-- a part of a sample, where the words tell both
abbrev pub generate : Option GenPart → Option Sample → Request
generate (Some part) (Some sample) = Generate part sample
generate (Some part) None = Unclear
generate None sample = Unclear

-- `sim NET SCRIPT`, `sim-spice DECK SCRIPT` or `cover NET SCRIPT`, compared byte by byte
abbrev pub simulation : List ℕ → List ℕ → List ℕ → Request
simulation command circuit script =
    if bytes_eq command (codes "sim") then About circuit (Simulate script)
    else (if bytes_eq command (codes "sim-spice") then OverDeck circuit (Simulate script)
    else (if bytes_eq command (codes "cover") then over circuit (Cover script) else Unclear))

-- `gen PART KIND SEED N`
abbrev pub generation : List ℕ → List ℕ → List ℕ → List ℕ → List ℕ → Request
generation command part kind seed rows =
    if bytes_eq command (codes "gen") then generate (part_of part) (sample_of kind seed rows) else Unclear

-- a sample's run summed up, where the words tell one
abbrev pub sum_up : Option Sample → Request
sum_up (Some sample) = SumUp sample
sum_up None = Unclear

-- the run of a script in columns, where a word tells how many
abbrev pub in_columns : List ℕ → Option ℕ → List ℕ → Request
in_columns net (Some columns) script = About net (Batch columns script)
in_columns net None script = Unclear

-- what four words ask for, by the first: `large KIND SEED N`, `why NET SCRIPT NODE`, `faults NET SCRIPT LIST` or `batch NET L SCRIPT`
abbrev pub by_four : List ℕ → List ℕ → List ℕ → List ℕ → Request
by_four command first second third =
    if bytes_eq command (codes "large") then sum_up (sample_of first second third)
    else (if bytes_eq command (codes "why") then About first (Explain second third)
    else (if bytes_eq command (codes "faults") then About first (Judge second third)
    else (if bytes_eq command (codes "batch") then in_columns first (columns_of second) third else Unclear)))

-- what words ask for, by their number: `sim NET SCRIPT`, `sim-spice DECK SCRIPT`, `check NET`, `groups NET`, `compile NET`, `lint NET`,
-- `gen PART KIND SEED N`, `large KIND SEED N`, `why NET SCRIPT NODE`, `faults NET SCRIPT LIST`, `batch NET L SCRIPT`, `cover NET SCRIPT`, `help`,
-- `help WORD` and `version`, and nothing else
abbrev pub request_of : List (List ℕ) → Request
request_of (command ∷ circuit ∷ script ∷ []) = simulation command circuit script
request_of (command ∷ word ∷ []) = by_two command word
request_of (command ∷ []) = by_one command
request_of (command ∷ part ∷ kind ∷ seed ∷ rows ∷ []) = generation command part kind seed rows
request_of (command ∷ first ∷ second ∷ third ∷ []) = by_four command first second third
request_of _ = Unclear

-- the question for a run of the script with this name for a purpose of the code
abbrev pub run_seen : code_purpose.Purpose → List ℕ → Question
run_seen code_purpose_is.Lines script = Simulate script
run_seen (code_purpose_is.Columns columns) script = Batch (columns_seen columns) script
run_seen (code_purpose_is.Reasons node) script = Explain script node.now
run_seen code_purpose_is.Cover script = Cover script

-- the question for what is told of a circuit alone
abbrev pub report_seen : code_report.Report → Question
report_seen code_report_is.Check = Check
report_seen code_report_is.Groups = Groups
report_seen code_report_is.Compile = Compile
report_seen code_report_is.Lint = Lint

-- a question of the code, as it is meant here
abbrev pub question_seen : code_question.Question → Question
question_seen (code_question_is.Run script purpose) = run_seen purpose script.now
question_seen (code_question_is.Judge script list) = Judge script.now list.now
question_seen (code_question_is.Report report) = report_seen report

-- a request that needs no file
abbrev pub alone_seen : code_alone.Alone → Request
alone_seen (code_alone_is.Generate part sample) = Generate part (sample_seen sample)
alone_seen (code_alone_is.SumUp sample) = SumUp (sample_seen sample)
alone_seen (code_alone_is.Show text) = Show text.now
alone_seen code_alone_is.Unclear = Unclear

-- and each request of the code
abbrev pub request_seen : code_request.Request → Request
request_seen (code_request_is.About net question) = About net.now (question_seen question)
request_seen (code_request_is.OverDeck deck question) = OverDeck deck.now (question_seen question)
request_seen (code_request_is.Alone alone) = alone_seen alone

-- the bytes of the words
abbrev pub names_of : List (String Global) → List (List ℕ)
names_of words = map string_bytes words
