-- What is answered of a circuit alone, and where words, a netlist or a deck are refused.
use Rattle.std.specs.Prelude.{◌≡◌, ◌⊎◌, ℕ, List, map, length, count_by, is_some, codes, if◌then◌else◌, Result, Ok, Err}
use Rattle.switch_paths.specs.Graphs.{nodes}
use Rattle.netlist.specs.Circuits.{CircuitData}
use Rattle.sim_read.specs.declared.fault.NetRefusal.{NetRefusal}
use Rattle.spice_cards.specs.declared.fault.DeckRefusal.{DeckRefusal}
use Rattle.spice_cards.specs.declared.fault.DeckWhat.{DeckWhat}
use Rattle.spice_cards.specs.Reports.{deck_line_of}
use Rattle.printed_lines.specs.Lines.{check_line_of}
use Rattle.printed_lines.specs.declared.faults.FaultPlace.TheVariants.{Net, NetWhole}
use Rattle.group_meaning.specs.Groups.{Group, AreGroups}
use Rattle.group_text.specs.Texts.{GroupTextData, text_of_group}
use Rattle.group_text.specs.FirstTexts.{first_texts}
use Rattle.linear_code.specs.Listing.{ListingData, IsListing}
use Rattle.linear_code.specs.ListingText.{listing_text}
use Rattle.circuit_listing.specs.Faithful.{IsFaithful}
use Rattle.circuit_texts.specs.Sizes.{AllFit}
use Rattle.group_report.specs.Report.{IsReport}
use Rattle.circuit_lint.specs.Findings.{FindingsData, AreFindings, is_clean}
use Rattle.circuit_lint.specs.Lines as lint
use Rattle.net_gen.specs.declared.families.GenPart.{GenPart}
use Rattle.run_ends.specs.declared.status.Status.{Status}
use Rattle.run_ends.specs.declared.status.Status.TheVariants as status
use Rattle.circuit_reports.specs.Codes.{net_code}
use Rattle.command_line.specs.Samples.{Sample, text_of}
use Rattle.run_ends.specs.Answers.{Answer, plain_answer, IsRefusal, IsTooLarge}

-- the answer is the usage line alone
abbrev pub IsUsage : Answer → Type 0
IsUsage answer = answer ≡ plain_answer status.Usage (codes "bad command line\n")

-- the answer if the netlist is refused: the line of its refusal
abbrev pub IsNetRefusal : NetRefusal → Answer → Type 0
IsNetRefusal refusal answer = IsRefusal (Net refusal.line) (net_code refusal.what) status.NetRefused answer

-- the answer if the deck is refused at this line: the line of its refusal
abbrev pub IsDeckRefusal : ℕ → DeckWhat → Answer → Type 0
IsDeckRefusal line what answer = answer ≡ plain_answer status.NetRefused (deck_line_of line what)

-- the answer over a netlist: that in its circuit, or its refusal
abbrev pub IsOver : (CircuitData → Answer → Type 0) → Result CircuitData NetRefusal → Answer → Type 0
IsOver IsRight (Ok circuit) answer = IsRight circuit answer
IsOver IsRight (Err refusal) answer = IsNetRefusal refusal answer

-- the answer over a deck: that in its circuit, or its refusal
abbrev pub IsOverDeck : (CircuitData → Answer → Type 0) → Result CircuitData DeckRefusal → Answer → Type 0
IsOverDeck IsRight (Ok circuit) answer = IsRight circuit answer
IsOverDeck IsRight (Err refusal) answer = IsDeckRefusal refusal.line refusal.what answer

-- the answer of a check: how many nodes the circuit has, the rails among them, how many transistors, and how many names
abbrev pub IsCheck : CircuitData → Answer → Type 0
IsCheck circuit answer =
    answer ≡ plain_answer status.Done
    (check_line_of (nodes circuit.graph) (count_by is_some circuit.graph.places) (length circuit.names))

-- the answer of a request for groups: a line for each channel-connected group of the circuit
abbrev pub IsGroups : CircuitData → Answer → Type 0
IsGroups circuit answer = (text : List ℕ) × IsReport circuit text × (answer ≡ plain_answer status.Done text)

-- the status that tells whether there are findings
abbrev pub lint_status : FindingsData → Status
lint_status found = if is_clean found then status.Done else status.Mismatch

-- the answer of a request for findings: a line for each one of the circuit, and the line of their numbers
abbrev pub IsLinted : CircuitData → Answer → Type 0
IsLinted circuit answer =
    (found : FindingsData) × AreFindings circuit found × (answer ≡ plain_answer (lint_status found) (lint.text_of circuit found))

-- the distinct texts of these groups of a circuit, in order of first appearance
abbrev pub distinct_texts : CircuitData → List Group → List GroupTextData
distinct_texts circuit groups = first_texts (map (text_of_group circuit.graph) groups)

-- the answer is a faithful listing of the circuit, in which no group is too large; each distinct text of its groups was analysed once
pub record IsListed (circuit : CircuitData) (answer : Answer) : Type 0 where
  pub listing : ListingData
  pub is : IsListing listing
  pub faithful : IsFaithful circuit listing
  pub fits : AllFit circuit.graph
  pub groups : List Group
  pub are : AreGroups circuit.graph groups
  pub told : answer ≡ record {
    status = status.Done;
    text = listing_text listing;
    texts = distinct_texts circuit groups;
  }

-- the answer of a compilation: a faithful listing, or the refusal of a group that is too large
abbrev pub IsCompiled : CircuitData → Answer → Type 0
IsCompiled circuit answer = IsListed circuit answer ⊎ IsTooLarge 0 circuit NetWhole status.NetRefused answer

-- the answer of a request for a part of a sample: its text
abbrev pub IsGenerated : GenPart → Sample → Answer → Type 0
IsGenerated part sample answer = answer ≡ plain_answer status.Done (text_of part sample)

-- the answer of a request that shows a text: the text as it stands
abbrev pub IsShown : List ℕ → Answer → Type 0
IsShown text answer = answer ≡ plain_answer status.Done text
