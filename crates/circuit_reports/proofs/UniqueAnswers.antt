-- What is answered of a circuit alone is one answer; of a compilation the status and the texts that are analysed are determined.
use Rattle.std.proofs.Common.{◌≡◌, Result, Ok, Err, inl, inr, sym, ap, ◌∙◌}
use Rattle.switch_paths.specs.Graphs.{GraphData}
use Rattle.netlist.specs.Circuits.{CircuitData}
use Rattle.sim_read.specs.declared.fault.NetRefusal.{NetRefusal}
use Rattle.spice_cards.specs.declared.fault.DeckRefusal.{DeckRefusal}
use Rattle.group_meaning.proofs.UniqueGroups.{unique}
use Rattle.group_report.proofs.ReportLemmas.{report_unique}
use Rattle.circuit_lint.specs.Findings.{FindingsData}
use Rattle.circuit_lint.specs.Lines.{text_of}
use Rattle.circuit_lint.proofs.UniqueFindings.{findings_unique}
use Rattle.printed_lines.specs.declared.faults.FaultPlace.TheVariants.{NetWhole}
use Rattle.circuit_texts.specs.declared.texts.BuildFault.{BuildFault}
use Rattle.circuit_texts.specs.Sizes.{AllFit, TellsTooLarge}
use Rattle.run_ends.specs.declared.status.Status.TheVariants as status
use Rattle.run_ends.specs.Answers.{Answer, plain_answer, IsTooLarge}
use Rattle.circuit_reports.specs.Alike.{AreAlike}
use Rattle.circuit_reports.specs.Answers.{IsOver, IsOverDeck, IsGroups, IsLinted, IsListed, IsCompiled, lint_status, distinct_texts}

-- an answer is alike to itself
pub alike : (answer other : Answer) → answer ≡ other → AreAlike answer other
alike answer other same = record { status = ap (λ (one : Answer). one.status) same; texts = ap (λ (one : Answer). one.texts) same }

-- over a netlist there is one answer if there is one in its circuit
pub over_unique : (IsRight : CircuitData → Answer → Type 0) →
    ((circuit : CircuitData) (answer other : Answer) → IsRight circuit answer → IsRight circuit other → answer ≡ other) →
    (meaning : Result CircuitData NetRefusal) (answer other : Answer) → IsOver IsRight meaning answer → IsOver IsRight meaning other → answer ≡ other
over_unique IsRight right (Ok circuit) answer other one two = right circuit answer other one two
over_unique IsRight right (Err refusal) answer other one two = one ∙ sym two

-- and answers are alike if they are in its circuit
pub over_alike : (IsRight : CircuitData → Answer → Type 0) →
    ((circuit : CircuitData) (answer other : Answer) → IsRight circuit answer → IsRight circuit other → AreAlike answer other) →
    (meaning : Result CircuitData NetRefusal) (answer other : Answer) → IsOver IsRight meaning answer → IsOver IsRight meaning other → AreAlike answer other
over_alike IsRight right (Ok circuit) answer other one two = right circuit answer other one two
over_alike IsRight right (Err refusal) answer other one two = alike answer other (one ∙ sym two)

-- over a deck likewise
pub over_deck_unique : (IsRight : CircuitData → Answer → Type 0) →
    ((circuit : CircuitData) (answer other : Answer) → IsRight circuit answer → IsRight circuit other → answer ≡ other) →
    (meaning : Result CircuitData DeckRefusal) (answer other : Answer) → IsOverDeck IsRight meaning answer → IsOverDeck IsRight meaning other → answer ≡ other
over_deck_unique IsRight right (Ok circuit) answer other one two = right circuit answer other one two
over_deck_unique IsRight right (Err refusal) answer other one two = one ∙ sym two

pub over_deck_alike : (IsRight : CircuitData → Answer → Type 0) →
    ((circuit : CircuitData) (answer other : Answer) → IsRight circuit answer → IsRight circuit other → AreAlike answer other) →
    (meaning : Result CircuitData DeckRefusal) (answer other : Answer) → IsOverDeck IsRight meaning answer → IsOverDeck IsRight meaning other → AreAlike answer other
over_deck_alike IsRight right (Ok circuit) answer other one two = right circuit answer other one two
over_deck_alike IsRight right (Err refusal) answer other one two = alike answer other (one ∙ sym two)

-- the report of a circuit's groups is one
pub groups_unique : (circuit : CircuitData) (answer other : Answer) → IsGroups circuit answer → IsGroups circuit other → answer ≡ other
groups_unique circuit answer other (text, report, told) (more, another, tells) =
    told ∙ ap (plain_answer status.Done) (report_unique circuit text more report another) ∙ sym tells

-- a circuit's findings are one list, and so are their lines
pub linted_unique : (circuit : CircuitData) (answer other : Answer) → IsLinted circuit answer → IsLinted circuit other → answer ≡ other
linted_unique circuit answer other (found, are, told) (more, also, tells) =
    told ∙ ap (λ (findings : FindingsData). plain_answer (lint_status findings) (text_of circuit findings)) (findings_unique circuit found more are also)
    ∙ sym tells

-- a graph in which all groups fit has none that is too large
none_large : (g : GraphData) (fault : BuildFault) → AllFit g → ¬ TellsTooLarge g fault
none_large g fault fits told =
    let first = told.first in
    absurd (cc (fits told.groups told.are first.k first.group first.stands, first.too_large))

-- listings of a circuit are alike, and so are refusals; no circuit has both
listed_alike : (circuit : CircuitData) (answer other : Answer) → IsListed circuit answer → IsListed circuit other → AreAlike answer other
listed_alike circuit answer other one two =
    let groups : one.groups ≡ two.groups = unique circuit.graph one.groups two.groups one.are two.are in
    record {
      status = ap (λ (it : Answer). it.status) one.told ∙ sym (ap (λ (it : Answer). it.status) two.told);
      texts = ap (λ (it : Answer). it.texts) one.told ∙ ap (distinct_texts circuit) groups ∙ sym (ap (λ (it : Answer). it.texts) two.told);
    }

refused_alike : (circuit : CircuitData) (answer other : Answer) → IsTooLarge 0 circuit NetWhole status.NetRefused answer →
    IsTooLarge 0 circuit NetWhole status.NetRefused other → AreAlike answer other
refused_alike circuit answer other one two = record {
  status = ap (λ (it : Answer). it.status) one.told ∙ sym (ap (λ (it : Answer). it.status) two.told);
  texts = ap (λ (it : Answer). it.texts) one.told ∙ sym (ap (λ (it : Answer). it.texts) two.told);
}

-- so any two compilations of a circuit are alike
pub compiled_alike : (circuit : CircuitData) (answer other : Answer) → IsCompiled circuit answer → IsCompiled circuit other → AreAlike answer other
compiled_alike circuit answer other (inl one) (inl two) = listed_alike circuit answer other one two
compiled_alike circuit answer other (inl one) (inr two) = absurd (none_large circuit.graph two.fault one.fits two.first)
compiled_alike circuit answer other (inr one) (inl two) = absurd (none_large circuit.graph one.fault two.fits one.first)
compiled_alike circuit answer other (inr one) (inr two) = refused_alike circuit answer other one two
