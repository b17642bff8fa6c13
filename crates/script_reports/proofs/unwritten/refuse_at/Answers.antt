-- Lines that weren't all obeyed were cut short, and what the printer was told of that is the line of the refusal.
use Rattle.std.proofs.Common.{◌≢◌, Result, refl, subst, sym}
use Rattle.netlist.specs.Circuits.{CircuitData}
use Rattle.printed_lines.specs.declared.faults.FaultPlace.TheVariants.{Script}
use Rattle.told_lines.specs.Printing.{Page, print, PrintsPart}
use Rattle.session_meaning.specs.Sessions.{SessionData}
use Rattle.script_meaning.specs.declared.halt.Halt.{Halt}
use Rattle.script_meaning.specs.declared.halt.Halt.TheVariants.{End, Refused, TooLarge}
use Rattle.run_ends.specs.declared.status.Status.TheVariants.{ScriptRefused}
use Rattle.run_ends.specs.declared.stop.End as end
use Rattle.run_ends.specs.declared.stop.Stop.{Stop}
use Rattle.run_ends.specs.Causes.{plain_cause}
use Rattle.run_ends.specs.Answers.{IsRefusalFor, IsTooLarge}
use Rattle.run_ends.specs.Ends.{IsTold}
use Rattle.run_ends.proofs.EndLemmas.{told_as}
use Rattle.script_meaning.specs.Halts.{IsCutShort, TellsCutShort}
use Rattle.script_reports.specs.Explaining.{TellsSize, IsHaltRefused}
use Rattle.script_reports.proofs.HaltedLemmas.{printed_refusal}
use Rattle.script_reports.proofs.unwritten.refuse_at.Goals as goal

cut_short : (session : SessionData) (halt : Halt) → halt ≢ End → TellsSize session halt → IsCutShort session.circuit halt
cut_short session End other tells = absurd (other refl)
cut_short session (Refused number code) other tells = tt
cut_short session (TooLarge number fault) other tells = (session.large, tells)

told_short : (session : SessionData) (halt : Halt) (page after : Page) (result : Result end.End Stop) → TellsSize session halt →
    TellsCutShort print PrintsPart session.circuit halt page after result → IsTold (IsHaltRefused session halt) page.written after.written result
told_short session End page after result size told = absurd told
told_short session (Refused number code) page after result size told =
    printed_refusal page after (record { line = number; cause = plain_cause code }) result told
told_short session (TooLarge number fault) page after result size (cause, named, told) =
    told_as (IsRefusalFor (Script number) cause ScriptRefused) (IsTooLarge session.large session.circuit (Script number) ScriptRefused) page.written after.written result
    (λ answer is. record { fault = fault; first = size; cause = cause; named = named; told = is })
    (printed_refusal page after (record { line = number; cause = cause }) result told)

pub refuse_halt-requires : goal.refuse_halt-requires
refuse_halt-requires g c =
    subst (λ (circuit : CircuitData). IsCutShort circuit c.args.halt) (sym c.circuit.ensures.value)
    (cut_short c.args.session.now.core c.args.halt c.requires.short c.requires.size)

pub returns-clause-told : goal.returns-clause-told
returns-clause-told g c =
    told_short c.args.session.now.core c.args.halt c.args.out.now.page c.refuse_halt.new.out.page c.refuse_halt.result c.requires.size
    (subst (λ (circuit : CircuitData). TellsCutShort print PrintsPart circuit c.args.halt c.args.out.now.page c.refuse_halt.new.out.page
    c.refuse_halt.result) c.circuit.ensures.value c.refuse_halt.ensures.told)
