-- What a printer that numbers no columns has written of a script that was told to it: the script's answer, or a part of it.
use Rattle.std.proofs.Common.{◌≡◌, ℕ, inl, inr, false, List, Option, Result, Ok, Err, refl, ap, subst, ◌∙◌}
use Rattle.std.specs.Io.KnownBytes.{append_known}
use Rattle.ports.specs.Sending.{WritesPart}
use Rattle.group_text.specs.Texts.{GroupTextData}
use Rattle.told_lines.specs.Printing.{Page, print, PrintsPart}
use Rattle.told_lines.proofs.PrintingLemmas.{plain-all, plain-front}
use Rattle.run_ends.specs.declared.stop.End as end
use Rattle.run_ends.specs.declared.stop.Stop.{Stop}
use Rattle.run_ends.specs.Ends.{IsToldBy}
use Rattle.session_meaning.specs.Sessions.{SessionData}
use Rattle.script_meaning.specs.Runs.{Reading, IsScriptAnswer, lines_told, answer_told}
use Rattle.script_meaning.specs.Ends.{TellsRun}
use Rattle.script_meaning.proofs.HaltLemmas.{told-text}

-- what was told to such a printer is the answer, which was written
pub printed_run : (reading : Reading) (cut : Option ℕ) (start : SessionData) (lines : List (ℕ × List ℕ)) (new : SessionData) (page after : Page)
    (asked told : List GroupTextData) (result : Result end.End Stop) → page.numbered ≡ false →
    TellsRun print PrintsPart reading cut start lines new page after asked told result →
    IsToldBy (IsScriptAnswer reading cut start lines) page.written after.written asked told result
printed_run reading cut start lines new page after asked told (Ok ending) plain ran = record {
  answer = answer_told ran.outcome;
  right = (record { outcome = ran.outcome; runs = ran.runs; told = refl }, ran.analysed);
  ended = ran.ended;
  grew = ap (λ (now : Page). now.written) ran.heard ∙ plain-all page 0 (lines_told ran.outcome) plain
      ∙ ap (append_known page.written) (told-text ran.outcome);
}
printed_run reading cut start lines new page after asked told (Err stop) plain (inl same) = inl (ap (λ (now : Page). now.written) same)
printed_run reading cut start lines new page after asked told (Err stop) plain (inr short) = inr (record {
  answer = answer_told short.outcome;
  right = record { outcome = short.outcome; runs = short.runs; told = refl };
  part = subst (WritesPart page.written after.written) (told-text short.outcome)
      (plain-front page after 0 (lines_told short.outcome) plain short.heard);
})
