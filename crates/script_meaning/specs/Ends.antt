-- How the run of a script ends, with what was heard and which texts of groups were analysed.
use Rattle.std.specs.Prelude.{◌≡◌, ℕ, ◌⊎◌, List, ◌++◌, Option, Result, Ok, Err}
use Rattle.group_text.specs.Texts.{GroupTextData}
use Rattle.told_lines.specs.Lines.{Told}
use Rattle.told_lines.specs.Hearing.{hear_all, HearsFront, of_column}
use Rattle.run_ends.specs.declared.stop.End as end
use Rattle.run_ends.specs.declared.stop.Stop.{Stop}
use Rattle.run_ends.specs.Ends.{status_of}
use Rattle.session_meaning.specs.Sessions.{SessionData}
use Rattle.script_meaning.specs.Runs.{Reading, Outcome, Runs, lines_told, answer_told}

-- a script has run: to these data, with this end, and what came of it was heard and analysed
pub record HasRun {H : Type 0} (hear : H → Told → H) (reading : Reading) (cut : Option ℕ) (start : SessionData) (lines : List (ℕ × List ℕ))
    (new : SessionData) (before after : H) (asked told : List GroupTextData) (ending : end.End) : Type 0 where
  pub outcome : Outcome
  pub runs : Runs reading cut start lines outcome
  pub reached : outcome.end ≡ new
  pub ended : (answer_told outcome).status ≡ status_of ending
  pub heard : after ≡ hear_all hear before (of_column 0 (lines_told outcome))
  pub analysed : told ≡ asked ++ outcome.texts

-- of what a script tells a front was heard, and of the next line a part, or nothing
pub record RunsShort {H : Type 0} (hear : H → Told → H) (part : H → Told → H → Type 0) (reading : Reading) (cut : Option ℕ) (start : SessionData)
    (lines : List (ℕ × List ℕ)) (before after : H) : Type 0 where
  pub outcome : Outcome
  pub runs : Runs reading cut start lines outcome
  pub heard : HearsFront hear part before after (of_column 0 (lines_told outcome))

-- what running a script comes to; where the run stopped, nothing was heard, or a prefix of what it tells
abbrev pub TellsRun : {H : Type 0} → (H → Told → H) → (H → Told → H → Type 0) → Reading → Option ℕ → SessionData → List (ℕ × List ℕ) → SessionData → H → H →
    List GroupTextData → List GroupTextData → Result end.End Stop → Type 0
TellsRun hear part reading cut start lines new before after asked told (Ok ending) = HasRun hear reading cut start lines new before after asked told ending
TellsRun hear part reading cut start lines new before after asked told (Err stop) =
    (after ≡ before) ⊎ RunsShort hear part reading cut start lines before after
