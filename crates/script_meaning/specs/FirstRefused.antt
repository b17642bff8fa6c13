-- What comes of a script once more, line by line: which line is refused, and in which data.
use Rattle.std.specs.Prelude.{◌≡◌, ◌⊎◌, ◌↔◌, ℕ, List, [], ◌∷◌, ◌++◌, Option}
use Rattle.group_text.specs.Texts.{GroupTextData}
use Rattle.script_lang.specs.declared.command.Command.{Command}
use Rattle.session_meaning.specs.Sessions.{SessionData}
use Rattle.told_lines.specs.Lines.{Line}
use Rattle.session_meaning.specs.Outcomes.{Performs}
use Rattle.run_ends.specs.Causes.{Cause}
use Rattle.script_meaning.specs.Runs.{Reading, Outcome, Runs, IsIdle, Asks, IsRefused, at_end, refused_at, after_command}

-- a line that is obeyed: it asks for nothing, or its command does what these lines tell, for which these texts are analysed
pub data IsObeyed (reading : Reading) (cut : Option ℕ) (old : SessionData) (line : ℕ × List ℕ) : SessionData → List Line → List GroupTextData → Type 0 where
  idle : IsIdle reading cut old line → IsObeyed reading cut old line old [] []
  done : (command : Command) (new : SessionData) (wrote : List Line) (texts : List GroupTextData) → Asks reading cut old line command →
      Performs old command new wrote texts → IsObeyed reading cut old line new wrote texts

-- lines that are obeyed one after the other: none leave the data as they are, and a line before others has its effect on them
pub data AreObeyed (reading : Reading) (cut : Option ℕ) : SessionData → List (ℕ × List ℕ) → SessionData → List Line → List GroupTextData → Type 0 where
  no_line : (session : SessionData) → AreObeyed reading cut session [] session [] []
  one_more : (old mid new : SessionData) (line : ℕ × List ℕ) (lines : List (ℕ × List ℕ)) (wrote more : List Line) (texts others : List GroupTextData) →
      IsObeyed reading cut old line mid wrote texts → AreObeyed reading cut mid lines new more others →
      AreObeyed reading cut old (line ∷ lines) new (wrote ++ more) (texts ++ others)

-- all lines are obeyed, and what comes of them is all
pub record IsWhole (reading : Reading) (cut : Option ℕ) (start : SessionData) (lines : List (ℕ × List ℕ)) (outcome : Outcome) : Type 0 where
  pub end : SessionData
  pub wrote : List Line
  pub texts : List GroupTextData
  pub obeyed : AreObeyed reading cut start lines end wrote texts
  pub told : outcome ≡ after_command wrote texts (at_end end)

-- a line is refused in the data that those before it leave, which are obeyed; what comes of them and the refusal is all
pub record EndsAtFirst (reading : Reading) (cut : Option ℕ) (start : SessionData) (lines : List (ℕ × List ℕ)) (outcome : Outcome) : Type 0 where
  pub before : List (ℕ × List ℕ)
  pub line : ℕ × List ℕ
  pub after : List (ℕ × List ℕ)
  pub parts : lines ≡ before ++ line ∷ after
  pub session : SessionData
  pub wrote : List Line
  pub texts : List GroupTextData
  pub obeyed : AreObeyed reading cut start before session wrote texts
  pub cause : Cause
  pub refused : IsRefused reading cut session line cause
  pub told : outcome ≡ after_command wrote texts (refused_at session line.0 cause)

-- a script runs to this outcome exactly if all its lines are obeyed, or those before the first refused one
abbrev pub RunsEndAtTheFirst : Type 0
RunsEndAtTheFirst =
    (reading : Reading) (cut : Option ℕ) (start : SessionData) (lines : List (ℕ × List ℕ)) (outcome : Outcome) →
    Runs reading cut start lines outcome ↔ (IsWhole reading cut start lines outcome ⊎ EndsAtFirst reading cut start lines outcome)

-- no line that is obeyed is refused in the same data
abbrev pub ObeyedIsNotRefused : Type 0
ObeyedIsNotRefused =
    (reading : Reading) (cut : Option ℕ) (old new : SessionData) (line : ℕ × List ℕ) (wrote : List Line) (texts : List GroupTextData) (cause : Cause) →
    IsObeyed reading cut old line new wrote texts → ¬ IsRefused reading cut old line cause
