-- What an onlooker sees of a script: the steps and phases of its lines, and the states behind these.
use Rattle.std.specs.Prelude.{◌≡◌, ℕ, List, [], ◌∷◌, ◌++◌, map, Option}
use Rattle.ternary.specs.declared.tern.Tern.{Tern}
use Rattle.settling.specs.Passes.{Pass, View, Passed, Stands, see_passes, look_all}
use Rattle.group_text.specs.Texts.{GroupTextData}
use Rattle.script_lang.specs.declared.command.Command.{Command}
use Rattle.session_meaning.specs.Sessions.{SessionData}
use Rattle.session_meaning.specs.Passing.{PassesThrough}
use Rattle.told_lines.specs.Lines.{Line}
use Rattle.script_meaning.specs.Runs.{Reading, IsIdle, Asks}
use Rattle.script_meaning.specs.FirstRefused.{IsObeyed}

-- the steps and phases of a line: none if it asks for nothing, and else those of its command
pub data LinePasses (reading : Reading) (cut : Option ℕ) (old : SessionData) (line : ℕ × List ℕ) : List Pass → Type 0 where
  nothing : IsIdle reading cut old line → LinePasses reading cut old line []
  by_command : (command : Command) (passes : List Pass) → Asks reading cut old line command → PassesThrough old command passes →
      LinePasses reading cut old line passes

-- lines that are obeyed one after the other show views: each its steps and phases, and then the state behind it
pub data Shows (reading : Reading) (cut : Option ℕ) : SessionData → List (ℕ × List ℕ) → SessionData → List View → Type 0 where
  no_line : (session : SessionData) → Shows reading cut session [] session []
  one_more : (old mid new : SessionData) (line : ℕ × List ℕ) (lines : List (ℕ × List ℕ)) (wrote : List Line) (texts : List GroupTextData)
      (passes : List Pass) (more : List View) → IsObeyed reading cut old line mid wrote texts → LinePasses reading cut old line passes →
      Shows reading cut mid lines new more → Shows reading cut old (line ∷ lines) new (map Passed passes ++ Stands mid.state ∷ more)

-- an onlooker saw all that lines show which are obeyed
pub record SeesAll {S : Type 0} (begin see : S → List Tern → S) (rest : S → ℕ → S) (reading : Reading) (cut : Option ℕ) (start : SessionData)
    (lines : List (ℕ × List ℕ)) (new : SessionData) (before after : S) : Type 0 where
  pub shown : List View
  pub shows : Shows reading cut start lines new shown
  pub seen : after ≡ look_all begin see rest before shown

-- an onlooker saw steps and phases of this sort, one after the other, and then the state behind them
pub record SeesBehind {S : Type 0} (begin see : S → List Tern → S) (rest : S → ℕ → S) (Through : List Pass → Type 0) (new : List Tern)
    (before after : S) : Type 0 where
  pub passes : List Pass
  pub through : Through passes
  pub seen : after ≡ see (see_passes begin see rest before passes) new

-- an onlooker saw those of a line
abbrev pub SeesLine : {S : Type 0} → (S → List Tern → S) → (S → List Tern → S) → (S → ℕ → S) → Reading → Option ℕ → SessionData → (ℕ × List ℕ) → List Tern →
    S → S → Type 0
SeesLine begin see rest reading cut old line new before after = SeesBehind begin see rest (LinePasses reading cut old line) new before after
