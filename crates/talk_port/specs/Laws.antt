-- Laws of the prefix of a line that is kept: it tells all that is asked of a line.
use Rattle.std.specs.Prelude.{◌≡◌, ◌≢◌, ℕ, List, take, Some}
use Rattle.line_words.specs.Lines.{without_return}
use Rattle.line_words.specs.LineFaults.{line_fault}
use Rattle.line_words.specs.declared.line_check.LineFault.TheVariants.{TooLong}
use Rattle.talk_port.specs.Talks.{kept_bytes}

-- the prefix has the fault that the line has, each without a CR at its end
abbrev pub KeptTellsFault : Type 0
KeptTellsFault = (line : List ℕ) → line_fault (without_return (take kept_bytes line)) ≡ line_fault (without_return line)

-- it is the whole line, unless that is too long
abbrev pub KeptIsWhole : Type 0
KeptIsWhole = (line : List ℕ) → line_fault (without_return line) ≢ Some TooLong → take kept_bytes line ≡ line
