-- The lines of a list of faults: a verdict for each fault, and last the counts. Each ends with LF.
use Rattle.std.specs.Prelude.{ℕ, List, ◌++◌, codes, decimal}

-- the fault of this line of the list differs for certain: `fault <line> detected <row> <name>`
abbrev pub detected_line_of : ℕ → ℕ → List ℕ → List ℕ
detected_line_of line row name =
    codes "fault " ++ decimal line ++ codes " detected " ++ decimal row ++ codes " " ++ name ++ codes "\n"

-- it may differ: `fault <line> possible <row> <name>`
abbrev pub possible_line_of : ℕ → ℕ → List ℕ → List ℕ
possible_line_of line row name =
    codes "fault " ++ decimal line ++ codes " possible " ++ decimal row ++ codes " " ++ name ++ codes "\n"

-- under it a line of the script is refused: `fault <line> refused <line of the script>`
abbrev pub refused_line_of : ℕ → ℕ → List ℕ
refused_line_of line at = codes "fault " ++ decimal line ++ codes " refused " ++ decimal at ++ codes "\n"

-- it shows nowhere: `fault <line> undetected`
abbrev pub undetected_line_of : ℕ → List ℕ
undetected_line_of line = codes "fault " ++ decimal line ++ codes " undetected\n"

-- how many faults there are, and how many have each verdict
abbrev pub faults_line_of : ℕ → ℕ → ℕ → ℕ → ℕ → List ℕ
faults_line_of faults detected possible undetected refused =
    codes "faults " ++ decimal faults ++ codes " detected " ++ decimal detected ++ codes " possible "
    ++ decimal possible ++ codes " undetected " ++ decimal undetected ++ codes " refused "
    ++ decimal refused ++ codes "\n"
