-- Files that are read whole: each one to its end, or to the first byte too many.
use Rattle.std.specs.Prelude.{◌≡◌, ℕ, List, length, map}
use Rattle.line_words.specs.Files.{front_of}
use Rattle.ports.specs.Taken.{Taken, with_files}

-- each of these files was started, and read to its end or to the first byte too many
abbrev pub ReadsWhole : Taken → Taken → (List ℕ → List ℕ) → List (List ℕ) → Type 0
ReadsWhole old new holds names = new ≡ with_files old (map (λ name. length (front_of (holds name))) names)
