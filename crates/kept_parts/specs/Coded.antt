-- Parts whose texts have numbers: equal texts have one code.
use Rattle.std.specs.Prelude.{◌≡◌, ℕ, List, Option, Some, slice_get}
use Rattle.straight_code.specs.Code.{CodeData}
use Rattle.straight_code.specs.declared.part.Part.{Part}

-- there is a list of codes, one for each number of a text, and the code of each part is that of its text's number
pub record AreCoded (numbers : List (Option ℕ)) (parts : List Part) : Type 0 where
  pub codes : List CodeData
  pub each : (k n : ℕ) (part : Part) → slice_get numbers k ≡ Some (Some n) → slice_get parts k ≡ Some part → slice_get codes n ≡ Some part.code.value
