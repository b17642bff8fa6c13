-- The last runs of codes: they are looked up, and stay true where codes come behind the others.
use Rattle.std.specs.Prelude.{◌≡◌, ℕ, List, Some, slice_get}
use Rattle.std.specs.declared.rc.Rc.{Rc}
use Rattle.std.proofs.Common.{Global}
use Rattle.straight_code.specs.Code.{CodeData}
use Rattle.part_words.specs.declared.last_runs.LastRuns.{LastRuns}
use Rattle.part_words.specs.LastRuns.{IsRunOf}

-- these are runs of the code at this place among the codes
pub record AreRunsAt (codes : List (Rc CodeData Global)) (place : ℕ) (runs : LastRuns) : Type 0 where
  pub code : Rc CodeData Global
  pub there : slice_get codes place ≡ Some code
  pub ran : IsRunOf code.value runs.values.items

-- all that ran last are runs of the code at their place
abbrev pub Knows : List (Rc CodeData Global) → List LastRuns → Type 0
Knows codes known = (k : ℕ) (runs : LastRuns) (place : ℕ) → slice_get known k ≡ Some runs → runs.place ≡ Some place → AreRunsAt codes place runs

-- whatever the codes are, what was true is still
abbrev pub KeepsKnown : List LastRuns → List LastRuns → Type 0
KeepsKnown old new = (codes : List (Rc CodeData Global)) → Knows codes old → Knows codes new
