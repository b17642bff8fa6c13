-- Whether a call starts the file of a name.
use Rattle.std.specs.Prelude.{◌≡◌, ℕ, ◌⊎◌, List, Option, Result, Ok, Err}
use Rattle.ports.specs.Ports.{with_name}
use Rattle.run_ends.specs.declared.stop.Stop.{Stop}

-- the started names, if they are told
abbrev pub Started : Type 0
Started = Option (List (List ℕ))

-- nothing was started, or the file of this name
abbrev pub StartsAtMost : Started → Started → List ℕ → Type 0
StartsAtMost old new name = (new ≡ old) ⊎ (new ≡ with_name old name)

-- the file of this name was started; where the run stopped, perhaps not
abbrev pub StartsFile : {T : Type 0} → Started → Started → List ℕ → Result T Stop → Type 0
StartsFile old new name (Ok _) = new ≡ with_name old name
StartsFile old new name (Err stop) = StartsAtMost old new name
