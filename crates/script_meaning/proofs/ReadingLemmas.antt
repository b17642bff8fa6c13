-- Scripts are read soundly: a line that is no command is refused under a code, and a command is well formed.
use Rattle.script_lang.proofs.ReadingLemmas.{reading-named, reading-formed}
use Rattle.script_meaning.specs.Runs.{plain_reading, IsSound}

-- the reading of scripts is sound
pub plain-sound : IsSound plain_reading
plain-sound = record { named = λ circuit vectors line. reading-named line; formed = λ circuit vectors line. reading-formed line }
