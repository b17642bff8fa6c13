-- A record that takes more room.
use Rattle.std.specs.Prelude.{◌≡◌}
use Rattle.good_run.specs.Recording.{RunData}

-- what was noted stays, and the state that is known; there may be more room
pub record KeepsRecord (old new : RunData) : Type 0 where
  pub start : new.start ≡ old.start
  pub known : new.known ≡ old.known
  pub shown : new.shown ≡ old.shown
  pub whole : new.whole ≡ old.whole
