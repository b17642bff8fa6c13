-- The law of placing.
use Rattle.beside_phases.proofs.PlacingBoth.{placing_both}
use Rattle.beside_phases.proofs.laws.placing_in_both_fits_beside.Goals as goal

pub returns : goal.returns
returns c = placing_both
