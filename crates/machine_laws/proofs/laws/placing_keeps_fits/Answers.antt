-- The laws of placed nodes.
use Rattle.machine_laws.proofs.PlacingLemmas.{placing_keeps_cover, placing_keeps_fit}
use Rattle.machine_laws.proofs.laws.placing_keeps_fits.Goals as goal

pub returns-clause-covers : goal.returns-clause-covers
returns-clause-covers c = placing_keeps_cover

pub returns-clause-fits : goal.returns-clause-fits
returns-clause-fits c = placing_keeps_fit
