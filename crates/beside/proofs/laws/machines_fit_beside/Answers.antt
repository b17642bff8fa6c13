-- The laws of starting, placing and going back.
use Rattle.beside.proofs.StartLemmas.{starts_beside, goes_back_beside}
use Rattle.beside.proofs.PlacingLemmas.{placing_fits_beside}
use Rattle.beside.proofs.laws.machines_fit_beside.Goals as goal

pub returns-clause-starts : goal.returns-clause-starts
returns-clause-starts c = starts_beside

pub returns-clause-places : goal.returns-clause-places
returns-clause-places c = placing_fits_beside

pub returns-clause-goes_back : goal.returns-clause-goes_back
returns-clause-goes_back c = goes_back_beside
