-- If truths are placed that are no rail's, the columns fit the graph as before.
use Rattle.truth_machine.proofs.PlacingLemmas.{FitsInMachine-placed}
use Rattle.truth_machine.proofs.machine.TruthMachine.place.Goals as goal

pub returns-clause-fits : goal.returns-clause-fits
returns-clause-fits g c = λ fits.
    FitsInMachine-placed g.T.Truths.columns g.T.Truths.holds _ c.graphs_are_wired.ensures _ _ _ _ _ c.put.ensures.counted c.requires.inside c.requires.no_rail
    c.put.ensures.places fits
