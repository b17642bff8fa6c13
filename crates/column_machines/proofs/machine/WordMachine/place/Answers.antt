-- Where words are placed that are no rail's, the columns fit the graph as before.
use Rattle.column_machines.proofs.FittingLemmas.{CoversInWords-placed, FitsInWords-placed}
use Rattle.column_machines.proofs.machine.WordMachine.place.Goals as goal

pub returns-clause-fits : goal.returns-clause-fits
returns-clause-fits c = λ fits.
    FitsInWords-placed _ c.graphs_are_wired.ensures _ _ _ _ _ c.put.ensures.counted c.requires.inside c.requires.no_rail c.put.ensures.places fits

pub returns-clause-covers : goal.returns-clause-covers
returns-clause-covers c = λ covers.
    CoversInWords-placed _ c.graphs_are_wired.ensures _ _ _ _ _ c.put.ensures.counted c.requires.inside c.put.ensures.places covers
