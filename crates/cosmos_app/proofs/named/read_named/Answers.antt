-- What the text means as a deck, or as a netlist, it means by its name.
use Rattle.circuit_files.proofs.FeedingLemmas.{at_each}
use Rattle.cosmos_app.proofs.NetLemmas.{means_by}
use Rattle.cosmos_app.proofs.named.read_named.Goals as goal

pub returns-clause-means : goal.returns-clause-means
returns-clause-means g c =
    at_each c.read_by.result
    (λ meaning means. means_by c.is_deck_name.result (g.F.Files.holds c.args.files.now) c.args.name.now meaning c.is_deck_name.ensures means)
    c.read_by.ensures.means
