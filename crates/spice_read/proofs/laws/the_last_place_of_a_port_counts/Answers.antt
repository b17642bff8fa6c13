use Rattle.spice_read.proofs.PortsLemmas.{last_counts}
use Rattle.spice_read.proofs.laws.the_last_place_of_a_port_counts.Goals as goal

pub returns : goal.returns
returns c = last_counts
