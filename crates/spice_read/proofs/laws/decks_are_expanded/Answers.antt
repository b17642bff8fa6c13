use Rattle.spice_read.proofs.ExpansionLemmas.{circuit_of-expanded}
use Rattle.spice_read.proofs.ReaderLemmas.{circuit_of-front_of}
use Rattle.spice_read.proofs.VisibleLemmas.{circuit_of-circuit, circuit_of-visible}
use Rattle.spice_read.proofs.laws.decks_are_expanded.Goals as goal

pub returns-clause-expanded : goal.returns-clause-expanded
returns-clause-expanded c = circuit_of-expanded

pub returns-clause-circuit : goal.returns-clause-circuit
returns-clause-circuit c = circuit_of-circuit

pub returns-clause-visible : goal.returns-clause-visible
returns-clause-visible c = circuit_of-visible

pub returns-clause-front : goal.returns-clause-front
returns-clause-front c = circuit_of-front_of
