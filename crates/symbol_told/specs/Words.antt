-- The words of the clauses, from one place.
pub use Rattle.ternary.specs.Tern.{letter}
pub use Rattle.ports.specs.Ports.{faults_after, RefusedOnce}
pub use Rattle.ports.specs.Sending.{WritesPart}
pub use Rattle.symbol_meaning.specs.Comparing.{difference_text}
