-- The words of the clauses, from one place.
pub use Rattle.circuit_files.specs.Feeding.{FeedsFile, FeedsFront, FeedsPiece}
pub use Rattle.circuit_files.specs.Starts.{StartsFile}
pub use Rattle.circuit_files.specs.Wholes.{ReadsWhole}
