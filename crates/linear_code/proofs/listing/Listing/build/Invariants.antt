-- So far the parts that were passed are added.
use Rattle.switch_paths.specs.Graphs.{nodes}
use Rattle.linear_code.proofs.BuildLemmas.{AreAdded}
use Rattle.linear_code.proofs.listing.Listing.build.Given as goal

abbrev pub invariant-loop-part : goal.invariant-loop-part
invariant-loop-part l = AreAdded (nodes l.graph) l.parts l.part-index l.instructions.items l.outputs.items
