-- So far the instructions that were passed stand moved behind those that were there, and then the outputs that were passed stand moved at their nodes.
use Rattle.std.proofs.Common.{◌≡◌, ◌++◌, map, take}
use Rattle.linear_code.specs.Moved.{moved_instruction, PutsOutputs}
use Rattle.linear_code.proofs.listing.add_part.Given as goal

abbrev pub invariant-loop-instruction : goal.invariant-loop-instruction
invariant-loop-instruction l =
    l.instructions.items ≡ l.fn.instructions.items ++ map (moved_instruction l.part.map.items l.offset) (take l.instruction-index l.part.code.value.instructions)

abbrev pub invariant-loop-j : goal.invariant-loop-j
invariant-loop-j l = PutsOutputs l.part.map.items l.offset l.part.code.value.outputs l.j l.fn.outputs l.outputs
