-- So far the pieces that were passed stand there, and the texts of the others are left.
use Rattle.std.proofs.Common.{drop}
use Rattle.std.specs.List.{flat_map}
use Rattle.linear_code.specs.Pieces.{text_of}
use Rattle.linear_code.specs.Pieces.{IsLeft}
use Rattle.linear_code.proofs.listing_text.put.Given as goal

abbrev pub invariant-loop-piece : goal.invariant-loop-piece
invariant-loop-piece l =
    IsLeft l.initial.out.items l.out.items (flat_map text_of l.pieces) (flat_map text_of (drop l.piece-index l.pieces))
