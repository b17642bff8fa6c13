-- So far the lines before the place were appended, and the text from the place on is left.
use Rattle.linear_code.specs.Pieces.{IsLeft}
use Rattle.linear_code.specs.TextPlaces.{IsPlace, text_from, lines_left}
use Rattle.linear_code.proofs.listing.Listing.write_some.Given as goal

abbrev pub invariant-loop-place : goal.invariant-loop-place
invariant-loop-place l = record {
  place : IsPlace l.self l.place;
  left : IsLeft l.fn.out.items l.out.items (text_from l.self l.fn.place) (text_from l.self l.place);
}

abbrev pub decreases-loop-place : goal.decreases-loop-place
decreases-loop-place l = lines_left l.self l.place
