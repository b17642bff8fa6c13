-- So far the lines before the place stand there, and the text from the place on is left.
use Rattle.linear_code.specs.ListingText.{listing_text}
use Rattle.linear_code.specs.Pieces.{IsLeft}
use Rattle.linear_code.specs.TextPlaces.{IsPlace, text_from, lines_left}
use Rattle.linear_code.proofs.listing.Listing.write.Given as goal

abbrev pub invariant-loop : goal.invariant-loop
invariant-loop l = record {
  place : IsPlace l.self l.place;
  left : IsLeft l.fn.out.items l.out.items (listing_text l.self) (text_from l.self l.place);
}

abbrev pub decreases-loop : goal.decreases-loop
decreases-loop l = lines_left l.self l.place
