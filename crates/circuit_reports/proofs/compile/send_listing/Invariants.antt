use Rattle.std.proofs.Common.{◌≡◌, ◌+◌, [], false, cond, length}
use Rattle.ports.specs.Sending.{Sends}
use Rattle.linear_code.specs.ListingText.{listing_text}
use Rattle.linear_code.specs.TextPlaces.{IsPlace, text_from}
use Rattle.circuit_reports.proofs.compile.send_listing.Given as goal

abbrev pub invariant-loop-more : goal.invariant-loop-more
invariant-loop-more g l = record {
  there : IsPlace l.listing l.place;
  sends : Sends (g.S.Sink.written l.fn.out) (g.S.Sink.written l.out) (listing_text l.listing) (text_from l.listing l.place);
  at_end : l.more ≡ false → text_from l.listing l.place ≡ [];
  faults : g.S.Sink.faults l.out ≡ g.S.Sink.faults l.fn.out;
  refusals : g.S.Sink.refusals l.out ≡ g.S.Sink.refusals l.fn.out;
}

abbrev pub decreases-loop-more : goal.decreases-loop-more
decreases-loop-more g l = length (text_from l.listing l.place) + cond l.more 1 0
