-- Sending the text of a listing piece by piece: what was sent so far and what is left are the text.
use Rattle.std.proofs.Common.{◌≡◌, ◌<◌, ℕ, inr, Bool, true, false, List, [], ◌++◌, length, Option, refl, sym, ap, subst, ◌∙◌, append-nil}
use Rattle.std.specs.Io.KnownBytes.{append_known}
use Rattle.ports.specs.Sending.{Sends, WritesPart}
use Rattle.ports.proofs.SendingLemmas.{sends_more, sends_part, last_sent, part_longer}
use Rattle.linear_code.specs.declared.listing_text.TextPlace.{TextPlace}
use Rattle.linear_code.specs.Listing.{ListingData}
use Rattle.linear_code.specs.ListingText.{listing_text}
use Rattle.linear_code.specs.TextPlaces.{IsPlace, text_from}
use Rattle.linear_code.specs.Pieces.{IsLeft}
use Rattle.run_ends.specs.declared.status.Status.TheVariants as status
use Rattle.run_ends.specs.Answers.{plain_answer, IsWritten, IsStopped}
use Rattle.circuit_reports.specs.Sendings.{IsTextOf, SendsSome}

module _ (listing : ListingData) (old new : TextPlace) (before after : Option (List ℕ)) (piece base : List ℕ) (left : IsLeft base piece (text_from listing old) (text_from listing new)) (none : base ≡ []) where
  -- the piece is what lies between the places
  whole : piece ≡ left.front
  whole = left.appended ∙ ap (λ first. first ++ left.front) none

  -- the piece was sent
  pub sends_piece : (more : Bool) → IsPlace listing new → after ≡ append_known before piece → (more ≡ true → 0 < length piece) →
      (more ≡ false → text_from listing new ≡ []) → SendsSome listing old new before after more
  sends_piece more place grew some none_left = record {
    place = place;
    sent = piece;
    splits = left.splits ∙ ap (λ front. front ++ text_from listing new) (sym whole);
    grew = grew;
    some = some;
    none = none_left;
  }

  -- a part of it was sent
  pub part_piece : WritesPart before after piece → WritesPart before after (text_from listing old)
  part_piece part =
      subst (WritesPart before after) (sym (left.splits ∙ ap (λ front. front ++ text_from listing new) (sym whole)))
      (part_longer before after piece (text_from listing new) part)

-- one more piece was sent
pub sends_on : (listing : ListingData) (start now new : Option (List ℕ)) (place next : TextPlace) (more : Bool) →
    Sends start now (listing_text listing) (text_from listing place) → SendsSome listing place next now new more →
    Sends start new (listing_text listing) (text_from listing next)
sends_on listing start now new place next more sends some =
    sends_more start now new (listing_text listing) some.sent (text_from listing next)
    (subst (Sends start now (listing_text listing)) some.splits sends) some.grew

-- what was sent where the next piece stopped
pub stopped : (listing : ListingData) (start now new : Option (List ℕ)) (place : TextPlace) →
    Sends start now (listing_text listing) (text_from listing place) → WritesPart now new (text_from listing place) →
    IsStopped (IsTextOf listing) start new
stopped listing start now new place sends part = inr (record {
  answer = plain_answer status.Done (listing_text listing);
  right = (refl, refl);
  part = sends_part start now new (listing_text listing) (text_from listing place) []
      (subst (Sends start now (listing_text listing)) (sym (append-nil (text_from listing place))) sends) part;
})

-- the whole text was sent
pub all_sent : (listing : ListingData) (start now : Option (List ℕ)) (place : TextPlace) →
    Sends start now (listing_text listing) (text_from listing place) → text_from listing place ≡ [] →
    IsWritten (IsTextOf listing) start now status.Done
all_sent listing start now place sends none = record {
  answer = plain_answer status.Done (listing_text listing);
  right = (refl, refl);
  ended = refl;
  grew = last_sent start now (listing_text listing) (subst (Sends start now (listing_text listing)) none sends);
}
