-- Sending the text of a listing in pieces.
use Rattle.std.specs.Prelude.{◌≡◌, ◌<◌, ℕ, Bool, true, false, List, [], ◌++◌, length, Option}
use Rattle.std.specs.Io.KnownBytes.{append_known}
use Rattle.linear_code.specs.declared.listing_text.TextPlace.{TextPlace}
use Rattle.linear_code.specs.Listing.{ListingData}
use Rattle.linear_code.specs.ListingText.{listing_text}
use Rattle.linear_code.specs.TextPlaces.{IsPlace, text_from}
use Rattle.run_ends.specs.declared.status.Status.TheVariants.{Done}
use Rattle.run_ends.specs.Answers.{Answer}

-- the text between two places was sent; if none of it is left the answer is false, and else some was sent
pub record SendsSome (listing : ListingData) (old new : TextPlace) (before after : Option (List ℕ)) (more : Bool) : Type 0 where
  pub place : IsPlace listing new
  pub sent : List ℕ
  pub splits : text_from listing old ≡ sent ++ text_from listing new
  pub grew : after ≡ append_known before sent
  pub some : more ≡ true → 0 < length sent
  pub none : more ≡ false → text_from listing new ≡ []

-- the answer is the text of a listing, whatever texts were analysed for it
abbrev pub IsTextOf : ListingData → Answer → Type 0
IsTextOf listing answer = (answer.status ≡ Done) × (answer.text ≡ listing_text listing)
