use Rattle.std.proofs.Common.{refl}
use Rattle.linear_code.proofs.WritesLemmas.{IsLeft-all, IsLeft-more, Writes-last}
use Rattle.linear_code.proofs.listing_text.put_lettered.Goals as goal

pub returns : goal.returns
returns c = Writes-last (IsLeft-more _ (IsLeft-all _ _) refl c.in_ok-extend_from_slice.ensures.items) c.put_number.ensures
