-- A part of what is left is a part of the whole.
use Rattle.linear_code.proofs.WritesLemmas.{WritesFront-left, at_err}
use Rattle.linear_code.proofs.listing.Listing.write_some.Goals as goal

pub returns-in_err-write_line-clause-part : goal.returns-in_err-write_line-clause-part
returns-in_err-write_line-clause-part c =
    at_err c.from_residual.result (WritesFront-left c.loop-place.invariant.left c.in_err-write_line.ensures.part)
