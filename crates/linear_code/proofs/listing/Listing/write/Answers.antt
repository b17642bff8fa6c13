-- Line after line is appended until nothing is left.
use Rattle.std.proofs.Common.{◌≡◌, ◌++◌, ◌<◌, ◌^◌, length, refl, ap, arith, length-append}
use Rattle.linear_code.specs.ListingText.{listing_text}
use Rattle.linear_code.proofs.ReadingLemmas.{one_listing}
use Rattle.linear_code.proofs.TextPlaceLemmas.{nothing_left}
use Rattle.linear_code.proofs.WritesLemmas.{IsLeft-none, IsLeft-trans, WritesFront-left, at_err}
use Rattle.linear_code.proofs.listing.Listing.write.Goals as goal

pub returns-in_err-write_line-clause-part : goal.returns-in_err-write_line-clause-part
returns-in_err-write_line-clause-part c =
    at_err c.from_residual.result (WritesFront-left c.loop.invariant.left c.in_err-write_line.ensures.part)

pub returns-then-not-branch-clause-only : goal.returns-then-not-branch-clause-only
returns-then-not-branch-clause-only c = λ other is told.
    let listing = c.args.self.now in
    let passes = c.in_ok-write_line.ensures.ok in
    let none = nothing_left listing c.loop.place c.write_line.new.place c.loop.out.items c.write_line.new.out.items _ passes c.if-not-branch.true in
    let appended : c.write_line.new.out.items ≡ c.args.out.now.items ++ listing_text listing =
    IsLeft-none (IsLeft-trans c.loop.invariant.left passes.left) none in
    let small : length (listing_text listing) < 2 ^ 64 =
    omega (arith, ap length appended, length-append c.args.out.now.items (listing_text listing), c.write_line.new.out.ok.0) in
    one_listing (listing_text listing) other listing small is c.text_start-place.ensures.listing told refl
