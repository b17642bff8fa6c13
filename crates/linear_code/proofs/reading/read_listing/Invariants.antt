-- So far the text begins with a partial listing, and the rest is left.
use Rattle.std.proofs.Common.{◌≡◌, ◌+◌, length}
use Rattle.linear_code.specs.Reading.{line_count}
use Rattle.linear_code.proofs.ReadingLemmas.{IsRead}
use Rattle.linear_code.proofs.reading.read_listing.Given as goal

abbrev pub invariant-loop-rest : goal.invariant-loop-rest
invariant-loop-rest l = record {
  read : IsRead l.text l.reader l.rest;
  next : l.line ≡ line_count l.reader + 1;
}

abbrev pub decreases-loop-rest : goal.decreases-loop-rest
decreases-loop-rest l = length l.rest
