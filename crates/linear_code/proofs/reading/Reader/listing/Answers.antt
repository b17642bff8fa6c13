-- Where no storage node is left, the partial listing is a listing.
use Rattle.std.proofs.Common.{subst, sym, ap, ◌∙◌}
use Rattle.std.specs.Option.{is_some}
use Rattle.linear_code.specs.Listing.{IsListing}
use Rattle.linear_code.proofs.StorageLemmas.{IsListing-partial, few_nexts}
use Rattle.linear_code.proofs.reading.Reader.listing.Goals as goal

pub returns-then-is_some : goal.returns-then-is_some
returns-then-is_some c = few_nexts c.args.self (sym (c.is_some.ensures ∙ ap is_some c.next_node.ensures) ∙ c.if-is_some.true)

pub from_parts-requires : goal.from_parts-requires
from_parts-requires c =
    subst IsListing (sym c.self.view_is)
    (IsListing-partial c.args.self c.requires (sym (c.is_some.ensures ∙ ap is_some c.next_node.ensures) ∙ c.if-is_some.false))
