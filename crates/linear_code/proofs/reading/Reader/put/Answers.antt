-- The storage node that is next has as many before it as there are next states.
use Rattle.std.proofs.Common.{◌≡◌, length, map, slice_get, Some, subst, sym, ap, ◌∙◌, arith}
use Rattle.std.proofs.lemmas.List.{length-map, length_push}
use Rattle.linear_code.specs.ListingText.{storage_nodes}
use Rattle.linear_code.specs.Adding.{Fits}
use Rattle.linear_code.specs.Adding.Added.{next}
use Rattle.linear_code.proofs.ListingTextLemmas.{entry_of}
use Rattle.linear_code.proofs.StorageLemmas.{IsNextOf, storage_nodes-at, storage_before-yes}
use Rattle.linear_code.proofs.reading.Reader.put.Goals as goal

pub overflow_add-self : goal.overflow_add-self
overflow_add-self c =
    let fits : Fits c.args.self.now (next c.in-Next.node c.in-Next.output) = rw c.in-Next.is at c.requires in
    let place = storage_nodes-at c.args.self.now.entries (length c.args.self.now.nexts) c.in-Next.node fits.0 in
    let long : length c.self.inside.nodes.items ≡ length c.args.self.now.entries =
    sym (length-map c.self.inside.nodes.items entry_of) ∙ ap (λ whole. length whole.entries) c.self.view_is in
    omega (arith, place.inside, long)

pub invariant_of-self-in-Next : goal.invariant_of-self-in-Next
invariant_of-self-in-Next c =
    let fits : Fits c.args.self.now (next c.in-Next.node c.in-Next.output) = rw c.in-Next.is at c.requires in
    let nodes = c.self.inside.nodes.items in
    let entries = map entry_of nodes in
    let nexts = c.self.inside.nexts.items in
    let here : slice_get (storage_nodes entries) (length nexts) ≡ Some c.in-Next.node =
    sym (subst (IsNextOf (Some c.in-Next.node)) (sym c.self.view_is) (sym fits.0)) in
    let place = storage_nodes-at entries (length nexts) c.in-Next.node here in
    let long = length-map nodes entry_of in
    let more = ap length c.in_ok-push-in-Next.ensures.items in
    (omega (arith, place.inside, long), storage_before-yes entries c.in-Next.node place.storage ∙ omega (arith, place.before, more, length_push nexts c.in-Next.output))
