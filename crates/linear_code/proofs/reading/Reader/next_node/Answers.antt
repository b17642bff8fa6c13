-- The first storage node behind those that have their next states is the next one.
use Rattle.std.proofs.Common.{◌≡◌, ◌+◌, ◌-◌, Some, None, length, map, take, drop, position, subst, ap, sym, ◌∙◌, arith}
use Rattle.std.proofs.lemmas.List.{length-map}
use Rattle.linear_code.proofs.ListingTextLemmas.{entry_of}
use Rattle.linear_code.proofs.StorageLemmas.{position-entries, next_node-found, next_node-none, IsNextOf}
use Rattle.linear_code.proofs.reading.Reader.next_node.Goals as goal

pub returns-in_err-place : goal.returns-in_err-place
returns-in_err-place c =
    let nodes = c.self.inside.nodes.items in
    let seen = c.self.inside.seen in
    let entries = map entry_of nodes in
    let count = length c.self.inside.nexts.items in
    let found : position (λ entry. entry.is_storage) (drop seen entries) ≡ None =
    sym (position-entries nodes seen) ∙ sym (ap (λ items. position (λ node. node.is_storage) (take (length items - seen) (drop seen items))) c.deref.ensures.value)
    ∙ sym c.in_err-place.ensures in
    let none = next_node-none entries seen count (omega (arith, c.self.invariant.0, length-map nodes entry_of)) c.self.invariant.1 found in
    c.from_residual.ensures ∙ subst (IsNextOf None) c.self.view_is (sym none)

pub returns : goal.returns
returns c =
    let nodes = c.self.inside.nodes.items in
    let seen = c.self.inside.seen in
    let entries = map entry_of nodes in
    let count = length c.self.inside.nexts.items in
    let found : position (λ entry. entry.is_storage) (drop seen entries) ≡ Some c.in_ok-place.place =
    sym (position-entries nodes seen) ∙ sym (ap (λ items. position (λ node. node.is_storage) (take (length items - seen) (drop seen items))) c.deref.ensures.value)
    ∙ sym c.in_ok-place.ensures in
    subst (IsNextOf (Some (seen + c.in_ok-place.place))) c.self.view_is (sym (next_node-found entries seen count c.in_ok-place.place c.self.invariant.1 found))
