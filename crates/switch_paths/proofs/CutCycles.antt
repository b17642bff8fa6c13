-- A cycle can be cut out of an unblocked path.
-- Round a cycle a path only grows weaker, so before the cycle it stands at the same node at least as strong as
-- after it. What goes on unblocked after the cycle goes on so from there too.
use Rattle.std.proofs.Common.{◌≤◌, ◌++◌, sym}
use Rattle.switch_paths.specs.Path.{Stand, at_root, LivePath}
use Rattle.switch_paths.specs.Laws.{CyclesCanBeCut}
use Rattle.switch_paths.proofs.PathLemmas.{
  Leads-split,
  Leads-weaker,
  Goes,
  Goes-leads,
  Goes-append,
  Goes-front,
  Goes-back,
  Goes-raised,
  Goes-from_unblocked,
  unblocked-from_Goes,
}

-- cutting a cycle out of an unblocked path leaves an unblocked path with the same root and end
pub cut : CyclesCanBeCut
cut g state root front cycle back before after there to_before to_after same whole unblocked =
    let start : Stand = at_root g root in
    let goes = Goes-from_unblocked g state root ((front ++ cycle) ++ back) there whole unblocked in
    let past = Goes-front g state (front ++ cycle) back start after there goes to_after.leads in
    let head = Goes-front g state front cycle start before after past to_before.leads in
    let tail = Goes-back g state (front ++ cycle) back start after there goes to_after.leads in
    let round = Leads-split g state front cycle start before after to_after.leads to_before.leads in
    let weaker : after.strength ≤ before.strength = Leads-weaker g state cycle before after round in
    let raised = Goes-raised g state back after before there tail (sym same) weaker in
    let end : Stand = raised.0 in
    let joined : Goes g state start (front ++ back) end = Goes-append g state front back start before end head raised.1 in
    let leads = Goes-leads g state (front ++ back) start end joined in
    let path : LivePath g state root (front ++ back) end = record { in_range = whole.in_range; leads = leads } in
    (end, path, raised.2, unblocked-from_Goes g state root (front ++ back) end joined)
