-- All that was made is of these parts.
use Rattle.std.proofs.Common.{◌≡◌, true, false, length, ap, subst, ◌∙◌, arith}
use Rattle.std.specs.Prelude.{replicate}
use Rattle.part_lists.specs.Listing.{AreLists}
use Rattle.part_lists.proofs.ListLemmas.{nodes_inside}
use Rattle.truth_parts.specs.Evaluating.{rooms, HasRoomFor}
use Rattle.truth_machine.proofs.MakingLemmas.{IsTruthMachine-made}
use Rattle.truth_machine.proofs.machine.TruthMachine.of_parts.Goals as goal

pub lists_of-requires-clause-below : goal.lists_of-requires-clause-below
lists_of-requires-clause-below g c =
    rw c.deref.ensures.value (nodes_inside false (length c.args.hi.now) c.args.parts.items c.requires.seated c.requires.reads)

pub invariant_of-result : goal.invariant_of-result
invariant_of-result g c =
    let truths = c.args.truths in
    let parts = c.args.parts.items in
    let hi = c.args.hi.now in
    let lo = c.args.lo.now in
    let lists = c.in_ok-readers.readers.items in
    let owners = c.in_ok-owners.owners.items in
    let room = rooms c.in_ok-workspace.workspace in
    let count : c.len.result ≡ length parts = omega (arith, c.len.ensures, c.args.parts.ok.0) in
    let marks : c.in_ok-agenda.agenda ≡ replicate (length parts) true = c.in_ok-agenda.ensures ∙ ap (λ n. replicate n true) count in
    let read = subst (λ list. AreLists false list (length hi) lists) c.deref.ensures.value c.in_ok-readers.ensures in
    let own = subst (λ list. AreLists true list (length hi) owners) c.deref-2.ensures.value c.in_ok-owners.ensures in
    let fits = subst (λ list. HasRoomFor list room) c.deref-3.ensures.value c.in_ok-workspace.ensures.room in (
      rw (marks, c.in_ok-highs.ensures.items, c.in_ok-lows.ensures.items)
          (IsTruthMachine-made (g.T.Truths.columns truths) (g.T.Truths.has truths) (g.T.Truths.holds truths) parts lists owners hi lo room c.requires.seated fits
          c.requires.apart c.requires.fresh read own c.requires.columns c.requires.high_has c.requires.low_has),
      c.in_ok-workspace.ensures.workspace,
    )
