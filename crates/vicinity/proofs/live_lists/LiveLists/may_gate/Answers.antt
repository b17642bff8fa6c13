-- The flag tells.
use Rattle.std.proofs.Common.{◌≡◌, length, subst, arith}
use Rattle.std.proofs.lemmas.Bool.{OnFalse_from}
use Rattle.vicinity.specs.Lists.{LiveListsData, places_of}
use Rattle.vicinity.proofs.live_lists.LiveLists.may_gate.Goals as goal

pub returns-then-node-len : goal.returns-then-node-len
returns-then-node-len c =
    OnFalse_from c.index.result.now _ (λ unset.
    subst (λ (lists : LiveListsData). length (places_of lists.gates c.args.node) ≡ 0) c.self.view_is
    (c.self.invariant c.args.node (omega (arith, c.if-node-len.true, c.len.ensures)) (λ marked. absurd (cc (marked, unset, c.index.ensures)))))
