-- The gate at a place more is copied.
use Rattle.std.proofs.Common.{sym, subst, ◌∙◌, nat_eq, ap}
use Rattle.indexmap.specs.IndexMap.{get}
use Rattle.bool_pool.specs.Gate.{IsOperand}
use Rattle.bool_pool.specs.Choice.{IsOver, IsPlaced}
use Rattle.bool_pool.specs.Compact.{moved_gate}
use Rattle.bool_pool.specs.Copying.{place_in}
use Rattle.bool_pool.proofs.CopyLemmas.{copy_over, AreCopied-more}
use Rattle.bool_pool.proofs.compact.Copies.add.Goals as goal

pub put-requires : goal.put-requires
put-requires c =
    subst (IsOver c.args.self.now.pool) (sym c.moved-gate.ensures)
    (copy_over c.args.self.now.pool (get nat_eq c.args.self.now.ids) c.gate.result
    (λ k operand. c.requires.operands k (subst (λ g. IsOperand g k) c.gate.ensures.gate operand)) c.requires.ids)

pub returns : goal.returns
returns c = λ places below before.
    let ids = get nat_eq c.args.self.now.ids in
    let copy = c.moved-gate.ensures ∙ ap (moved_gate (place_in ids)) c.gate.ensures.gate in
    rw c.note.ensures.pool
    (AreCopied-more c.args.old.now places c.args.place c.args.self.now.pool c.put.new.self ids (get nat_eq c.note.new.self.ids)
    c.in_ok-id.id c.in_ok-note.ensures.ids c.in_ok-id.ensures.extends c.in_ok-id.ensures.added
    (subst (λ g. IsPlaced c.put.new.self g c.in_ok-id.id.place) copy c.in_ok-id.ensures.placed) c.requires.operands below before)
