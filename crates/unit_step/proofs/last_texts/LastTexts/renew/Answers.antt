-- One node more has its number.
use Rattle.std.proofs.Common.{◌≡◌, length, refl, sym, subst, ◌∙◌, append-nil}
use Rattle.std.specs.Prelude.{Contains}
use Rattle.unit_step.proofs.LastTextsLemmas.{AreLastTexts-renewed, AreLastTexts-reordered}
use Rattle.unit_step.proofs.last_texts.LastTexts.renew.Goals as goal

pub loop-node-preserved : goal.loop-node-preserved
loop-node-preserved c =
    AreLastTexts-renewed c.args.parts.now c.args.uses.now.numbers (length c.args.owners.now) (length c.args.uses.now.known) c.loop-node.self _
    c.loop-node.invariant c.in-Some.node c.number_at.result c.in-Some.ensures.items refl c.number_at.ensures.begins c.number_at.ensures.known c.number_at.ensures.all

pub returns-clause-last_texts : goal.returns-clause-last_texts
returns-clause-last_texts c =
    let same : c.loop-node.self.changed.items ≡ c.pop.new.self.items = c.in_default.ensures.items ∙ append-nil c.pop.new.self.items in
    AreLastTexts-reordered c.args.parts.now c.args.uses.now.numbers (length c.args.owners.now) (length c.args.uses.now.known) c.loop-node.self _
    c.loop-node.invariant refl (λ node there. subst (λ xs. Contains xs node) same there) (λ node there. subst (λ xs. Contains xs node) (sym same) there)
