-- The text's formulas are held under it, in a pool that grew.
use Rattle.std.proofs.Common.{◌≡◌, [], ◌∷◌, Some, sym, ap, subst, ◌∙◌, arith, length-append}
use Rattle.std.specs.Global.{Vec}
use Rattle.std.specs.Map.{keys_of}
use Rattle.bool_pool.specs.declared.gate.Id.{Id}
use Rattle.group_analysis.specs.Held.{set_of, with_text}
use Rattle.node_elimination.specs.Holding.{AnalystData, AreFormulasOf, IsHolding}
use Rattle.node_elimination.specs.HeldTable.{shown}
use Rattle.node_elimination.proofs.HoldingLemmas.{IsHolding-extends, Updated, answered, each_updated, refused, set-put}
use Rattle.node_elimination.proofs.analyst.SymbolicAnalystAnalyst.analyse.Goals as goal

pub invariant_of-self : goal.invariant_of-self
invariant_of-self c = (
  c.self.invariant.0,
  IsHolding-extends c.self.inside.pool c.make.new.pool c.make.ensures.extends (shown c.self.inside.held.entries) c.self.invariant.1,
)

pub invariant_of-self-in_err-map_err : goal.invariant_of-self-in_err-map_err
invariant_of-self-in_err-map_err c =
    let same = refused c.insert.result c.in_err-map_err.ensures.variant c.insert.ensures.err in (
      c.self.invariant.0,
      subst (λ rows. IsHolding c.make.new.pool (shown rows)) (sym same)
          (IsHolding-extends c.self.inside.pool c.make.new.pool c.make.ensures.extends (shown c.self.inside.held.entries) c.self.invariant.1),
    )

pub invariant_of-self-2 : goal.invariant_of-self-2
invariant_of-self-2 c =
    let gates = c.make.new.pool in
    let text = c.args.text.now in
    let ids = c.in_ok-made.made.formulas in
    let updates = answered c.insert.result c.in_ok-map_err.ensures.variant c.insert.ensures.updates in (
      rw c.with-self-inside.ensures
          (omega (arith, c.in-Some.ensures.1, c.self.invariant.0, length-append c.self.inside.given.texts (text ∷ []))),
      each_updated (λ entry. AreFormulasOf gates entry.0 entry.1) c.self.inside.held c.insert.new.self text (Some ids) c.insert.ensures.unique
          (subst (λ key. Updated c.self.inside.held c.insert.new.self key (Some ids)) c.in_ok-key.ensures updates.0)
          (IsHolding-extends c.self.inside.pool gates c.make.ensures.extends (shown c.self.inside.held.entries) c.self.invariant.1)
          (λ one put.
          let own : ids ≡ one = cc in
          subst (λ (some : Vec Id). AreFormulasOf gates text some.items) own c.in_ok-made.ensures.formulas),
    )

pub returns-clause-holds : goal.returns-clause-holds
returns-clause-holds c =
    let ids = c.in_ok-made.made.formulas in
    let updates = answered c.insert.result c.in_ok-map_err.ensures.variant c.insert.ensures.updates in
    set-put c.self.inside.held c.insert.new.self c.args.text.now ids
    (subst (λ key. Updated c.self.inside.held c.insert.new.self key (Some ids)) c.in_ok-key.ensures updates.0)
    ∙ ap (λ (analyst : AnalystData). with_text (set_of (keys_of analyst.held)) c.args.text.now) c.self.view_is
