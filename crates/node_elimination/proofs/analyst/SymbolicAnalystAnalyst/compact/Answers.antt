-- The held formulas are moved to a pool that has only the gates which they reach.
use Rattle.std.proofs.Common.{◌<◌, List, length, map, All, sym, ap, subst, ◌∙◌}
use Rattle.std.specs.Global.{Vec}
use Rattle.std.specs.Map.{keys_of}
use Rattle.std.proofs.lemmas.List.{length-map}
use Rattle.bool_pool.specs.declared.gate.Id.{Id}
use Rattle.group_text.specs.Texts.{GroupTextData}
use Rattle.group_analysis.specs.Held.{set_of}
use Rattle.node_elimination.specs.Holding.{AnalystData, IsCompacted}
use Rattle.node_elimination.specs.HeldTable.{shown}
use Rattle.node_elimination.proofs.HoldingLemmas.{IsCompacted-split, IsHolding-split, keys-shown, length-split, roots_inside}
use Rattle.node_elimination.proofs.analyst.SymbolicAnalystAnalyst.compact.Goals as goal

abbrev ids_in : Vec Id → List Id
ids_in ids = ids.items

pub compact-requires : goal.compact-requires
compact-requires c =
    let gates = c.self.inside.pool in
    subst (All (λ (id : Id). id.place < length gates)) (sym (c.deref.ensures.value ∙ c.in_ok-roots.ensures))
    (roots_inside gates (shown c.self.inside.held.entries) c.self.invariant.1)

pub split_formulas-requires : goal.split_formulas-requires
split_formulas-requires c =
    ap length c.deref-2.ensures.value
    ∙ c.in_ok-pool.ensures.count
    ∙ ap length (c.deref.ensures.value ∙ c.in_ok-roots.ensures)

pub put_formulas-requires : goal.put_formulas-requires
put_formulas-requires c =
    let rows = c.self.inside.held.entries in
    let split = c.in_ok-split.split.items in
    sym (length-map split ids_in)
    ∙ length-split c.self.inside.given.texts c.self.inside.pool (shown rows) c.deref.result.now c.in_ok-pool.pool c.in_ok-pool.found.items
    (c.deref.ensures.value ∙ c.in_ok-roots.ensures) c.in_ok-pool.ensures.compacted (map ids_in split)
    (λ moved are. c.in_ok-split.ensures moved (c.deref-2.ensures.value ∙ are))
    ∙ length-map rows (λ (row : GroupTextData × Vec Id). (row.0, row.1.items))

pub invariant_of-self : goal.invariant_of-self
invariant_of-self c =
    let rows = c.self.inside.held.entries in
    let put = c.put_formulas.new.held.entries in
    let split = c.in_ok-split.split.items in (
      c.self.invariant.0,
      IsHolding-split c.self.inside.given.texts c.self.inside.pool (shown rows) c.deref.result.now c.in_ok-pool.pool c.in_ok-pool.found.items
          (c.deref.ensures.value ∙ c.in_ok-roots.ensures) c.in_ok-pool.ensures.compacted (map ids_in split)
          (λ moved are. c.in_ok-split.ensures moved (c.deref-2.ensures.value ∙ are))
          (shown put) (keys-shown put ∙ c.put_formulas.ensures.texts ∙ sym (keys-shown rows)) c.put_formulas.ensures.formulas c.self.invariant.1,
    )

pub returns-clause-holds : goal.returns-clause-holds
returns-clause-holds c =
    let rows = c.self.inside.held.entries in
    let put = c.put_formulas.new.held.entries in
    ap set_of (keys-shown put ∙ c.put_formulas.ensures.texts ∙ sym (keys-shown rows))
    ∙ ap (λ (analyst : AnalystData). set_of (keys_of analyst.held)) c.self.view_is

pub returns-clause-compacted : goal.returns-clause-compacted
returns-clause-compacted c =
    let rows = c.self.inside.held.entries in
    let put = c.put_formulas.new.held.entries in
    let split = c.in_ok-split.split.items in
    let texts = c.self.inside.given.texts in
    subst (λ (analyst : AnalystData). IsCompacted analyst (record { texts = texts; gates = c.in_ok-pool.pool; held = shown put })) c.self.view_is
    (IsCompacted-split texts c.self.inside.pool (shown rows) c.deref.result.now c.in_ok-pool.pool c.in_ok-pool.found.items
    (c.deref.ensures.value ∙ c.in_ok-roots.ensures) c.in_ok-pool.ensures.compacted (map ids_in split)
    (λ moved are. c.in_ok-split.ensures moved (c.deref-2.ensures.value ∙ are))
    (shown put) (keys-shown put ∙ c.put_formulas.ensures.texts ∙ sym (keys-shown rows)) c.put_formulas.ensures.formulas c.self.invariant.1)
