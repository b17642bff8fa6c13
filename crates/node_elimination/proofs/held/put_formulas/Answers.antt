-- The last formulas go to the last text that waits for some.
use Rattle.std.proofs.Common.{◌≡◌, [], ◌∷◌, ◌++◌, length, map, drop, subst, arith}
use Rattle.std.specs.Global.{Vec}
use Rattle.indexmap.specs.IndexMap.{set_value_at}
use Rattle.bool_pool.specs.declared.gate.Id.{Id}
use Rattle.node_elimination.specs.HeldTable.{lists_of, shown}
use Rattle.node_elimination.proofs.HeldTableLemmas.{ArePut, ArePut-none, ArePut-more}
use Rattle.node_elimination.proofs.held.put_formulas.Goals as goal

pub loop-ids-init : goal.loop-ids-init
loop-ids-init c = ArePut-none c.args.held.now.entries c.args.split.items c.requires

pub index_mut-requires : goal.index_mut-requires
index_mut-requires c = omega (arith, c.len.ensures, c.in-Some.ensures.len, c.loop-ids.invariant.fewer)

pub loop-ids-preserved : goal.loop-ids-preserved
loop-ids-preserved c =
    let first = c.args.held.now.entries in
    let rows = c.loop-ids.held.entries in
    let fresh = c.args.split.items in
    let left = c.pop.new.self.items in
    let were : c.loop-ids.split.items ≡ left ++ c.in-Some.ids ∷ [] = c.in-Some.ensures.items in
    let count : length left ≡ c.len.result = omega (arith, c.len.ensures) in
    subst (λ n. ArePut first (set_value_at rows n c.in-Some.ids) fresh left) count
    (ArePut-more first rows fresh left c.in-Some.ids (subst (ArePut first rows fresh) were c.loop-ids.invariant))

pub returns-clause-texts : goal.returns-clause-texts
returns-clause-texts c = c.loop-ids.invariant.texts

pub returns-clause-formulas : goal.returns-clause-formulas
returns-clause-formulas c =
    let none : length c.loop-ids.split.items ≡ 0 = omega (arith, c.in_default.ensures.cases) in
    subst (λ n. drop n (lists_of (shown c.loop-ids.held.entries)) ≡ drop n (map (λ (ids : Vec Id). ids.items) c.args.split.items)) none
    c.loop-ids.invariant.formulas
