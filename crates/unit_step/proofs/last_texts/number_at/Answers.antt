-- The part that has a node as a member begins there, or none does.
use Rattle.std.proofs.Common.{◌≡◌, ℕ, ◌<◌, None, List, length, sym, ap, subst, ◌∙◌, arith}
use Rattle.std.specs.Prelude.{slice_index_or}
use Rattle.std.proofs.lemmas.List.{get_or_default}
use Rattle.machine_parts.specs.declared.part.MachinePart.{MachinePart}
use Rattle.machine_parts.specs.Parts.{HasMember}
use Rattle.machine_laws.specs.Beginnings.{Begins, BeginsAt}
use Rattle.unit_step.proofs.LastTextsLemmas.{HasMember-first, BeginsAt-read, begins_once, if_some_each}
use Rattle.unit_step.proofs.last_texts.number_at.Goals as goal

pub returns-in_err-k-clause-all : goal.returns-in_err-k-clause-all
returns-in_err-k-clause-all c = λ number begins.
    let owned = c.requires.owners.owner c.args.node begins.k (HasMember-first c.args.parts.now begins.k c.args.node begins.at) in
    let none = c.in_err-k.ensures in
    absurd cc

pub offset_bounds-parts-k : goal.offset_bounds-parts-k
offset_bounds-parts-k c =
    let has = c.requires.owners.member c.args.node c.in_ok-k.k (sym c.in_ok-k.ensures) in
    omega (arith, has.stands.inside)

pub bounds-parts-k : goal.bounds-parts-k
bounds-parts-k c =
    let has = c.requires.owners.member c.args.node c.in_ok-k.k (sym c.in_ok-k.ensures) in
    has.stands.inside

-- a part that has a member has a map
map_there : (parts : List MachinePart) (k node : ℕ) (d : MachinePart) → HasMember parts k node → 0 < length (slice_index_or parts k d).map.items
map_there parts k node d has =
    let same : slice_index_or parts k d ≡ has.part = get_or_default parts k d has.part has.stands.inside ∙ has.stands.here in
    subst (λ (part : MachinePart). 0 < length part.map.items) (sym same) (omega (arith, has.member.within))

pub index-requires : goal.index-requires
index-requires c =
    let has = c.requires.owners.member c.args.node c.in_ok-k.k (sym c.in_ok-k.ensures) in
    let there = map_there c.args.parts.now c.in_ok-k.k c.args.node c.index-parts-k.result has in
    let part = slice_index_or c.args.parts.now c.in_ok-k.k c.index-parts-k.result in
    omega (arith, part.map.ok.0)

pub number_of-requires : goal.number_of-requires
number_of-requires c =
    let has = c.requires.owners.member c.args.node c.in_ok-k.k (sym c.in_ok-k.ensures) in
    omega (arith, has.stands.inside)

pub returns-then-index-node-clause-begins : goal.returns-then-index-node-clause-begins
returns-then-index-node-clause-begins c =
    let parts = c.args.parts.now in
    let k = c.in_ok-k.k in
    let has = c.requires.owners.member c.args.node k (sym c.in_ok-k.ensures) in
    let part = c.index-parts-k.result in
    let read = c.index.result.now in
    let first : read ≡ slice_index_or part.map.items 0 read =
    subst (λ (one : MachinePart). read ≡ slice_index_or one.map.items 0 read) (sym c.index-parts-k.is) c.index.ensures in
    let begins = subst (BeginsAt parts k) c.if-index-node.true (BeginsAt-read parts k c.args.node part has c.index-parts-k.is read first) in
    if_some_each c.number_of.result (Begins parts c.args.uses.now.numbers c.args.node) (λ one is.
    record { k = k; at = begins; has = sym c.number_of.ensures.value ∙ is })

pub returns-then-index-node-clause-all : goal.returns-then-index-node-clause-all
returns-then-index-node-clause-all c = λ number begins.
    let owned = c.requires.owners.owner c.args.node begins.k (HasMember-first c.args.parts.now begins.k c.args.node begins.at) in
    let here = c.in_ok-k.ensures in
    let same : begins.k ≡ c.in_ok-k.k = cc in
    c.number_of.ensures.value ∙ (ap (λ k. slice_index_or c.args.uses.now.numbers k None) (sym same) ∙ begins.has)

pub returns-else-index-node-clause-all : goal.returns-else-index-node-clause-all
returns-else-index-node-clause-all c = λ number begins.
    let parts = c.args.parts.now in
    let k = c.in_ok-k.k in
    let owned = c.requires.owners.owner c.args.node begins.k (HasMember-first parts begins.k c.args.node begins.at) in
    let here = c.in_ok-k.ensures in
    let same : begins.k ≡ k = cc in
    let has = c.requires.owners.member c.args.node k (sym c.in_ok-k.ensures) in
    let part = c.index-parts-k.result in
    let read = c.index.result.now in
    let first : read ≡ slice_index_or part.map.items 0 read =
    subst (λ (one : MachinePart). read ≡ slice_index_or one.map.items 0 read) (sym c.index-parts-k.is) c.index.ensures in
    let one = BeginsAt-read parts k c.args.node part has c.index-parts-k.is read first in
    let two = subst (λ l. BeginsAt parts l c.args.node) same begins.at in
    absurd (c.if-index-node.false (begins_once parts k read c.args.node one two))
