-- If each part that goes on waiting is held already, nothing is made; else some isn't, and all are held anew.
use Rattle.std.proofs.Common.{ℕ, ◌<◌, [], length, map, All, get_or, ap, ◌∙◌}
use Rattle.std.specs.Prelude.{◌↔◌, Contains, slice_index_or}
use Rattle.std.proofs.lemmas.List.Elements.{All-contains, Contains-get_or}
use Rattle.machine_parts.specs.declared.part.MachinePart.{MachinePart}
use Rattle.machine_laws.specs.Finishing.{first_node}
use Rattle.wide_groups.specs.Staying.{HoldsNode}
use Rattle.unit_step.specs.Holding.{GoesOn}
use Rattle.unit_step.proofs.HoldingLemmas.{some_nodes}
use Rattle.unit_step.proofs.body.Body.holding.Goals.{In_ok-these}
use Rattle.unit_step.proofs.body.Body.holding.Goals as goal

-- the parts that were found are those that go on waiting
these_are : (c : In_ok-these) (k : ℕ) → Contains c.in_ok-these.these.items k ↔ GoesOn c.args.self.now.parts.items c.args.coded.now k
these_are c k =
    let (to, back) = c.in_ok-these.ensures k in (
      λ there.
          let (waits, other) = to there in
          record { stale = (c.requires.waits k).0 waits; other = other },
      λ goes. back ((c.requires.waits k).1 goes.stale, goes.other),
    )

-- what holds of each part that goes on waiting holds of those that were found
of_these : (c : In_ok-these) (P : ℕ → Type 0) → ((k : ℕ) → GoesOn c.args.self.now.parts.items c.args.coded.now k → P k) → All P c.in_ok-these.these.items
of_these c P each i d inside =
    let these = c.in_ok-these.these.items in
    each (get_or these i d) ((these_are c (get_or these i d)).0 (Contains-get_or these i d inside))

pub holds_all-requires : goal.holds_all-requires
holds_all-requires c =
    let at = (goal.at.holds_all-requires c).In_ok-these in
    let parts = c.args.self.now.parts.items in
    rw (c.deref.ensures.value, c.deref-2.ensures.value) (record {
      these = of_these at (λ k. k < length parts) (λ k goes. goes.stale.stands.inside);
      some = of_these at (λ k. 0 < length (slice_index_or (map (λ (part : MachinePart). part.map.items) parts) k []))
          (λ k goes. some_nodes parts _ c.requires.there k goes.stale);
    })

pub returns-then-holds_all : goal.returns-then-holds_all
returns-then-holds_all c =
    let at = (goal.at.returns-then-holds_all c).In_ok-these in
    let parts = c.args.self.now.parts.items in
    let Held : ℕ → Type 0 = λ k. HoldsNode c.args.self.now.wide (first_node parts k) in
    let all : All Held c.in_ok-these.these.items = rw (c.deref.ensures.value, c.deref-2.ensures.value) at (rw c.if-holds_all.true at c.holds_all.ensures.all) in
    λ k goes. All-contains Held c.in_ok-these.these.items k all ((these_are at k).1 goes)

pub holding_of-requires-clause-counted : goal.holding_of-requires-clause-counted
holding_of-requires-clause-counted c = ap length c.deref-5.ensures.value ∙ c.requires.counted

pub holding_of-requires-clause-these : goal.holding_of-requires-clause-these
holding_of-requires-clause-these c =
    let at = (goal.at.holding_of-requires-clause-these c).In_ok-these in
    rw (c.deref-3.ensures.value, c.deref-4.ensures.value)
    (of_these at (λ k. k < length c.args.self.now.parts.items) (λ k goes. goes.stale.stands.inside))

pub holding_of-requires-clause-there : goal.holding_of-requires-clause-there
holding_of-requires-clause-there c = rw c.deref-3.ensures.value c.requires.there

pub returns : goal.returns
returns c =
    let at = (goal.at.returns c).In_ok-these in
    let parts = c.args.self.now.parts.items in
    let these = c.in_ok-these.these.items in
    let Held : ℕ → Type 0 = λ k. HoldsNode c.args.self.now.wide (first_node parts k) in
    let some : ¬ All Held these = rw (c.deref.ensures.value, c.deref-2.ensures.value) at (rw c.if-holds_all.false at c.holds_all.ensures.some) in
    record {
      new = λ all. some (of_these at Held (λ k goes. all k goes));
      these = these;
      are = these_are at;
      holds = rw (c.deref-3.ensures.value, c.deref-4.ensures.value, c.deref-5.ensures.value) at c.in_ok-holding.ensures;
    }
