-- An empty bundle leaves the others as they are.
use Rattle.std.proofs.Common.{ℕ, List, ◌<◌, ◌≤◌, length, inl, refl, sym, ap, subst, ◌∙◌, arith}
use Rattle.std.specs.Prelude.{vec_capacity}
use Rattle.part_steps.specs.declared.bundles.Bundle.{Bundle}
use Rattle.part_steps.specs.declared.bundles.TheConstants.{COLUMNS}
use Rattle.part_steps.specs.Waiting.{Slot, cleared_at}
use Rattle.part_steps.proofs.BundleLemmas.{AreBundles-set, slots_cleared}
use Rattle.part_steps.proofs.bundles.Bundles.clear.Goals as goal

pub invariant_of-self : goal.invariant_of-self
invariant_of-self c =
    let bundles = c.self.inside.slots.items in
    let place = c.args.place in
    let old = c.index_mut.result.now in
    let new : Bundle = record { code = old.code; starts = c.clear.new.self } in
    let within : place < length bundles = omega (arith, c.requires, c.self.invariant.counted) in
    let room : COLUMNS ≤ vec_capacity old.starts =
    subst (λ (bundle : Bundle). COLUMNS ≤ vec_capacity bundle.starts) (sym c.index_mut.ensures.value) (c.self.invariant.room place old within) in
    AreBundles-set bundles c.self.inside.high c.self.inside.high place new within c.self.invariant (omega arith) c.self.invariant.inside
    (inl c.clear.ensures.items) (omega (arith, ap (λ (xs : List ℕ). length xs) c.clear.ensures.items)) (omega (arith, room, c.clear.ensures.capacity))

pub returns : goal.returns
returns c =
    let bundles = c.self.inside.slots.items in
    let place = c.args.place in
    let old = c.index_mut.result.now in
    let new : Bundle = record { code = old.code; starts = c.clear.new.self } in
    let within : place < length bundles = omega (arith, c.requires, c.self.invariant.counted) in
    slots_cleared bundles place old new within (sym c.index_mut.ensures.value) refl c.clear.ensures.items
    ∙ ap (λ (slots : List Slot). cleared_at slots place) c.self.view_is
