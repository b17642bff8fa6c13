-- One use less is counted.
use Rattle.std.proofs.Common.{◌≡◌, ◌+◌, ◌<◌, Some, None, length, ap, sym, subst, ◌∙◌, arith}
use Rattle.std.specs.Prelude.{slice_index, slice_index_or}
use Rattle.std.proofs.lemmas.List.{get_or_default}
use Rattle.kept_parts.specs.Uses.{UsesData, last_use}
use Rattle.kept_parts.proofs.NumberLemmas.{free_inside, free_some, free_there, AreCounted-free}
use Rattle.kept_parts.proofs.uses.TextUses.free.Goals.{In-Some, After-index-before}
use Rattle.kept_parts.proofs.uses.TextUses.free.Goals as goal

-- the part is one of the parts
within : (c : In-Some) → c.args.k < length c.self.inside.numbers.items
within c = omega (arith, c.requires, ap (λ (uses : UsesData). length uses.numbers) c.self.view_is)

-- and has the text with the number
here : (c : In-Some) → slice_index_or c.self.inside.numbers.items c.args.k None ≡ Some c.in-Some.number
here c = get_or_default c.self.inside.numbers.items c.args.k None c.index.result.now (within c) ∙ (sym c.index.ensures ∙ c.in-Some.is)

-- that is counted
counted : (c : In-Some) → c.in-Some.number < length c.self.inside.counts.items
counted c =
    let i = c.self.inside in
    free_inside i.known.keys i.counts.items i.numbers.items i.distinct c.args.k c.in-Some.number (here c) (within c) c.self.invariant

-- how often the text was used
before : (c : After-index-before) (inside : c.in-Some.number < length c.self.inside.counts.items) →
    c.index-before.result.now ≡ slice_index c.self.inside.counts.items c.in-Some.number
before c inside = c.index-before.ensures ∙ get_or_default c.self.inside.counts.items c.in-Some.number c.index-before.result.now 0 inside

-- some part used it
some : (c : In-Some) → 0 < slice_index c.self.inside.counts.items c.in-Some.number
some c =
    let i = c.self.inside in
    free_some i.known.keys i.counts.items i.numbers.items i.distinct c.args.k c.in-Some.number (here c) (within c) c.self.invariant

pub index-before-requires : goal.index-before-requires
index-before-requires c = omega (arith, counted (goal.at.index-before-requires c).In-Some, c.self.inside.counts.ok.0)

pub overflow_sub-before : goal.overflow_sub-before
overflow_sub-before c =
    let at = goal.at.overflow_sub-before c in
    omega (arith, before at.After-index-before (counted at.In-Some), some at.In-Some)

pub index_mut-requires-in-Some : goal.index_mut-requires-in-Some
index_mut-requires-in-Some c = omega (arith, counted (goal.at.index_mut-requires-in-Some c).In-Some, c.self.inside.counts.ok.0)

pub without_use-self-inside-requires-clause-some : goal.without_use-self-inside-requires-clause-some
without_use-self-inside-requires-clause-some c =
    let at = goal.at.without_use-self-inside-requires-clause-some c in
    omega (arith, before at.After-index-before (counted at.In-Some), some at.In-Some)

pub without_use-self-inside-requires-clause-there : goal.without_use-self-inside-requires-clause-there
without_use-self-inside-requires-clause-there c = λ _.
    let i = c.self.inside in
    let at = (goal.at.without_use-self-inside-requires-clause-there c).In-Some in
    free_there i.known.keys i.counts.items i.numbers.items i.distinct c.args.k c.in-Some.number (here at) (within at) c.self.invariant

pub invariant_of-self : goal.invariant_of-self
invariant_of-self c =
    let i = c.self.inside in
    let at = goal.at.invariant_of-self c in
    let uses = before at.After-index-before (counted at.In-Some) in
    let left = c.without_use-self-inside.result in
    rw uses (AreCounted-free i.known.keys i.counts.items i.numbers.items i.distinct c.args.k c.in-Some.number (here at.In-Some) (within at.In-Some)
    c.self.invariant left (subst (λ n. left + last_use n ≡ i.distinct) uses c.without_use-self-inside.ensures))
