-- The last one comes to the part's spot, or the part isn't there.
use Rattle.std.proofs.Common.{◌≡◌, ◌<◌, List, ℕ, length, sym, subst}
use Rattle.std.specs.Prelude.{Contains, slice_index}
use Rattle.list_facts.specs.Taking.{TakesOut}
use Rattle.list_facts.proofs.TakingLemmas.{TakesOut-swapped}
use Rattle.part_steps.proofs.ReadersLemmas.{TakesOut-none}
use Rattle.part_steps.proofs.readers.take_off.Goals as goal

pub returns-in-Some : goal.returns-in-Some
returns-in-Some c =
    let xs = c.args.list.now.items in
    let k = c.args.k in
    let spot = c.in-Some.spot in
    let whole : c.as_slice.result.now ≡ xs = c.as_slice.ensures in
    let within : spot < length xs = subst (λ (ys : List ℕ). spot < length ys) whole c.in-Some.ensures.within in
    let value : slice_index xs spot ≡ k = subst (λ (ys : List ℕ). slice_index ys spot ≡ k) whole c.in-Some.ensures.value in
    subst (λ (ys : List ℕ). TakesOut k xs ys) (sym c.swap_remove.ensures.items)
    (TakesOut-swapped xs spot c.swap_remove.result within c.requires k value)

pub returns-in-None : goal.returns-in-None
returns-in-None c =
    let xs = c.args.list.now.items in
    TakesOut-none c.args.k xs c.requires (subst (λ (ys : List ℕ). ¬ Contains ys c.args.k) c.as_slice.ensures c.in-None.ensures.none)
