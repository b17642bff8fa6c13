-- A sort only moves numbers.
use Rattle.std.proofs.lemmas.List.Sorted.{Contains-permutation, IsPermutation-sym}
use Rattle.why_path.proofs.near.roots_of.Goals as goal

pub returns : goal.returns
returns c =
    let moved = c.sort_unstable_by_key.ensures.permutation in
    let before = c.in_ok-roots.ensures in
    λ number. (
      λ there. (before number).0 (Contains-permutation _ _ number (IsPermutation-sym _ _ moved) there),
      λ below. Contains-permutation _ _ number moved ((before number).1 below),
    )
