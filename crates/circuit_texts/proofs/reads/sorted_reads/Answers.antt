-- A sort only moves nodes, and of equal ones one stays.
use Rattle.std.proofs.lemmas.List.Filters.{dedup_is}
use Rattle.std.proofs.lemmas.Map.Keys.{IsStrictlyIncreasing-dedup}
use Rattle.circuit_texts.proofs.ApartLemmas.{firsts_moved}
use Rattle.circuit_texts.proofs.reads.sorted_reads.Goals as goal

pub returns : goal.returns
returns c =
    let is = dedup_is _ _ _ c.dedup.ensures.filtered in
    let moved = c.sort_unstable.ensures.permutation in
    rw (c.shrink_to_fit.ensures.items, is, ← c.in_ok-reads.ensures)
    (firsts_moved _ _ moved (IsStrictlyIncreasing-dedup _ c.sort_unstable.ensures.sorted))
