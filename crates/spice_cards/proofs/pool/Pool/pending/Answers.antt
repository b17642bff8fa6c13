use Rattle.std.proofs.Common.{List, ℕ, drop, ◌∙◌, ap}
use Rattle.spice_cards.specs.Pools.{PoolData, words_at}
use Rattle.spice_cards.proofs.pool.Pool.pending.Goals as goal

pub returns : goal.returns
returns c =
    let words = c.new.ensures ∙ (λ j. words_at (c.deref.ensures.value j) (c.deref-2.ensures.value j)) in
    c.behind.ensures ∙ ap (λ (all : List (List ℕ)). drop c.self.inside.kept all) words ∙ ap (λ (pool : PoolData). pool.pending) c.self.view_is
