use Rattle.std.proofs.Common.{List, ℕ, ◌-◌, take, drop, ◌∙◌, ap}
use Rattle.spice_cards.specs.declared.places.PartPlace.{PartPlace}
use Rattle.spice_cards.specs.Pools.{PoolData, parts_at, words_at}
use Rattle.spice_cards.proofs.PoolLemmas.{parts_at-slice}
use Rattle.spice_cards.proofs.pool.Pool.inside_parts.Goals as goal

pub returns : goal.returns
returns c =
    let count = c.args.end - c.args.first in
    let words = words_at c.self.inside.text.items c.self.inside.words.items in
    let are = c.new.ensures ∙ (λ j. words_at (c.deref.ensures.value j) (c.deref-2.ensures.value j)) in
    c.new-2.ensures
    ∙ ap (λ (all : List (List ℕ)). parts_at all (take count (drop c.args.first c.deref-3.result.now))) are
    ∙ ap (λ (places : List PartPlace). parts_at words (take count (drop c.args.first places))) c.deref-3.ensures.value
    ∙ parts_at-slice words c.self.inside.inside.items c.args.first count
    ∙ ap (λ (pool : PoolData). take count (drop c.args.first pool.inside)) c.self.view_is
