use Rattle.std.proofs.Common.{List, ◌∙◌, ap, arith, ◌++◌, ◌∷◌, []}
use Rattle.spice_cards.specs.declared.places.Span.{Span}
use Rattle.spice_cards.proofs.PoolLemmas.{pool_of-added}
use Rattle.spice_cards.proofs.pool.Pool.add.Goals as goal

pub returns-clause-ok : goal.returns-clause-ok
returns-clause-ok c =
    let span : Span = record { at = c.in_ok-short.field-0; end = c.in_ok-short-2.field-0 } in
    pool_of-added c.self.inside.text.items c.args.word.now c.extend_from_slice.new.self.items c.self.inside.words.items c.push_reserved.new.self.items span
    _ _ _ _ c.self.invariant c.in_ok-extend_from_slice.ensures.items
    (c.push_reserved.ensures.items ∙ ap (λ (words : List Span). words ++ span ∷ []) c.in_ok-reserve.ensures.items)
    (omega (arith, c.in_ok-short.ensures, c.len-at.ensures, c.self.inside.text.ok))
    (omega (arith, c.in_ok-short-2.ensures, c.len-at.ensures, c.self.inside.text.ok))
    c.self.view_is
