use Rattle.std.proofs.Common.{sym, ◌∙◌}
use Rattle.spice_cards.proofs.CollectLemmas.{with_words-passed, with_words-taken}
use Rattle.spice_cards.proofs.pool.Pool.add_words.Goals as goal

pub loop-word-preserved-in-Continue-1 : goal.loop-word-preserved-in-Continue-1
loop-word-preserved-in-Continue-1 c =
    with_words-taken c.args.plain c.loop-word.self c.add.new.self _ c.in-Some.word.now c.next.new.self c.loop-word.word-iterator
    c.in-Some.ensures.steps (sym c.ends_line.ensures ∙ c.if-ends_line.false) (sym c.is_taken.ensures ∙ c.if-is_taken.true)
    c.in_ok-add.ensures.ok c.loop-word.invariant

pub loop-word-preserved : goal.loop-word-preserved
loop-word-preserved c =
    with_words-passed c.args.plain c.loop-word.self _ c.in-Some.word.now c.next.new.self c.loop-word.word-iterator
    c.in-Some.ensures.steps (sym c.ends_line.ensures ∙ c.if-ends_line.false) (sym c.is_taken.ensures ∙ c.if-is_taken.false)
    c.loop-word.invariant
