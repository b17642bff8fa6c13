use Rattle.std.proofs.Common.{sym, ◌∙◌}
use Rattle.node_words.proofs.PatternLemmas.{behind_some-cut_begun, behind_some-whole, matches-uncut, matches-whole}
use Rattle.node_words.proofs.patterns.onward.Goals as goal

pub without_first-requires : goal.without_first-requires
without_first-requires c =
    matches-uncut c.args.pattern.now c.args.name.now c.in-Some.at (sym c.in-Some.ensures) c.in-None-strip_prefix.ensures.cases

pub without_first-requires-else-eq : goal.without_first-requires-else-eq
without_first-requires-else-eq c =
    matches-whole c.args.pattern.now c.args.name.now (sym c.in-None.ensures) ∙ sym c.eq.ensures ∙ c.if-eq.false

pub returns-in-Some-strip_prefix-clause-cases : goal.returns-in-Some-strip_prefix-clause-cases
returns-in-Some-strip_prefix-clause-cases c =
    behind_some-cut_begun c.args.pattern.now c.args.name.now c.in-Some-strip_prefix.rest.now c.in-Some.at (sym c.in-Some.ensures)
    c.in-Some-strip_prefix.ensures.cases.0 c.in-Some-strip_prefix.ensures.cases.1

pub returns-then-eq-clause-cases : goal.returns-then-eq-clause-cases
returns-then-eq-clause-cases c =
    behind_some-whole c.args.pattern.now c.args.name.now (sym c.in-None.ensures) (sym c.eq.ensures ∙ c.if-eq.true)
