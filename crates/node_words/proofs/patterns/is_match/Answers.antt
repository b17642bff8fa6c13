use Rattle.std.proofs.Common.{sym, ◌∙◌}
use Rattle.node_words.proofs.PatternLemmas.{matches-cut, matches-uncut, matches-whole}
use Rattle.node_words.proofs.patterns.is_match.Goals as goal

pub returns-in-None : goal.returns-in-None
returns-in-None c = c.eq.ensures ∙ sym (matches-whole c.args.pattern.now c.args.name.now (sym c.in-None.ensures))

pub returns-in-Some-strip_prefix : goal.returns-in-Some-strip_prefix
returns-in-Some-strip_prefix c =
    c.matches_behind.ensures
    ∙ matches-cut c.args.pattern.now c.args.name.now c.in-Some-strip_prefix.rest.now c.in-Some.at (sym c.in-Some.ensures)
    c.in-Some-strip_prefix.ensures.cases.0 c.in-Some-strip_prefix.ensures.cases.1

pub returns-in-None-strip_prefix : goal.returns-in-None-strip_prefix
returns-in-None-strip_prefix c =
    sym (matches-uncut c.args.pattern.now c.args.name.now c.in-Some.at (sym c.in-Some.ensures) c.in-None-strip_prefix.ensures.cases)
