use Rattle.std.proofs.Common.{sym, ◌∙◌}
use Rattle.node_words.proofs.PatternLemmas.{matches-from, Matches-from}
use Rattle.node_words.proofs.patterns.matches_name.Goals as goal

pub returns-clause-grammar : goal.returns-clause-grammar
returns-clause-grammar c = (
  λ passes. Matches-from c.args.pattern.now c.args.name.now (sym c.is_match.ensures ∙ passes),
  λ is. c.is_match.ensures ∙ matches-from is,
)
