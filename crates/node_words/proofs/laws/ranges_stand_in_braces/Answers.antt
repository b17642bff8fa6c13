use Rattle.node_words.proofs.RangeLawLemmas.{ranges-braces, ranges-first}
use Rattle.node_words.proofs.laws.ranges_stand_in_braces.Goals as goal

pub returns-clause-braces : goal.returns-clause-braces
returns-clause-braces c = ranges-braces

pub returns-clause-first : goal.returns-clause-first
returns-clause-first c = ranges-first
