use Rattle.std.proofs.Common.{sym}
use Rattle.spice_cards.proofs.PlaceLemmas.{before_first-at, before_first-none}
use Rattle.spice_cards.proofs.sorts.before_parenthesis.Goals as goal

pub returns-in-Some : goal.returns-in-Some
returns-in-Some c = sym (before_first-at _ c.args.word.now c.in-Some.at (sym c.in-Some.ensures))

pub returns-in-None : goal.returns-in-None
returns-in-None c = sym (before_first-none _ c.args.word.now (sym c.in-None.ensures))
