use Rattle.std.proofs.Common.{sym}
use Rattle.spice_cards.proofs.PlaceLemmas.{after_first-at, after_first-none}
use Rattle.spice_cards.proofs.sorts.after_sign.Goals as goal

pub returns-in-Some : goal.returns-in-Some
returns-in-Some c = sym (after_first-at _ c.args.line.now c.in-Some.at (sym c.in-Some.ensures))

pub returns-in-None : goal.returns-in-None
returns-in-None c = sym (after_first-none _ c.args.line.now (sym c.in-None.ensures))
