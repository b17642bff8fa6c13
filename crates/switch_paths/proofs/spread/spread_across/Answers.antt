-- What comes over a switch from its one end, and then back.
use Rattle.std.proofs.Common.{inl, inr, refl}
use Rattle.switch_paths.proofs.SpreadLemmas.{AllCome-trans}
use Rattle.switch_paths.proofs.spread.spread_across.Goals as goal

pub returns-then-there-clause-come : goal.returns-then-there-clause-come
returns-then-there-clause-come c = λ places widths place stands wide.
    AllCome-trans places widths c.args.floor.now c.args.table.now c.spread_over-there.new.table c.spread_over-back.new.table
    (c.spread_over-there.ensures.come places widths place c.args.switch.now stands (inl (refl, refl)) wide)
    (c.spread_over-back.ensures.come places widths place c.args.switch.now stands (inr (refl, refl)) wide)
