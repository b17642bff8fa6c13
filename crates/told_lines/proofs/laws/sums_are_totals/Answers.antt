use Rattle.told_lines.proofs.SumLemmas.{sums_totals}
use Rattle.told_lines.proofs.laws.sums_are_totals.Goals as goal

pub returns : goal.returns
returns c = sums_totals
