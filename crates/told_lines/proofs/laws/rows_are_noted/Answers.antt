use Rattle.told_lines.proofs.NotingLemmas.{rows_noted}
use Rattle.told_lines.proofs.laws.rows_are_noted.Goals as goal

pub returns : goal.returns
returns c = rows_noted
