-- The law of cycles.
use Rattle.switch_paths.proofs.CutCycles.{cut}
use Rattle.switch_paths.proofs.laws.cycles_can_be_cut.Goals as goal

pub returns : goal.returns
returns c = cut
