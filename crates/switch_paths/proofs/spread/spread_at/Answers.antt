-- Over an empty place nothing comes.
use Rattle.switch_paths.proofs.SpreadLemmas.{AllCome-same}
use Rattle.switch_paths.proofs.spread.spread_at.Goals as goal

pub returns-in-None-clause-come : goal.returns-in-None-clause-come
returns-in-None-clause-come c = λ places widths p stands wide. AllCome-same places widths c.args.floor.now c.args.table.now
