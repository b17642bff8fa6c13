-- Where no hop leads on, or it leads not strongly enough, the hop lands nowhere.
use Rattle.why_path.proofs.search.node_after.Goals as goal

pub returns-in_err-there : goal.returns-in_err-there
returns-in_err-there c = rw c.from_residual.ensures (λ there hop strong. absurd (c.in_err-there.ensures.facts there hop))
