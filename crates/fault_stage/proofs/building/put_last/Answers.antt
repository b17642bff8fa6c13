-- Memory lacked, or it is a refusal.
use Rattle.std.proofs.Common.{inl, inr, refl}
use Rattle.fault_stage.proofs.building.put_last.Goals as goal

pub returns-in-NoMemory-clause-puts : goal.returns-in-NoMemory-clause-puts
returns-in-NoMemory-clause-puts c = inl (c.in-NoMemory.is, c.use_last.ensures.texts)

pub returns-in-GroupNodes-clause-puts : goal.returns-in-GroupNodes-clause-puts
returns-in-GroupNodes-clause-puts c = inr (λ none. absurd (let is = c.in-GroupNodes.is in cc), refl)

pub returns-in-GroupSwitches-clause-puts : goal.returns-in-GroupSwitches-clause-puts
returns-in-GroupSwitches-clause-puts c = inr (λ none. absurd (let is = c.in-GroupSwitches.is in cc), refl)
