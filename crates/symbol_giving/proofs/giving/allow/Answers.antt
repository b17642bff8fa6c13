-- The values are those of the stand-ins.
use Rattle.symbol_giving.proofs.giving.allow.Goals as goal

pub returns-in-Ok-clause-allowed : goal.returns-in-Ok-clause-allowed
returns-in-Ok-clause-allowed c = rw (c.in-Ok.ensures, c.circuit.ensures.value, c.vectors.ensures) at c.allow_values.ensures.allowed

pub returns-in-Ok-clause-refused : goal.returns-in-Ok-clause-refused
returns-in-Ok-clause-refused c = rw (c.in-Ok.ensures, c.circuit.ensures.value, c.vectors.ensures) at c.allow_values.ensures.refused
