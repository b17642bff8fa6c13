-- The line that there is was heard.
use Rattle.symbol_looking.proofs.looking.tell_some.Goals as goal

pub returns-in-Some-clause-heard : goal.returns-in-Some-clause-heard
returns-in-Some-clause-heard g c = rw c.in-Some.is c.tell_line.ensures.heard
