-- With a limit the machine settles, and else it takes a unit step. The words stay fixed in each step.
use Rattle.std.proofs.Common.{ℕ, List, ap, rules}
use Rattle.std.specs.Borrow.{GName}
use Rattle.column_machines.proofs.turns.TurnMachine.drive.Goals as goal

pub settle-requires-clause-low : goal.settle-requires-clause-low
settle-requires-clause-low g c = (rw c.in-Some.is at c.requires.limit).0

pub settle-requires-clause-high : goal.settle-requires-clause-high
settle-requires-clause-high g c = (rw c.in-Some.is at c.requires.limit).1

pub returns-in-Some-clause-words : goal.returns-in-Some-clause-words
returns-in-Some-clause-words g c = search (rules, ap (λ (fixed : (ℕ × (List ℕ × List ℕ)) × GName). fixed.0) c.settle.ensures.fixed)

pub returns-in-Some-clause-moves : goal.returns-in-Some-clause-moves
returns-in-Some-clause-moves g c = λ fits. rw c.in-Some.is (search (rules, c.settle.ensures.settles fits))
