-- Each round that goes on leaves the table less room to rise.
use Rattle.switch_paths.specs.Spread.{AllCome, Grows, room_left}
use Rattle.switch_paths.proofs.spread.spread.Given as goal

abbrev pub invariant-loop : goal.invariant-loop
invariant-loop l = record {
  come : AllCome l.places l.widths l.floor l.initial.table l.table;
  grows : Grows l.initial.table l.table;
}

abbrev pub decreases-loop : goal.decreases-loop
decreases-loop l = room_left l.table
