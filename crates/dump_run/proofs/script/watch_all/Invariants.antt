use Rattle.std.proofs.Common.{◌≡◌, drop, None}
use Rattle.dump_run.specs.Turns.{watched_in}
use Rattle.dump_run.proofs.script.watch_all.Given as goal

abbrev pub invariant-loop-name : goal.invariant-loop-name
invariant-loop-name g l = record {
  watched : watched_in l.session.core (drop l.name-index l.names) l.out.sheet ≡ watched_in l.session.core l.names l.fn.out.sheet;
  due : l.out.sheet.due ≡ l.fn.out.sheet.due;
  sink : l.out.sheet.before ≡ l.fn.out.sheet.before;
  shown : l.out.sheet.page.shown ≡ None;
}
