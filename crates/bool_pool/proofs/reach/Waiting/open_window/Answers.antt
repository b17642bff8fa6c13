-- In the window no mark is set at first.
use Rattle.std.proofs.Common.{◌-◌, arith, rules}
use Rattle.bool_pool.proofs.WindowLemmas.{Waits-unmarked, ↔-trans}
use Rattle.bool_pool.proofs.reach.Waiting.open_window.Goals as goal

pub mark_newer-requires : goal.mark_newer-requires
mark_newer-requires c = λ k held.
    omega (arith, c.requires k held, c.in_ok-marks.ensures.len, c.window_size-size.ensures)

pub returns-clause-each : goal.returns-clause-each
returns-clause-each c = λ k.
    let size = c.window_size-size.result in
    ↔-trans (c.mark_newer.ensures.each k)
    (Waits-unmarked c.args.self.now.older.keys (c.args.place - size) size c.in_ok-marks.marks.items k (search rules))
