-- The rails are copies, and the gear has lists for an edit's nodes too.
use Rattle.std.proofs.Common.{length, ◌+◌, ◌∙◌}
use Rattle.column_stage.specs.declared.TheConstants.{NEW_NODES}
use Rattle.truth_makers.specs.Makers.{IsFunctionOf}
use Rattle.truth_machine.specs.Gears.{IsEmptyGear}
use Rattle.symbol_stage.proofs.growing.room_for.Goals as goal

pub returns : goal.returns
returns c =
    let m = c.args.machine.now in
    let gear : IsEmptyGear (IsFunctionOf m.maker) (length m.hi + NEW_NODES) c.in_ok-gear.gear =
    rw (c.truths-symbols.ensures, c.hi-highs.ensures) at c.in_ok-gear.ensures in
    record {
      gear = gear;
      highs = c.in_ok-hi.ensures.items ∙ c.hi-highs.ensures;
      lows = c.in_ok-lo.ensures.items ∙ c.lo-lows.ensures;
      high_room = c.in_ok-hi.ensures.room;
      low_room = c.in_ok-lo.ensures.room;
    }
